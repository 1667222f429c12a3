-- Sets of labels that fill what layers leave open: from each label a walk leads on, and, if there are paths, to each label.
use Rattle.std.proofs.Common.{◌≡◌, ℕ, suc, ◌*◌, Bool, List, refl}
use Rattle.std.specs.Prelude.{Contains}
use Rattle.re_forests.specs.Flexible.{IsFlexible, Leads}
use Rattle.re_forests.specs.Trimmed.{IsTrimmed}
use Rattle.re_problem.specs.Problems.{Problem}

-- Paths is what is known where a layer has a path
pub record Fills (problem : Problem) (set : List ℕ) (l : ℕ) (Paths : Type 0) : Type 0 where
  pub some : (x : ℕ) × Contains set x
  pub leads : (active : Bool) (x y : ℕ) → Contains set x → Contains set y → (z : ℕ) × Leads problem set active (suc (2 * l)) x z × (Paths → z ≡ y)

pub flexible_fills : (problem : Problem) (set : List ℕ) (l : ℕ) → IsFlexible problem set l → Fills problem set l (Unit {0})
flexible_fills problem set l flexible = record {
  some = flexible.some;
  leads = λ active x y on at. (y, flexible.leads active x y on at, λ ways. refl);
}

-- a trimmed set fills what has no paths
pub trimmed_fills : (problem : Problem) (set : List ℕ) (x : ℕ) → IsTrimmed problem set → Contains set x → Fills problem set 0 ⊥
trimmed_fills problem set x trimmed held = record {
  some = (x, held);
  leads = λ active x y on at. (let (z, there, joined) = trimmed active x on in (z, (z, there, joined, refl), λ ways. absurd ways));
}
