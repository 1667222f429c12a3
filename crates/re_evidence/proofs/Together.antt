-- Two bounds together.
use Rattle.std.proofs.Common.{◌≡◌, ℕ, suc, ◌≤◌, Bool, true, false, refl, arith}
use Rattle.std.specs.Prelude.{◌==◌, if◌then◌else◌}
use Rattle.std.proofs.lemmas.Bool.{eqb-true}
use Rattle.re_evidence.specs.Claims.{HoldsIn, within}
use Rattle.re_evidence.specs.declared.types.Claim.TheVariants.{Between, Exactly}
use Rattle.re_settings.specs.Settings.{SolvableIn}
use Rattle.re_settings.specs.declared.setting.Setting.{Setting}
use Rattle.re_problem.specs.Problems.{Problem}

-- more than the first number and at most the second
pub within_holds : (setting : Setting) (problem : Problem) (more most : ℕ) → ((T : ℕ) → T ≤ more → SolvableIn setting problem T → ⊥) → SolvableIn setting problem most
    → HoldsIn setting (within more most) problem
within_holds setting problem more most above solves = go (most == suc more) refl
  where
    go : (b : Bool) → (most == suc more) ≡ b → HoldsIn setting (if b then Exactly most else Between more most) problem
    go true e = let next : most ≡ suc more = eqb-true most (suc more) e in (solves, λ T few solvable. above T (omega (arith, few, next)) solvable)
    go false e = (above, solves)
