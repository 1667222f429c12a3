-- The number of a step that is refused.
use Rattle.std.proofs.Common.{◌≡◌, ℕ, suc, ◌+◌, ◌<◌, ◌≤◌, List, [], ◌∷◌, length, ◌⊎◌, inl, inr, arith, refl}
use Rattle.re_problem.specs.NamedProblems.{NamedProblem}
use Rattle.re_cert.specs.Bounds.{Bound, BoundStep}
use Rattle.re_check.specs.declared.clause.Clause.{Clause}
use Rattle.re_check.specs.declared.clause.Clause.TheVariants.{Back, End, L1, L2, L3, L4, L5, U1, U2, U3, U4}
use Rattle.re_why.specs.Witnesses.{IsShown, ShowsInSteps}
use Rattle.re_why.specs.declared.witness.Witness.{Witness}

within : (before : NamedProblem) (from : ℕ) (steps : List BoundStep) (n : ℕ) (c : Clause) (w : Witness) → ShowsInSteps before from steps n c w → (from ≤ n) × (n < from + length steps)
within before from [] n c w h = absurd h
within before from (s ∷ steps) n c w (inl h) = let e = h.0 in (omega (arith, e), omega (arith, e))
within before from (s ∷ steps) n c w (inr h) = let (low, high) = within s.next (suc from) steps n c w h in (omega (arith, low), omega (arith, high))

in_steps : (bound : Bound) (n : ℕ) (c : Clause) (w : Witness) → (c ≡ End → ⊥) → (c ≡ Back → ⊥) → IsShown bound n c w → ShowsInSteps bound.first 1 bound.steps n c w
in_steps bound n L1 w h k s = s
in_steps bound n L2 w h k s = s
in_steps bound n L3 w h k s = s
in_steps bound n L4 w h k s = s
in_steps bound n L5 w h k s = s
in_steps bound n U1 w h k s = s
in_steps bound n U2 w h k s = s
in_steps bound n U3 w h k s = s
in_steps bound n U4 w h k s = s
in_steps bound n End w h k s = absurd (h refl)
in_steps bound n Back w h k s = absurd (k refl)

pub step-low : (bound : Bound) (n : ℕ) (c : Clause) (w : Witness) → (c ≡ End → ⊥) → (c ≡ Back → ⊥) → IsShown bound n c w → 1 ≤ n
step-low bound n c w h k s = (within bound.first 1 bound.steps n c w (in_steps bound n c w h k s)).0

pub step-high : (bound : Bound) (n : ℕ) (c : Clause) (w : Witness) → (c ≡ End → ⊥) → (c ≡ Back → ⊥) → IsShown bound n c w → n ≤ length bound.steps
step-high bound n c w h k s = let l = (within bound.first 1 bound.steps n c w (in_steps bound n c w h k s)).1 in omega (arith, l)
