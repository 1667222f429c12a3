-- Unavoidable is what an input problem has to be: no weaker property makes it help no more in 0 rounds than ports do.
use Rattle.std.specs.Prelude.{◌≡◌, ℕ, ◌↔◌}
use Rattle.re_given.specs.Given.{ZeroGiven}
use Rattle.re_given.specs.Inputs.{IsInput}
use Rattle.re_given.specs.Unavoidable.{IsUnavoidable}
use Rattle.re_problem.specs.Problems.{IsProblem, Problem}
use Rattle.re_problem.specs.Zero.{Zero}

-- whatever problem of n labels is zero given the input problem is zero without it
abbrev pub HelpsNone : Problem → ℕ → Type 0
HelpsNone input n = (problem : Problem) → IsProblem problem → IsInput problem input → problem.labels ≡ n → ZeroGiven problem input → Zero problem

-- an input problem helps no problem of n labels in 0 rounds exactly where it is unavoidable for lists of n labels
abbrev pub OnlyUnavoidableLaw : Type 0
OnlyUnavoidableLaw = (input : Problem) (n : ℕ) → IsInput input input → HelpsNone input n ↔ IsUnavoidable input n
