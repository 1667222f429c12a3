-- What certificates say of problems that are solvable given few colours.
use Rattle.std.specs.Prelude.{◌≡◌, ℕ, ◌+◌, ◌-◌, ◌*◌, ◌≤◌, length}
use Rattle.re_cert.specs.Bounds.{Bound}
use Rattle.re_cert.specs.declared.certificate.Kind.TheVariants.{Upper}
use Rattle.re_given.specs.Unavoidable.{colouring}
use Rattle.re_bounds.specs.GivenBounds.{IsOver, IsValidGiven}
use Rattle.re_local.specs.LocalAlgorithms.{SolvableLocal}
use Rattle.re_layers.specs.Towers.{tower}
use Rattle.re_problem.specs.NamedProblems.{unnamed}

-- an upper bound of k steps that is valid given a proper colouring with one colour more than a node has neighbours has a local algorithm of
-- 2 h + k rounds and a constant K of the degrees, where N, the number of identifiers, is at most the tower of h twos
abbrev pub UpperBoundLocalLaw : Type 0
UpperBoundLocalLaw = (K : ℕ → ℕ → ℕ) × ((bound : Bound) (h N : ℕ) → IsOver bound → bound.kind ≡ Upper →
    let a : ℕ = bound.first.active.degree in let p : ℕ = bound.first.passive.degree in
    IsValidGiven bound (colouring a p (a * (p - 1) + 1)) → N ≤ tower h → SolvableLocal (unnamed bound.first) N (2 * h + length bound.steps + K a p))
