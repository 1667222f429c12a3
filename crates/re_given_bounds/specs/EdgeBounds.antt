-- What certificates say of problems that are solvable given few edge colours.
use Rattle.std.specs.Prelude.{◌≡◌, ℕ, ◌+◌, ◌-◌, ◌*◌, ◌≤◌, length}
use Rattle.re_cert.specs.Bounds.{Bound}
use Rattle.re_cert.specs.declared.certificate.Kind.TheVariants.{Fixed, Upper}
use Rattle.re_check.specs.Verdicts.{verdict_of}
use Rattle.re_check.specs.declared.verdict.Verdict.TheVariants.{Accepted}
use Rattle.re_given_bounds.specs.EdgeClasses.{IsSolvableEdgeColoured}
use Rattle.re_given.specs.InputExamples.{edge_colouring}
use Rattle.re_bounds.specs.GivenBounds.{IsOver, IsValidGiven}
use Rattle.re_local.specs.LocalAlgorithms.{SolvableLocal}
use Rattle.re_layers.specs.Towers.{tower}
use Rattle.re_problem.specs.NamedProblems.{unnamed}

-- an upper bound of k steps that is valid given a proper colouring of the passive nodes with one colour more than a passive node meets others has a
-- local algorithm of 2 h + k rounds and a constant K of the degrees, where N, the number of identifiers, is at most the tower of h twos
abbrev pub UpperBoundEdgeColouredLaw : Type 0
UpperBoundEdgeColouredLaw = (K : ℕ → ℕ → ℕ) × ((bound : Bound) (h N : ℕ) → IsOver bound → bound.kind ≡ Upper →
    let a : ℕ = bound.first.active.degree in let p : ℕ = bound.first.passive.degree in
    IsValidGiven bound (edge_colouring a p (p * (a - 1) + 1)) → N ≤ tower h → SolvableLocal (unnamed bound.first) N (2 * h + length bound.steps + K a p))

-- no number of rounds solves what is accepted as a fixed point given a proper colouring of the passive nodes with so few colours
abbrev pub NoEdgeColouredLaw : Type 0
NoEdgeColouredLaw = (bound : Bound) → IsOver bound → verdict_of bound ≡ Accepted Fixed (length bound.steps) →
    IsSolvableEdgeColoured (unnamed bound.first) → ⊥
