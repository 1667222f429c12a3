-- What port numbers alone don't do, enough identifiers don't either.
use Rattle.std.proofs.Common.{ℕ, arith}
use Rattle.re_cover.proofs.Outputs.{no_solution_law}
use Rattle.re_laws.specs.Algorithms.{Solvable}
use Rattle.re_local.proofs.LocalGiven.{SolvableLocal-fewer}
use Rattle.re_classes.proofs.PortNumbered.{Solvable-local, SolvableLocal-unnoticed}
use Rattle.re_classes.specs.FixedRoundsLaws.{BeyondLocalLaw, NoSolutionLocalLaw}
use Rattle.re_problem.specs.Problems.{IsProblem, Problem}
use Rattle.re_local.specs.SeparatingLaws.{IsBeyondLocal}

pub IsBeyondLocal-unsolvable : (problem : Problem) (T : ℕ) → IsProblem problem → (Solvable problem T → ⊥) → IsBeyondLocal problem T
IsBeyondLocal-unsolvable problem T is never =
    let (N, ports) = Solvable-local problem T is in
    (N, λ more l local. never (ports (SolvableLocal-fewer problem N more T l local)))

pub beyond_local : BeyondLocalLaw
beyond_local problem T is = (
  (λ beyond solvable. beyond.1 beyond.0 (omega arith) (SolvableLocal-unnoticed problem beyond.0 T solvable)),
  IsBeyondLocal-unsolvable problem T is,
)

pub no_solution_local : NoSolutionLocalLaw
no_solution_local problem graph T is of_graph none = IsBeyondLocal-unsolvable problem T is (no_solution_law problem graph T of_graph none)
