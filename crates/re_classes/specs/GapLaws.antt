-- Where random strings are of no use at all.
use Rattle.std.specs.Prelude.{ℕ, ◌+◌, ◌≤◌, List}
use Rattle.re_given.specs.InputViews.{InputView}
use Rattle.re_laws.specs.Algorithms.{Solvable}
use Rattle.re_layers.specs.Towers.{tower}
use Rattle.re_problem.specs.Problems.{IsProblem, Problem}
use Rattle.re_classes.specs.IdentifiedRandom.{FailsRarelyIdentified}
use Rattle.re_classes.specs.RandomAlgorithms.{FailsRarely}

-- for each problem and number of rounds there is a number q such that where a randomised algorithm fails with a probability below 1 / q at each
-- node, an algorithm solves the problem in as many rounds with port numbers alone
abbrev pub RandomisedConstantLaw : Type 0
RandomisedConstantLaw = (problem : Problem) (T : ℕ) → IsProblem problem →
    (q : ℕ) × ((R : ℕ) (algorithm : InputView → List ℕ) → FailsRarely problem R T q algorithm → Solvable problem T)

-- where the problem has at most a tower of h twos of labels: what a randomised algorithm of T rounds solves that fails with a probability below
-- 1 / q, where q is at least a tower of T + h + 7 twos, T rounds solve with port numbers alone
abbrev pub RandomisedGapLaw : Type 0
RandomisedGapLaw = (problem : Problem) (h R T q : ℕ) (algorithm : InputView → List ℕ) → IsProblem problem →
    problem.labels ≤ tower h → tower (T + h + 7) ≤ q → FailsRarely problem R T q algorithm → Solvable problem T

-- ---- with identifiers too
-- for each problem and number of rounds there are a number of identifiers and a number q such that where a randomised algorithm with so many or
-- more fails with a probability below 1 / q, an algorithm solves the problem in as many rounds with port numbers alone
abbrev pub IdentifiedConstantLaw : Type 0
IdentifiedConstantLaw = (problem : Problem) (T : ℕ) → IsProblem problem →
    (N : ℕ) × (q : ℕ) × ((more R : ℕ) (algorithm : InputView → List ℕ) → N ≤ more → FailsRarelyIdentified problem more R T q algorithm → Solvable problem T)

-- a tower of T + h + 6 twos is enough for the one, and one of T + h + 7 for the other
abbrev pub IdentifiedGapLaw : Type 0
IdentifiedGapLaw = (problem : Problem) (h N R T q : ℕ) (algorithm : InputView → List ℕ) → IsProblem problem →
    problem.labels ≤ tower h → tower (T + h + 6) ≤ N → tower (T + h + 7) ≤ q → FailsRarelyIdentified problem N R T q algorithm → Solvable problem T
