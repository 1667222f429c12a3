-- The classes of problems, by how many rounds local algorithms take with unique identifiers.
use Rattle.std.specs.Prelude.{ℕ, ◌+◌, ◌*◌, ◌≤◌}
use Rattle.re_local.specs.LocalAlgorithms.{SolvableLocal}
use Rattle.re_layers.specs.Towers.{tower}
use Rattle.re_problem.specs.Problems.{Problem}
use Rattle.re_local.specs.SeparatingLaws.{IsBeyondLocal, IsBeyondPower}

-- takes a constant number of rounds, however many identifiers there are
abbrev pub IsConstantLocal : Problem → Type 0
IsConstantLocal problem = (k : ℕ) × ((N : ℕ) → SolvableLocal problem N k)

-- takes more than any constant number of rounds, with enough identifiers
abbrev pub IsMoreThanConstant : Problem → Type 0
IsMoreThanConstant problem = (T : ℕ) → IsBeyondLocal problem T

-- takes at least log* N - c rounds with N identifiers, for some constant c
abbrev pub IsAboveLogStar : Problem → Type 0
IsAboveLogStar problem = (c : ℕ) × ((T N : ℕ) → tower (T + c) ≤ N → SolvableLocal problem N T → ⊥)

-- takes at most 2 log* N + K rounds with N identifiers, for some constant K
abbrev pub IsBelowLogStar : Problem → Type 0
IsBelowLogStar problem = (K : ℕ) × ((h N : ℕ) → N ≤ tower h → SolvableLocal problem N (2 * h + K))

-- takes the order of log* N rounds with N identifiers
abbrev pub IsOrderLogStar : Problem → Type 0
IsOrderLogStar problem = IsAboveLogStar problem × IsBelowLogStar problem

-- takes more than log N / log C - 1 rounds with N identifiers, for some constant C
abbrev pub IsAboveLog : Problem → Type 0
IsAboveLog problem = (C : ℕ) × ((T : ℕ) → IsBeyondPower problem C T)
