-- The classes of problems on finite forests, by how many rounds local algorithms take with N identifiers.
use Rattle.std.specs.Prelude.{ℕ, suc, ◌+◌, ◌*◌, ◌^◌, ◌≤◌}
use Rattle.re_forests.specs.OnForests.{SolvableOnForests}
use Rattle.re_layers.specs.Towers.{tower}
use Rattle.re_problem.specs.Problems.{Problem}

-- takes a constant number of rounds, however many identifiers there are
abbrev pub IsConstantOnForests : Problem → Type 0
IsConstantOnForests problem = (k : ℕ) × ((N : ℕ) → SolvableOnForests problem N k)

-- takes at most c log* N + K rounds, for some constants c and K
abbrev pub IsBelowLogStarOnForests : Problem → Type 0
IsBelowLogStarOnForests problem = (c : ℕ) × (K : ℕ) × ((h N : ℕ) → N ≤ tower h → SolvableOnForests problem N (c * h + K))

-- takes at least log* N - c rounds, for some constant c
abbrev pub IsAboveLogStarOnForests : Problem → Type 0
IsAboveLogStarOnForests problem = (c : ℕ) × ((T N : ℕ) → tower (T + c) ≤ N → SolvableOnForests problem N T → ⊥)

-- takes at most K (log N + 1) rounds, for some constant K
abbrev pub IsBelowLogOnForests : Problem → Type 0
IsBelowLogOnForests problem = (K : ℕ) × ((N b : ℕ) → N ≤ 2 ^ b → SolvableOnForests problem N (K * suc b))

-- takes more than log N / log C - 1 rounds, for some constant C
abbrev pub IsAboveLogOnForests : Problem → Type 0
IsAboveLogOnForests problem = (C : ℕ) × ((T N : ℕ) → C ^ (T + 1) ≤ N → SolvableOnForests problem N T → ⊥)

-- takes at most K (N + 1) rounds, for some constant K
abbrev pub IsBelowLinear : Problem → Type 0
IsBelowLinear problem = (K : ℕ) × ((N : ℕ) → SolvableOnForests problem N (K * suc N))

-- takes more than N / M - 4 rounds, for some constant M
abbrev pub IsAboveLinear : Problem → Type 0
IsAboveLinear problem = (M : ℕ) × ((N T : ℕ) → M * (T + 4) ≤ N → SolvableOnForests problem N T → ⊥)

-- has no solution with M identifiers or more, whatever is seen
abbrev pub HasNoSolution : Problem → Type 0
HasNoSolution problem = (M : ℕ) × ((N T : ℕ) → M ≤ N → SolvableOnForests problem N T → ⊥)
