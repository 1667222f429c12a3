-- Rounds of the graph whose edges the passive nodes are: two hops are one round.
use Rattle.std.specs.Prelude.{ℕ, ◌*◌, ◌+◌, ◌/◌}
use Rattle.re_laws.specs.Algorithms.{Solvable}
use Rattle.re_problem.specs.Problems.{Problem}

-- some algorithm of so many rounds of the graph solves the problem
abbrev pub GraphSolvable : Problem → ℕ → Type 0
GraphSolvable problem rounds = Solvable problem (2 * rounds)

-- what isn't solvable in so many or fewer hops isn't in so many or fewer rounds
abbrev pub rounds_below : ℕ → ℕ
rounds_below hops = hops / 2

-- what is solvable in so many hops is in so many rounds
abbrev pub rounds_above : ℕ → ℕ
rounds_above hops = (hops + 1) / 2
