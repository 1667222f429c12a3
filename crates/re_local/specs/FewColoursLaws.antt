-- Few colours from many, and from unique identifiers.
use Rattle.std.specs.Prelude.{ℕ, ◌+◌, ◌-◌, ◌*◌, ◌^◌, ◌≤◌, ◌<◌}
use Rattle.re_given.specs.Given.{SolvableGiven}
use Rattle.re_given.specs.Unavoidable.{colouring}
use Rattle.re_local.specs.LocalAlgorithms.{SolvableLocal}
use Rattle.re_layers.specs.Towers.{tower}
use Rattle.re_problem.specs.Problems.{IsProblem, Problem}

-- where there are more colours than the a (p - 1) neighbours of a node, and one more is given, one hop leaves it out
abbrev pub OneColourLessLaw : Type 0
OneColourLessLaw = (a p c : ℕ) → 2 ≤ a → a ≤ 6 → 2 ≤ p → p ≤ 6 → a * (p - 1) < c →
    SolvableGiven (colouring a p c) (colouring a p (c + 1)) 1

-- one hop leaves of colours that b bits number a power of the number of bits
abbrev pub LogarithmicColoursLaw : Type 0
LogarithmicColoursLaw = (a p b N : ℕ) → 2 ≤ a → a ≤ 6 → 2 ≤ p → p ≤ 6 → p ≤ N → N ≤ 2 ^ b →
    SolvableGiven (colouring a p ((2 * b) ^ (a * (p - 1)))) (colouring a p N) 1

-- a proper colouring with one more than the a (p - 1) neighbours of a node takes two hops for each power in a tower that is at least the number
-- of colours given, and constantly many more
abbrev pub FewColoursLaw : Type 0
FewColoursLaw = (a p : ℕ) → 2 ≤ a → a ≤ 6 → 2 ≤ p → p ≤ 6 → (K : ℕ) × ((h N : ℕ) → p ≤ N → N ≤ tower h →
    SolvableGiven (colouring a p (a * (p - 1) + 1)) (colouring a p N) (2 * h + K))

-- what k hops solve given a proper colouring with so few colours has a local algorithm of order log* N rounds, where N is the number of
-- identifiers: 2 h + k and a constant K of the degrees, where N is at most the tower of h twos
abbrev pub FewColoursLocalLaw : Type 0
FewColoursLocalLaw = (K : ℕ → ℕ → ℕ) × ((problem : Problem) (k h N : ℕ) → IsProblem problem →
    let a : ℕ = problem.active.degree in let p : ℕ = problem.passive.degree in
    SolvableGiven problem (colouring a p (a * (p - 1) + 1)) k → N ≤ tower h → SolvableLocal problem N (2 * h + k + K a p))
