-- Few colours of passive nodes, which are edges where they have two ends, from many, and from unique identifiers.
use Rattle.std.specs.Prelude.{ℕ, ◌+◌, ◌-◌, ◌*◌, ◌^◌, ◌≤◌}
use Rattle.re_given.specs.Given.{SolvableGiven}
use Rattle.re_given.specs.InputExamples.{edge_colouring}
use Rattle.re_given.specs.Inputs.{IsInput}
use Rattle.re_given.specs.Products.{product}
use Rattle.re_local.specs.LocalAlgorithms.{SolvableLocal}
use Rattle.re_layers.specs.Towers.{tower}
use Rattle.re_problem.specs.Problems.{IsProblem, Problem}

-- in one hop active nodes with unique identifiers below N colour the passive nodes, of edges where p is 2, properly with N^p colours
abbrev pub EdgesColouredLaw : Type 0
EdgesColouredLaw = (a p N : ℕ) → 1 ≤ a → 2 ≤ p → SolvableLocal (edge_colouring a p (N ^ p)) N 1

-- a proper colouring of the passive nodes with one more than the p (a - 1) others that a passive node meets takes two hops for each power in a
-- tower that is at least the number of colours given, and constantly many more
abbrev pub FewEdgeColoursLaw : Type 0
FewEdgeColoursLaw = (a p : ℕ) → 2 ≤ a → a ≤ 6 → 2 ≤ p → p ≤ 6 → (K : ℕ) × ((h N : ℕ) → a ≤ N → N ≤ tower h →
    SolvableGiven (edge_colouring a p (p * (a - 1) + 1)) (edge_colouring a p N) (2 * h + K))

-- what k hops solve given a proper colouring of the passive nodes with so few colours, 2 a - 1 edge colours where p is 2, has a local algorithm of
-- order log* N rounds, where N is the number of identifiers: 2 h + k and a constant K of the degrees, where N is at most the tower of h twos
abbrev pub FewEdgeColoursLocalLaw : Type 0
FewEdgeColoursLocalLaw = (K : ℕ → ℕ → ℕ) × ((problem : Problem) (k h N : ℕ) → IsProblem problem →
    let a : ℕ = problem.active.degree in let p : ℕ = problem.passive.degree in
    SolvableGiven problem (edge_colouring a p (p * (a - 1) + 1)) k → N ≤ tower h → SolvableLocal problem N (2 * h + k + K a p))

-- two input problems are one: their product
abbrev pub ProductInputLaw : Type 0
ProductInputLaw = (problem one two : Problem) → IsInput problem one → IsInput problem two → IsInput problem (product one two)

-- what two local algorithms solve one solves at once
abbrev pub ProductLocalLaw : Type 0
ProductLocalLaw = (one two : Problem) (N T : ℕ) → IsProblem one → IsInput one two →
    SolvableLocal one N T → SolvableLocal two N T → SolvableLocal (product one two) N T
