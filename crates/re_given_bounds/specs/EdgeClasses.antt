-- The class of what is solvable given few edge colours, alone or beside few colours of nodes.
use Rattle.std.specs.Prelude.{ℕ, ◌+◌, ◌-◌, ◌*◌}
use Rattle.re_classes.specs.Classes.{IsBelowLogStar, IsOrderLogStar}
use Rattle.re_classes.specs.Laws.{IsUnsolvable}
use Rattle.re_given.specs.Given.{SolvableGiven}
use Rattle.re_given.specs.InputExamples.{edge_colouring}
use Rattle.re_given.specs.Products.{product}
use Rattle.re_given.specs.Unavoidable.{colouring}
use Rattle.re_problem.specs.Problems.{IsProblem, Problem}

-- some number of rounds is enough given a proper colouring of the passive nodes with one colour more than a passive node meets others: with 2 a - 1
-- edge colours, where the passive degree is 2
abbrev pub IsSolvableEdgeColoured : Problem → Type 0
IsSolvableEdgeColoured problem = let a : ℕ = problem.active.degree in let p : ℕ = problem.passive.degree in
    (k : ℕ) × SolvableGiven problem (edge_colouring a p (p * (a - 1) + 1)) k

-- what is solvable given few edge colours takes at most the order of log* N rounds
abbrev pub EdgeColouredLaw : Type 0
EdgeColouredLaw = (problem : Problem) → IsProblem problem → IsSolvableEdgeColoured problem → IsBelowLogStar problem

-- what is solvable given few edge colours, but in no number of rounds with port numbers alone, takes the order of log* N
abbrev pub OrderEdgeColouredLaw : Type 0
OrderEdgeColouredLaw = (problem : Problem) → IsProblem problem → IsUnsolvable problem → IsSolvableEdgeColoured problem → IsOrderLogStar problem

-- ---- both
-- two proper colourings at once: one of the active nodes and one of the passive nodes, each with one colour more than such a node meets others
abbrev pub few_colourings : ℕ → ℕ → Problem
few_colourings a p = product (colouring a p (a * (p - 1) + 1)) (edge_colouring a p (p * (a - 1) + 1))

-- some number of rounds is enough given both
abbrev pub IsSolvableBothColoured : Problem → Type 0
IsSolvableBothColoured problem = (k : ℕ) × SolvableGiven problem (few_colourings problem.active.degree problem.passive.degree) k

-- what is solvable given both takes at most the order of log* N rounds
abbrev pub BothColouredLaw : Type 0
BothColouredLaw = (problem : Problem) → IsProblem problem → IsSolvableBothColoured problem → IsBelowLogStar problem

-- what is solvable given both, but in no number of rounds with port numbers alone, takes the order of log* N
abbrev pub OrderBothColouredLaw : Type 0
OrderBothColouredLaw = (problem : Problem) → IsProblem problem → IsUnsolvable problem → IsSolvableBothColoured problem → IsOrderLogStar problem
