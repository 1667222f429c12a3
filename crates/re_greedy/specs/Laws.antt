-- What greedy problems take.
use Rattle.std.specs.Prelude.{ℕ, ◌+◌, ◌*◌, ◌≤◌, ◌↔◌, List, IsTrue}
use Rattle.re_classes.specs.Classes.{IsBelowLogStar, IsOrderLogStar}
use Rattle.re_classes.specs.Laws.{IsSolvableColoured, IsUnsolvable}
use Rattle.re_given.specs.Given.{SolvableGiven}
use Rattle.re_given.specs.InputExamples.{edge_colouring}
use Rattle.re_given.specs.Inputs.{exchanged, exchanged_by}
use Rattle.re_given.specs.Unavoidable.{colouring}
use Rattle.re_greedy.specs.Greedy.{IsGreedy, is_greedy}
use Rattle.re_laws.specs.Chains.{IsUpperChain}
use Rattle.re_problem.specs.Problems.{IsProblem, Problem}

-- the test decides
abbrev pub GreedyTestLaw : Type 0
GreedyTestLaw = (problem : Problem) (partial : List (List ℕ)) → IsProblem problem → IsTrue (is_greedy problem partial) ↔ IsGreedy problem partial

-- two hops for each colour of a proper colouring solve a greedy problem
abbrev pub GreedyLaw : Type 0
GreedyLaw = (problem : Problem) (partial : List (List ℕ)) (c : ℕ) → IsProblem problem → IsGreedy problem partial → problem.passive.degree ≤ c →
    SolvableGiven problem (colouring problem.active.degree problem.passive.degree c) (2 * c)

-- it takes at most the order of log* N rounds with N identifiers
abbrev pub GreedyClassLaw : Type 0
GreedyClassLaw = (problem : Problem) (partial : List (List ℕ)) → IsProblem problem → IsGreedy problem partial → IsBelowLogStar problem

-- and that order where no number of rounds is enough with port numbers alone
abbrev pub GreedyOrderLaw : Type 0
GreedyOrderLaw = (problem : Problem) (partial : List (List ℕ)) → IsProblem problem → IsGreedy problem partial → IsUnsolvable problem → IsOrderLogStar problem

-- ---- passive nodes one after another
-- with its sides exchanged, two hops for each colour of a proper colouring of the passive nodes, which are edges where they have two ends, and one more
abbrev pub PassiveGreedyLaw : Type 0
PassiveGreedyLaw = (problem : Problem) (partial : List (List ℕ)) (c : ℕ) → IsProblem problem → IsGreedy (exchanged problem) partial → problem.active.degree ≤ c →
    SolvableGiven problem (edge_colouring problem.active.degree problem.passive.degree c) (2 * c + 1)

-- two hops give a proper colouring of the passive nodes, with enough colours, where one of the active nodes is given
abbrev pub PassiveColoursLaw : Type 0
PassiveColoursLaw = (a p N : ℕ) → 2 ≤ a → a ≤ 6 → 2 ≤ p → p ≤ 6 → p ≤ N →
    (c : ℕ) × (a ≤ c) × SolvableGiven (edge_colouring a p c) (colouring a p N) 2

-- so what is greedy with its sides exchanged also takes at most the order of log* N rounds
abbrev pub PassiveGreedyClassLaw : Type 0
PassiveGreedyClassLaw = (problem : Problem) (partial : List (List ℕ)) → IsProblem problem → IsGreedy (exchanged problem) partial → IsBelowLogStar problem

-- ---- behind upper steps
-- what k upper steps lead to, with its sides exchanged k times, may be solvable given few colours instead of the problem before them
abbrev pub ColouredChainLaw : Type 0
ColouredChainLaw = (first last : Problem) (k : ℕ) → IsProblem first → IsProblem last → IsUpperChain first k last →
    IsSolvableColoured (exchanged_by k last) → IsSolvableColoured first

-- so it is enough that k upper steps lead to a problem that is greedy from one side or the other
abbrev pub GreedyChainLaw : Type 0
GreedyChainLaw = (first last : Problem) (k : ℕ) (partial : List (List ℕ)) → IsProblem first → IsProblem last → IsUpperChain first k last →
    (IsGreedy last partial → IsBelowLogStar first) × (IsGreedy (exchanged last) partial → IsBelowLogStar first)
