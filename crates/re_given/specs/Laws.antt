-- The laws of round elimination where a solution of an input problem is given.
use Rattle.std.specs.Prelude.{◌≡◌, ℕ, suc, ◌↔◌, ◌+◌, ◌-◌, ◌*◌, ◌^◌, ◌≤◌, ◌<◌, List, ◌∷◌}
use Rattle.std.specs.List.{AllByRecursion}
use Rattle.re_given.specs.Given.{SolvableGiven, SolvesGivenBy, ZeroGiven}
use Rattle.re_given.specs.InputExamples.{coloured_edges, edge_colouring, oriented, oriented_both, sides}
use Rattle.re_given.specs.InputViews.{Fits, InputView}
use Rattle.re_given.specs.Inputs.{IsInput, exchanged, exchanged_by, nothing}
use Rattle.re_given.specs.Unavoidable.{IsUnavoidable, colouring, reached}
use Rattle.re_given.specs.UpSets.{IsFit}
use Rattle.re_laws.specs.Algorithms.{Solvable}
use Rattle.re_laws.specs.Chains.{IsLowerChain, IsUpperChain}
use Rattle.re_problem.specs.Derived.{derived, derived_by}
use Rattle.re_problem.specs.Problems.{IsProblem, Problem}
use Rattle.re_problem.specs.Steps.{IsMapped, IsRelaxed, IsUpper}
use Rattle.re_problem.specs.Zero.{Zero}
use Rattle.re_laws.specs.Trees.{IsView, cut, shift}

-- a function on what is known that solves a problem gives a table that solves it
abbrev pub TableGivenLaw : Type 0
TableGivenLaw = (problem input : Problem) (T : ℕ) (algorithm : InputView → List ℕ) → IsInput problem input →
    SolvesGivenBy problem input T algorithm → SolvableGiven problem input T

-- solvable in 0 rounds exactly where an upper step leads to the exchanged input problem
abbrev pub ZeroGivenLaw : Type 0
ZeroGivenLaw = (problem input : Problem) → IsProblem problem → IsInput problem input →
    SolvableGiven problem input 0 ↔ ZeroGiven problem input

-- where sets of labels lead to the exchanged input problem, up-sets do
abbrev pub FitLaw : Type 0
FitLaw = (problem input : Problem) → IsProblem problem → IsInput problem input →
    ZeroGiven problem input ↔ ((sets : List (List ℕ)) × IsFit problem input sets)

-- solvable in one more round than the derived problem is given the exchanged input problem
abbrev pub SpeedupGivenLaw : Type 0
SpeedupGivenLaw = (problem input : Problem) (T : ℕ) → IsProblem problem → IsInput problem input →
    SolvableGiven problem input (T + 1) ↔ SolvableGiven (derived problem) (exchanged input) T

-- solvable in k rounds exactly where an upper step leads from the k-th derived problem to the input problem exchanged k + 1 times
abbrev pub RoundsGivenLaw : Type 0
RoundsGivenLaw = (problem input : Problem) (k : ℕ) → IsProblem problem → IsInput problem input →
    SolvableGiven problem input k ↔ ZeroGiven (derived_by k problem) (exchanged_by k input)

-- more rounds do no harm
abbrev pub MoreRoundsGivenLaw : Type 0
MoreRoundsGivenLaw = (problem input : Problem) (T : ℕ) → IsInput problem input → SolvableGiven problem input T → SolvableGiven problem input (T + 1)

-- an input does no harm
abbrev pub UngivenLaw : Type 0
UngivenLaw = (problem input : Problem) (T : ℕ) → IsInput problem input → Solvable problem T → SolvableGiven problem input T

-- what is given is solved
abbrev pub ItselfGivenLaw : Type 0
ItselfGivenLaw = (input : Problem) → IsInput input input → SolvableGiven input input 0

-- where the input problem is solvable in S rounds, what T rounds solve given it takes at most S + T + 1 rounds without
abbrev pub ComposedLaw : Type 0
ComposedLaw = (problem input : Problem) (S T : ℕ) → IsInput problem input → Solvable input S → SolvableGiven problem input T → Solvable problem (S + T + 1)

-- what is solvable given a relaxation of an input problem is solvable given the input problem
abbrev pub InputRelaxationLaw : Type 0
InputRelaxationLaw = (problem input next : Problem) (image : ℕ → ℕ) (T : ℕ) → IsInput problem input → IsRelaxed input next image →
    SolvableGiven problem next T → SolvableGiven problem input T

-- the same given a third problem: where the input problem is solvable in S rounds given that, what T rounds solve given the input problem takes
-- at most S + T + 1 given that
abbrev pub RelativeLaw : Type 0
RelativeLaw = (problem input given : Problem) (S T : ℕ) → IsProblem problem → IsInput problem input → IsInput input given →
    SolvableGiven input given S → SolvableGiven problem input T → SolvableGiven problem given (S + T + 1)

-- what is solvable given an input problem takes at most one round more with the sides of both exchanged
abbrev pub ExchangedGivenLaw : Type 0
ExchangedGivenLaw = (problem input : Problem) (T : ℕ) → IsProblem problem → IsInput problem input →
    SolvableGiven problem input T → SolvableGiven (exchanged problem) (exchanged input) (T + 1)

-- a view that fits is the cut of a deeper one that fits
abbrev pub DeeperFitsLaw : Type 0
DeeperFitsLaw = (problem input : Problem) (T S : ℕ) (v : InputView) → IsInput problem input → T ≤ S → IsView problem.active.degree problem.passive.degree (suc T) v → Fits input.active input.passive v →
    (w : InputView) × IsView problem.active.degree problem.passive.degree (suc S) w × Fits input.active input.passive w × (cut (suc T) w ≡ v)

-- the view of a neighbour fits, with its sides exchanged
abbrev pub ShiftFitsLaw : Type 0
ShiftFitsLaw = (problem input : Problem) (T k : ℕ) (v : InputView) → k < problem.passive.degree → IsView problem.passive.degree problem.active.degree (suc T) v →
    Fits input.passive input.active v → Fits input.active input.passive (shift T v (suc k))

-- an input of one label says nothing
abbrev pub NothingGivenLaw : Type 0
NothingGivenLaw = (problem : Problem) (T : ℕ) → IsProblem problem → SolvableGiven problem (nothing problem) T ↔ Solvable problem T

-- what solves a problem solves its relaxations by maps of configurations
abbrev pub MappingGivenLaw : Type 0
MappingGivenLaw = (problem next input : Problem) (image : List ℕ → List ℕ) (T : ℕ) → IsProblem problem → IsProblem next → IsInput problem input →
    IsMapped problem next image → SolvableGiven problem input T → SolvableGiven next input T

-- what solves a problem solves its relaxations
abbrev pub RelaxationGivenLaw : Type 0
RelaxationGivenLaw = (problem next input : Problem) (image : ℕ → ℕ) (T : ℕ) → IsProblem problem → IsProblem next → IsInput problem input →
    IsRelaxed problem next image → SolvableGiven problem input T → SolvableGiven next input T

-- where an upper step leads to a problem that is solvable in T rounds given the exchanged input problem, one round more solves the one before it
abbrev pub UpperStepGivenLaw : Type 0
UpperStepGivenLaw = (problem next input : Problem) (sets : ℕ → List ℕ) (T : ℕ) → IsInput problem input → IsUpper problem next sets →
    SolvableGiven next (exchanged input) T → SolvableGiven problem input (T + 1)

-- after k lower steps to a problem that isn't zero given the input problem exchanged k times, none of at most k rounds solves the first one
abbrev pub LowerBoundGivenLaw : Type 0
LowerBoundGivenLaw = (first last input : Problem) (k T : ℕ) → IsProblem first → IsInput first input → IsLowerChain first k last →
    (ZeroGiven last (exchanged_by k input) → ⊥) → T ≤ k → SolvableGiven first input T → ⊥

-- after k upper steps to a problem that is zero given the input problem exchanged k times, k rounds solve the first one
abbrev pub UpperBoundGivenLaw : Type 0
UpperBoundGivenLaw = (first last input : Problem) (k : ℕ) → IsInput first input → IsUpperChain first k last →
    ZeroGiven last (exchanged_by k input) → SolvableGiven first input k

-- where the last problem of lower steps goes back to an earlier one, and isn't zero given the input problem exchanged as often as there are
-- steps, no number of rounds solves the first one
abbrev pub FixedPointGivenLaw : Type 0
FixedPointGivenLaw = (first middle last input : Problem) (back k T : ℕ) (image : ℕ → ℕ) → IsProblem first → IsInput first input →
    IsLowerChain first back middle → IsLowerChain middle (k + 1) last → IsRelaxed last middle image →
    (ZeroGiven last (exchanged_by (back + (k + 1)) input) → ⊥) → SolvableGiven first input T → ⊥

-- each problem from that to which the steps go back may stand for the last one: where one isn't zero given the input problem exchanged as
-- often as there are steps to it, no number of rounds solves the first one
abbrev pub LoopGivenLaw : Type 0
LoopGivenLaw = (first middle one last input : Problem) (back j k T : ℕ) (image : ℕ → ℕ) → IsProblem first → IsInput first input →
    IsLowerChain first back middle → IsLowerChain middle j one → IsLowerChain one k last → 0 < j + k → IsRelaxed last middle image →
    (ZeroGiven one (exchanged_by (back + j) input) → ⊥) → SolvableGiven first input T → ⊥

-- where the input problem is unavoidable for lists of the problem's labels, what is zero given it is zero without it
abbrev pub UnavoidableLaw : Type 0
UnavoidableLaw = (problem input : Problem) → IsProblem problem → IsInput problem input → IsUnavoidable input problem.labels →
    ZeroGiven problem input → Zero problem

-- a lower bound holds given each input problem that, exchanged as often as there are steps, is unavoidable for lists of the last problem's labels
abbrev pub LowerBoundUnavoidableLaw : Type 0
LowerBoundUnavoidableLaw = (first last input : Problem) (k T : ℕ) → IsProblem first → IsInput first input → IsLowerChain first k last →
    (Zero last → ⊥) → IsUnavoidable (exchanged_by k input) last.labels → T ≤ k → SolvableGiven first input T → ⊥

-- with one round less a lower bound holds given each input problem that is unavoidable for lists below n, where no problem on the way has more
-- than n labels
abbrev pub ShorterBoundUnavoidableLaw : Type 0
ShorterBoundUnavoidableLaw = (first last input : Problem) (k n T : ℕ) → IsProblem first → IsInput first input → (steps : IsLowerChain first k last) →
    (Zero last → ⊥) → AllByRecursion (λ (problem : Problem). problem.labels ≤ n) (first ∷ reached steps) → IsUnavoidable input n → T < k →
    SolvableGiven first input T → ⊥

-- where the last problem of lower steps goes back to an earlier one, and isn't zero, no number of rounds solves the first one given an input
-- problem that is unavoidable for lists below n, where no problem from that earlier one on has more than n labels
abbrev pub FixedPointUnavoidableLaw : Type 0
FixedPointUnavoidableLaw = (first middle last input : Problem) (back k n T : ℕ) (image : ℕ → ℕ) → IsProblem first → IsInput first input →
    IsLowerChain first back middle → (round : IsLowerChain middle (k + 1) last) → IsRelaxed last middle image → (Zero last → ⊥) →
    AllByRecursion (λ (problem : Problem). problem.labels ≤ n) (middle ∷ reached round) → IsUnavoidable input n → SolvableGiven first input T → ⊥

-- so it is enough that at some problem of the loop the input problem, exchanged as often as there are steps to it, is unavoidable for lists of
-- that problem's labels
abbrev pub LoopUnavoidableLaw : Type 0
LoopUnavoidableLaw = (first middle one last input : Problem) (back j k T : ℕ) (image : ℕ → ℕ) → IsProblem first → IsInput first input →
    IsLowerChain first back middle → IsLowerChain middle j one → IsLowerChain one k last → 0 < j + k → IsRelaxed last middle image → (Zero last → ⊥) →
    IsUnavoidable (exchanged_by (back + j) input) one.labels → SolvableGiven first input T → ⊥

-- what is unavoidable for lists of many labels is so for lists of fewer
abbrev pub FewerLabelsLaw : Type 0
FewerLabelsLaw = (input : Problem) (m n : ℕ) → m ≤ n → IsUnavoidable input n → IsUnavoidable input m

-- a proper colouring with more than (p - 1) n colours is unavoidable for lists below n
abbrev pub ColouringLaw : Type 0
ColouringLaw = (a p c n : ℕ) → 1 ≤ a → (p - 1) * n < c → IsUnavoidable (colouring a p c) n

-- where passive nodes are edges, a proper colouring with its sides exchanged is unavoidable for lists below n if it has more than 2^n colours
abbrev pub ColouredPairsLaw : Type 0
ColouredPairsLaw = (a c n : ℕ) → 1 ≤ a → 2 ^ n < c → IsUnavoidable (exchanged (colouring a 2 c)) n

-- a proper colouring is an input problem of each problem of its degrees
abbrev pub ColouringInputLaw : Type 0
ColouringInputLaw = (problem : Problem) (c : ℕ) → IsProblem problem → problem.passive.degree ≤ c →
    IsInput problem (colouring problem.active.degree problem.passive.degree c)

-- so are the two sides of a bipartite graph, where passive nodes are edges
abbrev pub SidesInputLaw : Type 0
SidesInputLaw = (problem : Problem) → IsProblem problem → problem.passive.degree ≡ 2 → IsInput problem (sides problem.active.degree)

-- a colouring of the edges
abbrev pub EdgesInputLaw : Type 0
EdgesInputLaw = (problem : Problem) → IsProblem problem → IsInput problem (coloured_edges problem.active.degree problem.passive.degree)

-- and one with at least a colours
abbrev pub EdgeColouringInputLaw : Type 0
EdgeColouringInputLaw = (problem : Problem) (c : ℕ) → IsProblem problem → problem.active.degree ≤ c →
    IsInput problem (edge_colouring problem.active.degree problem.passive.degree c)

-- an orientation, and one by which edges lead into each active node and out of it
abbrev pub OrientationInputLaw : Type 0
OrientationInputLaw = (problem : Problem) → IsProblem problem →
    IsInput problem (oriented problem.active.degree problem.passive.degree) × IsInput problem (oriented_both problem.active.degree problem.passive.degree)

-- and the input problem of one label
abbrev pub NothingInputLaw : Type 0
NothingInputLaw = (problem : Problem) → IsProblem problem → IsInput problem (nothing problem)

-- a proper colouring is one with more colours
abbrev pub MoreColoursLaw : Type 0
MoreColoursLaw = (a p c more : ℕ) → c ≤ more → IsRelaxed (colouring a p c) (colouring a p more) (λ x. x)

-- an even number of lower steps to a problem of n labels that isn't zero gives a lower bound given a proper colouring with more than
-- (p - 1) n colours
abbrev pub LowerBoundColouredLaw : Type 0
LowerBoundColouredLaw = (first last : Problem) (half c T : ℕ) → IsProblem first → IsLowerChain first (half + half) last → (Zero last → ⊥) →
    first.passive.degree ≤ c → (first.passive.degree - 1) * last.labels < c → T ≤ half + half →
    SolvableGiven first (colouring first.active.degree first.passive.degree c) T → ⊥

-- where passive nodes are edges, an odd number of lower steps to a problem of n labels that isn't zero gives a lower bound given a proper
-- colouring with more than 2^n colours
abbrev pub LowerBoundColouredPairsLaw : Type 0
LowerBoundColouredPairsLaw = (first last : Problem) (half c T : ℕ) → IsProblem first → first.passive.degree ≡ 2 → IsLowerChain first (half + half + 1) last →
    (Zero last → ⊥) → 2 ^ last.labels < c → T ≤ half + half + 1 → SolvableGiven first (colouring first.active.degree 2 c) T → ⊥

-- with one round less a lower bound holds given a proper colouring with more than (p - 1) n colours, where no problem on the way has more
-- than n labels
abbrev pub ShorterBoundColouredLaw : Type 0
ShorterBoundColouredLaw = (first last : Problem) (k n c T : ℕ) → IsProblem first → (steps : IsLowerChain first k last) → (Zero last → ⊥) →
    AllByRecursion (λ (problem : Problem). problem.labels ≤ n) (first ∷ reached steps) →
    first.passive.degree ≤ c → (first.passive.degree - 1) * n < c → T < k →
    SolvableGiven first (colouring first.active.degree first.passive.degree c) T → ⊥

-- where the last problem of lower steps goes back to an earlier one, and isn't zero, no number of rounds solves the first one given a proper
-- colouring with more than (p - 1) n colours, where no problem from that earlier one on has more than n labels
abbrev pub FixedPointColouredLaw : Type 0
FixedPointColouredLaw = (first middle last : Problem) (back k n c T : ℕ) (image : ℕ → ℕ) → IsProblem first →
    IsLowerChain first back middle → (round : IsLowerChain middle (k + 1) last) → IsRelaxed last middle image → (Zero last → ⊥) →
    AllByRecursion (λ (problem : Problem). problem.labels ≤ n) (middle ∷ reached round) →
    first.passive.degree ≤ c → (first.passive.degree - 1) * n < c →
    SolvableGiven first (colouring first.active.degree first.passive.degree c) T → ⊥
