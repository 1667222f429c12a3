-- The laws of local algorithms.
use Rattle.std.specs.Prelude.{ℕ, ◌+◌, ◌-◌, ◌*◌, ◌/◌, ◌^◌, ◌≤◌, ◌<◌, ◌∷◌}
use Rattle.std.specs.List.{AllByRecursion}
use Rattle.re_given.specs.Given.{SolvableGiven}
use Rattle.re_given.specs.Inputs.{IsInput, exchanged}
use Rattle.re_given.specs.Unavoidable.{IsUnavoidable, colouring, reached}
use Rattle.re_laws.specs.Chains.{IsLowerChain}
use Rattle.re_local.specs.Identifiers.{IdHypergraph, JoinsAlike, identifiers, virtual_identifiers}
use Rattle.re_local.specs.LocalAlgorithms.{SolvableLabelled, SolvableLocal}
use Rattle.re_local.specs.Separating.{AreApart, HasAllEdges, Separates, complete}
use Rattle.re_problem.specs.Problems.{IsProblem, Problem}
use Rattle.re_problem.specs.Steps.{IsRelaxed}
use Rattle.re_problem.specs.Zero.{Zero}

-- what a local algorithm solves is solved where the labels of identifiers are known too
abbrev pub LabelledLaw : Type 0
LabelledLaw = (problem : Problem) (N T : ℕ) → SolvableLocal problem N T → SolvableLabelled problem N T

-- identifiers are a proper colouring: what is solvable given one with N colours has a local algorithm with N identifiers
abbrev pub ColouredLocalLaw : Type 0
ColouredLocalLaw = (problem : Problem) (N T : ℕ) → IsProblem problem →
    SolvableGiven problem (colouring problem.active.degree problem.passive.degree N) T → SolvableLocal problem N T

-- where the input problem has a local algorithm of S rounds, what T rounds solve given it has one of at most S + T + 1
abbrev pub ComposedLocalLaw : Type 0
ComposedLocalLaw = (problem input : Problem) (N S T : ℕ) → IsInput problem input →
    SolvableLocal input N S → SolvableGiven problem input T → SolvableLocal problem N (S + T + 1)

-- more rounds make it no harder
abbrev pub MoreRoundsLocalLaw : Type 0
MoreRoundsLocalLaw = (problem : Problem) (N T : ℕ) → SolvableLocal problem N T → SolvableLocal problem N (T + 1)

-- more identifiers make it no easier
abbrev pub FewerIdentifiersLaw : Type 0
FewerIdentifiersLaw = (problem : Problem) (N more T : ℕ) → N ≤ more → SolvableLocal problem more T → SolvableLocal problem N T

-- identifiers are unavoidable for lists below n where, however they get such lists, those with some one list are joined by each p ports
abbrev pub IdentifiersLaw : Type 0
IdentifiersLaw = (a p N n : ℕ) (hyper : IdHypergraph) → 1 ≤ a → 1 ≤ p → JoinsAlike a p N hyper n → IsUnavoidable (identifiers a p N hyper) n

-- identifiers, of which there is one, are an input problem where each label of one stands around some passive node
abbrev pub IdentifiersInputLaw : Type 0
IdentifiersInputLaw = (problem : Problem) (N : ℕ) (hyper : IdHypergraph) → IsProblem problem → 0 < N →
    HasAllEdges problem.active.degree problem.passive.degree N hyper →
    IsInput problem (identifiers problem.active.degree problem.passive.degree N hyper)

-- where the trees of a hypergraph of identifiers show different ones, a local algorithm solves a problem given the identifiers
abbrev pub LocalGivenLaw : Type 0
LocalGivenLaw = (problem : Problem) (N T : ℕ) (hyper : IdHypergraph) →
    let input : Problem = identifiers problem.active.degree problem.passive.degree N hyper in
    IsInput problem input → AreApart input (λ label. label / problem.active.degree) T → SolvableLabelled problem N T → SolvableGiven problem input T

-- identifiers, of which there is one, are an input problem where they have ports enough and each label of one stands around some passive node
abbrev pub VirtualInputLaw : Type 0
VirtualInputLaw = (problem : Problem) (M N : ℕ) (hyper : IdHypergraph) → IsProblem problem → problem.active.degree ≤ M → 0 < N →
    HasAllEdges M problem.passive.degree N hyper →
    IsInput problem (virtual_identifiers problem.active.degree M problem.passive.degree N hyper)

-- where their trees show different ones, a local algorithm solves a problem given them
abbrev pub VirtualGivenLaw : Type 0
VirtualGivenLaw = (problem : Problem) (M N T : ℕ) (hyper : IdHypergraph) →
    let input : Problem = virtual_identifiers problem.active.degree M problem.passive.degree N hyper in
    IsInput problem input → AreApart input (λ label. label / M) T → SolvableLocal problem N T → SolvableGiven problem input T

-- with their sides exchanged they are unavoidable for lists below n, where they have more than (a - 1) 2^n ports, and however each port of
-- each gets a set of labels below n, those with some one list of sets are joined by each p ports
abbrev pub VirtualUnavoidableLaw : Type 0
VirtualUnavoidableLaw = (a M p N n : ℕ) (hyper : IdHypergraph) → 1 ≤ a → 1 ≤ p → (a - 1) * 2 ^ n < M → JoinsAlike M p N hyper (2 ^ n) →
    IsUnavoidable (exchanged (virtual_identifiers a M p N hyper)) n

-- where the last problem of lower steps goes back to an earlier one, and isn't zero, no local algorithm of T rounds solves the first one, if
-- there is a hypergraph for T rounds and lists below n, and no problem from that earlier one on has more than n labels
abbrev pub FixedPointLocalLaw : Type 0
FixedPointLocalLaw = (first middle last : Problem) (back k n N T : ℕ) (image : ℕ → ℕ) (hyper : IdHypergraph) →
    IsProblem first → IsLowerChain first back middle → (round : IsLowerChain middle (k + 1) last) → IsRelaxed last middle image → (Zero last → ⊥) →
    AllByRecursion (λ (problem : Problem). problem.labels ≤ n) (middle ∷ reached round) →
    Separates first.active.degree first.passive.degree N n T hyper → SolvableLabelled first N T → ⊥

-- after k lower steps to a problem that isn't zero no local algorithm of T < k rounds solves the first one, if there is such a hypergraph, and
-- none of the problems has more than n labels
abbrev pub ShorterBoundLocalLaw : Type 0
ShorterBoundLocalLaw = (first last : Problem) (k n N T : ℕ) (hyper : IdHypergraph) → IsProblem first →
    (steps : IsLowerChain first k last) → (Zero last → ⊥) → AllByRecursion (λ (problem : Problem). problem.labels ≤ n) (first ∷ reached steps) →
    Separates first.active.degree first.passive.degree N n T hyper → T < k → SolvableLabelled first N T → ⊥

-- such a hypergraph for S rounds is one for fewer
abbrev pub FewerRoundsLaw : Type 0
FewerRoundsLaw = (a p N n S T : ℕ) (hyper : IdHypergraph) → 2 ≤ a → a ≤ 6 → 2 ≤ p → p ≤ 6 → T ≤ S →
    Separates a p N n S hyper → Separates a p N n T hyper

-- for 0 rounds the hypergraph that joins all different identifiers will do, where there are more than p - 1 of them for each list
abbrev pub CompleteLaw : Type 0
CompleteLaw = (a p N n : ℕ) → 1 ≤ a → 1 ≤ p → p ≤ N → (p - 1) * n ^ a < N → Separates a p N n 0 (complete a p N)

-- from one round on it won't: two neighbours of a node may be one identifier
abbrev pub CompleteLimitLaw : Type 0
CompleteLimitLaw = (a p N T : ℕ) → 2 ≤ a → a ≤ 6 → 2 ≤ p → p ≤ 6 → p ≤ N →
    AreApart (identifiers a p N (complete a p N)) (λ label. label / a) (T + 1) → ⊥
