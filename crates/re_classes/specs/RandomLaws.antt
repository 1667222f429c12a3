-- The laws of randomised algorithms.
use Rattle.std.specs.Prelude.{ℕ, ◌↔◌, ◌+◌, ◌*◌, ◌/◌, ◌%◌, ◌^◌, ◌≤◌, List}
use Rattle.re_given.specs.Given.{SolvesGivenBy}
use Rattle.re_given.specs.InputViews.{InputView}
use Rattle.re_local.specs.LocalAlgorithms.{SolvableLocal, SolvesApart, identified}
use Rattle.re_problem.specs.Examples.{relaxed_sinkless}
use Rattle.re_problem.specs.Problems.{IsProblem, Problem}
use Rattle.re_classes.specs.IdentifiedRandom.{FailsRarelyIdentified, with_images}
use Rattle.re_classes.specs.RandomAlgorithms.{FailsRarely}
use Rattle.re_local.specs.SeparatingLaws.{IsBeyondPower}

-- an algorithm that solves a problem whatever the strings are, if there is one, fails with a probability below any 1 / q
abbrev pub CertainLaw : Type 0
CertainLaw = (problem : Problem) (R T q : ℕ) (algorithm : InputView → List ℕ) → 1 ≤ R →
    SolvesGivenBy problem (identified problem.active.degree problem.passive.degree R) T algorithm → FailsRarely problem R T q algorithm

-- at least the number of views of radius T + 1 and T + 2 with N identifiers, where no node has more than d ports: such a view has no more than
-- d ^ (T + 2) edges, and at each of them one of d ports and one of N identifiers
abbrev pub id_views : ℕ → ℕ → ℕ → ℕ
id_views d N T = 2 * (d * N) ^ (d ^ (T + 2))

-- a randomised algorithm that fails at each node with a probability below 1 / q, with no more than q views with N identifiers, gives a
-- deterministic one
abbrev pub DerandomisedLaw : Type 0
DerandomisedLaw = (problem : Problem) (d N R T q : ℕ) (algorithm : InputView → List ℕ) → IsProblem problem →
    problem.active.degree ≤ d → problem.passive.degree ≤ d → id_views d N T ≤ q → FailsRarely problem R T q algorithm → SolvableLocal problem N T

-- no randomised algorithm of T rounds, with however many strings, fails with a probability below 1 / q at each node, where q is at least
-- 2 ^ (D ^ (T + 1)): each of them fails at some node, for some port numbering, with a probability of at least 1 / q. So T rounds are enough for
-- a probability of failure below 1 / q only where T + 1 > log_D (log_2 q)
abbrev pub IsBeyondDoublePower : Problem → ℕ → ℕ → Type 0
IsBeyondDoublePower problem D T = (q R : ℕ) (algorithm : InputView → List ℕ) → 2 ^ (D ^ (T + 1)) ≤ q → FailsRarely problem R T q algorithm → ⊥

-- the base of the power in the exponent, for nodes of no more than d ports, and a base of no more than 2 ^ l for identifiers
abbrev pub random_base : ℕ → ℕ → ℕ
random_base d l = 2 * d * d * (d + l)

-- where no local algorithm of T rounds solves a problem with C ^ (T + 1) identifiers or more, no randomised one of T rounds fails rarely
abbrev pub RandomisedLaw : Type 0
RandomisedLaw = (problem : Problem) (d C l T : ℕ) → IsProblem problem → problem.active.degree ≤ d → problem.passive.degree ≤ d → C ≤ 2 ^ l →
    IsBeyondPower problem C T → IsBeyondDoublePower problem (random_base d l) T

-- so it is for the relaxation of sinkless orientation, for any number of rounds, where D is 17,856
abbrev pub SinklessRandomLaw : Type 0
SinklessRandomLaw = (T : ℕ) → IsBeyondDoublePower relaxed_sinkless (random_base 3 989) T

-- ---- with identifiers too
-- a randomised algorithm without identifiers is one that takes no notice of them: it fails as rarely with different ones, however many these are
abbrev pub UnnoticedNamesLaw : Type 0
UnnoticedNamesLaw = (problem : Problem) (R T q : ℕ) (algorithm : InputView → List ℕ) → IsProblem problem →
    FailsRarely problem R T q algorithm ↔ ((N : ℕ) → FailsRarelyIdentified problem N R T q (λ seen. algorithm (with_images (λ label. label % R) seen)))

-- a local algorithm that takes no notice of strings, if there is one, fails with a probability below any 1 / q
abbrev pub CertainIdentifiedLaw : Type 0
CertainIdentifiedLaw = (problem : Problem) (N R T q : ℕ) (algorithm : InputView → List ℕ) → 1 ≤ R →
    SolvesApart problem (identified problem.active.degree problem.passive.degree N) (λ x. x) T algorithm →
    FailsRarelyIdentified problem N R T q (λ seen. algorithm (with_images (λ label. label / R) seen))

-- a randomised algorithm with N identifiers that fails with a probability below 1 / q, with no more than q views with N identifiers, gives a
-- deterministic one
abbrev pub DerandomisedIdentifiedLaw : Type 0
DerandomisedIdentifiedLaw = (problem : Problem) (d N R T q : ℕ) (algorithm : InputView → List ℕ) → IsProblem problem →
    problem.active.degree ≤ d → problem.passive.degree ≤ d → id_views d N T ≤ q → FailsRarelyIdentified problem N R T q algorithm → SolvableLocal problem N T

-- so with N identifiers a randomised algorithm of T rounds that fails so rarely is there exactly where a deterministic one is
abbrev pub IdentifiedRandomnessLaw : Type 0
IdentifiedRandomnessLaw = (problem : Problem) (d N T q : ℕ) → IsProblem problem → problem.active.degree ≤ d → problem.passive.degree ≤ d →
    id_views d N T ≤ q → ((R : ℕ) × (algorithm : InputView → List ℕ) × FailsRarelyIdentified problem N R T q algorithm) ↔ SolvableLocal problem N T

-- one that fails rarely with more identifiers does so with fewer
abbrev pub FewerNamesLaw : Type 0
FewerNamesLaw = (problem : Problem) (N more R T q : ℕ) (algorithm : InputView → List ℕ) → N ≤ more →
    FailsRarelyIdentified problem more R T q algorithm → FailsRarelyIdentified problem N R T q algorithm

-- no randomised algorithm of T rounds with N identifiers, with however many strings, fails with a probability below 1 / q at each node, where N
-- is at least C ^ (T + 1) and q at least 2 ^ (D ^ (T + 1)): each of them fails at some node, for some port numbering and some different
-- identifiers, with a probability of at least 1 / q
abbrev pub IsBeyondIdentified : Problem → ℕ → ℕ → ℕ → Type 0
IsBeyondIdentified problem C D T = (N q R : ℕ) (algorithm : InputView → List ℕ) → C ^ (T + 1) ≤ N → 2 ^ (D ^ (T + 1)) ≤ q →
    FailsRarelyIdentified problem N R T q algorithm → ⊥

-- so it is where no local algorithm of T rounds solves the problem with C ^ (T + 1) identifiers or more
abbrev pub RandomisedIdentifiedLaw : Type 0
RandomisedIdentifiedLaw = (problem : Problem) (d C l T : ℕ) → IsProblem problem → problem.active.degree ≤ d → problem.passive.degree ≤ d → C ≤ 2 ^ l →
    IsBeyondPower problem C T → IsBeyondIdentified problem C (random_base d l) T
