-- The gap: below log* N rounds, less a constant, identifiers below N are of no use.
use Rattle.std.specs.Prelude.{◌≡◌, ℕ, ◌↔◌, ◌+◌, ◌-◌, ◌*◌, ◌≤◌, ◌<◌, List}
use Rattle.re_cover.specs.Graphs.{IsGraphOf, IsSolution, PortGraph}
use Rattle.re_layers.specs.Towers.{tower}
use Rattle.re_given.specs.Given.{SolvableGiven}
use Rattle.re_given.specs.Inputs.{IsInput, exchanged_by}
use Rattle.re_given.specs.Unavoidable.{IsUnavoidable, colouring}
use Rattle.re_laws.specs.Algorithms.{Solvable}
use Rattle.re_local.specs.LocalAlgorithms.{SolvableLocal}
use Rattle.re_problem.specs.Derived.{derived_by}
use Rattle.re_problem.specs.Problems.{IsProblem, Problem}

-- each number is at most the tower of as many twos
abbrev pub TowerLaw : Type 0
TowerLaw = (n : ℕ) → n ≤ tower n

-- a problem of at most a tower of h twos of labels, derived k times, has at most a tower of k + h twos of them
abbrev pub FewLabelsLaw : Type 0
FewLabelsLaw = (problem : Problem) (k h : ℕ) → problem.labels ≤ tower h → (derived_by k problem).labels ≤ tower (k + h)

-- ---- given an input problem
-- an input problem that, exchanged T times, is unavoidable for lists of that many labels is of no use in T rounds
abbrev pub UnavoidableRoundsLaw : Type 0
UnavoidableRoundsLaw = (problem input : Problem) (h T : ℕ) → IsProblem problem → IsInput problem input → problem.labels ≤ tower h →
    IsUnavoidable (exchanged_by T input) (tower (T + h)) → SolvableGiven problem input T ↔ Solvable problem T

-- what T rounds solve given one that is unavoidable as it stands takes at most T + 1 rounds without it
abbrev pub UnavoidableGapLaw : Type 0
UnavoidableGapLaw = (problem input : Problem) (h T : ℕ) → IsProblem problem → IsInput problem input → problem.labels ≤ tower h →
    IsUnavoidable input (tower (T + h + 1)) → SolvableGiven problem input T → Solvable problem (T + 1)

-- so it is for a proper colouring with many colours
abbrev pub ColouredGapLaw : Type 0
ColouredGapLaw = (problem : Problem) (h T c : ℕ) → IsProblem problem → problem.labels ≤ tower h → problem.passive.degree ≤ c →
    (problem.passive.degree - 1) * tower (T + h + 1) < c →
    SolvableGiven problem (colouring problem.active.degree problem.passive.degree c) T → Solvable problem (T + 1)

-- where passive nodes are edges, a proper colouring with so many colours is of no use in T rounds
abbrev pub ColouredPairsGapLaw : Type 0
ColouredPairsGapLaw = (problem : Problem) (h T c : ℕ) → IsProblem problem → problem.passive.degree ≡ 2 → problem.labels ≤ tower h →
    tower (T + h + 1) < c → SolvableGiven problem (colouring problem.active.degree 2 c) T ↔ Solvable problem T

-- ---- unique identifiers
-- with so many identifiers a local algorithm of T rounds solves what T rounds solve without them, and no more
abbrev pub GapLaw : Type 0
GapLaw = (problem : Problem) (h T N : ℕ) → IsProblem problem → problem.labels ≤ tower h → tower (T + h + 6) ≤ N →
    SolvableLocal problem N T ↔ Solvable problem T

-- so what T rounds solve with so many identifiers they solve with any number of them
abbrev pub OneNumberLaw : Type 0
OneNumberLaw = (problem : Problem) (h T N more : ℕ) → IsProblem problem → problem.labels ≤ tower h → tower (T + h + 6) ≤ N →
    SolvableLocal problem N T → SolvableLocal problem more T

-- what no number of rounds solves without identifiers no local algorithm of T rounds solves with so many: with identifiers below N it takes at
-- least log* N - h - 6 rounds
abbrev pub BeyondPortsLaw : Type 0
BeyondPortsLaw = (problem : Problem) (h T N : ℕ) → IsProblem problem → problem.labels ≤ tower h →
    tower (T + h + 6) ≤ N → ((S : ℕ) → Solvable problem S → ⊥) → SolvableLocal problem N T → ⊥

-- so it is where some finite graph has no solution
abbrev pub GraphGapLaw : Type 0
GraphGapLaw = (problem : Problem) (graph : PortGraph) (h T N : ℕ) → IsProblem problem → problem.labels ≤ tower h →
    tower (T + h + 6) ≤ N → IsGraphOf problem graph → ((labels : List (List ℕ)) → IsSolution problem graph labels → ⊥) → SolvableLocal problem N T → ⊥
