-- The laws of local algorithms on forests.
use Rattle.std.specs.Prelude.{◌≡◌, ℕ, suc, ◌+◌, ◌*◌, ◌^◌, ◌≤◌, List, Contains}
use Rattle.re_forests.specs.TwoColours.{two_colours}
use Rattle.re_forests.specs.Flexible.{IsFlexible}
use Rattle.re_forests.specs.OnForests.{SolvableOnForests}
use Rattle.re_forests.specs.Trimmed.{IsTrimmed}
use Rattle.re_layers.specs.Layers.{IsLayered}
use Rattle.re_layers.specs.Networks.{IsForest, IsLocal, Network}
use Rattle.re_layers.specs.Towers.{tower}
use Rattle.re_problem.specs.Problems.{IsProblem, Problem}

-- where a set of labels is flexible, labels are found from M layers, each in a constant number of rounds
abbrev pub LabelsLaw : Type 0
LabelsLaw = (problem : Problem) (set : List ℕ) (l N M r : ℕ) (layer : Network → ℕ → ℕ) (path : Network → ℕ → List ℕ) →
    IsProblem problem → IsFlexible problem set l → IsLocal r layer → IsLocal r path →
    ((G : Network) → IsForest problem.active.degree problem.passive.degree N G → IsLayered G l M (layer G) (path G)) →
    SolvableOnForests problem N (r + suc M * (2 * l + 4))

-- a problem with a flexible set of labels takes at most the order of log N rounds on forests with N identifiers
abbrev pub OrderLogLaw : Type 0
OrderLogLaw = (problem : Problem) (set : List ℕ) (l : ℕ) → IsProblem problem → IsFlexible problem set l →
    (K : ℕ) × ((N b : ℕ) → N ≤ 2 ^ b → SolvableOnForests problem N (K * suc b))

-- on paths it takes at most the order of log* N rounds
abbrev pub PathsLogStarLaw : Type 0
PathsLogStarLaw = (problem : Problem) (set : List ℕ) (l : ℕ) → IsProblem problem → problem.active.degree ≡ 2 → problem.passive.degree ≡ 2 →
    IsFlexible problem set l → (K : ℕ) × ((h N : ℕ) → N ≤ tower h → SolvableOnForests problem N ((4 * l + 2) * h + K))

-- on paths, a problem that is solved in fewer than the order of N rounds has a flexible set of labels
abbrev pub FastPathsLaw : Type 0
FastPathsLaw = (problem : Problem) → IsProblem problem → problem.active.degree ≡ 2 → problem.passive.degree ≡ 2 →
    (M : ℕ) × ((N T : ℕ) → M * (T + 4) ≤ N → SolvableOnForests problem N T → (set : List ℕ) × (l : ℕ) × IsFlexible problem set l)

-- on paths, what has a trimmed set that isn't empty takes at most N rounds, as all is seen
abbrev pub WholePathsLaw : Type 0
WholePathsLaw = (problem : Problem) (set : List ℕ) (x N : ℕ) → IsProblem problem → problem.active.degree ≡ 2 → problem.passive.degree ≡ 2 →
    IsTrimmed problem set → Contains set x → SolvableOnForests problem N N

-- 2-colouring of paths takes at most N rounds, and at least the order of N
abbrev pub TwoColouredPathsLaw : Type 0
TwoColouredPathsLaw = ((N : ℕ) → SolvableOnForests two_colours N N)
    × ((M : ℕ) × ((N T : ℕ) → M * (T + 4) ≤ N → SolvableOnForests two_colours N T → ⊥))
