-- The laws of what holds on forests as on infinite trees.
use Rattle.std.specs.Prelude.{ℕ, ◌+◌, ◌-◌, ◌*◌, ◌^◌, ◌≤◌}
use Rattle.re_forests.specs.OnForests.{SolvableOnForests}
use Rattle.re_forests.specs.Colours.{AreApartAround}
use Rattle.re_given.specs.Given.{SolvableGiven}
use Rattle.re_given.specs.Unavoidable.{colouring}
use Rattle.re_laws.specs.Algorithms.{Solvable}
use Rattle.re_layers.specs.Layers.{IsColoured}
use Rattle.re_layers.specs.Networks.{IsForest, IsLocal, Network}
use Rattle.re_layers.specs.Towers.{tower}
use Rattle.re_local.specs.LocalAlgorithms.{SolvableLocal}
use Rattle.re_problem.specs.Problems.{IsProblem, Problem}

-- what is solvable in k rounds on infinite trees with ports alone takes at most one round more on forests
abbrev pub PortsOnForestsLaw : Type 0
PortsOnForestsLaw = (problem : Problem) → IsProblem problem → (k N : ℕ) → Solvable problem k → SolvableOnForests problem N (k + 1)

-- what is solvable in k rounds given a proper colouring with c colours takes at most r + k + 2 rounds on forests, where r rounds give such colours
abbrev pub GivenOnForestsLaw : Type 0
GivenOnForestsLaw = (problem : Problem) (c N r k : ℕ) (colour : Network → ℕ → ℕ) → IsProblem problem → problem.passive.degree ≤ c → IsLocal r colour →
    ((G : Network) → IsForest problem.active.degree problem.passive.degree N G → AreApartAround c G (colour G)) →
    SolvableGiven problem (colouring problem.active.degree problem.passive.degree c) k → SolvableOnForests problem N (r + k + 2)

-- the same where they give c colours that differ within two hops
abbrev pub ColouredOnForestsLaw : Type 0
ColouredOnForestsLaw = (problem : Problem) (c N r k : ℕ) (colour : Network → ℕ → ℕ) → IsProblem problem → problem.passive.degree ≤ c → IsLocal r colour →
    ((G : Network) → IsForest problem.active.degree problem.passive.degree N G → IsColoured 2 c G (colour G)) →
    SolvableGiven problem (colouring problem.active.degree problem.passive.degree c) k → SolvableOnForests problem N (r + k + 2)

-- what is solvable in k rounds given a proper colouring with one more colour than an active node has others around its neighbours takes the order of log* N
-- rounds on forests with N identifiers: 2 h + k and a constant K of the degrees, where N is at most the tower of h twos
abbrev pub FewColoursOnForestsLaw : Type 0
FewColoursOnForestsLaw = (K : ℕ → ℕ → ℕ) × ((problem : Problem) (k h N : ℕ) → IsProblem problem →
    let a : ℕ = problem.active.degree in let p : ℕ = problem.passive.degree in
    SolvableGiven problem (colouring a p (a * (p - 1) + 1)) k → N ≤ tower h → SolvableOnForests problem N (2 * h + k + K a p))

-- what is solvable in k rounds on infinite trees by a local algorithm with M unique identifiers takes at most k + 2 rounds on forests with N identifiers, where
-- M is great enough for the places that are thought behind a forest
abbrev pub LocalOnForestsLaw : Type 0
LocalOnForestsLaw = (problem : Problem) (N M k : ℕ) → IsProblem problem → N * 7 ^ (k + 2) ≤ M → SolvableLocal problem M k → SolvableOnForests problem N (k + 2)
