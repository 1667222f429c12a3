-- The laws of products.
use Rattle.std.specs.Prelude.{ℕ, ◌/◌, ◌%◌, ◌↔◌, List}
use Rattle.re_given.specs.Given.{SolvableGiven}
use Rattle.re_given.specs.Inputs.{IsInput}
use Rattle.re_problem.specs.Problems.{IsProblem, Problem}
use Rattle.re_problem.specs.Steps.{IsMapped, IsRelaxed}
use Rattle.re_given.specs.Products.{firsts, product, seconds}
use Rattle.re_labels.specs.Constraints.{Has}

-- the product of a problem is a problem
abbrev pub ProductProblemLaw : Type 0
ProductProblemLaw = (problem input : Problem) → IsProblem problem → IsProblem (product problem input)

-- pairs may stand around a node exactly where their first parts may by the problem, and their second parts by the input problem
abbrev pub ProductConfigsLaw : Type 0
ProductConfigsLaw = (problem input : Problem) (pairs : List ℕ) → IsProblem problem → IsInput problem input →
    (Has (product problem input).active pairs ↔ (Has problem.active (firsts input.labels pairs) × Has input.active (seconds input.labels pairs)))
    × (Has (product problem input).passive pairs ↔ (Has problem.passive (firsts input.labels pairs) × Has input.passive (seconds input.labels pairs)))

-- the problem and the input problem are relaxations of their product, by the parts of its pairs
abbrev pub ProductPartsLaw : Type 0
ProductPartsLaw = (problem input : Problem) → IsInput problem input →
    IsRelaxed (product problem input) problem (λ pair. pair / input.labels) × IsRelaxed (product problem input) input (λ pair. pair % input.labels)

-- given the input problem, the product is solvable in as many rounds as the problem
abbrev pub ProductGivenLaw : Type 0
ProductGivenLaw = (problem input : Problem) (T : ℕ) → IsProblem problem → IsInput problem input →
    SolvableGiven problem input T ↔ SolvableGiven (product problem input) input T

-- so what solves a problem given an input problem solves, given it, the relaxations of their product
abbrev pub ProductRelaxationLaw : Type 0
ProductRelaxationLaw = (problem next input : Problem) (image : ℕ → ℕ) (T : ℕ) → IsProblem problem → IsProblem next → IsInput problem input →
    IsRelaxed (product problem input) next image → SolvableGiven problem input T → SolvableGiven next input T

-- also those by maps of configurations
abbrev pub ProductMappingLaw : Type 0
ProductMappingLaw = (problem next input : Problem) (image : List ℕ → List ℕ) (T : ℕ) → IsProblem problem → IsProblem next → IsInput problem input →
    IsMapped (product problem input) next image → SolvableGiven problem input T → SolvableGiven next input T
