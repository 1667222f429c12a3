-- What `product` answers to a text: a problem text, a line `== given` and an input problem.
use Rattle.std.specs.Prelude.{◌≡◌, ℕ, ◌↔◌, List, ◌++◌, codes, if◌then◌else◌, Option, None, Some}
use Rattle.std.specs.Fmt.{decimal}
use Rattle.re_chains.specs.OverChains.{or_fault, problem_outcome}
use Rattle.re_settings.specs.InputProblems.{input_fault}
use Rattle.re_frame.specs.Outcomes.{Outcome, limit, refused}
use Rattle.re_frame.specs.declared.status.Status.TheVariants.{Done}
use Rattle.re_given.specs.Given.{SolvableGiven}
use Rattle.re_inputs.specs.NamedProducts.{is_long, named_product, pair_count, pair_name, product_fault}
use Rattle.re_inputs.specs.declared.products.ProductFault.{ProductFault}
use Rattle.re_inputs.specs.declared.products.ProductFault.TheVariants.{Nameless, NoMemory, TooManyConfigurations, TooManyLabels}
use Rattle.re_problem.specs.NamedProblems.{NamedProblem, unnamed}
use Rattle.re_settings.specs.GivenTexts.{given_fault, given_input, given_problem}
use Rattle.re_settings.specs.InputFaults.{or_input_fault}

-- ---- lines
-- the line of a pair without a name of its own
abbrev pub nameless_line : NamedProblem → NamedProblem → ℕ → List ℕ
nameless_line problem input pair = (if is_long problem input pair then codes "no: too long: (" else codes "no: taken: (") ++ pair_name problem input pair ++ codes ")\n"

-- the line of what the product has too many of
abbrev pub labels_line : ℕ → List ℕ
labels_line count = codes "limit: more than 128 labels: " ++ decimal count ++ codes "\n"

-- what is given for the reason for which there is no product
abbrev pub product_refusal : NamedProblem → NamedProblem → ProductFault → Outcome
product_refusal problem input TooManyLabels = limit (labels_line (pair_count problem input))
product_refusal problem input (Nameless pair) = refused (nameless_line problem input pair)
product_refusal problem input TooManyConfigurations = limit (codes "limit: more than 1048576 configurations\n")
product_refusal problem input NoMemory = limit (codes "")

-- ---- the answer
-- the product, where there is none of these reasons, and its text isn't too long to be read
abbrev pub made_or_refused : NamedProblem → NamedProblem → Option ProductFault → Outcome
made_or_refused problem input (Some fault) = product_refusal problem input fault
made_or_refused problem input None = problem_outcome (named_product problem input)

-- the line of the fault of the input problem comes before
abbrev pub product_answer : NamedProblem → NamedProblem → Outcome
product_answer problem input = or_input_fault input (input_fault problem input) (made_or_refused problem input (product_fault problem input))

-- and that of the fault of the text
unfoldable pub product_outcome : List ℕ → Outcome
product_outcome bytes = or_fault (given_fault bytes) (product_answer (given_problem bytes) (given_input bytes))

-- ---- what it is worth
-- what is given with Done is solvable, given the input problem, in as many rounds as the problem
abbrev pub ProductMeans : NamedProblem → NamedProblem → Outcome → Type 0
ProductMeans problem input outcome = outcome.status ≡ Done → (T : ℕ) → SolvableGiven (unnamed problem) (unnamed input) T ↔ SolvableGiven (unnamed (named_product problem input)) (unnamed input) T

pub record IsProduct (bytes : List ℕ) (outcome : Outcome) : Type 0 where
  pub answer : outcome ≡ product_outcome bytes
  pub means : ProductMeans (given_problem bytes) (given_input bytes) outcome
