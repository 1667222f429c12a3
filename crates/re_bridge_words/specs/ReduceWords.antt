-- What the word `reduce` answers.
use Rattle.std.specs.Prelude.{◌≡◌, ◌↔◌, ℕ, Bool, true, false, List, codes, Option, None, Some}
use Rattle.re_problem.specs.CanonicalTexts.{canonical}
use Rattle.re_problem.specs.NamedProblems.{IsNamedProblem, NamedProblem, unnamed}
use Rattle.re_problem.specs.ProblemTexts.{first_fault, lines_of, problem_of}
use Rattle.re_laws.specs.Algorithms.{Solvable}
use Rattle.re_given.specs.Given.{SolvableGiven}
use Rattle.re_given.specs.Inputs.{IsInput}
use Rattle.re_chains.specs.OverChains.{or_fault, problem_outcome}
use Rattle.re_settings.specs.InputProblems.{input_fault}
use Rattle.re_frame.specs.Outcomes.{Outcome, limit_of}
use Rattle.re_settings.specs.GivenTexts.{given_fault, given_input, given_problem}
use Rattle.re_settings.specs.InputFaults.{or_input_fault}
use Rattle.re_given_words.specs.ProductTexts.{product_refusal}
use Rattle.re_settings.specs.declared.texts.GivenTexts.{GivenTexts}
use Rattle.re_inputs.specs.NamedProducts.{named_product, product_fault}
use Rattle.re_inputs.specs.declared.products.ProductFault.{ProductFault}
use Rattle.re_chains.specs.TwoTexts.{has_line}
use Rattle.re_bridge.specs.Reductions.{Reduces, reduced_of, reduction}
use Rattle.re_bridge_words.specs.declared.answering.TheConstants.{MAX_TRIES}

-- the text of the reduced problem, where it isn't too long to be read, or that the tries don't suffice
abbrev pub reduced_outcome : Option NamedProblem → Outcome
reduced_outcome (Some reduced) = problem_outcome reduced
reduced_outcome None = limit_of MAX_TRIES (codes "tries")

-- what the word gives to a problem text
unfoldable pub plain_outcome : List ℕ → Outcome
plain_outcome bytes = or_fault (first_fault 0 1 (lines_of bytes)) (reduced_outcome (reduced_of (problem_of (lines_of bytes)) MAX_TRIES))

-- ---- given an input problem
-- what it gives to the product of a problem and an input problem of it, or what `product` gives where there is none
abbrev pub reduced_product : NamedProblem → NamedProblem → Option ProductFault → Outcome
reduced_product problem input (Some fault) = product_refusal problem input fault
reduced_product problem input None = reduced_outcome (reduced_of (named_product problem input) MAX_TRIES)

-- the line of the fault of the input problem comes before
abbrev pub reduced_given : NamedProblem → NamedProblem → Outcome
reduced_given problem input = or_input_fault input (input_fault problem input) (reduced_product problem input (product_fault problem input))

-- what it gives to a problem text, a line `== given` and an input problem
unfoldable pub given_outcome : List ℕ → Outcome
given_outcome bytes = or_fault (given_fault bytes) (reduced_given (given_problem bytes) (given_input bytes))

-- ---- both
abbrev pub outcome_by : Bool → List ℕ → Outcome
outcome_by true bytes = given_outcome bytes
outcome_by false bytes = plain_outcome bytes

-- what it gives to a text, and whether it has that line
unfoldable pub reduce_outcome : List ℕ → Outcome
reduce_outcome bytes = outcome_by (has_line (codes "given") bytes) bytes

-- ---- what is known of the text of an answer Done
-- it is the canonical text of the reduced problem: the map that leaves this has the fewest images, and it is solvable in T rounds exactly
-- where the given problem is
pub record IsReducedText (problem : NamedProblem) (text : List ℕ) : Type 0 where
  pub reduced : NamedProblem
  pub text_of : text ≡ canonical reduced
  pub comes : reduced_of problem MAX_TRIES ≡ Some reduced
  pub reduces : Reduces problem (reduction problem MAX_TRIES)
  pub rounds : (T : ℕ) → Solvable (unnamed reduced) T ↔ Solvable (unnamed problem) T

-- it is that of the reduced product; given the input problem, this is solvable in T rounds exactly where the problem is
pub record IsReducedProductText (problem input : NamedProblem) (text : List ℕ) : Type 0 where
  pub product : IsReducedText (named_product problem input) text
  pub rounds : (T : ℕ) → SolvableGiven (unnamed product.reduced) (unnamed input) T ↔ SolvableGiven (unnamed problem) (unnamed input) T

abbrev pub WorthBy : Bool → List ℕ → List ℕ → Type 0
WorthBy true bytes text = IsReducedProductText (given_problem bytes) (given_input bytes) text
WorthBy false bytes text = IsReducedText (problem_of (lines_of bytes)) text

unfoldable pub ReduceWorth : List ℕ → List ℕ → Type 0
ReduceWorth bytes text = WorthBy (has_line (codes "given") bytes) bytes text

-- ---- calls
-- the text writes this problem and this input problem
abbrev pub Writes : List ℕ → GivenTexts → Type 0
Writes bytes texts = (given_fault bytes ≡ None) × (texts.problem ≡ given_problem bytes) × (texts.input ≡ given_input bytes)

-- ---- a law
-- given an input problem, the reduced problem is solvable in T rounds exactly where the given one is
abbrev pub ReducedGivenLaw : Type 0
ReducedGivenLaw = (named reduced input : NamedProblem) (tries T : ℕ) → IsNamedProblem named → IsInput (unnamed named) (unnamed input) → reduced_of named tries ≡ Some reduced
    → SolvableGiven (unnamed reduced) (unnamed input) T ↔ SolvableGiven (unnamed named) (unnamed input) T
