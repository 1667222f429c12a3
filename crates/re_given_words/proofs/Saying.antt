-- What the words may answer.
use Rattle.std.proofs.Common.{ℕ, true, List, Option, Some, None, refl}
use Rattle.re_problem.specs.NamedProblems.{NamedProblem}
use Rattle.re_problem.specs.declared.fault.InputFault.{InputFault as Fault}
use Rattle.re_chains.proofs.WordsGiven.{or_fault_says, problem_says}
use Rattle.re_settings.specs.InputProblems.{input_fault}
use Rattle.re_settings.specs.declared.inputs.InputFault.{InputFault}
use Rattle.re_frame.proofs.Said.{fault_says, says_as}
use Rattle.re_frame.specs.Outcomes.{Outcome}
use Rattle.re_frame.specs.Runs.{MaySay}
use Rattle.re_inputs.specs.NamedProducts.{named_product, product_fault}
use Rattle.re_inputs.specs.declared.products.ProductFault.{ProductFault}
use Rattle.re_inputs.specs.declared.products.ProductFault.TheVariants.{Nameless, NoMemory, TooManyConfigurations, TooManyLabels}
use Rattle.re_given_words.specs.Answers.{MayGive}
use Rattle.re_given_words.specs.Counting.{counted_outcome}
use Rattle.re_settings.specs.GivenTexts.{given_fault, given_input, given_problem}
use Rattle.re_given_words.specs.ProductTexts.{made_or_refused, product_answer, product_outcome, product_refusal}
use Rattle.re_given_words.specs.RoundsTexts.{MayCount, MayCountBeside, MayCountRead, beside_fault, rounds_fault, rounds_input, rounds_problem}
use Rattle.re_given_words.specs.declared.counting.Counted.{Counted}
use Rattle.re_given_words.specs.declared.counting.Counted.TheVariants.{Exactly, MoreThan, Passed, Stopped, Tried}
use Rattle.re_given_words.specs.declared.words.GivenWord.{GivenWord}
use Rattle.re_settings.proofs.Saying.{bound_says, input_says}
use Rattle.re_given_words.specs.declared.words.GivenWord.TheVariants.{OfBound, Product, Rounds}

-- ---- `rounds`
counted_says : (counted : Counted) → MaySay (counted_outcome counted).status true
counted_says (Exactly rounds) = tt
counted_says (MoreThan rounds) = tt
counted_says (Passed rounds limit) = tt
counted_says (Tried rounds) = tt
counted_says (Stopped rounds steps limit) = tt

beside_says : (fault : Option InputFault) (problem : NamedProblem) (input : Option NamedProblem) (most : ℕ) (outcome : Outcome) → MayCountBeside fault problem input most outcome → MaySay outcome.status true
beside_says (Some fault) problem input most outcome may = says_as outcome _ may refl
beside_says None problem input most outcome may = says_as outcome _ may.line (counted_says may.counted)

read_says : (fault : Option Fault) (problem : NamedProblem) (input : Option NamedProblem) (most : ℕ) (outcome : Outcome) → MayCountRead fault problem input most outcome → MaySay outcome.status true
read_says (Some fault) problem input most outcome may = says_as outcome _ may (fault_says fault true)
read_says None problem input most outcome may = beside_says (beside_fault problem input) problem input most outcome may

count_says : (most : ℕ) (bytes : List ℕ) (outcome : Outcome) → MayCount most bytes outcome → MaySay outcome.status true
unfolding MayCount
count_says most bytes outcome may = read_says (rounds_fault bytes) (rounds_problem bytes) (rounds_input bytes) most outcome may

-- ---- `product`
reason_says : (problem input : NamedProblem) (fault : ProductFault) → MaySay (product_refusal problem input fault).status true
reason_says problem input TooManyLabels = tt
reason_says problem input (Nameless pair) = refl
reason_says problem input TooManyConfigurations = tt
reason_says problem input NoMemory = tt

made_says : (problem input : NamedProblem) (fault : Option ProductFault) → MaySay (made_or_refused problem input fault).status true
made_says problem input (Some fault) = reason_says problem input fault
made_says problem input None = problem_says (named_product problem input) true

product_says : (bytes : List ℕ) → MaySay (product_outcome bytes).status true
unfolding product_outcome
product_says bytes =
    or_fault_says (given_fault bytes) (product_answer (given_problem bytes) (given_input bytes)) true
    (input_says (given_input bytes) (input_fault (given_problem bytes) (given_input bytes)) (made_or_refused (given_problem bytes) (given_input bytes) (product_fault (given_problem bytes) (given_input bytes)))
    (made_says (given_problem bytes) (given_input bytes) (product_fault (given_problem bytes) (given_input bytes))))

-- ---- all words
pub give_says : (word : GivenWord) (bytes : List ℕ) (outcome : Outcome) → MayGive word bytes outcome → MaySay outcome.status true
unfolding MayGive
give_says (OfBound word) bytes outcome may = says_as outcome _ may.answer (bound_says word bytes)
give_says (Rounds most) bytes outcome may = count_says most bytes outcome may
give_says Product bytes outcome may = says_as outcome _ may.answer (product_says bytes)
