-- What the answer of `product` means.
use Rattle.std.proofs.Common.{◌≡◌, ℕ, List, refl, sym, ap, ◌∙◌, subst, Option, None, Some}
use Rattle.std.specs.Prelude.{◌↔◌}
use Rattle.re_chains.proofs.WordsGiven.{fault_not_done}
use Rattle.re_chains.specs.OverChains.{or_fault}
use Rattle.re_settings.proofs.Judged.{judged-none}
use Rattle.re_settings.specs.InputProblems.{input_fault}
use Rattle.re_settings.specs.declared.inputs.InputFault.{InputFault}
use Rattle.re_frame.specs.Outcomes.{Outcome}
use Rattle.re_frame.specs.TextFaults.{fault_outcome}
use Rattle.re_frame.specs.declared.status.Status.TheVariants.{Done, Limit, No}
use Rattle.re_given.specs.Given.{SolvableGiven}
use Rattle.re_inputs.proofs.ProductProofs.{as_solvable_named}
use Rattle.re_inputs.specs.NamedProducts.{named_product, product_fault}
use Rattle.re_inputs.specs.declared.products.ProductFault.{ProductFault}
use Rattle.re_inputs.specs.declared.products.ProductFault.TheVariants.{Nameless, NoMemory, TooManyConfigurations, TooManyLabels}
use Rattle.re_problem.specs.NamedProblems.{IsNamedProblem, NamedProblem, unnamed}
use Rattle.re_problem.specs.declared.fault.InputFault.{InputFault as Fault}
use Rattle.re_settings.specs.GivenTexts.{given_fault, given_input, given_problem}
use Rattle.re_settings.specs.InputFaults.{or_input_fault}
use Rattle.re_given_words.specs.ProductTexts.{IsProduct, ProductMeans, made_or_refused, product_answer, product_outcome, product_refusal}

no_isnt : No ≡ Done → ⊥
no_isnt e = cc

limit_isnt : Limit ≡ Done → ⊥
limit_isnt e = cc

-- without a product nothing is done
pub reason_not_done : (problem input : NamedProblem) (fault : ProductFault) → (product_refusal problem input fault).status ≡ Done → ⊥
reason_not_done problem input TooManyLabels e = limit_isnt e
reason_not_done problem input (Nameless pair) e = no_isnt e
reason_not_done problem input TooManyConfigurations e = limit_isnt e
reason_not_done problem input NoMemory e = limit_isnt e

pub product_means : (problem input : NamedProblem) → IsNamedProblem problem → IsNamedProblem input → ProductMeans problem input (product_answer problem input)
product_means problem input is is_input = go (input_fault problem input) (product_fault problem input) refl refl
  where
    go : (f : Option InputFault) (r : Option ProductFault) → input_fault problem input ≡ f → product_fault problem input ≡ r
        → (or_input_fault input f (made_or_refused problem input r)).status ≡ Done → (T : ℕ) → SolvableGiven (unnamed problem) (unnamed input) T ↔ SolvableGiven (unnamed (named_product problem input)) (unnamed input) T
    go (Some fault) r at there done T = absurd (no_isnt done)
    go None (Some reason) at there done T = absurd (reason_not_done problem input reason done)
    go None None at there done T = as_solvable_named problem input T is (judged-none problem input is_input at) there

-- ---- the text
pub product_read : (bytes : List ℕ) (problem input : NamedProblem) (outcome : Outcome) → given_fault bytes ≡ None → problem ≡ given_problem bytes → input ≡ given_input bytes
    → outcome ≡ product_answer problem input → ProductMeans problem input outcome → IsProduct bytes outcome
unfolding product_outcome
product_read bytes problem input outcome none front back e means = record {
  answer = e ∙ (λ i. product_answer (front i) (back i)) ∙ ap (λ f. or_fault f (product_answer (given_problem bytes) (given_input bytes))) (sym none);
  means = subst (λ p. ProductMeans p (given_input bytes) outcome) front (subst (λ i. ProductMeans problem i outcome) back means);
}

pub product_wrong : (bytes : List ℕ) (fault : Fault) (outcome : Outcome) → given_fault bytes ≡ Some fault → outcome ≡ fault_outcome fault → IsProduct bytes outcome
unfolding product_outcome
product_wrong bytes fault outcome wrong e = record {
  answer = e ∙ ap (λ f. or_fault f (product_answer (given_problem bytes) (given_input bytes))) (sym wrong);
  means = λ done T. absurd (fault_not_done fault (sym (ap (λ (o : Outcome). o.status) e) ∙ done));
}
