-- What may be given to a text with a named input problem behind it, by its first fault.
use Rattle.std.proofs.Common.{◌≡◌, ℕ, Bool, true, false, List, Option, Some, None, sym, subst, ap, ◌∙◌}
use Rattle.re_chains.proofs.WordsGiven.{fault_not_done}
use Rattle.re_frame.specs.Answers.{MayAnswer}
use Rattle.re_frame.specs.declared.status.Status.TheVariants.{Done, No}
use Rattle.re_problem.specs.NamedProblems.{NamedProblem}
use Rattle.re_frame.specs.Outcomes.{Outcome}
use Rattle.re_frame.specs.TextFaults.{fault_outcome}
use Rattle.re_inputs.specs.NamedInputs.{fits}
use Rattle.re_problem.specs.declared.fault.InputFault.{InputFault}
use Rattle.re_asking.specs.Beside.{MayGiveBeside, MayGiveIn, MayGiveRead, first_problem, front_fault, input_named, text_beside}
use Rattle.re_asking.specs.declared.beside.FrontText.{FrontText}
use Rattle.re_asking.specs.declared.beside_words.NamedInput.{NamedInput}

module _ (may : List ℕ → Outcome → Type 0) (front : FrontText) (input : NamedInput) (bytes : List ℕ) (outcome : Outcome) where
  pub none_wrong : front_fault front bytes ≡ None
      → MayGiveIn (fits input.kind (first_problem front bytes).active.degree (first_problem front bytes).passive.degree input.number) may input (first_problem front bytes) bytes outcome
      → MayGiveBeside may front input bytes outcome
  unfolding MayGiveBeside
  none_wrong none given = subst (λ fault. MayGiveRead fault may input (first_problem front bytes) bytes outcome) (sym none) given

  pub one_wrong : (fault : InputFault) → front_fault front bytes ≡ Some fault → outcome ≡ fault_outcome fault → MayGiveBeside may front input bytes outcome
  unfolding MayGiveBeside
  one_wrong fault some line = subst (λ fault. MayGiveRead fault may input (first_problem front bytes) bytes outcome) (sym some) line

  -- by Done the word gave it to the longer text, which isn't too long
  in_done : (problem : NamedProblem) (b : Bool) → MayGiveIn b may input problem bytes outcome → outcome.status ≡ Done → MayAnswer may (text_beside (input_named input problem) bytes) outcome
  in_done problem true given finished = given
  in_done problem false given finished = absurd (let wrong : No ≡ Done = sym (ap (λ (o : Outcome). o.status) given) ∙ finished in cc)

  read_done : (fault : Option InputFault) (problem : NamedProblem) → MayGiveRead fault may input problem bytes outcome → outcome.status ≡ Done
      → MayAnswer may (text_beside (input_named input problem) bytes) outcome
  read_done (Some fault) problem line finished = absurd (fault_not_done fault (sym (ap (λ (o : Outcome). o.status) line) ∙ finished))
  read_done None problem given finished = in_done problem (fits input.kind problem.active.degree problem.passive.degree input.number) given finished

  pub done_beside : MayGiveBeside may front input bytes outcome → outcome.status ≡ Done → MayAnswer may (text_beside (input_named input (first_problem front bytes)) bytes) outcome
  unfolding MayGiveBeside
  done_beside given finished = read_done (front_fault front bytes) (first_problem front bytes) given finished
