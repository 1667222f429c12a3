-- What isn't taken in a setting isn't answered with Done.
use Rattle.std.proofs.Common.{◌≡◌, ℕ, Bool, true, false, length, refl, sym, ap, ◌∙◌, Option, Some, None}
use Rattle.std.specs.Prelude.{option_map}
use Rattle.re_cert.specs.Bounds.{Bound}
use Rattle.re_cert.specs.declared.certificate.Kind.{Kind}
use Rattle.re_cert.specs.declared.certificate.Kind.TheVariants.{Fixed, Lower, Upper}
use Rattle.re_chains.specs.OverChains.{or_refusal, refusal_of}
use Rattle.re_check.specs.Verdicts.{meets_back, steps_fault}
use Rattle.re_check.specs.declared.verdict.ClauseFault.{ClauseFault}
use Rattle.re_closure.specs.ClosureWords.{IsDeclined}
use Rattle.re_settings.specs.InputProblems.{input_fault}
use Rattle.re_settings.specs.declared.inputs.InputFault.{InputFault}
use Rattle.re_frame.specs.Outcomes.{Outcome}
use Rattle.re_frame.specs.declared.status.Status.TheVariants.{Done}
use Rattle.re_settings.specs.Taken.{IsTaken}
use Rattle.re_settings.specs.InputFaults.{or_input_fault}
use Rattle.re_settings.specs.Settings.{IsFaultIn, IsRefusalIn, IsTakenIn}
use Rattle.re_settings.specs.Verdicts.{accepted, end_number, end_outcome, fixed_with, given_outcome, lower_with, or_back, upper_with}
use Rattle.re_settings.specs.Walks.{walk_at}
use Rattle.re_settings.specs.declared.setting.Setting.{Setting}
use Rattle.re_settings.specs.declared.setting.Setting.TheVariants as settings
use Rattle.re_settings.specs.declared.bound_words.BoundWord.TheVariants.{Given}
use Rattle.re_problem.specs.NamedProblems.{NamedProblem}
use Rattle.re_walks.specs.Walking.{Walk, cut, found, nowhere}
use Rattle.re_explore.proofs.Undone.{undone}

module _ (input : NamedProblem) (bound : Bound) where
  lower_done : (w : Walk) → (lower_with input bound w).status ≡ Done → lower_with input bound w ≡ accepted bound
  lower_done nowhere says = refl
  lower_done (found labels) says = absurd (cc)
  lower_done cut says = absurd (cc)

  upper_done : (w : Walk) → (upper_with bound w).status ≡ Done → upper_with bound w ≡ accepted bound
  upper_done (found labels) says = refl
  upper_done nowhere says = absurd (cc)
  upper_done cut says = absurd (cc)

  back_done : (b : Bool) → (or_back b bound).status ≡ Done → or_back b bound ≡ accepted bound
  back_done true says = refl
  back_done false says = absurd (cc)

  fixed_done : (number : ℕ) (w : Walk) → (fixed_with input bound number w).status ≡ Done → fixed_with input bound number w ≡ accepted bound
  fixed_done number nowhere says = back_done (meets_back bound) says
  fixed_done number (found labels) says = absurd (cc)
  fixed_done number cut says = absurd (cc)

  end_done : (kind : Kind) → (end_outcome kind input bound).status ≡ Done → end_outcome kind input bound ≡ accepted bound
  end_done Lower says = lower_done (walk_at input bound (length bound.steps)) says
  end_done Upper says = upper_done (walk_at input bound (length bound.steps)) says
  end_done Fixed says = fixed_done (end_number input bound (length bound.steps)) (walk_at input bound (end_number input bound (length bound.steps))) says

  all_done : (fault : Option InputFault) (step : Option ClauseFault) → (or_input_fault input fault (or_refusal (option_map refusal_of step) (end_outcome bound.kind input bound))).status ≡ Done
      → or_input_fault input fault (or_refusal (option_map refusal_of step) (end_outcome bound.kind input bound)) ≡ accepted bound
  all_done (Some fault) step says = absurd (cc)
  all_done None (Some clause) says = absurd (cc)
  all_done None None says = end_done bound.kind says

  pub done_taken : (outcome : Outcome) → outcome ≡ given_outcome Given input bound → outcome.status ≡ Done → IsTaken input bound
  done_taken outcome is says = all_done (input_fault bound.first input) (steps_fault bound.first 1 bound.steps) (sym (ap (λ (o : Outcome). o.status) is) ∙ says)

-- ---- in a setting
pub refusal_undone : {A : Type 0} (setting : Setting) (chain : Bound) (outcome : Outcome) → (IsTakenIn setting chain → ⊥) → IsRefusalIn setting chain outcome → outcome.status ≡ Done → A
refusal_undone settings.Alone chain outcome not_taken (place, zero, is) finished = undone outcome _ is (λ e. cc) finished
refusal_undone (settings.Given input) chain outcome not_taken is finished = absurd (not_taken (done_taken input chain outcome is finished))

pub fault_undone : {A : Type 0} (problem : NamedProblem) (setting : Setting) (outcome : Outcome) → IsFaultIn problem setting outcome → outcome.status ≡ Done → A
fault_undone problem settings.Alone outcome wrong finished = absurd wrong
fault_undone problem (settings.Given input) outcome (fault, came, is) finished = undone outcome _ is (λ e. cc) finished

pub declined_undone : {A : Type 0} (setting : Setting) (bound : Bound) (outcome : Outcome) → IsDeclined setting bound outcome → outcome.status ≡ Done → A
declined_undone settings.Alone bound outcome wrong finished = absurd wrong
declined_undone (settings.Given input) bound outcome (not_taken, is) finished = absurd (not_taken (done_taken input bound outcome is finished))
