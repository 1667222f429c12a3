-- An outcome that isn't Done.
use Rattle.std.proofs.Common.{◌≡◌, ℕ, sym, ap, ◌∙◌}
use Rattle.re_shaping.specs.declared.stepping.ChainStepFault.{ChainStepFault}
use Rattle.re_shaping.specs.declared.stepping.ChainStepFault.TheVariants as chain_step_fault
use Rattle.re_closure.specs.ClosureWords.{stop_outcome}
use Rattle.re_frame.specs.Outcomes.{Outcome}
use Rattle.re_frame.specs.declared.status.Status.TheVariants.{Done}

pub undone : {A : Type 0} (outcome given : Outcome) → outcome ≡ given → (given.status ≡ Done → ⊥) → outcome.status ≡ Done → A
undone outcome given is other finished = absurd (other (sym (ap (λ (o : Outcome). o.status) is) ∙ finished))

pub stop_undone : (number : ℕ) (fault : ChainStepFault) → (stop_outcome number fault).status ≡ Done → ⊥
stop_undone number (chain_step_fault.Limit passed) e = cc
stop_undone number chain_step_fault.TooManySteps e = cc
stop_undone number chain_step_fault.NoMemory e = cc
