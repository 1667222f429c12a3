-- What may be given to a chain in a setting, by what is said of the closure of its last problem.
use Rattle.std.proofs.Common.{◌≡◌, ◌<◌, ◌-◌, ℕ, zero, suc, Some, None, length, sym, subst, inl, inr, arith}
use Rattle.re_labels.specs.declared.TheConstants.{MAX_LABELS}
use Rattle.re_cert.specs.Bounds.{Bound}
use Rattle.re_cert.specs.declared.certificate.Kind.TheVariants.{Fixed}
use Rattle.re_shaping.specs.Stepped.{stepped, stepping_fault}
use Rattle.re_shaping.specs.declared.stepping.ChainStepFault.{ChainStepFault}
use Rattle.re_frame.specs.Outcomes.{Outcome, outcome_of}
use Rattle.re_frame.specs.declared.output.Output.{Output}
use Rattle.re_given_words.specs.Extensions.{GoesOnIn}
use Rattle.re_settings.specs.Settings.{GivesIn, text_outcome_in}
use Rattle.re_settings.specs.declared.setting.Setting.{Setting}
use Rattle.re_closure.specs.Closures.{HasRoom, IsClosed}
use Rattle.re_closure.specs.ClosureWords.{Closes, IsFound, MayFindWithin, MayStep, stop_outcome}
use Rattle.re_closure.specs.declared.going_on.Said.TheVariants.{Closed, Open}

pub found_text : (setting : Setting) (chain bound : Bound) (outcome : Outcome) → HasRoom chain → IsClosed chain bound → GoesOnIn setting Fixed 3 MAX_LABELS chain bound → outcome ≡ text_outcome_in setting bound
    → GivesIn setting bound outcome → IsFound setting chain outcome
found_text setting chain bound outcome room closed on one gives = (bound, record { one = one; gives = gives; room = room; closed = closed; goes_on = on })

module _ (setting : Setting) (chain : Bound) where
  -- all is said
  pub closed_within : (more : ℕ) (output : Output) → Closes setting chain (Closed output) → MayFindWithin more setting chain (outcome_of output)
  closed_within zero output (inl (taken, inl found)) = inl (taken, inl found)
  closed_within zero output (inl (taken, inr (inl nothing))) = absurd nothing
  closed_within zero output (inl (taken, inr (inr line))) = inl (taken, inr (inr line))
  closed_within zero output (inr declined) = inr declined
  closed_within (suc more) output (inl (taken, inl found)) = inl (taken, inl found)
  closed_within (suc more) output (inl (taken, inr (inl nothing))) = absurd nothing
  closed_within (suc more) output (inl (taken, inr (inr line))) = inl (taken, inr (inr line))
  closed_within (suc more) output (inr declined) = inr declined

  -- there is no such fixed point, and no step is left
  pub open_within : (more : ℕ) (why : Output) → more ≡ 0 → Closes setting chain (Open why) → MayFindWithin more setting chain (outcome_of why)
  open_within zero why last (taken, unfound) = inl (taken, inr (inl unfound))
  open_within (suc more) why last (taken, unfound) = absurd (omega (arith, last))

  -- something keeps the chain from a step
  pub stop_within : (more : ℕ) (why : Output) (fault : ChainStepFault) (outcome : Outcome) → 0 < more → Closes setting chain (Open why) → stepping_fault chain ≡ Some fault
      → outcome ≡ stop_outcome (suc (length chain.steps)) fault → MayFindWithin more setting chain outcome
  stop_within zero why fault outcome some unfound stops is = absurd (omega (arith, some))
  stop_within (suc more) why fault outcome some (taken, unfound) stops is =
      inl (taken, inr (inl ((outcome_of why, unfound), subst (λ f. MayStep (suc (length chain.steps)) f (MayFindWithin more setting (stepped chain)) outcome) (sym stops) is)))

  -- with one step less this may be given to the chain with a derived step more
  pub next_within : (more : ℕ) (why : Output) (next : Bound) (outcome : Outcome) → 0 < more → Closes setting chain (Open why) → stepping_fault chain ≡ None → next ≡ stepped chain
      → MayFindWithin (more - 1) setting next outcome → MayFindWithin more setting chain outcome
  next_within zero why next outcome some unfound goes is may = absurd (omega (arith, some))
  next_within (suc more) why next outcome some (taken, unfound) goes is may =
      let less : suc more - 1 ≡ more = omega arith in
      inl (
        taken,
        inr (inl (
          (outcome_of why, unfound),
          subst (λ f. MayStep (suc (length chain.steps)) f (MayFindWithin more setting (stepped chain)) outcome) (sym goes)
              (subst (λ c. MayFindWithin more setting c outcome) is (subst (λ m. MayFindWithin m setting next outcome) less may)),
        )),
      )
