-- What the answer `no` means.
use Rattle.std.proofs.Common.{◌≡◌, ℕ, suc, Bool, true, false, eqb, List, length, Option, Some, None, refl, sym, ap, ◌∙◌, codes, subst}
use Rattle.std.specs.Prelude.{if◌then◌else◌, nat_lt}
use Rattle.re_problem.specs.declared.fault.InputFault.{InputFault}
use Rattle.re_problem.specs.NamedProblems.{IsNamedProblem, NamedProblem, unnamed}
use Rattle.re_problem.specs.Steps.{IsUpperStep, LowerMap, SetEntry}
use Rattle.re_cert.specs.Bounds.{Bound, last_problem}
use Rattle.re_cert.specs.declared.certificate.Kind.{Kind}
use Rattle.re_cert.specs.declared.certificate.Kind.TheVariants.{Fixed, Lower, Upper}
use Rattle.re_cert.specs.declared.certificate.TheConstants.{MAX_STEPS}
use Rattle.re_check.specs.declared.verdict.Verdict.{Verdict}
use Rattle.re_frame.proofs.Said.{fault_says}
use Rattle.re_frame.specs.Outcomes.{Outcome, limit, limit_of, refused}
use Rattle.re_frame.specs.Runs.{MaySay}
use Rattle.re_limits.specs.StepLimits.{limit_line}
use Rattle.re_frame.specs.TextFaults.{fault_outcome}
use Rattle.re_frame.specs.declared.status.Status.TheVariants.{Limit, No}
use Rattle.re_step.specs.declared.derivation.StepLimit.TheVariants.{Rows}
use Rattle.re_labels.proofs.Tests.{eqb-same, true-and}
use Rattle.re_check.specs.Clauses.{are_exchanged}
use Rattle.re_settings.proofs.GivenMeans.{verdict_isnt}
use Rattle.re_settings.specs.Fits.{fit_walk}
use Rattle.re_settings.specs.Laws.{TellsUpper, UpperWalkLaw}
use Rattle.re_given.specs.Inputs.{exchanged}
use Rattle.re_walks.specs.Walking.{Walk, cut, found, nowhere}
use Rattle.re_bridge.specs.Bridges.{Bridge, bridge_of, cut_off, has_many_rows, missing, over}
use Rattle.re_bridge.specs.Laws.{BridgeLaw, IsBridge, Meets}
use Rattle.std.proofs.lemmas.Bool.{false≢true}
use Rattle.re_chains.proofs.WordsGiven.{certificate_says}
use Rattle.re_chains.specs.OverChains.{certificate_outcome, or_refusal, steps_refusal}
use Rattle.re_bridge.specs.Bridged.{bridged}
use Rattle.re_bridge_words.specs.UpperBridged.{sets_by, upper_bridged, upper_walk}
use Rattle.re_bridge_words.specs.BridgeWords.{kind_outcome, over_bridge, over_walk, sound_outcome}
use Rattle.re_bridge_words.specs.Laws.{NoLaw, NoLonger, NoStep, NoUpperLaw}
use Rattle.re_bridge_words.specs.declared.answering.TheConstants.{MAX_TRIES}

given_isnt : (bound : Bound) → (certificate_outcome bound).status ≡ No → ⊥
given_isnt bound e = false≢true (subst (λ s. MaySay s false) e (certificate_says bound false))

limit_isnt : Limit ≡ No → ⊥
limit_isnt e = cc

no_map : (next : NamedProblem) (chain : Bound) (room many : Bool) (bridge : Bridge) → IsBridge (last_problem chain) next bridge
    → (if room then if many then limit (limit_line (suc (length chain.steps)) Rows) else over_bridge bridge next chain else limit_of MAX_STEPS (codes "steps")) ≡ refused (codes "no\n")
    → (map : LowerMap) → Meets (last_problem chain) next map → ⊥
no_map next chain true true bridge is e map meets = limit_isnt (ap (λ (o : Outcome). o.status) e)
no_map next chain true false (over other) is e map meets = given_isnt (bridged chain next other) (ap (λ (o : Outcome). o.status) e)
no_map next chain true false missing is e map meets = is map meets
no_map next chain true false cut_off is e map meets = limit_isnt (ap (λ (o : Outcome). o.status) e)
no_map next chain false many bridge is e map meets = limit_isnt (ap (λ (o : Outcome). o.status) e)

pub no_means : BridgeLaw → NoLaw
no_means law next chain last to e map meets =
    no_map next chain (nat_lt (length chain.steps) MAX_STEPS) (has_many_rows (last_problem chain) next) (bridge_of (last_problem chain) next MAX_TRIES)
    (law (last_problem chain) next MAX_TRIES last to) e map meets

-- ---- of kind upper
no_sets : (next : NamedProblem) (chain : Bound) (room : Bool) (walk : Walk) → (walk ≡ nowhere → (entries : List SetEntry) → IsUpperStep (unnamed (last_problem chain)) (unnamed next) entries → ⊥)
    → (if room then over_walk walk next chain else limit_of MAX_STEPS (codes "steps")) ≡ refused (codes "no\n") → (entries : List SetEntry) → IsUpperStep (unnamed (last_problem chain)) (unnamed next) entries → ⊥
no_sets next chain true (found labels) none e = absurd (given_isnt (upper_bridged chain next (sets_by next labels)) (ap (λ (o : Outcome). o.status) e))
no_sets next chain true nowhere none e = none refl
no_sets next chain true cut none e = absurd (limit_isnt (ap (λ (o : Outcome). o.status) e))
no_sets next chain false walk none e = absurd (limit_isnt (ap (λ (o : Outcome). o.status) e))

-- where the walk finds none, or the degrees aren't exchanged
walk_none : UpperWalkLaw → (before next : NamedProblem) (tries : ℕ) → IsNamedProblem before → IsNamedProblem next → upper_walk before next tries ≡ nowhere → (entries : List SetEntry) → IsUpperStep (unnamed before) (unnamed next) entries → ⊥
walk_none law before next tries is is_next none entries step =
    let same : are_exchanged before next ≡ true =
    true-and (eqb next.active.degree before.passive.degree) (eqb next.passive.degree before.active.degree) (ap (λ d. eqb d before.passive.degree) step.active_degree ∙ eqb-same before.passive.degree)
    (ap (λ d. eqb d before.active.degree) step.passive_degree ∙ eqb-same before.active.degree) in
    let walked : fit_walk (unnamed before) (exchanged (unnamed next)) tries ≡ nowhere = ap (λ b. if b then fit_walk (unnamed before) (exchanged (unnamed next)) tries else nowhere) (sym same) ∙ none in
    subst (TellsUpper (unnamed before) (unnamed next)) walked (law (unnamed before) (unnamed next) tries is.problem is_next.problem step.active_degree step.passive_degree) entries step

pub no_upper : UpperWalkLaw → NoUpperLaw
no_upper law next chain last to e =
    no_sets next chain (nat_lt (length chain.steps) MAX_STEPS) (upper_walk (last_problem chain) next MAX_TRIES) (walk_none law (last_problem chain) next MAX_TRIES last to) e

-- ---- what stands before
-- a fault isn't `no`
pub fault_isnt : (fault : InputFault) → fault_outcome fault ≡ refused (codes "no\n") → ⊥
fault_isnt fault e = false≢true (subst (λ s. MaySay s false) (ap (λ (o : Outcome). o.status) e) (fault_says fault false))

-- ---- over a chain
module _ (lower : NoLaw) (upper : NoUpperLaw) (next : NamedProblem) (chain : Bound) (last : IsNamedProblem (last_problem chain)) (to : IsNamedProblem next) where
  no_kind : (kind : Kind) → kind_outcome kind next chain ≡ refused (codes "no\n") → NoStep kind (last_problem chain) next
  no_kind Lower e = lower next chain last to e
  no_kind Upper e = upper next chain last to e
  no_kind Fixed e = lower next chain last to e

  no_refusal : (refusal : Option Verdict) → or_refusal refusal (kind_outcome chain.kind next chain) ≡ refused (codes "no\n") → NoLonger next chain
  no_refusal (Some verdict) e = absurd (verdict_isnt verdict e)
  no_refusal None e = no_kind chain.kind e

  pub no_longer : sound_outcome next chain ≡ refused (codes "no\n") → NoLonger next chain
  no_longer e = no_refusal (steps_refusal chain) e
