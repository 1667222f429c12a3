-- What the words `fit` and `given` may answer.
use Rattle.std.proofs.Common.{ℕ, Bool, true, false, List, length, codes, Option, Some, None, refl}
use Rattle.re_problem.specs.NamedProblems.{NamedProblem}
use Rattle.re_cert.specs.Bounds.{Bound}
use Rattle.re_cert.specs.declared.certificate.Kind.{Kind}
use Rattle.re_cert.specs.declared.certificate.Kind.TheVariants.{Fixed, Lower, Upper}
use Rattle.re_chains.proofs.WordsGiven.{or_fault_says}
use Rattle.re_chains.specs.OverChains.{or_refusal, steps_refusal}
use Rattle.re_check.specs.Verdicts.{meets_back}
use Rattle.re_settings.specs.InputProblems.{input_fault}
use Rattle.re_settings.specs.declared.inputs.InputFault.{InputFault}
use Rattle.re_check.specs.declared.verdict.Verdict.{Verdict}
use Rattle.re_frame.proofs.Said.{check_says}
use Rattle.re_frame.specs.Outcomes.{Outcome}
use Rattle.re_frame.specs.Runs.{MaySay}
use Rattle.re_chains.specs.TwoTexts.{back_problem, front_bound, two_fault}
use Rattle.re_walks.specs.Walking.{Walk, cut, found, nowhere}
use Rattle.re_settings.specs.InputFaults.{or_input_fault}
use Rattle.re_settings.specs.Verdicts.{bound_outcome, end_number, end_outcome, fit_with, fixed_with, given_outcome, lower_with, or_back, sound_outcome, upper_with}
use Rattle.re_settings.specs.Walks.{walk_at}
use Rattle.re_settings.specs.declared.bound_words.BoundWord.{BoundWord}
use Rattle.re_settings.specs.declared.bound_words.BoundWord.TheVariants.{Fit, Given}

-- ---- `fit` and `given`
fit_says : (input : NamedProblem) (bound : Bound) (w : Walk) → MaySay (fit_with input bound w).status true
fit_says input bound (found labels) = tt
fit_says input bound nowhere = refl
fit_says input bound cut = tt

lower_says : (input : NamedProblem) (bound : Bound) (w : Walk) → MaySay (lower_with input bound w).status true
lower_says input bound (found labels) = refl
lower_says input bound nowhere = tt
lower_says input bound cut = tt

upper_says : (bound : Bound) (w : Walk) → MaySay (upper_with bound w).status true
upper_says bound (found labels) = tt
upper_says bound nowhere = refl
upper_says bound cut = tt

back_says : (b : Bool) (bound : Bound) → MaySay (or_back b bound).status true
back_says true bound = tt
back_says false bound = refl

fixed_says : (input : NamedProblem) (bound : Bound) (number : ℕ) (w : Walk) → MaySay (fixed_with input bound number w).status true
fixed_says input bound number (found labels) = refl
fixed_says input bound number nowhere = back_says (meets_back bound) bound
fixed_says input bound number cut = tt

end_says : (kind : Kind) (input : NamedProblem) (bound : Bound) → MaySay (end_outcome kind input bound).status true
end_says Lower input bound = lower_says input bound (walk_at input bound (length bound.steps))
end_says Upper input bound = upper_says bound (walk_at input bound (length bound.steps))
end_says Fixed input bound = fixed_says input bound (end_number input bound (length bound.steps)) (walk_at input bound (end_number input bound (length bound.steps)))

sound_says : (word : BoundWord) (input : NamedProblem) (bound : Bound) → MaySay (sound_outcome word input bound).status true
sound_says Fit input bound = fit_says input bound (walk_at input bound (length bound.steps))
sound_says Given input bound = end_says bound.kind input bound

refusal_says : (refusal : Option Verdict) (outcome : Outcome) → MaySay outcome.status true → MaySay (or_refusal refusal outcome).status true
refusal_says (Some verdict) outcome says = check_says verdict
refusal_says None outcome says = says

pub input_says : (input : NamedProblem) (fault : Option InputFault) (outcome : Outcome) → MaySay outcome.status true → MaySay (or_input_fault input fault outcome).status true
input_says input (Some fault) outcome says = refl
input_says input None outcome says = says

pub given_says : (word : BoundWord) (input : NamedProblem) (bound : Bound) → MaySay (given_outcome word input bound).status true
given_says word input bound =
    input_says input (input_fault bound.first input) (or_refusal (steps_refusal bound) (sound_outcome word input bound)) (refusal_says (steps_refusal bound) (sound_outcome word input bound) (sound_says word input bound))

pub bound_says : (word : BoundWord) (bytes : List ℕ) → MaySay (bound_outcome word bytes).status true
unfolding bound_outcome
bound_says word bytes =
    or_fault_says (two_fault (codes "given") bytes) (given_outcome word (back_problem (codes "given") bytes) (front_bound (codes "given") bytes)) true
    (given_says word (back_problem (codes "given") bytes) (front_bound (codes "given") bytes))
