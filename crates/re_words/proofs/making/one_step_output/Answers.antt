use Rattle.std.proofs.Common.{◌≡◌, None, ap, sym, ◌∙◌}
use Rattle.std.proofs.lemmas.Result.{IfOk-weaker}
use Rattle.re_cert.specs.Bounds.{Bound, last_problem}
use Rattle.re_check.specs.Verdicts.{verdict_of}
use Rattle.re_problem.specs.NamedProblems.{NamedProblem, unnamed}
use Rattle.re_search.specs.OneStep.{one_step_bound}
use Rattle.re_step.specs.Derivations.{named_derived, step_limit}
use Rattle.re_frame.specs.Check.{verdict_outcome}
use Rattle.re_words.specs.Making.{behind, one_step_outcome, sizes_text}
use Rattle.re_frame.specs.Outcomes.{Outcome, outcome_of}
use Rattle.re_limits.specs.StepLimits.{or_limit}
use Rattle.re_words.proofs.making.one_step_output.Goals as goal

-- the certificate is that of the one step, whose last problem is the derived one
made : (problem : NamedProblem) (bound : Bound) (outcome : Outcome) → bound ≡ one_step_bound problem → step_limit (unnamed problem) ≡ None
    → outcome ≡ behind (sizes_text (last_problem bound)) (verdict_outcome (verdict_of bound)) → outcome ≡ one_step_outcome problem
unfolding one_step_outcome
made problem bound outcome is none e =
    e ∙ ap (λ (b : Bound). behind (sizes_text (last_problem b)) (verdict_outcome (verdict_of b))) is
    ∙ ap (λ o. or_limit 1 o (behind (sizes_text (named_derived (unnamed problem))) (verdict_outcome (verdict_of (one_step_bound problem))))) (sym none)

pub returns-in-Ok : goal.returns-in-Ok
returns-in-Ok c = IfOk-weaker c.judged.result _ _
    (λ output e. made c.args.problem.now c.in-Ok.certificate (outcome_of output) c.in-Ok.ensures.certificate c.in-Ok.ensures.none e) c.judged.ensures
