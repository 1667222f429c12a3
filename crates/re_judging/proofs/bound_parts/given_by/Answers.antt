use Rattle.std.proofs.Common.{◌≡◌, ◌∙◌, ap, length, subst, sym}
use Rattle.re_chains.specs.OverChains.{or_refusal, steps_refusal}
use Rattle.re_settings.specs.InputProblems.{IsJudged, input_fault}
use Rattle.re_frame.specs.Outcomes.{Outcome, status_of}
use Rattle.re_frame.specs.declared.status.Status.TheVariants.{Done}
use Rattle.re_settings.specs.Verdicts.{given_outcome, sound_outcome}
use Rattle.re_settings.specs.declared.bound_words.BoundWord.TheVariants.{Given}
use Rattle.re_judging.proofs.PartLaws.{done_input, given_true}
use Rattle.re_judging.specs.Facts.{FactHolds}
use Rattle.re_problem.specs.NamedProblems.{NamedProblem, unnamed}
use Rattle.re_problem.specs.Problems.{IsProblem}
use Rattle.re_judging.proofs.bound_parts.given_by.Goals as goal

pub returns-in-Done-clause-means : goal.returns-in-Done-clause-means
returns-in-Done-clause-means c =
    let bound = c.args.texts.now.bound in
    let input = c.args.texts.now.problem in
    let fact = c.in_ok-given_fact-in-Done.field-0 in
    let same : bound.first ≡ c.in_ok-copy-in-Done.field-0 = sym (c.in_ok-copy-in-Done.ensures ∙ c.first-in-Done.ensures.first) in
    let is = c.over_problems.ensures.first.problem in
    let finished : (given_outcome Given input bound).status ≡ Done =
    sym (ap (λ (o : Outcome). o.status) (c.in_ok-output.ensures ∙ c.in_ok-verdict.ensures.outcome)) ∙ ap status_of c.in-Done.is in
    let judged : IsJudged bound.first input (input_fault bound.first input) =
    subst (λ (p : NamedProblem). IsJudged p input (input_fault p input)) c.first.ensures.first
    (subst (IsJudged c.first.result.now input) c.input_fault-fault.ensures.fault c.input_fault-fault.ensures.judged) in
    let means = (c.answer_law.ensures Given input bound c.names-names.ensures.problem
    (record { fits = c.kind-kind.ensures.bound; first = c.over_problems.ensures.first; next = c.over_problems.ensures.next })).holds finished in (
      subst (λ (p : NamedProblem). IsProblem (unnamed p)) same is,
      subst (λ (p : NamedProblem). FactHolds fact (unnamed p)) same
          (given_true bound.kind (length bound.steps) bound.first input fact is
          (done_input bound.first input (input_fault bound.first input) (or_refusal (steps_refusal bound) (sound_outcome Given input bound)) judged finished) means c.in_ok-given_fact-in-Done.ensures),
    )
