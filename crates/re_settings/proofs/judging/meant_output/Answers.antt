use Rattle.std.proofs.Common.{subst, sym}
use Rattle.std.proofs.lemmas.Result.{IfOk-weaker}
use Rattle.re_frame.specs.Outcomes.{Outcome}
use Rattle.re_bounds.specs.GivenBounds.{IsOver}
use Rattle.re_settings.proofs.GivenMeans.{answer_means}
use Rattle.re_settings.specs.Meanings.{AnswerMeans}
use Rattle.re_settings.proofs.judging.meant_output.Goals as goal

pub returns-clause-means : goal.returns-clause-means
returns-clause-means c =
    let over : IsOver c.args.texts.now.bound = record { fits = c.kind-kind.ensures.bound; first = c.over_problems.ensures.first; next = c.over_problems.ensures.next } in
    IfOk-weaker c.given_output.result _ _ (λ output e. subst (λ (o : Outcome). AnswerMeans c.args.word c.args.texts.now.problem c.args.texts.now.bound o) (sym e) (answer_means c.args.texts.now.problem c.args.texts.now.bound c.names-names.ensures.problem over c.args.word)) c.given_output.ensures
