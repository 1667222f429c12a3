use Rattle.std.proofs.Common.{◌∙◌, ap}
use Rattle.std.proofs.lemmas.Result.{IfOk-weaker}
use Rattle.re_judging.proofs.GreedyLaws.{listed}
use Rattle.re_judging.specs.GreedyParts.{seen_from}
use Rattle.re_judging.specs.Turns.{Turns}
use Rattle.re_judging.proofs.greedy_parts.list_verdict.Goals as goal

pub returns : goal.returns
returns c =
    IfOk-weaker c.judge_list.result _ _
    (λ verdict is. listed c.args.turns.now c.args.problem.now c.in_ok-seen.seen c.as_slice.result.now verdict (c.in_ok-seen.ensures ∙ ap (λ (t : Turns). seen_from t.side c.args.problem.now) c.turns.view_is) (c.as_slice.ensures.value ∙ c.in_ok-list.ensures) is)
    c.judge_list.ensures
