use Rattle.std.proofs.lemmas.Result.{IfOk-weaker}
use Rattle.re_explore.proofs.Joining.{goes_further}
use Rattle.re_explore.proofs.evidence.with_found.Goals as goal

pub returns-clause-goes_on : goal.returns-clause-goes_on
returns-clause-goes_on c =
    IfOk-weaker c.with_further.result _ _
    (λ longer more. goes_further c.args.problem.now c.args.text.items c.in_ok-text.text.items longer.items c.in_ok-text.ensures.goes_on more) c.with_further.ensures.goes_on
