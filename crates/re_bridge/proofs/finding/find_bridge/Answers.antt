use Rattle.std.proofs.lemmas.Result.{IfOk-weaker}
use Rattle.re_bridge.proofs.Bridging.{answered}
use Rattle.re_bridge.proofs.finding.find_bridge.Goals as goal

pub returns-clause-answer : goal.returns-clause-answer
returns-clause-answer c =
    IfOk-weaker c.bridge_parts.result _ _ (λ parts f. answered c.args.before.now c.args.next.now c.args.tries parts c.names-before.ensures.problem c.names-next.ensures.problem f) c.bridge_parts.ensures.found
