use Rattle.std.proofs.Common.{refl, ◌∙◌}
use Rattle.re_cert.specs.Bounds.{last_problem}
use Rattle.re_bridge.proofs.MoreSteps.{upper-form}
use Rattle.re_bridge_words.proofs.UpperSteps.{held-chain, held-fits, held-meets}
use Rattle.re_bridge_words.proofs.upper.over.Goals as goal

pub appended-requires-clause-fits : goal.appended-requires-clause-fits
appended-requires-clause-fits c = held-fits (last_problem c.args.chain.now.certificate) c.in_ok-next.next c.args.next.now c.in_ok-map.map.items c.args.sets.now c.in_ok-next.ensures c.in_ok-map.ensures c.requires.leads

pub appended-requires-clause-meets : goal.appended-requires-clause-meets
appended-requires-clause-meets c = held-meets (last_problem c.args.chain.now.certificate) c.in_ok-next.next c.args.next.now c.in_ok-map.map.items c.args.sets.now c.upper_step_law.ensures c.in_ok-next.ensures c.in_ok-map.ensures c.requires.leads

pub appended-requires-clause-form : goal.appended-requires-clause-form
appended-requires-clause-form c = upper-form c.args.chain.now.certificate _ c.kind-kind.ensures.bound c.args.chain.now.chain.upper refl

pub returns-clause-chain : goal.returns-clause-chain
returns-clause-chain c =
    c.in_ok-longer.ensures.chain ∙ held-chain c.args.chain.now.certificate c.in_ok-next.next c.args.next.now c.in_ok-map.map.items c.args.sets.now c.in_ok-next.ensures c.in_ok-map.ensures
