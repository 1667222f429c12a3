use Rattle.std.proofs.Common.{◌∙◌}
use Rattle.std.proofs.lemmas.Result.{IfOk-weaker}
use Rattle.re_bridge.proofs.MoreSteps.{rows-fits, rows-formed, rows-given, sets-chain, sets-form}
use Rattle.re_bridge.proofs.appending.with_step.Goals as goal

pub appended-requires-clause-fits : goal.appended-requires-clause-fits
appended-requires-clause-fits c = (rows-fits c.args.chain.now.certificate c.in_ok-rows.rows c.args.step c.in_ok-step.step c.in_ok-rows.ensures.written c.in_ok-step.ensures c.requires.fits c.requires.meets).0

pub appended-requires-clause-meets : goal.appended-requires-clause-meets
appended-requires-clause-meets c = (rows-fits c.args.chain.now.certificate c.in_ok-rows.rows c.args.step c.in_ok-step.step c.in_ok-rows.ensures.written c.in_ok-step.ensures c.requires.fits c.requires.meets).1

pub appended-requires-clause-form : goal.appended-requires-clause-form
appended-requires-clause-form c = rows-formed c.args.chain.now.certificate c.in_ok-rows.rows c.args.step c.in_ok-step.step c.in_ok-rows.ensures.written c.in_ok-step.ensures c.kind-kind.ensures.bound c.args.chain.now.chain.lower c.requires.fits

pub returns-then-has_row_maps-clause-chain : goal.returns-then-has_row_maps-clause-chain
returns-then-has_row_maps-clause-chain c =
    IfOk-weaker c.appended.result _ _ (λ longer e. e ∙ rows-given c.args.chain.now.certificate c.in_ok-rows.rows c.args.step c.in_ok-step.step c.has_row_maps.result c.in_ok-rows.ensures.written c.in_ok-step.ensures c.has_row_maps.ensures c.if-has_row_maps.true) c.appended.ensures.chain

pub appended-requires-2-clause-form : goal.appended-requires-2-clause-form
appended-requires-2-clause-form c = sets-form c.args.chain.now.certificate.steps c.args.step c.has_row_maps.result c.has_row_maps.ensures c.if-has_row_maps.false

pub returns-clause-chain : goal.returns-clause-chain
returns-clause-chain c = IfOk-weaker c.appended-2.result _ _ (λ longer e. e ∙ sets-chain c.args.chain.now.certificate c.args.step c.has_row_maps.result c.has_row_maps.ensures c.if-has_row_maps.false) c.appended-2.ensures.chain
