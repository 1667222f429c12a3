use Rattle.std.proofs.Common.{subst}
use Rattle.std.proofs.lemmas.Result.{IfOk-weaker}
use Rattle.re_bridge.specs.Bridged.{IsBridged}
use Rattle.re_bridge_words.specs.declared.answering.TheConstants.{MAX_TRIES}
use Rattle.re_bridge_words.proofs.answering.found_output.Goals as goal

pub returns-in-Ok-Some-clause-text : goal.returns-in-Ok-Some-clause-text
returns-in-Ok-Some-clause-text c =
    IfOk-weaker c.certificate_output.result _ _
    (λ output gives finished. (c.in-Ok-Some.longer, gives finished, subst (IsBridged c.args.chain.now.certificate c.args.to.now MAX_TRIES) c.in-Ok-Some.field-0-is c.in-Ok-Some.ensures.bridged)) c.certificate_output.ensures.text
