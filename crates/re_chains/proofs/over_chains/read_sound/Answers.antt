use Rattle.std.proofs.Common.{subst}
use Rattle.std.proofs.lemmas.Result.{IfOk-weaker}
use Rattle.re_chains.proofs.WordsGiven.{answered_any, judged_read}
use Rattle.re_chains.specs.OverChains.{ReadsAny}
use Rattle.re_chains.proofs.over_chains.read_sound.Goals as goal

pub returns-in-Steps : goal.returns-in-Steps
returns-in-Steps c =
    let read_as = subst (ReadsAny c.args.text.now) c.in-Steps.is c.in_ok-chain.ensures in
    IfOk-weaker c.judged.result _ _ (λ read is. judged_read c.args.text.now c.in-Steps.chain read read_as.0 read_as.1 is) c.judged.ensures

pub returns-in-Answered : goal.returns-in-Answered
returns-in-Answered c = answered_any c.args.text.now c.in-Answered.output (subst (ReadsAny c.args.text.now) c.in-Answered.is c.in_ok-chain.ensures)
