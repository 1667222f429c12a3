use Rattle.std.proofs.lemmas.Result.{IfOk-weaker}
use Rattle.re_settle.proofs.GivenKnown.{beside, told_once}
use Rattle.re_settle.proofs.counting_given.counted_at_once.Goals as goal

pub count-requires-clause-beside : goal.count-requires-clause-beside
count-requires-clause-beside c =
    beside c.args.problem.now c.args.input.now c.in_ok-texts.texts.problem c.in_ok-texts.texts.input c.in_ok-texts.ensures.problem c.in_ok-texts.ensures.input c.requires

pub returns : goal.returns
returns c =
    IfOk-weaker c.count.result _ _ (told_once c.args.problem.now c.args.input.now c.in_ok-texts.texts.problem c.in_ok-texts.texts.input c.in_ok-texts.ensures.problem c.in_ok-texts.ensures.input)
    c.count.ensures.told
