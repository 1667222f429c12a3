use Rattle.std.proofs.lemmas.Result.{IfOk-weaker}
use Rattle.re_settle.proofs.GivenKnown.{beside, counted_within}
use Rattle.re_settle.proofs.counting_given.counted.Goals as goal

pub count_within-requires-clause-beside : goal.count_within-requires-clause-beside
count_within-requires-clause-beside c =
    beside c.args.problem.now c.args.input.now c.in_ok-texts.texts.problem c.in_ok-texts.texts.input c.in_ok-texts.ensures.problem c.in_ok-texts.ensures.input c.requires.input

pub returns : goal.returns
returns c =
    IfOk-weaker c.count_within.result _ _
    (counted_within c.args.problem.now c.args.input.now c.in_ok-texts.texts.problem c.in_ok-texts.texts.input c.in_ok-texts.ensures.problem c.in_ok-texts.ensures.input c.args.most)
    c.count_within.ensures.counted
