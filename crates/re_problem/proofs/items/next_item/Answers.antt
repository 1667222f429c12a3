use Rattle.std.proofs.Common.{None, Some}
use Rattle.re_problem.proofs.ItemShapes.{step_read}
use Rattle.re_problem.proofs.items.next_item.Goals as goal

pub returns-in-None : goal.returns-in-None
returns-in-None c = step_read c.args.line.now c.args.at c.skip_blanks-from.result c.word_end-to.result c.skip_blanks-from.ensures.place c.word_end-to.ensures.word
    c.word_end-to.ensures.from c.word_end-to.ensures.within c.if-from-to.false None c.in-None.ensures

pub returns-in-Some : goal.returns-in-Some
returns-in-Some c = step_read c.args.line.now c.args.at c.skip_blanks-from.result c.word_end-to.result c.skip_blanks-from.ensures.place c.word_end-to.ensures.word
    c.word_end-to.ensures.from c.word_end-to.ensures.within c.if-from-to.false (Some c.in-Some.shape) c.in-Some.ensures
