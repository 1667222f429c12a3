use Rattle.re_settle.proofs.Known.{lower_known}
use Rattle.re_settle.proofs.bounds.lower_way.Goals as goal

pub returns-then-has : goal.returns-then-has
returns-then-has c =
    lower_known c.args.times c.args.problem.now c.args.steps c.count_of.result c.in-Ok-Found.field-0 c.in-Ok-Found.certificate c.in-Ok-Found.field-0-is c.requires
    c.in-Ok-Found.ensures.answer c.in-Ok-Found.ensures.means (c.in_ok-has-in-Ok-Found.ensures.text c.if-has.true) c.count_of.ensures
