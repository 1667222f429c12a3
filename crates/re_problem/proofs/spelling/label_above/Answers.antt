use Rattle.std.proofs.Common.{◌+◌, subst, sym}
use Rattle.re_problem.specs.Walks.{IsNext}
use Rattle.re_problem.proofs.Walks.{after_next}
use Rattle.re_problem.proofs.spelling.label_above.Goals as goal

pub returns : goal.returns
returns c = subst (IsNext c.args.set (c.args.label + 1)) (sym c.after.ensures) (after_next c.args.set c.args.label c.count-count.ensures.set)
