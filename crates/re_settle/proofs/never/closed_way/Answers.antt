use Rattle.std.proofs.Common.{subst}
use Rattle.re_closure.specs.Closures.{Answers}
use Rattle.re_settle.proofs.Known.{merge_known}
use Rattle.re_settle.proofs.never.closed_way.Goals as goal

pub returns-then-has : goal.returns-then-has
returns-then-has c =
    let found = subst (Answers c.args.relaxed.now.certificate) c.in-Ok-Found.field-0-is c.in-Ok-Found.ensures.answers in
    merge_known c.args.times c.args.problem.now c.args.relaxed.now.certificate c.in-Ok-Found.certificate c.args.from c.args.to c.requires.relaxed c.requires.may c.requires.within c.requires.text found.2 (c.in_ok-has-in-Ok-Found.ensures.text c.if-has.true)
