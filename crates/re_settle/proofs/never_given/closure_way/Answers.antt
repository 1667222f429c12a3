use Rattle.std.proofs.Common.{subst}
use Rattle.re_closure.specs.Closures.{Answers}
use Rattle.re_settle.proofs.GivenKnown.{closure_known}
use Rattle.re_settle.proofs.never_given.closure_way.Goals as goal

pub returns-then-closes : goal.returns-then-closes
returns-then-closes c =
    let found = subst (Answers c.args.chain.now.certificate) c.in-Ok-Found.field-0-is c.in-Ok-Found.ensures.answers in
    closure_known c.args.times c.args.problem.now c.args.input.now c.args.chain.now.certificate c.in-Ok-Found.certificate c.names-names.ensures.problem c.requires.chain found.2
    (c.in_ok-closes-in-Ok-Found.ensures.text c.if-closes.true) (c.in_ok-closes-in-Ok-Found.ensures.taken c.if-closes.true) (c.in_ok-closes-in-Ok-Found.ensures.both c.if-closes.true)
