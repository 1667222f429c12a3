use Rattle.std.proofs.Common.{subst}
use Rattle.re_relaxed.specs.Answers.{Answers}
use Rattle.re_settle.proofs.Known.{relaxed_known}
use Rattle.re_settle.proofs.never.relaxed_way.Goals as goal

pub returns-then-has : goal.returns-then-has
returns-then-has c =
    relaxed_known c.args.times c.args.nodes c.args.problem.now c.args.chain.now.certificate c.in-Found.certificate c.requires.tried c.requires.chain
    (subst (Answers c.args.chain.now.certificate) c.in-Found.is c.in_ok-certificate.ensures) (c.in_ok-has.ensures.text c.if-has.true)
