use Rattle.std.proofs.Common.{◌*◌, ap, subst}
use Rattle.re_going_on.specs.CycleAnswers.{Answers}
use Rattle.re_settings.specs.declared.setting.Setting.TheVariants.{Alone}
use Rattle.re_settle.proofs.Known.{cycle_known}
use Rattle.re_settle.proofs.never.cycle_way.Goals as goal

pub returns-then-has : goal.returns-then-has
returns-then-has c =
    cycle_known c.args.times (300 * c.from-nodes.result) c.args.problem.now c.args.chain.now.certificate c.in-Found.certificate (ap (λ n. 300 * n) c.from-nodes.ensures) c.requires.chain
    (subst (Answers Alone 8 c.args.chain.now.certificate) c.in-Found.is c.in_ok-certificate.ensures) (c.in_ok-has.ensures.text c.if-has.true)
