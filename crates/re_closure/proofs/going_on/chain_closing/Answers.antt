use Rattle.std.proofs.Common.{inr, subst}
use Rattle.re_settings.specs.Settings.{RefusesIn}
use Rattle.re_closure.proofs.going_on.chain_closing.Goals as goal

pub returns-in-Some : goal.returns-in-Some
returns-in-Some c = inr (subst (RefusesIn c.args.setting.now c.args.chain.now.certificate) c.in-Some.is c.in_ok-output.ensures)

pub closing_output-requires : goal.closing_output-requires
closing_output-requires c = subst (RefusesIn c.args.setting.now c.args.chain.now.certificate) c.in-None.is c.in_ok-output.ensures
