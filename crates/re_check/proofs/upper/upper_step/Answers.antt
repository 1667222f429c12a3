use Rattle.std.proofs.Common.{subst}
use Rattle.re_check.proofs.UpperSteps.{upper_steps}
use Rattle.re_check.specs.ClauseLaws.{HaveSets}
use Rattle.re_check.proofs.upper.upper_step.Goals as goal

pub returns : goal.returns
returns c = upper_steps c.args.before.now c.args.step.now (subst HaveSets c.entries.ensures c.have_sets.ensures)
