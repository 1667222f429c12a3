use Rattle.re_settle.proofs.Local.{nothing_further}
use Rattle.re_settle.proofs.classifying.beside.Goals as goal

pub returns-in_default : goal.returns-in_default
returns-in_default c = nothing_further c.args.times c.args.problem.now c.args.settled c.requires.found
