use Rattle.re_settle.proofs.Forests.{flexible_settled}
use Rattle.re_settle.proofs.Local.{nothing_further}
use Rattle.re_settle.specs.declared.types.Further.TheVariants.{Nothing}
use Rattle.re_settle.proofs.classifying.flexible.Goals as goal

pub returns : goal.returns
returns c =
    flexible_settled c.args.times c.args.problem.now c.in_ok-settled.settled Nothing c.most_of-most.result c.args.set c.names-names.ensures.problem.problem c.requires.flexibility
    c.in_ok-settled.ensures (nothing_further c.args.times c.args.problem.now c.in_ok-settled.settled c.in_ok-settled.ensures) c.most_of-most.ensures
