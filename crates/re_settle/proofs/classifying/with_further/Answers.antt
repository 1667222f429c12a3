use Rattle.re_settle.proofs.Forests.{further_settled}
use Rattle.re_settle.proofs.classifying.with_further.Goals as goal

pub returns-clause-settled : goal.returns-clause-settled
returns-clause-settled c =
    further_settled c.args.times c.args.problem.now c.args.claimed c.in_ok-further.further c.names-names.ensures.problem.problem c.requires.known c.requires.above c.in_ok-further.ensures
