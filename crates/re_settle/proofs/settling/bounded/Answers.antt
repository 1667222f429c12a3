use Rattle.re_settle.proofs.Together.{bounds_settled}
use Rattle.re_settle.proofs.settling.bounded.Goals as goal

pub returns : goal.returns
returns c =
    bounds_settled c.args.times c.args.problem.now c.in_ok-best.best c.in_ok-upper.upper c.names-names.ensures.problem.problem c.requires.uncounted c.requires.unfixed c.requires.unclosed c.in_ok-best.ensures c.in_ok-upper.ensures
