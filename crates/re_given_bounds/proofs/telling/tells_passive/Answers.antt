use Rattle.re_given_bounds.proofs.Sides.{tells_even, tells_odd}
use Rattle.re_problem.specs.NamedProblems.{unnamed}
use Rattle.re_given_bounds.proofs.telling.tells_passive.Goals as goal

pub returns-then-times-eq0 : goal.returns-then-times-eq0
returns-then-times-eq0 c = tells_even c.args.times (unnamed c.args.problem.now) c.passive.result.now c.tells_config.result c.if-times-eq0.true c.passive.ensures.passive c.tells_config.ensures

pub returns-else-times-eq0 : goal.returns-else-times-eq0
returns-else-times-eq0 c =
    tells_odd c.args.times (unnamed c.args.problem.now) c.active.result.now c.tells_config-else-times-eq0.result c.if-times-eq0.false c.active.ensures.active c.tells_config-else-times-eq0.ensures
