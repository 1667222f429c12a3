use Rattle.re_settle.proofs.Forests.{levels_settled, one_level_settled}
use Rattle.re_settle.proofs.classifying.levelled.Goals as goal

pub returns-then-count-eq1 : goal.returns-then-count-eq1
returns-then-count-eq1 c =
    one_level_settled c.not_flexible_law.ensures c.above_log_on_views_law.ensures c.args.times c.args.problem.now c.args.count c.names-names.ensures.problem.problem c.requires c.length_of-length.result c.if-count-eq1.true c.length_of-length.ensures

pub returns-else-count-eq1 : goal.returns-else-count-eq1
returns-else-count-eq1 c =
    levels_settled c.not_flexible_law.ensures c.above_log_on_views_law.ensures c.args.times c.args.problem.now c.args.count c.names-names.ensures.problem.problem c.requires c.length_of-length.result c.if-count-eq1.false c.length_of-length.ensures
