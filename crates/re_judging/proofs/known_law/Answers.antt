use Rattle.re_judging.proofs.FactLaws.{with_holds}
use Rattle.re_judging.proofs.known_law.Goals as goal

pub returns : goal.returns
returns c = with_holds c.not_flexible_law.ensures c.above_log_on_views_law.ensures
