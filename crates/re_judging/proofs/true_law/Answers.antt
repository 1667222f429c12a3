use Rattle.re_judging.proofs.FactLaws.{all_true}
use Rattle.re_judging.proofs.true_law.Goals as goal

pub returns : goal.returns
returns c = all_true c.not_flexible_law.ensures
