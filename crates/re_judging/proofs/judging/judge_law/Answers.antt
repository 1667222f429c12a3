use Rattle.re_judging.proofs.JudgedTexts.{judged_true}
use Rattle.re_judging.proofs.judging.judge_law.Goals as goal

pub returns : goal.returns
returns c = judged_true c.not_flexible_law.ensures c.above_log_on_views_law.ensures
