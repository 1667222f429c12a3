use Rattle.std.proofs.lemmas.Result.{IfOk-weaker}
use Rattle.re_frame.specs.Outcomes.{outcome_of}
use Rattle.re_judging.proofs.JudgedTexts.{judging_says}
use Rattle.re_judging.proofs.judging.JudgeFinding.find.Goals as goal

pub returns-clause-says : goal.returns-clause-says
returns-clause-says c = IfOk-weaker c.judge.result _ _ (λ output may. judging_says _ (outcome_of output) may) c.judge.ensures
