use Rattle.re_words.proofs.Said.{making_says}
use Rattle.re_frame.proofs.Said.{said}
use Rattle.std.proofs.lemmas.Result.{IfOk-weaker}
use Rattle.re_words.proofs.making.make.Goals as goal

pub returns-clause-says : goal.returns-clause-says
returns-clause-says c = IfOk-weaker c.making_output.result _ _ (λ output e. said output _ _ e (making_says c.args.making)) c.making_output.ensures
