use Rattle.re_settings.specs.declared.texts.GivenTexts.{GivenTexts}
use Rattle.re_settings.proofs.GivenCuts.{both_read, front_wrong, input_wrong}
use Rattle.re_settings.proofs.texts.read_given.Goals as goal

pub returns-in-Err : goal.returns-in-Err
returns-in-Err c = front_wrong c.args.text.now c.in-Some.cut c.in-Some.ensures c.in-Err.fault c.in-Err.ensures

pub returns-in-Ok-read_problem_at : goal.returns-in-Ok-read_problem_at
returns-in-Ok-read_problem_at c =
    let texts : GivenTexts = record { problem = c.in-Ok.problem; input = c.in-Ok-read_problem_at.input } in
    both_read c.args.text.now c.in-Some.cut c.in-Some.ensures texts c.in-Ok.ensures.0 c.in-Ok.ensures.1 c.in-Ok-read_problem_at.ensures.0 c.in-Ok-read_problem_at.ensures.1

pub returns-in-Err-read_problem_at : goal.returns-in-Err-read_problem_at
returns-in-Err-read_problem_at c = input_wrong c.args.text.now c.in-Some.cut c.in-Some.ensures c.in-Err-read_problem_at.fault c.in-Ok.ensures.0 c.in-Err-read_problem_at.ensures
