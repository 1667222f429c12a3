use Rattle.re_problem.specs.ProblemTexts.{lines_of}
use Rattle.re_graph_words.proofs.GivenParts.{front-right, front-wrong}
use Rattle.re_graph_words.proofs.given_texts.given_for.Goals as goal

pub returns-in-Ok : goal.returns-in-Ok
returns-in-Ok c = front-right c.args.front.now c.args.number (lines_of c.args.text.now) c.in-Ok.texts c.graph_behind.result c.in-Ok.ensures c.graph_behind.ensures

pub returns-in-Err : goal.returns-in-Err
returns-in-Err c = front-wrong c.args.front.now c.args.number (lines_of c.args.text.now) c.in-Err.fault c.text_fault.result c.before_line.result c.in-Err.ensures c.text_fault.ensures c.before_line.ensures
