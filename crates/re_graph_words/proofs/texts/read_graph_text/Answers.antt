use Rattle.re_graph_words.proofs.Inputs.{given-with, refused-with}
use Rattle.re_graph_words.proofs.texts.read_graph_text.Goals as goal

pub returns-in-Ok : goal.returns-in-Ok
returns-in-Ok c = given-with c.args.text.now c.in-Some.cut c.in-Ok.problem c.graph_for.result c.in-Some.ensures c.in-Ok.ensures.0 c.in-Ok.ensures.1 c.graph_for.ensures

pub returns-in-Err : goal.returns-in-Err
returns-in-Err c = refused-with c.args.text.now c.in-Some.cut c.in-Err.fault c.text_fault.result c.in-Some.ensures c.in-Err.ensures c.text_fault.ensures
