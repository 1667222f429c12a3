use Rattle.re_graph_words.proofs.GivenParts.{labelled-as, labelled-wrong}
use Rattle.re_graph_words.proofs.given_texts.read_labelled.Goals as goal

pub returns-in-Ok : goal.returns-in-Ok
returns-in-Ok c = labelled-as c.args.text.now c.in-Some.cut c.in-Ok.given c.labelled_for.result c.in-Some.ensures c.in-Ok.ensures.wanted_is c.labelled_for.ensures

pub returns-in-Err : goal.returns-in-Err
returns-in-Err c = labelled-wrong c.args.text.now c.in-Some.cut c.in-Err.fault c.before_line.result c.in-Some.ensures c.in-Err.ensures c.before_line.ensures
