use Rattle.re_graph_words.proofs.GivenParts.{no-graph-read, no-graph-wrong}
use Rattle.re_graph_words.proofs.given_texts.no_graph.Goals as goal

pub returns-in-Ok : goal.returns-in-Ok
returns-in-Ok c = no-graph-read c.args.text.now c.requires.none c.in-Ok.ensures.0

pub returns : goal.returns
returns c = no-graph-wrong c.args.text.now c.in-Err.fault c.text_fault.result c.requires.none c.in-Err.ensures c.text_fault.ensures
