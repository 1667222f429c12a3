use Rattle.re_graph_words.proofs.Inputs.{early-end, refused-without}
use Rattle.re_graph_words.proofs.texts.end_fault.Goals as goal

pub returns-in-Ok : goal.returns-in-Ok
returns-in-Ok c = early-end c.args.text.now c.requires.none c.in-Ok.ensures.0

pub returns : goal.returns
returns c = refused-without c.args.text.now c.in-Err.fault c.text_fault.result c.requires.none c.in-Err.ensures c.text_fault.ensures
