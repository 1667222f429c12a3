use Rattle.re_graph_words.proofs.GivenParts.{no-labels-read, no-labels-wrong}
use Rattle.re_graph_words.proofs.given_texts.no_labels.Goals as goal

pub returns-in-Ok : goal.returns-in-Ok
returns-in-Ok c = no-labels-read c.args.text.now c.in-Ok.field-0 c.requires.none c.in-Ok.ensures.wanted_is

pub returns : goal.returns
returns c = no-labels-wrong c.args.text.now c.in-Err.fault c.requires.none c.in-Err.ensures
