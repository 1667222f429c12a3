use Rattle.std.proofs.Common.{◌∙◌, ap}
use Rattle.re_graph_words.specs.GraphLines.{end_cut}
use Rattle.re_graph_words.proofs.ends.read_end.Goals as goal

pub returns-in-None : goal.returns-in-None
returns-in-None c = ap (end_cut c.args.word.now) c.in-None.ensures.place

pub returns-in-Some : goal.returns-in-Some
returns-in-Some c = c.cut_end.ensures ∙ ap (end_cut c.args.word.now) c.in-Some.ensures.place
