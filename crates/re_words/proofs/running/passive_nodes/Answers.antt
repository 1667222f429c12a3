use Rattle.re_net.specs.RunReading.{text_of}
use Rattle.re_words.proofs.RunningLemmas.{passive_nodes_get}
use Rattle.re_words.proofs.running.passive_nodes.Goals as goal

pub returns : goal.returns
returns c = λ steps accepted. passive_nodes_get (text_of c.args.input.now) (c.upper_steps.ensures steps accepted) c.len-nodes.ensures.tree c.requires.numbered c.requires.degrees
