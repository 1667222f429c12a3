use Rattle.re_frame.specs.Outcomes.{outcome_of}
use Rattle.re_graph_words.specs.GraphInputs.{graph_input}
use Rattle.re_judging.proofs.PartLaws.{plain_never}
use Rattle.re_judging.proofs.graph_parts.plain_part.Goals as goal

pub on_graph-requires : goal.on_graph-requires
on_graph-requires c = λ none T solvable. plain_never (graph_input c.args.text.now) c.in-Ok.field-0 (outcome_of c.args.output) _ c.in-Ok.ensures.wanted_is c.requires.means none T solvable
