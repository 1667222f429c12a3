use Rattle.re_frame.specs.Outcomes.{outcome_of}
use Rattle.re_graph_words.specs.GivenInputs.{labelled_input}
use Rattle.re_graph_words.specs.GivenReading.{labelled_with}
use Rattle.re_judging.proofs.PartLaws.{labelled_never}
use Rattle.re_judging.proofs.graph_parts.labelled_part.Goals as goal

pub on_graph-requires : goal.on_graph-requires
on_graph-requires c = λ none T solvable.
    labelled_never (labelled_input c.args.text.now) (labelled_with c.in-Ok.field-0) (outcome_of c.args.output) c.input_fault-fault.result c.in-Ok.ensures.wanted_is c.requires.means c.requires.answer
    c.input_fault-fault.ensures.fault c.input_fault-fault.ensures.judged none T solvable
