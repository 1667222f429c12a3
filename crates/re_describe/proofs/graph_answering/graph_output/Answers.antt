use Rattle.std.proofs.Common.{◌∙◌, sym}
use Rattle.re_frame.specs.Outcomes.{outcome_of}
use Rattle.re_graph_words.specs.GraphInputs.{graph_input}
use Rattle.re_describe.proofs.Reported.{never_solved}
use Rattle.re_describe.proofs.graph_answering.graph_output.Goals as goal

pub graph_report-requires : goal.graph_report-requires
graph_report-requires c =
    never_solved (graph_input c.args.text.now) c.in-Ok.read (outcome_of c.in_ok-told.told) c.in-Ok.ensures.wanted_is c.in_ok-told.ensures.means (sym c.is_no.ensures ∙ c.if-is_no.true)
