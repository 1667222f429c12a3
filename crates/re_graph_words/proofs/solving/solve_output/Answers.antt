use Rattle.std.proofs.Common.{◌∙◌, sym}
use Rattle.re_frame.specs.Outcomes.{outcome_of}
use Rattle.re_graph_words.proofs.Answered.{both-ok, solved-alone, solved-given}
use Rattle.re_graph_words.proofs.solving.solve_output.Goals as goal

pub returns-then-has_line : goal.returns-then-has_line
returns-then-has_line c =
    both-ok c.given_output.result _ _ _ (λ output e means. solved-given c.args.text.now (outcome_of output) (sym c.has_line.ensures ∙ c.if-has_line.true) e means) c.given_output.ensures.answer c.given_output.ensures.means

pub returns-else-has_line : goal.returns-else-has_line
returns-else-has_line c =
    both-ok c.graph_output.result _ _ _ (λ output e means. solved-alone c.args.text.now (outcome_of output) (sym c.has_line.ensures ∙ c.if-has_line.false) e means) c.graph_output.ensures.answer c.graph_output.ensures.means
