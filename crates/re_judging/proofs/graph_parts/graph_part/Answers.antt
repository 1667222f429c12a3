use Rattle.std.proofs.Common.{◌∙◌, ap, sym}
use Rattle.re_graph_words.specs.SolveWords.{outcome_by, solve_outcome}
use Rattle.re_judging.proofs.graph_parts.graph_part.Goals as goal

pub labelled_part-requires-clause-answer : goal.labelled_part-requires-clause-answer
unfolding solve_outcome
labelled_part-requires-clause-answer c = c.in_ok-output.ensures.answer ∙ ap (λ given. outcome_by given c.args.text.now) (sym c.has_line.ensures ∙ c.if-has_line.true)
