use Rattle.std.proofs.Common.{◌∙◌, subst, sym}
use Rattle.std.proofs.lemmas.Result.{IfOk-weaker}
use Rattle.re_frame.specs.Outcomes.{outcome_of}
use Rattle.re_graph_words.specs.GraphWords.{MayCoverBy}
use Rattle.re_graph_words.proofs.answering.cover_text_output.Goals as goal

pub returns-then-has_line : goal.returns-then-has_line
returns-then-has_line c =
    IfOk-weaker c.given_cover_output.result _ _ (λ output may. subst (λ b. MayCoverBy b c.args.most c.args.text.now (outcome_of output)) (sym (sym c.has_line.ensures ∙ c.if-has_line.true)) may) c.given_cover_output.ensures

pub returns-else-has_line : goal.returns-else-has_line
returns-else-has_line c =
    IfOk-weaker c.problem_text_output.result _ _ (λ output may. subst (λ b. MayCoverBy b c.args.most c.args.text.now (outcome_of output)) (sym (sym c.has_line.ensures ∙ c.if-has_line.false)) may) c.problem_text_output.ensures
