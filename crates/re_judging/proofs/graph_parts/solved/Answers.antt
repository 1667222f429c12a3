use Rattle.std.proofs.Common.{◌++◌, ◌∙◌, ap, subst}
use Rattle.std.proofs.lemmas.Result.{IfOk-weaker}
use Rattle.re_frame.specs.Outcomes.{outcome_of}
use Rattle.re_graph_words.specs.GraphWords.{MayGive}
use Rattle.re_graph_words.specs.SolveWords.{IsSolved}
use Rattle.re_judging.proofs.graph_parts.solved.Goals as goal

pub returns : goal.returns
unfolding MayGive
returns c =
    IfOk-weaker c.find.result _ _
    (λ output may. subst (λ bytes. IsSolved bytes (outcome_of output)) (c.in_ok-extend_from_slice.ensures.items ∙ ap (λ bytes. bytes ++ c.args.text.now) c.new-copy.ensures.items) may)
    c.find.ensures.output
