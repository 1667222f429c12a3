use Rattle.std.proofs.Common.{◌∙◌, subst}
use Rattle.std.proofs.lemmas.Result.{IfOk-weaker}
use Rattle.re_describe.specs.GraphReports.{WritesGraph, graph_front_blocks}
use Rattle.re_describe.proofs.graph_reporting.graph_front.Goals as goal

pub returns : goal.returns
returns c = IfOk-weaker c.graph_markdown.result _ _
    (λ text writes. subst (λ blocks. WritesGraph c.args.problem.now c.args.graph.now blocks text.items)
    (c.as_slice.ensures.value ∙ c.in_ok-blocks.ensures ∙ (λ i. graph_front_blocks ((c.degrees.ensures.degrees i).passive))) writes)
    c.graph_markdown.ensures
