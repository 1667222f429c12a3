use Rattle.std.proofs.Common.{◌∙◌, subst}
use Rattle.std.proofs.lemmas.Result.{IfOk-weaker}
use Rattle.re_describe.specs.LabelledReports.{WritesLabelled, labelled_front_blocks}
use Rattle.re_describe.proofs.labelled_reporting.labelled_front.Goals as goal

pub returns : goal.returns
returns c = IfOk-weaker c.labelled_markdown.result _ _
    (λ text writes. subst (λ blocks. WritesLabelled (record { given = c.args.given.now; labels = c.args.labels.now }) blocks text.items)
    (c.as_slice.ensures.value ∙ c.in_ok-blocks.ensures ∙ (λ i. labelled_front_blocks ((c.degrees.ensures.degrees i).passive))) writes)
    c.labelled_markdown.ensures
