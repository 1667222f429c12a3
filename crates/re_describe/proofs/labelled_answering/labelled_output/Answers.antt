use Rattle.std.proofs.Common.{◌∙◌, ap, sym}
use Rattle.re_frame.specs.Outcomes.{outcome_of}
use Rattle.re_graph_words.specs.GivenInputs.{labelled_input}
use Rattle.re_describe.proofs.Reported.{never_given}
use Rattle.re_describe.specs.DescribeWords.{told_no}
use Rattle.re_describe.proofs.labelled_answering.labelled_output.Goals as goal

pub labelled_report-requires : goal.labelled_report-requires
labelled_report-requires c =
    never_given (labelled_input c.args.text.now) (record { given = c.in-Ok.read.given; labels = c.in-Ok.read.labels.items }) (outcome_of c.in_ok-told.told) c.in-Ok.ensures.wanted_is c.in_ok-told.ensures.answer c.in_ok-told.ensures.means
    (ap (λ labels. told_no (record { given = c.in-Ok.read.given; labels = labels })) (sym c.as_slice-labels.ensures.value) ∙ (sym c.told_no.ensures ∙ c.if-told_no.true))
