use Rattle.std.proofs.Common.{◌<◌, ◌∙◌, arith, sym, subst}
use Rattle.std.specs.List.{AllByRecursion}
use Rattle.re_walks.proofs.FirstEntries.{entries-low}
use Rattle.re_changes.proofs.Counted.{pushed}
use Rattle.re_check.specs.LabelsOver.{labels_over}
use Rattle.re_check.specs.RowEntries.{row_entries}
use Rattle.re_settings.proofs.Answering.{filled-with, over-at}
use Rattle.re_labels.specs.declared.TheConstants.{MAX_LABELS}
use Rattle.re_problem.specs.Steps.{SetEntry}
use Rattle.re_settings.proofs.finding.sets_for.Goals as goal

pub all_labels_over-over-requires : goal.all_labels_over-over-requires
all_labels_over-over-requires c =
    subst (AllByRecursion (λ (e : SetEntry). e.label < MAX_LABELS)) (sym (c.as_slice.ensures.value ∙ c.in_ok-entries.ensures)) (entries-low c.args.places.now c.args.labels.now c.requires.labels)

pub loop-label-preserved : goal.loop-label-preserved
loop-label-preserved c =
    pushed (labels_over (row_entries c.args.places.now c.args.labels.now)) c.loop-label.label _ c.in_ok-push.ensures.items c.loop-label.invariant
    (over-at (labels_over (row_entries c.args.places.now c.args.labels.now)) c.all_labels_over-over.result MAX_LABELS c.loop-label.label c.index-over-label.result
    (filled-with c.as_slice.result.now (row_entries c.args.places.now c.args.labels.now) MAX_LABELS c.all_labels_over-over.result c.all_labels_over-over.ensures (c.as_slice.ensures.value ∙ c.in_ok-entries.ensures))
    (omega (arith, c.loop-label-test.true, c.requires.count)))
