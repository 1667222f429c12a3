use Rattle.std.proofs.Common.{◌+◌, ◌%◌, ◌^◌, ap, ◌∙◌}
use Rattle.std.specs.List.{sum_by}
use Rattle.re_labels.proofs.Sorting.{take_all}
use Rattle.re_shaping.specs.Marks.{config_mark, label_mark}
use Rattle.re_shaping.proofs.Coding.{summed_more}
use Rattle.re_shaping.proofs.marks.config_mark.Goals as goal

pub loop-label-preserved : goal.loop-label-preserved
loop-label-preserved c =
    ap (λ m. (c.loop-label.mark + m) % 2 ^ 64) c.label_mark-mark.ensures
    ∙ summed_more label_mark c.labels-label-items.result.now c.loop-label.label-index 0 c.loop-label.mark c.loop-label-test.true c.loop-label.invariant

pub returns : goal.returns
unfolding config_mark
returns c =
    c.loop-label.invariant
    ∙ ap (λ l. sum_by label_mark l % 2 ^ 64) (take_all c.labels-label-items.result.now c.loop-label.label-index c.loop-label-test.false ∙ c.labels-label-items.ensures.labels)
