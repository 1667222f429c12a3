use Rattle.std.proofs.Common.{◌≡◌, ◌+◌, ◌<◌, ◌%◌, ◌^◌, ap, arith, ◌∙◌, cond, eqb, get_or}
use Rattle.re_labels.proofs.Sorting.{take_all}
use Rattle.re_shaping.specs.Colours.{times_in}
use Rattle.re_shaping.proofs.Coding.{single_other, single_same, wrapped_first, wrapped_more}
use Rattle.re_shaping.proofs.marks.moved_mark.Goals.{else-other-label, then-other-label}
use Rattle.re_shaping.proofs.marks.moved_mark.Goals as goal

pub loop-other-init : goal.loop-other-init
loop-other-init c = let fits : c.args.mark < 2 ^ 64 = omega arith in wrapped_first c.args.mark fits

pub loop-other-preserved : goal.loop-other-preserved
loop-other-preserved c =
    let other = get_or c.labels-other-items.result.now c.loop-other.other-index 0 in
    let grows : c.if-other-label.grows ≡ cond (eqb other c.args.label) c.args.change 0 = elim c.if-other-label.branch [
      | then-other-label w ↦ w.grows-is ∙ single_same other c.args.label c.args.change w.if-other-label.true
      | else-other-label w ↦ w.grows-is ∙ single_other other c.args.label c.args.change w.if-other-label.false
    ] in
    ap (λ m. (c.loop-other.moved + m) % 2 ^ 64) grows
    ∙ wrapped_more (λ label. cond (eqb label c.args.label) c.args.change 0) c.args.mark c.labels-other-items.result.now c.loop-other.other-index 0 c.loop-other.moved c.loop-other-test.true c.loop-other.invariant

pub returns : goal.returns
returns c =
    c.loop-other.invariant
    ∙ ap (λ l. (c.args.mark + times_in l c.args.label c.args.change) % 2 ^ 64) (take_all c.labels-other-items.result.now c.loop-other.other-index c.loop-other-test.false ∙ c.labels-other-items.ensures.labels)
