use Rattle.std.proofs.Common.{ℕ, ◌+◌, ◌<◌, ◌%◌, ◌^◌, ap, arith, ◌∙◌, refl, length, get_or}
use Rattle.std.proofs.Math.ListN.{length-set}
use Rattle.re_labels.proofs.Sorting.{take_all}
use Rattle.re_shaping.specs.Colours.{times_in}
use Rattle.re_shaping.proofs.Coding.{config_stays, config_step, none_more}
use Rattle.re_shaping.proofs.colours.add_config.Goals as goal

pub loop-label-init : goal.loop-label-init
loop-label-init c = λ k below. none_more (get_or c.args.sums.now k 0)

pub loop-label-preserved : goal.loop-label-preserved
loop-label-preserved c = λ k below.
    let inside : k < length c.loop-label.sums = omega (arith, length-set {A = ℕ}) in
    config_step c.loop-label.sums c.args.sums.now c.labels-label-items.result.now c.loop-label.label-index (get_or c.labels-label-items.result.now c.loop-label.label-index 0) c.args.number k
    c.loop-label-test.true refl c.if-place-sums.false (c.loop-label.invariant k inside)

pub loop-label-preserved-then-place-sums : goal.loop-label-preserved-then-place-sums
loop-label-preserved-then-place-sums c = λ k below.
    config_stays c.args.sums.now c.labels-label-items.result.now c.loop-label.label-index (get_or c.labels-label-items.result.now c.loop-label.label-index 0) c.args.number k (get_or c.loop-label.sums k 0)
    c.loop-label-test.true refl (λ same. omega (arith, c.if-place-sums.true)) (c.loop-label.invariant k below)

pub returns : goal.returns
returns c = λ i below.
    c.loop-label.invariant i below
    ∙ ap (λ l. (get_or c.args.sums.now i 0 + times_in l i c.args.number) % 2 ^ 64) (take_all c.labels-label-items.result.now c.loop-label.label-index c.loop-label-test.false ∙ c.labels-label-items.ensures.labels)
