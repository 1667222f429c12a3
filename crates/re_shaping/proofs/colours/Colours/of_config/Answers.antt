use Rattle.std.proofs.Common.{◌+◌, ◌<◌, ◌%◌, ◌^◌, ap, arith, ◌∙◌}
use Rattle.std.specs.List.{sum_by}
use Rattle.re_labels.proofs.Sorting.{take_all}
use Rattle.re_shaping.specs.Mixing.{mixed}
use Rattle.re_shaping.specs.Colours.{colour_at, config_number}
use Rattle.re_shaping.proofs.Coding.{wrapped_first, wrapped_more}
use Rattle.re_shaping.proofs.colours.Colours.of_config.Goals as goal

pub loop-label-init : goal.loop-label-init
loop-label-init c = let fits : c.args.side < 2 ^ 64 = omega arith in wrapped_first c.args.side fits

pub loop-label-preserved : goal.loop-label-preserved
loop-label-preserved c =
    ap (λ m. (c.loop-label.sum + m) % 2 ^ 64) (c.mixed-sum.ensures ∙ ap mixed c.of.ensures)
    ∙ wrapped_more (λ label. mixed (colour_at c.args.self.now label)) c.args.side c.labels-label-items.result.now c.loop-label.label-index 0 c.loop-label.sum c.loop-label-test.true c.loop-label.invariant

pub returns : goal.returns
unfolding config_number
returns c =
    c.mixed.ensures
    ∙ ap mixed (c.loop-label.invariant
    ∙ ap (λ l. (c.args.side + sum_by (λ label. mixed (colour_at c.args.self.now label)) l) % 2 ^ 64) (take_all c.labels-label-items.result.now c.loop-label.label-index c.loop-label-test.false ∙ c.labels-label-items.ensures.labels))
