use Rattle.std.proofs.Common.{◌+◌, ◌%◌, ◌^◌, ap, ◌∙◌}
use Rattle.std.specs.List.{sum_by}
use Rattle.re_labels.proofs.Sorting.{take_all}
use Rattle.re_shaping.specs.Mixing.{mixed}
use Rattle.re_shaping.specs.Colours.{mark_of}
use Rattle.re_shaping.proofs.Coding.{summed_more}
use Rattle.re_shaping.proofs.colours.Colours.mark.Goals as goal

pub loop-colour-preserved : goal.loop-colour-preserved
loop-colour-preserved c =
    ap (λ m. (c.loop-colour.mark + m) % 2 ^ 64) c.mixed-mark.ensures
    ∙ summed_more mixed c.all-colour-items.result.now c.loop-colour.colour-index 0 c.loop-colour.mark c.loop-colour-test.true c.loop-colour.invariant

pub returns : goal.returns
unfolding mark_of
returns c =
    c.loop-colour.invariant
    ∙ ap (λ l. sum_by mixed l % 2 ^ 64) (take_all c.all-colour-items.result.now c.loop-colour.colour-index c.loop-colour-test.false ∙ c.all-colour-items.ensures.all)
