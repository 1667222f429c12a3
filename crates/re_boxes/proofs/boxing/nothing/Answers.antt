use Rattle.std.proofs.Common.{◌∙◌, ◌++◌, ◌∷◌, [], ap, sym}
use Rattle.re_boxes.proofs.SetsAtPlaces.{one_more_empty}
use Rattle.re_boxes.proofs.boxing.nothing.Goals as goal

pub loop-place-preserved : goal.loop-place-preserved
loop-place-preserved c =
    c.push.ensures.items ∙ ap (λ s. c.loop-place.empty.items ++ s ∷ []) c.empty.ensures ∙ ap (λ l. l ++ [] ∷ []) c.loop-place.invariant
    ∙ sym (one_more_empty c.args.sets.now c.loop-place._place c.loop-place-test.true)
