use Rattle.std.proofs.Common.{◌≡◌, ◌∙◌, ap, sym, subst, arith}
use Rattle.std.specs.Prelude.{IsSome, IsTrue, ◌↔◌}
use Rattle.re_labels.proofs.set_row.Row.combine.Goals as goal
use Rattle.re_labels.proofs.Placing.{length-combined, length-placed}
use Rattle.re_labels.proofs.RowCalls.{row_of-some}
use Rattle.re_labels.specs.Rows.{combined, is_full, placed, row_of}
use Rattle.re_labels.specs.declared.TheConstants.{MAX_LABELS}

pub returns-clause-some : goal.returns-clause-some
returns-clause-some c =
    let moved = placed c.args.other.now c.args.placement.now in
    let both = combined c.args.place c.args.self.now moved in
    let n = length-combined c.args.place c.args.self.now moved (length-placed c.args.other.now c.args.placement.now ∙ c.requires.orders) in
    let same : c.from_sets.result ≡ row_of MAX_LABELS both = (c.from_sets.ensures ∙ ap (row_of MAX_LABELS) (c.as_slice.ensures.value ∙ c.combined_sets-sets.ensures ∙ (λ i. combined c.args.place (c.sets.ensures.sets i) (placed (c.sets-2.ensures.sets i) (c.places.ensures.places i))))) in
    subst (λ o. IsSome o ↔ IsTrue (is_full both)) (sym same) (row_of-some MAX_LABELS both (omega (arith, c.sets.ensures.two)) (omega (arith, c.sets.ensures.six)))
