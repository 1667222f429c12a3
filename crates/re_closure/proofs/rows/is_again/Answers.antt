use Rattle.std.proofs.Common.{◌≡◌, ◌<◌, ◌-◌, [], sym, ◌∙◌, arith}
use Rattle.std.proofs.lemmas.List.{get_or_default}
use Rattle.re_labels.specs.declared.TheConstants.{MAX_LABELS}
use Rattle.re_boxes.proofs.EqualRows.{equal_rows, equal_when}
use Rattle.re_closure.proofs.rows.is_again.Goals as goal

pub returns-clause-again : goal.returns-clause-again
returns-clause-again c = λ told.
    let some : 0 < c.args.place = (let n = c.if-place-eq0.false in omega (arith, n)) in
    let low : c.args.place - 1 < _ = omega (arith, some, c.requires) in
    let before = c.index-rows-place.result in
    let row = c.index-rows-place-2.result in
    let same : before ≡ row = equal_rows MAX_LABELS before row c.sets-before.ensures.row.sets c.sets-row.ensures.row.sets (sym c.order.ensures ∙ equal_when c.order.result (sym c.eq.ensures ∙ told)) in
    (some, get_or_default c.args.rows.now (c.args.place - 1) [] before low ∙ sym c.index-rows-place.is ∙ same ∙ c.index-rows-place-2.is ∙ sym (get_or_default c.args.rows.now c.args.place [] row c.requires))
