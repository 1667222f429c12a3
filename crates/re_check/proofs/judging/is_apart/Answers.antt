use Rattle.std.proofs.Common.{◌≡◌, ◌∙◌, [], ap, sym}
use Rattle.std.proofs.lemmas.Bool.{false≢true}
use Rattle.re_labels.proofs.Placing.{Dominates-dominates, dominates-Dominates}
use Rattle.re_labels.specs.Rows.{Dominates, row_cmp}
use Rattle.re_boxes.proofs.EqualRows.{equal_from, equal_rows, equal_told, row_cmp-same}
use Rattle.re_boxes.proofs.Walks.{all_walked, always, never, one_more}
use Rattle.re_check.proofs.judging.is_apart.Goals as goal
use Rattle.re_check.proofs.judging.is_apart.Goals.{else-dominates-via-then-dominates+else-ne, else-dominates-via-else-dominates}

pub returns-then-ne : goal.returns-then-ne
returns-then-ne c = never (λ apart.
    let row = c.args.row.now in
    let other = c.other-item.result in
    let same : row ≡ other =
    apart other (c.loop-other.other-index, c.loop-other-test.true, sym c.other-item.is) (dominates-Dominates row other (sym c.dominates.ensures ∙ c.if-dominates.true)) in
    false≢true (sym (equal_told c.row_order.result (c.row_order.ensures ∙ ap (row_cmp row) (sym same) ∙ row_cmp-same row)) ∙ sym c.ne.ensures ∙ c.if-ne.true))

pub loop-other-preserved : goal.loop-other-preserved
loop-other-preserved c =
    let row = c.args.row.now in
    let other = c.other-item.result in
    one_more [] (λ r. Dominates row r → row ≡ r) c.args.rows.now c.loop-other.other-index other c.loop-other-test.true c.other-item.is c.loop-other.invariant
    (elim c.else-dominates.branch [
      | else-dominates-via-then-dominates+else-ne w ↦ λ dom.
          equal_rows 128 row other c.sets-sets.ensures.row.sets c.sets-others.ensures.row.sets (sym w.row_order.ensures ∙ equal_from w.row_order.result (sym w.ne.ensures ∙ w.if-ne.false))
      | else-dominates-via-else-dominates w ↦ λ dom. absurd (false≢true (sym w.if-dominates.false ∙ c.dominates.ensures ∙ Dominates-dominates row other dom))
    ])

pub returns : goal.returns
returns c = always (λ other held. all_walked [] (λ r. Dominates c.args.row.now r → c.args.row.now ≡ r) c.args.rows.now c.loop-other.other-index c.loop-other-test.false c.loop-other.invariant other held)
