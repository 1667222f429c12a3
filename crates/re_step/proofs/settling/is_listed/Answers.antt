use Rattle.std.proofs.Common.{◌≡◌, ◌∙◌, [], ap, sym, refl, subst}
use Rattle.std.specs.Prelude.{Contains}
use Rattle.std.proofs.lemmas.Bool.{false≢true}
use Rattle.re_labels.specs.Rows.{row_cmp}
use Rattle.re_boxes.proofs.EqualRows.{equal_rows, equal_seen, equal_when, row_cmp-same}
use Rattle.re_boxes.proofs.Walks.{all_walked, always, never, one_more}
use Rattle.re_step.proofs.settling.is_listed.Goals as goal
use Rattle.re_step.proofs.settling.is_listed.Goals.{then-end_alike+else-eq, else-end_alike}
use Rattle.re_labels.specs.declared.TheConstants.{MAX_LABELS}

pub returns-then-eq : goal.returns-then-eq
returns-then-eq c =
    let row = c.args.row.now in
    let other = c.other-item.result in
    let same : row ≡ other = equal_rows MAX_LABELS row other c.sets-sets.ensures.row.sets c.sets-others.ensures.row.sets (sym c.row_order.ensures ∙ equal_when c.row_order.result (sym c.eq.ensures ∙ c.if-eq.true)) in
    always (subst (Contains c.args.rows.now) (sym same) (c.loop-other.other-index, c.loop-other-test.true, sym c.other-item.is))

pub loop-other-preserved : goal.loop-other-preserved
loop-other-preserved c =
    let row = c.args.row.now in
    let other = c.other-item.result in
    let differs : row ≡ other → ⊥ =
    elim c.if-end_alike.branch [
      | then-end_alike+else-eq w ↦ λ same. false≢true (sym w.if-eq.false ∙ w.eq.ensures ∙ equal_seen w.row_order.result (w.row_order.ensures ∙ ap (row_cmp row) (sym same) ∙ row_cmp-same row))
      | else-end_alike w ↦ λ same. false≢true (sym w.if-end_alike.false ∙ c.end_alike.ensures same)
    ] in
    one_more [] (λ r. row ≡ r → ⊥) c.args.rows.now c.loop-other.other-index other c.loop-other-test.true c.other-item.is c.loop-other.invariant differs

pub returns : goal.returns
returns c = never (λ held. all_walked [] (λ r. c.args.row.now ≡ r → ⊥) c.args.rows.now c.loop-other.other-index c.loop-other-test.false c.loop-other.invariant c.args.row.now held refl)
