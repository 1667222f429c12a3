use Rattle.std.proofs.Common.{◌<◌, ◌∙◌, [], get_or, length, sym, subst, inl, inr, arith}
use Rattle.re_labels.proofs.RowCalls.{read_within}
use Rattle.re_labels.specs.Rows.{set_at}
use Rattle.re_labels.proofs.Sets.{has-IsIn}
use Rattle.re_labels.specs.Sets.{IsIn}
use Rattle.re_labels.proofs.Tests.{same_or_not}
use Rattle.re_boxes.proofs.choosing.only_place.Goals as goal
use Rattle.re_boxes.proofs.choosing.only_place.Goals.{then-not-has+else-only-must, else-not-has}

pub loop-place-preserved : goal.loop-place-preserved
loop-place-preserved c i b ne =
    let place = c.loop-place.place in
    let inside : place < length c.args.must.now = (let h = c.loop-place-test.true in omega (arith, h)) in
    elim c.if-not-has.branch [
      | then-not-has+else-only-must w ↦ elim (same_or_not i place) [
        | inl same ↦ absurd (ne (same ∙ sym w.only-is))
        | inr apart ↦ c.loop-place.invariant i (omega (arith, b, apart)) (λ q. let past = w.if-only-must.false in absurd (omega (arith, b, inside, past, q)))
      ]
      | else-not-has w ↦ elim (same_or_not i place) [
        | inl same ↦
            subst (λ j. IsIn (get_or c.args.choice.now j 0) (set_at c.args.must.now j)) (sym same)
            (subst (IsIn (get_or c.args.choice.now place 0)) (c.index-must-place.is ∙ read_within c.args.must.now place c.index-must-place.result [] inside)
            (has-IsIn c.index-must-place.result (get_or c.args.choice.now place 0) (sym c.has.ensures ∙ w.if-not-has.false)))
        | inr apart ↦ c.loop-place.invariant i (omega (arith, b, apart)) (λ q. ne (q ∙ sym w.only-is))
      ]
    ]
