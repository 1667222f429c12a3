use Rattle.std.proofs.Common.{◌≡◌, ◌<◌, ◌∙◌, ◌+◌, ap, arith, length, subst, sym}
use Rattle.std.specs.Prelude.{Contains}
use Rattle.re_greedy.proofs.Searches.{added_more, added_same}
use Rattle.re_greedy.proofs.finding.add_parts.Goals as goal
use Rattle.re_greedy.proofs.finding.add_parts.Goals.{then-not-has_member+else-len-ge-MAX_MULTISETS+in_ok-push, else-not-has_member}
use Rattle.re_greedy.specs.Partials.{AreAdded}

pub loop-place-preserved : goal.loop-place-preserved
loop-place-preserved c =
    let count : length c.labels-place-end.result.now ≡ length c.args.labels.now = ap length c.labels-place-end.ensures.labels in
    let inside : c.loop-place.place < length c.args.labels.now = omega (arith, count, c.loop-place-test.true) in
    elim c.if-not-has_member.branch [
      | then-not-has_member+else-len-ge-MAX_MULTISETS+in_ok-push w ↦
          added_more c.args.degree c.args.all.now.items c.args.labels.now c.loop-place.place c.loop-place.all.items c.loop-place.invariant inside c.without-part.result c.if-not-has_member.all.items
          c.without-part.ensures c.requires.few ((λ i. (w.all-is i).items) ∙ w.in_ok-push.ensures.items)
      | else-not-has_member w ↦ (
          let there : Contains c.loop-place.all.items c.without-part.result =
          subst (λ xs. Contains xs c.without-part.result) c.as_slice.ensures.value (subst (Contains c.as_slice.result.now) c.labels.ensures.labels (c.has_member.ensures.0 w.if-not-has_member.false)) in
          subst (AreAdded c.args.degree c.args.all.now.items c.args.labels.now (c.loop-place.place + 1)) (sym (λ i. (w.all-is i).items))
          (added_same c.args.degree c.args.all.now.items c.args.labels.now c.loop-place.place c.loop-place.all.items c.loop-place.invariant inside
          (subst (Contains c.loop-place.all.items) c.without-part.ensures there))
          )
    ]
