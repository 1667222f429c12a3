use Rattle.std.proofs.Common.{rules, ◌≡◌, ◌+◌, ◌*◌, ◌≤◌, arith, length, subst, sym, ap, ◌∙◌}
use Rattle.re_labels.specs.Orders.{factorial}
use Rattle.re_closure.specs.Combining.{AreAllOf}
use Rattle.re_closure.specs.Kept.{combinations_of}
use Rattle.re_closure.proofs.Combinations.{AreAllPlaces, places_again, places_all, places_step}
use Rattle.re_closure.proofs.combining.combinations.Goals.{then-not-is_again+in_ok-push_against, else-not-is_again}
use Rattle.re_closure.proofs.combining.combinations.Goals as goal

pub loop-place-preserved : goal.loop-place-preserved
loop-place-preserved c = elim c.if-not-is_again.branch [
  | then-not-is_again+in_ok-push_against w ↦ record {
    all = subst (λ f. AreAllPlaces c.sets-sets.result.now c.sets-others.result.now (c.loop-place.place + 1) f.items) (sym w.found-is)
        (places_step c.sets-sets.result.now c.sets-others.result.now c.loop-place.place c.loop-place-test.true c.loop-place.found.items w.push_against.new.found.items c.loop-place.invariant.all w.in_ok-push_against.ensures.all);
    few = subst (λ f. length f.items ≤ (c.loop-place.place + 1) * factorial (length c.sets-sets.result.now)) (sym w.found-is)
        (let h = c.loop-place.invariant.few in let k = w.in_ok-push_against.ensures.few in omega (arith, h, k));
  }
  | else-not-is_again w ↦ record {
    all = subst (λ f. AreAllPlaces c.sets-sets.result.now c.sets-others.result.now (c.loop-place.place + 1) f.items) (sym w.found-is)
        (places_again c.sets-sets.result.now c.sets-others.result.now c.loop-place.place c.loop-place-test.true c.loop-place.found.items (c.is_again.ensures.again (search (w.if-not-is_again, rules))) c.loop-place.invariant.all);
    few = subst (λ f. length f.items ≤ (c.loop-place.place + 1) * factorial (length c.sets-sets.result.now)) (sym w.found-is)
        (let h = c.loop-place.invariant.few in omega (arith, h));
  }
]

pub returns-clause-few : goal.returns-clause-few
returns-clause-few c =
    let at : c.loop-place.place ≡ length c.sets-sets.result.now = omega arith in
    subst (λ l. length c.loop-place.found.items ≤ combinations_of (length l)) c.sets-sets.ensures.sets
    (subst (λ n. length c.loop-place.found.items ≤ n * factorial (length c.sets-sets.result.now)) at c.loop-place.invariant.few)

pub returns-clause-all : goal.returns-clause-all
returns-clause-all c =
    let alike : length c.sets-others.result.now ≡ length c.sets-sets.result.now = ap length c.sets-others.ensures.sets ∙ c.requires ∙ sym (ap length c.sets-sets.ensures.sets) in
    subst (λ l. AreAllOf l c.args.other.now c.loop-place.found.items) c.sets-sets.ensures.sets
    (subst (λ o. AreAllOf c.sets-sets.result.now o c.loop-place.found.items) c.sets-others.ensures.sets
    (places_all c.sets-sets.result.now c.sets-others.result.now c.loop-place.place c.loop-place.found.items alike c.loop-place-test.false c.loop-place.invariant.all))
