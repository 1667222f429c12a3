use Rattle.std.proofs.Common.{rules, ◌≡◌, ◌+◌, ◌-◌, ◌*◌, ◌<◌, ◌≤◌, arith, length, subst, sym}
use Rattle.re_labels.specs.Orders.{factorial}
use Rattle.re_closure.specs.Combining.{AreAllBefore}
use Rattle.re_closure.proofs.Combinations.{before_again, before_step}
use Rattle.re_closure.proofs.Counting.{factorial_split, grown_more, grown_still}
use Rattle.re_closure.proofs.combining.push_against.Goals.{then-not-is_again+in_ok-push_at, else-not-is_again}
use Rattle.re_closure.proofs.combining.push_against.Goals as goal

pub loop-against-preserved : goal.loop-against-preserved
loop-against-preserved c = elim c.if-not-is_again.branch [
  | then-not-is_again+in_ok-push_at w ↦ record {
    all = subst (λ f. AreAllBefore c.args.sets.now c.args.others.now c.args.place (c.loop-against.against + 1) c.args.found.now.items f.items) (sym w.found-is)
        (before_step c.args.sets.now c.args.others.now c.args.place c.loop-against.against c.args.found.now.items c.loop-against-test.true c.loop-against.found.items w.push_at.new.found.items c.loop-against.invariant.all w.in_ok-push_at.ensures.all);
    few = subst (λ f. length f.items ≤ length c.args.found.now.items + (c.loop-against.against + 1) * factorial (length c.args.sets.now - 1)) (sym w.found-is)
        (grown_more (length c.args.found.now.items) (length c.loop-against.found.items) (length w.push_at.new.found.items) c.loop-against.against (factorial (length c.args.sets.now - 1)) c.loop-against.invariant.few
        w.in_ok-push_at.ensures.few);
  }
  | else-not-is_again w ↦ record {
    all = subst (λ f. AreAllBefore c.args.sets.now c.args.others.now c.args.place (c.loop-against.against + 1) c.args.found.now.items f.items) (sym w.found-is)
        (before_again c.args.sets.now c.args.others.now c.args.place c.loop-against.against c.args.found.now.items c.loop-against-test.true c.loop-against.found.items (c.is_again.ensures.again (search (w.if-not-is_again, rules))) c.loop-against.invariant.all);
    few = subst (λ f. length f.items ≤ length c.args.found.now.items + (c.loop-against.against + 1) * factorial (length c.args.sets.now - 1)) (sym w.found-is)
        (grown_still (length c.args.found.now.items) (length c.loop-against.found.items) c.loop-against.against (factorial (length c.args.sets.now - 1)) c.loop-against.invariant.few);
  }
]

pub returns-clause-few : goal.returns-clause-few
returns-clause-few c =
    let alike = c.requires.alike in
    let place = c.requires.place in
    let some : 0 < length c.args.sets.now = omega (arith, place) in
    let at : c.loop-against.against ≡ length c.args.sets.now = omega (arith, alike) in
    subst (λ n. length c.loop-against.found.items ≤ length c.args.found.now.items + n) (factorial_split (length c.args.sets.now) some)
    (subst (λ n. length c.loop-against.found.items ≤ length c.args.found.now.items + n * factorial (length c.args.sets.now - 1)) at c.loop-against.invariant.few)
