use Rattle.std.proofs.Common.{rules, ◌+◌, ◌≡◌, false, subst, sym}
use Rattle.re_closure.proofs.NeededSets.{IsOnce, once_again, once_all, once_begin, once_more}
use Rattle.re_closure.proofs.families.without_repeats.Goals.{then-not-is_again+in_ok-push, else-not-is_again}
use Rattle.re_closure.proofs.families.without_repeats.Goals as goal

pub loop-place-init : goal.loop-place-init
loop-place-init c = once_begin c.args.sets.now c.new-once.result.items c.new-once.ensures.items

pub loop-place-preserved : goal.loop-place-preserved
loop-place-preserved c = elim c.if-not-is_again.branch [
  | then-not-is_again+in_ok-push w ↦
      let out : c.is_again.result ≡ false = search (w.if-not-is_again, rules) in
      subst (λ v. IsOnce c.args.sets.now (c.loop-place.place + 1) v.items) (sym w.once-is)
      (once_more c.args.sets.now c.loop-place.place c.loop-place.once.items c.requires c.loop-place-test.true c.loop-place.invariant _ w.index-sets-place.result w.index-sets-place.is w.in_ok-push.ensures.items (c.is_again.ensures.anew out))
  | else-not-is_again w ↦ subst (λ v. IsOnce c.args.sets.now (c.loop-place.place + 1) v.items) (sym w.once-is)
      (once_again c.args.sets.now c.loop-place.place c.loop-place.once.items c.requires c.loop-place-test.true c.loop-place.invariant (c.is_again.ensures.again (search (w.if-not-is_again, rules))))
]

pub returns-clause-rises : goal.returns-clause-rises
returns-clause-rises c = c.loop-place.invariant.rises

pub returns-clause-same : goal.returns-clause-same
returns-clause-same c = once_all c.args.sets.now c.loop-place.once.items c.loop-place.place c.loop-place-test.false c.loop-place.invariant
