use Rattle.std.proofs.Common.{rules, ◌+◌, ◌≤◌, arith, length, take, subst, sym}
use Rattle.re_closure.specs.Kept.{AreOffered}
use Rattle.re_closure.proofs.Counting.{pushed_length}
use Rattle.re_closure.proofs.Keeping.{offered_held, offered_more}
use Rattle.re_closure.proofs.topmost.offer.Goals.{then-not-is_dominated+else-len-ge-MAX_COMBINATIONS+in_ok-push, else-not-is_dominated}
use Rattle.re_closure.proofs.topmost.offer.Goals as goal

pub loop-line-preserved : goal.loop-line-preserved
loop-line-preserved c = elim c.if-not-is_dominated.branch [
  | then-not-is_dominated+else-len-ge-MAX_COMBINATIONS+in_ok-push w ↦ record {
    offered = subst (λ v. AreOffered c.args.kept.now (take (c.loop-line.line-index + 1) c.args.found.now) c.args.waiting.now.items v.items) (sym w.waiting-is)
        (offered_more c.args.kept.now c.args.found.now c.args.waiting.now.items c.loop-line.waiting.items c.loop-line.line-index c.line-item.result c.loop-line-test.true c.line-item.is c.loop-line.invariant.offered
        _ w.copy.result w.copy.ensures w.in_ok-push.ensures.items);
    few = subst (λ v. length v.items ≤ length c.args.waiting.now.items + (c.loop-line.line-index + 1)) (sym w.waiting-is)
        (let h = c.loop-line.invariant.few in let k = pushed_length c.loop-line.waiting.items _ w.copy.result w.in_ok-push.ensures.items in omega (arith, h, k));
  }
  | else-not-is_dominated w ↦ record {
    offered = subst (λ v. AreOffered c.args.kept.now (take (c.loop-line.line-index + 1) c.args.found.now) c.args.waiting.now.items v.items) (sym w.waiting-is)
        (offered_held c.args.kept.now c.args.found.now c.args.waiting.now.items c.loop-line.waiting.items c.loop-line.line-index c.line-item.result c.loop-line-test.true c.line-item.is c.loop-line.invariant.offered
        (c.is_dominated.ensures.0 (search (w.if-not-is_dominated, rules))));
    few = subst (λ v. length v.items ≤ length c.args.waiting.now.items + (c.loop-line.line-index + 1)) (sym w.waiting-is) (let h = c.loop-line.invariant.few in omega (arith, h));
  }
]
