use Rattle.std.proofs.Common.{◌+◌, ◌*◌, ◌≡◌, ◌≤◌, arith, length, take, subst, sym, ap, ◌∙◌}
use Rattle.re_closure.specs.Kept.{AreOffered, AreSettledBefore, combinations_of}
use Rattle.re_closure.proofs.Counting.{grown_more, grown_still}
use Rattle.re_closure.proofs.Keeping.{settled_more, settled_other}
use Rattle.re_closure.proofs.topmost.offer_combinations.Goals.{then-sets-length+in_ok-found+in_ok-offer, else-sets-length}
use Rattle.re_closure.proofs.topmost.offer_combinations.Goals as goal

pub loop-other-preserved : goal.loop-other-preserved
loop-other-preserved c = elim c.if-sets-length.branch [
  | then-sets-length+in_ok-found+in_ok-offer w ↦
      let alike : length c.other-item.result ≡ length c.args.line.now = sym (ap length c.sets.ensures.sets) ∙ w.if-sets-length.true ∙ ap length c.sets-length.ensures.sets in
      record {
        settled = subst (λ v. AreSettledBefore c.args.kept.now c.args.line.now (take (c.loop-other.other-index + 1) c.args.kept.now) c.args.waiting.now.items v.items) (sym w.waiting-is)
            (settled_more c.args.kept.now c.args.waiting.now.items c.loop-other.waiting.items c.args.line.now c.loop-other.other-index c.other-item.result c.loop-other-test.true c.other-item.is c.loop-other.invariant.settled
            w.in_ok-found.found.items w.offer.new.waiting.items alike w.in_ok-found.ensures.all
            (subst (λ l. AreOffered c.args.kept.now l c.loop-other.waiting.items w.offer.new.waiting.items) w.as_slice.ensures.value w.in_ok-offer.ensures.offered));
        few = subst (λ v. length v.items ≤ length c.args.waiting.now.items + (c.loop-other.other-index + 1) * combinations_of (length c.args.line.now)) (sym w.waiting-is)
            (let h = w.in_ok-offer.ensures.few in
            let k = w.in_ok-found.ensures.few in
            let e = ap length w.as_slice.ensures.value in
            let most : length w.offer.new.waiting.items ≤ length c.loop-other.waiting.items + combinations_of (length c.args.line.now) = omega (arith, h, k, e) in
            grown_more (length c.args.waiting.now.items) (length c.loop-other.waiting.items) (length w.offer.new.waiting.items) c.loop-other.other-index (combinations_of (length c.args.line.now)) c.loop-other.invariant.few most);
      }
  | else-sets-length w ↦ record {
    settled = subst (λ v. AreSettledBefore c.args.kept.now c.args.line.now (take (c.loop-other.other-index + 1) c.args.kept.now) c.args.waiting.now.items v.items) (sym w.waiting-is)
        (settled_other c.args.kept.now c.args.waiting.now.items c.loop-other.waiting.items c.args.line.now c.loop-other.other-index c.other-item.result c.loop-other-test.true c.other-item.is c.loop-other.invariant.settled
        (λ e. w.if-sets-length.false (ap length c.sets.ensures.sets ∙ e ∙ sym (ap length c.sets-length.ensures.sets))));
    few = subst (λ v. length v.items ≤ length c.args.waiting.now.items + (c.loop-other.other-index + 1) * combinations_of (length c.args.line.now)) (sym w.waiting-is)
        (grown_still (length c.args.waiting.now.items) (length c.loop-other.waiting.items) c.loop-other.other-index (combinations_of (length c.args.line.now)) c.loop-other.invariant.few);
  }
]
