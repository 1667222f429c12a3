use Rattle.std.proofs.Common.{◌≡◌, ◌&&◌, ◌∙◌, true, false, eqb, None, Some, ap, sym, length, arith}
use Rattle.re_walks.proofs.WalkLemmas.{follow-partial, following-is, open-fails, open-short, walk-cut, walk-found, walk-none, walk-on}
use Rattle.re_bridge.specs.Bridges.{passes_by_set}
use Rattle.re_walks.specs.Walking.{following, walk}
use Rattle.re_bridge.proofs.walking.walk_by_set.Goals as goal
use Rattle.re_bridge.proofs.walking.walk_by_set.Goals.{else-passes-via-then-passes+else-len-sets, else-passes-via-else-passes}

pub returns-then-len-sets-clause-walked : goal.returns-then-len-sets-clause-walked
returns-then-len-sets-clause-walked c =
    ap (λ s. walk (passes_by_set c.args.before.now c.args.next.now) (length c.args.next.now.names) (length s) c.args.tries) (sym c.requires.sets)
    ∙ walk-found (passes_by_set c.args.before.now c.args.next.now) (length c.args.next.now.names) (length c.args.sets.now) c.args.tries c.loop-try._try c.loop-try.labels.items c.in_ok-passes.passes c.loop-try.invariant.so_far c.loop-try-test.true
    (c.in_ok-passes.ensures ∙ ap (passes_by_set c.args.before.now c.args.next.now) c.as_slice.ensures.value) c.if-passes.true (omega (arith, c.len.ensures, c.as_slice.ensures.len, ap length c.as_slice.ensures.value, c.if-len-sets.true))

pub returns-then-not-branch-clause-walked : goal.returns-then-not-branch-clause-walked
returns-then-not-branch-clause-walked c =
    let names : c.len-n.result ≡ length c.args.next.now.names = c.len-n.ensures.len ∙ ap length c.names.ensures.names in
    let open_ : (c.in_ok-passes.passes && eqb (length c.loop-try.labels.items) (length c.args.sets.now)) ≡ false
    = elim c.else-passes.branch [
      | else-passes-via-then-passes+else-len-sets w ↦ ap (λ m. c.in_ok-passes.passes && eqb m (length c.args.sets.now)) (let same : length c.loop-try.labels.items ≡ w.len.result = omega (arith, w.len.ensures, c.as_slice.ensures.len, ap length c.as_slice.ensures.value) in same) ∙ open-short c.in_ok-passes.passes w.len.result (length c.args.sets.now) w.if-len-sets.false
      | else-passes-via-else-passes w ↦ open-fails c.in_ok-passes.passes _ w.if-passes.false
    ] in
    let next : following (length c.args.next.now.names) c.in_ok-passes.passes c.loop-try.labels.items ≡ None
    = following-is (length c.args.next.now.names) c.len-n.result c.in_ok-passes.passes c.in_ok-follow.field-0 c.loop-try.labels.items c.follow.new.labels.items false names c.in_ok-follow.ensures c.if-not-branch.true in
    ap (λ s. walk (passes_by_set c.args.before.now c.args.next.now) (length c.args.next.now.names) (length s) c.args.tries) (sym c.requires.sets)
    ∙ walk-none (passes_by_set c.args.before.now c.args.next.now) (length c.args.next.now.names) (length c.args.sets.now) c.args.tries _
    (walk-on (passes_by_set c.args.before.now c.args.next.now) (length c.args.next.now.names) (length c.args.sets.now) c.args.tries c.loop-try._try c.loop-try.labels.items c.in_ok-passes.passes None c.loop-try.invariant.so_far c.loop-try-test.true
    (c.in_ok-passes.ensures ∙ ap (passes_by_set c.args.before.now c.args.next.now) c.as_slice.ensures.value) open_ next)

pub loop-try-preserved : goal.loop-try-preserved
loop-try-preserved c =
    let names : c.len-n.result ≡ length c.args.next.now.names = c.len-n.ensures.len ∙ ap length c.names.ensures.names in
    let open_ : (c.in_ok-passes.passes && eqb (length c.loop-try.labels.items) (length c.args.sets.now)) ≡ false
    = elim c.else-passes.branch [
      | else-passes-via-then-passes+else-len-sets w ↦ ap (λ m. c.in_ok-passes.passes && eqb m (length c.args.sets.now)) (let same : length c.loop-try.labels.items ≡ w.len.result = omega (arith, w.len.ensures, c.as_slice.ensures.len, ap length c.as_slice.ensures.value) in same) ∙ open-short c.in_ok-passes.passes w.len.result (length c.args.sets.now) w.if-len-sets.false
      | else-passes-via-else-passes w ↦ open-fails c.in_ok-passes.passes _ w.if-passes.false
    ] in
    let next : following (length c.args.next.now.names) c.in_ok-passes.passes c.loop-try.labels.items ≡ Some c.follow.new.labels.items
    = following-is (length c.args.next.now.names) c.len-n.result c.in_ok-passes.passes c.in_ok-follow.field-0 c.loop-try.labels.items c.follow.new.labels.items true names c.in_ok-follow.ensures c.if-not-branch.false in
    record {
      so_far = walk-on (passes_by_set c.args.before.now c.args.next.now) (length c.args.next.now.names) (length c.args.sets.now) c.args.tries c.loop-try._try c.loop-try.labels.items c.in_ok-passes.passes (Some c.follow.new.labels.items) c.loop-try.invariant.so_far c.loop-try-test.true
          (c.in_ok-passes.ensures ∙ ap (passes_by_set c.args.before.now c.args.next.now) c.as_slice.ensures.value) open_ next;
      partial = follow-partial (length c.args.next.now.names) (length c.args.sets.now) c.in_ok-passes.passes c.loop-try.labels.items c.follow.new.labels.items c.loop-try.invariant.partial open_ next;
    }

pub returns-clause-cut : goal.returns-clause-cut
returns-clause-cut c = λ _.
    ap (λ s. walk (passes_by_set c.args.before.now c.args.next.now) (length c.args.next.now.names) (length s) c.args.tries) (sym c.requires.sets)
    ∙ walk-cut (passes_by_set c.args.before.now c.args.next.now) (length c.args.next.now.names) (length c.args.sets.now) c.args.tries c.loop-try._try c.loop-try.labels.items c.loop-try.invariant.so_far c.loop-try-test.false
