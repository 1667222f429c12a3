use Rattle.std.proofs.Common.{◌≡◌, ◌&&◌, ◌∙◌, true, false, eqb, None, Some, ap, sym, length, arith}
use Rattle.re_walks.proofs.WalkLemmas.{follow-partial, following-is, open-fails, open-short, walk-cut, walk-found, walk-none, walk-on}
use Rattle.re_walks.specs.Walking.{following}
use Rattle.re_bridge.proofs.MapWalks.{front-next, front-none, partial-none, walk-none-yet}
use Rattle.re_bridge.specs.Reductions.{passes_into}
use Rattle.re_bridge.proofs.reducing.walk_into.Goals as goal
use Rattle.re_bridge.proofs.reducing.walk_into.Goals.{else-passes-via-then-passes+else-len-places, else-passes-via-else-passes}

pub loop-try-init : goal.loop-try-init
loop-try-init c = record {
  so_far = walk-none-yet c.args.most c.args.problem.now c.args.tries c.new-images.result.items c.new-images.ensures.items;
  partial = partial-none (length c.args.problem.now.names) c.new-images.result.items c.new-images.ensures.items;
  front = front-none c.args.most c.args.problem.now c.new-images.result.items c.names.ensures.problem c.new-images.ensures.items;
}

pub returns-then-len-places-clause-walked : goal.returns-then-len-places-clause-walked
returns-then-len-places-clause-walked c =
    let n = length c.args.problem.now.names in
    let p = passes_into c.args.most c.args.problem.now in
    let places : c.len-places.result ≡ n = c.len-places.ensures.len ∙ ap length c.names.ensures.names in
    walk-found p n n c.args.tries c.loop-try._try c.loop-try.images.items c.passes_into-passes.result c.loop-try.invariant.so_far c.loop-try-test.true
    (c.passes_into-passes.ensures ∙ ap p c.as_slice.ensures.value) c.if-passes.true (omega (arith, places, c.len.ensures, c.as_slice.ensures.len, ap length c.as_slice.ensures.value, c.if-len-places.true))

pub returns-then-not-branch-clause-walked : goal.returns-then-not-branch-clause-walked
returns-then-not-branch-clause-walked c =
    let n = length c.args.problem.now.names in
    let p = passes_into c.args.most c.args.problem.now in
    let places : c.len-places.result ≡ n = c.len-places.ensures.len ∙ ap length c.names.ensures.names in
    let open_ : (c.passes_into-passes.result && eqb (length c.loop-try.images.items) n) ≡ false
    = elim c.else-passes.branch [
      | else-passes-via-then-passes+else-len-places w ↦
          ap (λ m. c.passes_into-passes.result && eqb m n) (let same : length c.loop-try.images.items ≡ w.len.result = omega (arith, w.len.ensures, c.as_slice.ensures.len, ap length c.as_slice.ensures.value) in same)
          ∙ open-short c.passes_into-passes.result w.len.result n (λ e. w.if-len-places.false (e ∙ sym places))
      | else-passes-via-else-passes w ↦ open-fails c.passes_into-passes.result _ w.if-passes.false
    ] in
    let next : following n c.passes_into-passes.result c.loop-try.images.items ≡ None
    = following-is n c.len-places.result c.passes_into-passes.result c.in_ok-follow.field-0 c.loop-try.images.items c.follow.new.labels.items false places c.in_ok-follow.ensures c.if-not-branch.true in
    walk-none p n n c.args.tries _
    (walk-on p n n c.args.tries c.loop-try._try c.loop-try.images.items c.passes_into-passes.result None c.loop-try.invariant.so_far c.loop-try-test.true
    (c.passes_into-passes.ensures ∙ ap p c.as_slice.ensures.value) open_ next)

pub loop-try-preserved : goal.loop-try-preserved
loop-try-preserved c =
    let n = length c.args.problem.now.names in
    let p = passes_into c.args.most c.args.problem.now in
    let places : c.len-places.result ≡ n = c.len-places.ensures.len ∙ ap length c.names.ensures.names in
    let open_ : (c.passes_into-passes.result && eqb (length c.loop-try.images.items) n) ≡ false
    = elim c.else-passes.branch [
      | else-passes-via-then-passes+else-len-places w ↦
          ap (λ m. c.passes_into-passes.result && eqb m n) (let same : length c.loop-try.images.items ≡ w.len.result = omega (arith, w.len.ensures, c.as_slice.ensures.len, ap length c.as_slice.ensures.value) in same)
          ∙ open-short c.passes_into-passes.result w.len.result n (λ e. w.if-len-places.false (e ∙ sym places))
      | else-passes-via-else-passes w ↦ open-fails c.passes_into-passes.result _ w.if-passes.false
    ] in
    let next : following n c.passes_into-passes.result c.loop-try.images.items ≡ Some c.follow.new.labels.items
    = following-is n c.len-places.result c.passes_into-passes.result c.in_ok-follow.field-0 c.loop-try.images.items c.follow.new.labels.items true places c.in_ok-follow.ensures c.if-not-branch.false in
    let test : c.passes_into-passes.result ≡ p c.loop-try.images.items = c.passes_into-passes.ensures ∙ ap p c.as_slice.ensures.value in
    record {
      so_far = walk-on p n n c.args.tries c.loop-try._try c.loop-try.images.items c.passes_into-passes.result (Some c.follow.new.labels.items) c.loop-try.invariant.so_far c.loop-try-test.true test open_ next;
      partial = follow-partial n n c.passes_into-passes.result c.loop-try.images.items c.follow.new.labels.items c.loop-try.invariant.partial open_ next;
      front = front-next c.args.most c.args.problem.now n c.passes_into-passes.result c.loop-try.images.items c.follow.new.labels.items test c.loop-try.invariant.front next;
    }

pub returns-clause-cut : goal.returns-clause-cut
returns-clause-cut c = λ _.
    walk-cut (passes_into c.args.most c.args.problem.now) (length c.args.problem.now.names) (length c.args.problem.now.names) c.args.tries c.loop-try._try c.loop-try.images.items c.loop-try.invariant.so_far c.loop-try-test.false
