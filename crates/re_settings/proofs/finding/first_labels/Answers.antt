use Rattle.std.proofs.Common.{◌≡◌, ◌&&◌, ◌∙◌, true, false, eqb, None, Some, ap, length, arith}
use Rattle.re_problem.specs.NamedProblems.{unnamed}
use Rattle.re_walks.proofs.WalkLemmas.{follow-partial, following-is, open-fails, open-short, walk-cut, walk-found, walk-none, walk-on}
use Rattle.re_walks.specs.Walking.{following}
use Rattle.re_settings.specs.Fits.{passes_with}
use Rattle.re_settings.proofs.finding.first_labels.Goals as goal
use Rattle.re_settings.proofs.finding.first_labels.Goals.{else-passes-via-then-passes+else-len-places, else-passes-via-else-passes}

pub returns-then-len-places-clause-walked : goal.returns-then-len-places-clause-walked
returns-then-len-places-clause-walked c =
    walk-found (passes_with (unnamed c.args.problem.now) c.args.passive.now c.args.configs.now c.args.places.now) (length c.args.problem.now.names) (length c.args.places.now) c.args.tries c.loop-try._try c.loop-try.labels.items c.in_ok-passes.passes c.loop-try.invariant.so_far c.loop-try-test.true
    (c.in_ok-passes.ensures ∙ ap (passes_with (unnamed c.args.problem.now) c.args.passive.now c.args.configs.now c.args.places.now) c.as_slice.ensures.value) c.if-passes.true (omega (arith, c.len.ensures, c.as_slice.ensures.len, ap length c.as_slice.ensures.value, c.if-len-places.true))

pub returns-then-not-branch-clause-walked : goal.returns-then-not-branch-clause-walked
returns-then-not-branch-clause-walked c =
    let p = passes_with (unnamed c.args.problem.now) c.args.passive.now c.args.configs.now c.args.places.now in
    let names : c.len-n.result ≡ length c.args.problem.now.names = c.len-n.ensures.len ∙ ap length c.names.ensures.names in
    let open_ : (c.in_ok-passes.passes && eqb (length c.loop-try.labels.items) (length c.args.places.now)) ≡ false
    = elim c.else-passes.branch [
      | else-passes-via-then-passes+else-len-places w ↦ ap (λ m. c.in_ok-passes.passes && eqb m (length c.args.places.now)) (let same : length c.loop-try.labels.items ≡ w.len.result = omega (arith, w.len.ensures, c.as_slice.ensures.len, ap length c.as_slice.ensures.value) in same) ∙ open-short c.in_ok-passes.passes w.len.result (length c.args.places.now) w.if-len-places.false
      | else-passes-via-else-passes w ↦ open-fails c.in_ok-passes.passes _ w.if-passes.false
    ] in
    let next : following (length c.args.problem.now.names) c.in_ok-passes.passes c.loop-try.labels.items ≡ None
    = following-is (length c.args.problem.now.names) c.len-n.result c.in_ok-passes.passes c.in_ok-follow.field-0 c.loop-try.labels.items c.follow.new.labels.items false names c.in_ok-follow.ensures c.if-not-branch.true in
    walk-none p (length c.args.problem.now.names) (length c.args.places.now) c.args.tries _
    (walk-on p (length c.args.problem.now.names) (length c.args.places.now) c.args.tries c.loop-try._try c.loop-try.labels.items c.in_ok-passes.passes None c.loop-try.invariant.so_far c.loop-try-test.true
    (c.in_ok-passes.ensures ∙ ap p c.as_slice.ensures.value) open_ next)

pub loop-try-preserved : goal.loop-try-preserved
loop-try-preserved c =
    let p = passes_with (unnamed c.args.problem.now) c.args.passive.now c.args.configs.now c.args.places.now in
    let names : c.len-n.result ≡ length c.args.problem.now.names = c.len-n.ensures.len ∙ ap length c.names.ensures.names in
    let open_ : (c.in_ok-passes.passes && eqb (length c.loop-try.labels.items) (length c.args.places.now)) ≡ false
    = elim c.else-passes.branch [
      | else-passes-via-then-passes+else-len-places w ↦ ap (λ m. c.in_ok-passes.passes && eqb m (length c.args.places.now)) (let same : length c.loop-try.labels.items ≡ w.len.result = omega (arith, w.len.ensures, c.as_slice.ensures.len, ap length c.as_slice.ensures.value) in same) ∙ open-short c.in_ok-passes.passes w.len.result (length c.args.places.now) w.if-len-places.false
      | else-passes-via-else-passes w ↦ open-fails c.in_ok-passes.passes _ w.if-passes.false
    ] in
    let next : following (length c.args.problem.now.names) c.in_ok-passes.passes c.loop-try.labels.items ≡ Some c.follow.new.labels.items
    = following-is (length c.args.problem.now.names) c.len-n.result c.in_ok-passes.passes c.in_ok-follow.field-0 c.loop-try.labels.items c.follow.new.labels.items true names c.in_ok-follow.ensures c.if-not-branch.false in
    record {
      so_far = walk-on p (length c.args.problem.now.names) (length c.args.places.now) c.args.tries c.loop-try._try c.loop-try.labels.items c.in_ok-passes.passes (Some c.follow.new.labels.items) c.loop-try.invariant.so_far c.loop-try-test.true
          (c.in_ok-passes.ensures ∙ ap p c.as_slice.ensures.value) open_ next;
      partial = follow-partial (length c.args.problem.now.names) (length c.args.places.now) c.in_ok-passes.passes c.loop-try.labels.items c.follow.new.labels.items c.loop-try.invariant.partial open_ next;
    }

pub returns-clause-cut : goal.returns-clause-cut
returns-clause-cut c = λ _.
    walk-cut (passes_with (unnamed c.args.problem.now) c.args.passive.now c.args.configs.now c.args.places.now) (length c.args.problem.now.names) (length c.args.places.now) c.args.tries c.loop-try._try c.loop-try.labels.items c.loop-try.invariant.so_far c.loop-try-test.false
