use Rattle.std.proofs.Common.{◌≡◌, ◌≤◌, ◌&&◌, ◌*◌, ◌∙◌, true, false, eqb, None, Some, ap, sym, length, arith}
use Rattle.re_problem.specs.NamedProblems.{unnamed}
use Rattle.re_walks.proofs.WalkLemmas.{follow-partial, following-is, open-fails, open-short, walk-cut, walk-found, walk-none, walk-on}
use Rattle.re_walks.specs.Walking.{following, walk}
use Rattle.re_graph.specs.Solving.{passes_on}
use Rattle.re_graph.proofs.solving.first_labels.Goals as goal
use Rattle.re_graph.proofs.solving.first_labels.Goals.{else-passes-via-then-passes+else-len-places, else-passes-via-else-passes}

pub returns-then-len-places-clause-walked : goal.returns-then-len-places-clause-walked
returns-then-len-places-clause-walked c =
    let p = passes_on (unnamed c.args.problem.now) c.args.graph.now in
    (λ i. walk p (length c.args.problem.now.names) (sym c.nodes.ensures.nodes i * (sym (c.degree.ensures.degree ∙ ap (λ k. k.degree) c.active.ensures.active)) i) c.args.tries)
    ∙ walk-found p (length c.args.problem.now.names) (c.nodes.result * c.degree.result) c.args.tries c.loop-try._try c.loop-try.labels.items c.passes_on-passes.result c.loop-try.invariant.so_far c.loop-try-test.true
    (c.passes_on-passes.ensures ∙ ap p c.as_slice.ensures.value) c.if-passes.true (omega (arith, c.len.ensures, c.as_slice.ensures.len, ap length c.as_slice.ensures.value, c.if-len-places.true))

pub returns-then-len-places-clause-low : goal.returns-then-len-places-clause-low
returns-then-len-places-clause-low c = c.loop-try.invariant.partial.low

pub returns-then-len-places-clause-count : goal.returns-then-len-places-clause-count
returns-then-len-places-clause-count c =
    let same : length c.loop-try.labels.items ≡ c.nodes.result * c.degree.result = omega (arith, c.len.ensures, c.as_slice.ensures.len, ap length c.as_slice.ensures.value, c.if-len-places.true) in
    same ∙ (λ i. c.nodes.ensures.nodes i * (c.degree.ensures.degree ∙ ap (λ k. k.degree) c.active.ensures.active) i)

pub returns-then-not-branch-clause-walked : goal.returns-then-not-branch-clause-walked
returns-then-not-branch-clause-walked c =
    let p = passes_on (unnamed c.args.problem.now) c.args.graph.now in
    let names : c.len-n.result ≡ length c.args.problem.now.names = c.len-n.ensures.len ∙ ap length c.names.ensures.names in
    let open_ : (c.passes_on-passes.result && eqb (length c.loop-try.labels.items) (c.nodes.result * c.degree.result)) ≡ false
    = elim c.else-passes.branch [
      | else-passes-via-then-passes+else-len-places w ↦ ap (λ m. c.passes_on-passes.result && eqb m (c.nodes.result * c.degree.result)) (let same : length c.loop-try.labels.items ≡ w.len.result = omega (arith, w.len.ensures, c.as_slice.ensures.len, ap length c.as_slice.ensures.value) in same) ∙ open-short c.passes_on-passes.result w.len.result (c.nodes.result * c.degree.result) w.if-len-places.false
      | else-passes-via-else-passes w ↦ open-fails c.passes_on-passes.result _ w.if-passes.false
    ] in
    let next : following (length c.args.problem.now.names) c.passes_on-passes.result c.loop-try.labels.items ≡ None
    = following-is (length c.args.problem.now.names) c.len-n.result c.passes_on-passes.result c.in_ok-follow.field-0 c.loop-try.labels.items c.follow.new.labels.items false names c.in_ok-follow.ensures c.if-not-branch.true in
    (λ i. walk p (length c.args.problem.now.names) (sym c.nodes.ensures.nodes i * (sym (c.degree.ensures.degree ∙ ap (λ k. k.degree) c.active.ensures.active)) i) c.args.tries)
    ∙ walk-none p (length c.args.problem.now.names) (c.nodes.result * c.degree.result) c.args.tries _
    (walk-on p (length c.args.problem.now.names) (c.nodes.result * c.degree.result) c.args.tries c.loop-try._try c.loop-try.labels.items c.passes_on-passes.result None c.loop-try.invariant.so_far c.loop-try-test.true
    (c.passes_on-passes.ensures ∙ ap p c.as_slice.ensures.value) open_ next)

pub loop-try-preserved : goal.loop-try-preserved
loop-try-preserved c =
    let p = passes_on (unnamed c.args.problem.now) c.args.graph.now in
    let names : c.len-n.result ≡ length c.args.problem.now.names = c.len-n.ensures.len ∙ ap length c.names.ensures.names in
    let open_ : (c.passes_on-passes.result && eqb (length c.loop-try.labels.items) (c.nodes.result * c.degree.result)) ≡ false
    = elim c.else-passes.branch [
      | else-passes-via-then-passes+else-len-places w ↦ ap (λ m. c.passes_on-passes.result && eqb m (c.nodes.result * c.degree.result)) (let same : length c.loop-try.labels.items ≡ w.len.result = omega (arith, w.len.ensures, c.as_slice.ensures.len, ap length c.as_slice.ensures.value) in same) ∙ open-short c.passes_on-passes.result w.len.result (c.nodes.result * c.degree.result) w.if-len-places.false
      | else-passes-via-else-passes w ↦ open-fails c.passes_on-passes.result _ w.if-passes.false
    ] in
    let next : following (length c.args.problem.now.names) c.passes_on-passes.result c.loop-try.labels.items ≡ Some c.follow.new.labels.items
    = following-is (length c.args.problem.now.names) c.len-n.result c.passes_on-passes.result c.in_ok-follow.field-0 c.loop-try.labels.items c.follow.new.labels.items true names c.in_ok-follow.ensures c.if-not-branch.false in
    record {
      so_far = walk-on p (length c.args.problem.now.names) (c.nodes.result * c.degree.result) c.args.tries c.loop-try._try c.loop-try.labels.items c.passes_on-passes.result (Some c.follow.new.labels.items) c.loop-try.invariant.so_far c.loop-try-test.true
          (c.passes_on-passes.ensures ∙ ap p c.as_slice.ensures.value) open_ next;
      partial = follow-partial (length c.args.problem.now.names) (c.nodes.result * c.degree.result) c.passes_on-passes.result c.loop-try.labels.items c.follow.new.labels.items c.loop-try.invariant.partial open_ next;
    }

pub returns-clause-cut : goal.returns-clause-cut
returns-clause-cut c = λ _.
    (λ i. walk (passes_on (unnamed c.args.problem.now) c.args.graph.now) (length c.args.problem.now.names) (sym c.nodes.ensures.nodes i * (sym (c.degree.ensures.degree ∙ ap (λ k. k.degree) c.active.ensures.active)) i) c.args.tries)
    ∙ walk-cut (passes_on (unnamed c.args.problem.now) c.args.graph.now) (length c.args.problem.now.names) (c.nodes.result * c.degree.result) c.args.tries c.loop-try._try c.loop-try.labels.items c.loop-try.invariant.so_far c.loop-try-test.false
