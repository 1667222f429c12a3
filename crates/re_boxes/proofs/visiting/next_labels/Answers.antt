use Rattle.std.proofs.Common.{◌∷◌, ◌<◌, ◌≤◌, arith, subst, sym}
use Rattle.re_boxes.proofs.NextLabels.{AreFound, Ending-below, found-all, found-more, found-start}
use Rattle.re_boxes.specs.Spans.{tree_of}
use Rattle.re_boxes.proofs.visiting.next_labels.Goals as goal
use Rattle.re_labels.specs.declared.TheConstants.{MAX_LABELS}

pub loop-least-init : goal.loop-least-init
loop-least-init c = subst (λ s. AreFound (tree_of c.args.constraint.now c.args.nodes.now) c.args.depth c.args.span s 0 c.args.span) (sym c.empty-set.ensures) (found-start (tree_of c.args.constraint.now c.args.nodes.now) c.args.depth c.args.span c.requires.span)

pub loop-least-preserved : goal.loop-least-preserved
loop-least-preserved c =
    found-more (tree_of c.args.constraint.now c.args.nodes.now) c.args.depth c.args.span c.loop-least.set c.insert-set.result c.loop-least.least c.loop-least.rest c.parted.result.after c.in-Some.label c.loop-least.invariant
    c.in-Some.ensures.0 c.in-Some.ensures.1 c.insert-set.ensures c.parted.ensures.after c.parted.ensures.endings_after

pub loop-least-smaller : goal.loop-least-smaller
loop-least-smaller c =
    let first = c.in-Some.ensures.1 in
    let low : c.loop-least.least ≤ c.in-Some.label = ((c.loop-least.invariant.later c.in-Some.label first.some.0).0 first.some.1).0 in
    let below : c.loop-least.least < MAX_LABELS = c.loop-least-test.true in
    let few : c.in-Some.label < MAX_LABELS = c.in-Some.ensures.0 in
    omega (arith, low, below, few)

pub returns-in_default : goal.returns-in_default
returns-in_default c =
    found-all (tree_of c.args.constraint.now c.args.nodes.now) c.args.depth c.args.span c.loop-least.set c.loop-least.least c.loop-least.rest c.loop-least.invariant
    (λ x ending past e. c.in_default.ensures (x ∷ ending) ((c.loop-least.invariant.later x ending).1 (past, e)))

pub returns : goal.returns
returns c =
    found-all (tree_of c.args.constraint.now c.args.nodes.now) c.args.depth c.args.span c.loop-least.set c.loop-least.least c.loop-least.rest c.loop-least.invariant
    (λ x ending past e.
    let below : x < MAX_LABELS = Ending-below (tree_of c.args.constraint.now c.args.nodes.now) c.args.depth c.requires.depth c.args.span c.requires.span x ending e in
    let end : MAX_LABELS ≤ c.loop-least.least = c.loop-least-test.false in
    omega (arith, below, past, end))
