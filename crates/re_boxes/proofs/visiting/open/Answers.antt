use Rattle.std.proofs.Common.{◌∙◌, ◌+◌, ◌<◌, ◌≤◌, ℕ, length, length-append, max, arith, ap, sym, subst, lit<}
use Rattle.re_boxes.proofs.Fitting.{each-push}
use Rattle.re_boxes.proofs.Visits.{next-goes, opened-more, opened-same}
use Rattle.re_boxes.specs.Spans.{tree_of, AreSpans, IsOpened, IsSpan}
use Rattle.re_boxes.specs.declared.visiting.Candidate.{Candidate}
use Rattle.re_boxes.proofs.visiting.open.Goals as goal
use Rattle.re_labels.specs.declared.TheConstants.{MAX_LABELS}

few-wider : (count bound least label : ℕ) → count ≤ max bound least → least ≤ label → count ≤ max bound (label + 1)
few-wider count bound least label few le = omega arith

few-more : (count bound least label : ℕ) → count ≤ max bound least → least ≤ label → bound ≤ label → count + 1 ≤ max bound (label + 1)
few-more count bound least label few le low = omega arith

few-room : (count bound least label : ℕ) → count ≤ max bound least → least ≤ label → bound ≤ label → label < MAX_LABELS → count < MAX_LABELS
few-room count bound least label few le low h = omega arith

pub push-requires : goal.push-requires
push-requires c =
    let goes = (next-goes (tree_of c.args.constraint.now c.args.nodes.now) c.degree-degree.ensures.constraint c.args.beginning.now c.args.bound c.requires.bounded c.args.least c.args.rest c.args.waiting.now.items c.requires.waiting c.args.label c.requires.next).0 in
    (lit< tt, few-room (length c.args.waiting.now.items) c.args.bound c.args.least c.args.label c.requires.waiting.few goes c.if-bound-label.true c.requires.label)

pub returns-then-not-is_next : goal.returns-then-not-is_next
returns-then-not-is_next c =
    let state = c.requires.waiting in
    let more = c.if-not-is_next.ensures in
    let goes : c.args.least ≤ c.args.label = (next-goes (tree_of c.args.constraint.now c.args.nodes.now) c.degree-degree.ensures.constraint c.args.beginning.now c.args.bound c.requires.bounded c.args.least c.args.rest c.args.waiting.now.items c.requires.waiting c.args.label c.requires.next).0 in
    record {
      below = record { tree = state.span.tree; within = λ there. absurd (let none = c.none.ensures in omega (arith, there, none)); deep = λ there. absurd (let none = c.none.ensures in omega (arith, there, none)) };
      after = state.span;
      behind = λ ending. (
        (λ h. absurd (let there = h.some in let none = c.none.ensures in omega (arith, there, none))),
        (λ held. absurd (let less = more c.args.label ending ((state.behind c.args.label ending).1 (goes, held)) in omega (arith, less))),
      );
      later = λ other ending. (
        (λ e. (let less = more other ending e in omega (arith, less), ((state.behind other ending).0 e).1)),
        (λ two. (state.behind other ending).1 (omega (arith, goes, two.0), two.1)),
      );
      few = few-wider (length c.args.waiting.now.items) c.args.bound c.args.least c.args.label state.few goes;
      spans = state.spans;
      opened = opened-same (tree_of c.args.constraint.now c.args.nodes.now) c.degree-degree.ensures.constraint c.args.beginning.now c.args.bound c.requires.bounded c.args.least c.args.rest c.args.waiting.now.items c.requires.waiting c.args.label c.requires.next
          (λ ending le e. absurd (let less = more c.args.label ending e in omega (arith, less)));
    }

pub returns-then-bound-label : goal.returns-then-bound-label
returns-then-bound-label c =
    let state = c.requires.waiting in
    let parts = c.parted-parts.ensures in
    let goes : c.args.least ≤ c.args.label = (next-goes (tree_of c.args.constraint.now c.args.nodes.now) c.degree-degree.ensures.constraint c.args.beginning.now c.args.bound c.requires.bounded c.args.least c.args.rest c.args.waiting.now.items c.requires.waiting c.args.label c.requires.next).0 in
    record {
      below = parts.below;
      after = parts.after;
      behind = λ ending. (
        (λ h. ((state.behind c.args.label ending).0 ((parts.endings_below ending).0 h)).1),
        (λ held. (parts.endings_below ending).1 ((state.behind c.args.label ending).1 (goes, held))),
      );
      later = λ other ending. (
        (λ e. let two = (parts.endings_after other ending).0 e in (omega (arith, two.0), ((state.behind other ending).0 two.1).1)),
        (λ two. (parts.endings_after other ending).1 (omega (arith, two.0), (state.behind other ending).1 (omega (arith, goes, two.0), two.1))),
      );
      few = (let count = c.push.ensures.len in let most = few-more (length c.args.waiting.now.items) c.args.bound c.args.least c.args.label state.few goes c.if-bound-label.true in
          let items = ap length c.push.ensures.items ∙ length-append c.args.waiting.now.items _ in omega (arith, most, items));
      spans = subst (AreSpans (tree_of c.args.constraint.now c.args.nodes.now) (length c.args.beginning.now + 1)) (sym c.push.ensures.items)
          (each-push (tree_of c.args.constraint.now c.args.nodes.now) (length c.args.beginning.now + 1) (λ (k : Candidate). IsSpan (tree_of c.args.constraint.now c.args.nodes.now) (length c.args.beginning.now + 1) k.span) c.args.waiting.now.items
          (record { label = c.args.label; span = c.parted-parts.result.below }) state.spans parts.below);
      opened = subst (IsOpened (tree_of c.args.constraint.now c.args.nodes.now) c.args.beginning.now c.args.bound c.args.label) (sym c.push.ensures.items)
          (opened-more (tree_of c.args.constraint.now c.args.nodes.now) c.degree-degree.ensures.constraint c.args.beginning.now c.args.bound c.requires.bounded c.args.least c.args.rest c.args.waiting.now.items c.requires.waiting c.args.label c.requires.next
          c.parted-parts.result.below c.if-bound-label.true parts.endings_below);
    }

pub returns-else-bound-label : goal.returns-else-bound-label
returns-else-bound-label c =
    let state = c.requires.waiting in
    let parts = c.parted-parts.ensures in
    let low = c.if-bound-label.false in
    let goes : c.args.least ≤ c.args.label = (next-goes (tree_of c.args.constraint.now c.args.nodes.now) c.degree-degree.ensures.constraint c.args.beginning.now c.args.bound c.requires.bounded c.args.least c.args.rest c.args.waiting.now.items c.requires.waiting c.args.label c.requires.next).0 in
    record {
      below = parts.below;
      after = parts.after;
      behind = λ ending. (
        (λ h. ((state.behind c.args.label ending).0 ((parts.endings_below ending).0 h)).1),
        (λ held. (parts.endings_below ending).1 ((state.behind c.args.label ending).1 (goes, held))),
      );
      later = λ other ending. (
        (λ e. let two = (parts.endings_after other ending).0 e in (omega (arith, two.0), ((state.behind other ending).0 two.1).1)),
        (λ two. (parts.endings_after other ending).1 (omega (arith, two.0), (state.behind other ending).1 (omega (arith, goes, two.0), two.1))),
      );
      few = few-wider (length c.args.waiting.now.items) c.args.bound c.args.least c.args.label state.few goes;
      spans = state.spans;
      opened = opened-same (tree_of c.args.constraint.now c.args.nodes.now) c.degree-degree.ensures.constraint c.args.beginning.now c.args.bound c.requires.bounded c.args.least c.args.rest c.args.waiting.now.items c.requires.waiting c.args.label c.requires.next
          (λ ending le e. absurd (omega (arith, low, le)));
    }
