use Rattle.std.proofs.Common.{◌++◌, ◌∙◌, ap, arith}
use Rattle.re_io.proofs.LineSteps.{feed_met, last_line, not_empty, piece_moved, refilled, takes_on}
use Rattle.re_io.specs.LineReading.{LinesHeld}
use Rattle.re_io.proofs.lines.Lines.next_line.Goals as goal

pub returns-then-branch-clause-takes : goal.returns-then-branch-clause-takes
returns-then-branch-clause-takes g c =
    let part = rw c.if-branch.true at c.in_ok-give.ensures.given in
    let held = c.self-in-pieces.view_is in
    feed_met _ _ _ _ _ _ c.pieces.invariant.gathered.1 _ _ _ part (ap (λ (h : LinesHeld). h.taken) held ∙ c.give.ensures.same.0) (ap (λ (h : LinesHeld). h.pending) held)

pub pieces-preserved : goal.pieces-preserved
pieces-preserved g c =
    let part = rw c.if-branch.false at c.in_ok-give.ensures.given in
    let moved = piece_moved _ _ _ _ _ _ c.pieces.invariant.gathered.1 _ _ part c.give.ensures.same.0 in
    let next = rw c.in-Ok-true.field-0-test at c.in-Ok-true.ensures.takes in
    record {
      gathered = (_, refilled _ _ _ _ _ _ moved part.moved.1 _ _ _ next.1 next.2);
      later = omega (arith, c.pieces.invariant.later, c.refill.ensures.later);
      few = c.in-Ok-true.ensures.few;
      stopped = c.refill.ensures.same;
    }

pub returns-in-Err-ReadFault-clause-takes : goal.returns-in-Err-ReadFault-clause-takes
returns-in-Err-ReadFault-clause-takes g c =
    let first = c.pieces.invariant.gathered in
    let next = c.refill.ensures.takes in
    (first.0 ++ next.0, takes_on _ _ _ _ _ _ _ _ _ first.1.taken c.give.ensures.same.0 next.1, tt)

pub returns-in-Err-InputTooLong-clause-takes : goal.returns-in-Err-InputTooLong-clause-takes
returns-in-Err-InputTooLong-clause-takes g c =
    let first = c.pieces.invariant.gathered in
    let next = c.refill.ensures.takes in
    (first.0 ++ next.0, takes_on _ _ _ _ _ _ _ _ _ first.1.taken c.give.ensures.same.0 next.1, tt)

pub returns-clause-takes : goal.returns-clause-takes
returns-clause-takes g c =
    let part = rw c.if-branch.false at c.in_ok-give.ensures.given in
    let moved = piece_moved _ _ _ _ _ _ c.pieces.invariant.gathered.1 _ _ part c.give.ensures.same.0 in
    let next = rw c.in-Ok-false.field-0-test at c.in-Ok-false.ensures.takes in
    let held = c.self-2.view_is in
    last_line _ _ _ _ _ _ moved part.moved.1 _ _ _ next.1 next.2 _ (ap (λ (h : LinesHeld). h.taken) held) (ap (λ (h : LinesHeld). h.pending) held) (not_empty _ _ c.if-is_empty.ensures c.as_slice.ensures.value)
