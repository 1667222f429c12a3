use Rattle.std.proofs.Common.{[], arith, get_or, subst, sym}
use Rattle.re_labels.specs.Sets.{IsIn}
use Rattle.re_changes.proofs.StillCovered.{known-first, known-nothing, known-passed, known-whole}
use Rattle.re_changes.specs.Trimming.{IsKnown, named_without}
use Rattle.re_changes.proofs.trimming.next_covered.Goals as goal
use Rattle.re_changes.proofs.trimming.next_covered.Goals.{then-label-eq0, else-label-eq0}

pub returns-then-has_later-clause-first : goal.returns-then-has_later-clause-first
returns-then-has_later-clause-first c =
    let (within, later, above, held) = c.has_later.ensures c.if-has_later.true in
    sym (known-first c.args.problem.now c.names-names.ensures.problem.problem c.args.known.now.passed later c.args.known.now.covers.items c.requires above
    (subst (λ l. IsIn later (get_or l c.args.known.now.passed [])) c.as_slice.ensures.value held))

pub returns-then-has_later-clause-known : goal.returns-then-has_later-clause-known
returns-then-has_later-clause-known c = known-passed c.args.problem.now c.names-names.ensures.problem.problem c.args.known.now.passed c.args.known.now.covers.items c.requires

pub returns-clause-known : goal.returns-clause-known
returns-clause-known c =
    let sets = c.cover_sets-known.result.items in
    let label = c.in_ok-label.label in
    elim c.if-label-eq0.branch [
      | then-label-eq0 w ↦ subst (λ k. IsKnown k sets (named_without label c.args.problem.now)) (sym w.known-is)
          (subst (λ a. IsKnown 1 sets (named_without a c.args.problem.now)) (sym w.if-label-eq0.true)
          (known-passed c.args.problem.now c.names-names.ensures.problem.problem 0 sets (known-whole c.args.problem.now sets c.cover_sets-known.ensures)))
      | else-label-eq0 w ↦ known-nothing (named_without label c.args.problem.now) sets c.if-label-eq0.known (omega (arith, w.known-is, w.len.ensures))
    ]
