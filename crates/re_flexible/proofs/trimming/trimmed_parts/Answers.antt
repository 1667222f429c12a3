use Rattle.std.proofs.Common.{subst, sym}
use Rattle.re_labels.specs.declared.TheConstants.{MAX_LABELS}
use Rattle.re_problem.specs.NamedProblems.{unnamed}
use Rattle.re_flexible.proofs.Trims.{left_all, left_more, left_none, left_smaller}
use Rattle.re_flexible.proofs.trimming.trimmed_parts.Goals as goal
use Rattle.re_flexible.specs.Families.{AreApart, AreKept, AreStanding}
use Rattle.re_flexible.specs.Relations.{IsWithin, Relates}

pub rounds-init : goal.rounds-init
rounds-init c = record { count = c.requires.count; left = left_none (unnamed c.args.problem.now) c.args.sets.items c.requires.apart }

pub standing-active-requires-clause-apart : goal.standing-active-requires-clause-apart
standing-active-requires-clause-apart c = subst AreApart (sym c.as_slice.ensures.value) c.rounds.invariant.left.apart

pub standing-passive-requires-clause-apart : goal.standing-passive-requires-clause-apart
standing-passive-requires-clause-apart c = subst AreApart (sym c.as_slice-in-rounds.ensures.value) c.rounds.invariant.left.apart

pub returns-then-is_within-clause-trimmed : goal.returns-then-is_within-clause-trimmed
returns-then-is_within-clause-trimmed c =
    let left = c.rounds.left.items in
    let active : AreStanding c.args.problem.now.active left c.standing-active.result =
    subst (λ s. AreStanding c.args.problem.now.active s c.standing-active.result) c.as_slice.ensures.value (subst (λ k. AreStanding k c.as_slice.result.now c.standing-active.result) c.active.ensures.active c.standing-active.ensures) in
    let passive : AreStanding c.args.problem.now.passive left c.standing-passive.result =
    subst (λ s. AreStanding c.args.problem.now.passive s c.standing-passive.result) c.as_slice-in-rounds.ensures.value
    (subst (λ k. AreStanding k c.as_slice-in-rounds.result.now c.standing-passive.result) c.passive.ensures.passive c.standing-passive.ensures) in
    let kept : AreKept left c.meet.result c.kept_of-fewer.result.items = subst (λ s. AreKept s c.meet.result c.kept_of-fewer.result.items) c.as_slice-in-rounds-2.ensures.value c.kept_of-fewer.ensures.kept in
    left_all (unnamed c.args.problem.now) c.args.sets.items left c.rounds.invariant.left c.standing-active.result c.standing-passive.result c.meet.result c.kept_of-fewer.result.items active passive c.meet.ensures kept
    (subst (λ t. IsWithin t c.kept_of-fewer.result.items) c.as_slice-in-rounds-3.ensures.value (subst (λ t. IsWithin c.as_slice-in-rounds-3.result.now t) c.as_slice-in-rounds-4.ensures.value c.if-is_within.ensures))

pub rounds-smaller : goal.rounds-smaller
rounds-smaller c =
    let (x, y, low, under, new, missing) = c.if-is_within.ensures in
    left_smaller MAX_LABELS c.rounds.left.items c.kept_of-fewer.result.items c.meet.result
    (subst (λ s. AreKept s c.meet.result c.kept_of-fewer.result.items) c.as_slice-in-rounds-2.ensures.value c.kept_of-fewer.ensures.kept) x y low under
    (subst (λ t. Relates t x y) c.as_slice-in-rounds-3.ensures.value new) (λ held. missing (subst (λ t. Relates t x y) (sym c.as_slice-in-rounds-4.ensures.value) held))

pub rounds-preserved : goal.rounds-preserved
rounds-preserved c =
    let left = c.rounds.left.items in
    let active : AreStanding c.args.problem.now.active left c.standing-active.result =
    subst (λ s. AreStanding c.args.problem.now.active s c.standing-active.result) c.as_slice.ensures.value (subst (λ k. AreStanding k c.as_slice.result.now c.standing-active.result) c.active.ensures.active c.standing-active.ensures) in
    let passive : AreStanding c.args.problem.now.passive left c.standing-passive.result =
    subst (λ s. AreStanding c.args.problem.now.passive s c.standing-passive.result) c.as_slice-in-rounds.ensures.value
    (subst (λ k. AreStanding k c.as_slice-in-rounds.result.now c.standing-passive.result) c.passive.ensures.passive c.standing-passive.ensures) in
    let kept : AreKept left c.meet.result c.kept_of-fewer.result.items = subst (λ s. AreKept s c.meet.result c.kept_of-fewer.result.items) c.as_slice-in-rounds-2.ensures.value c.kept_of-fewer.ensures.kept in
    record {
      count = c.kept_of-fewer.ensures.count;
      left = left_more (unnamed c.args.problem.now) c.args.sets.items left c.rounds.invariant.left c.standing-active.result c.standing-passive.result c.meet.result c.kept_of-fewer.result.items active passive c.meet.ensures kept;
    }
