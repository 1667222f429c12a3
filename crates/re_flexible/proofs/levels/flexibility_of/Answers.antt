use Rattle.std.proofs.Common.{◌≡◌, ◌<◌, ℕ, None, Some, arith, suc, subst, sym}
use Rattle.std.specs.Prelude.{Contains}
use Rattle.re_labels.specs.declared.TheConstants.{MAX_LABELS}
use Rattle.re_problem.specs.NamedProblems.{unnamed}
use Rattle.re_flexible.proofs.Chains.{first_flexible, none_flexible, reached_low, reached_more, reached_none, top_length, top_none}
use Rattle.re_flexible.proofs.Parts.{own}
use Rattle.re_flexible.proofs.levels.flexibility_of.Goals as goal
use Rattle.re_flexible.specs.Families.{AreApart, AreNext, IsFirst}
use Rattle.re_flexible.specs.Lengths.{IsLength}
use Rattle.re_flexible.specs.Relations.{IsWithin, Relates}

pub returns-in_default : goal.returns-in_default
returns-in_default c = λ set x trimmed held.
    let sets = c.trimmed_whole-sets.result.items in
    let top = top_none (unnamed c.args.problem.now) c.trimmed_whole-sets.ensures.problem sets c.trimmed_whole-sets.ensures.whole in
    let none : IsFirst sets None = subst (λ s. IsFirst s None) c.as_slice.ensures.value c.in_default.ensures in
    none x (top.greatest set (trimmed, (x, held)) x x held held)

pub levels-init : goal.levels-init
levels-init c =
    let sets = c.trimmed_whole-sets.result.items in
    let top = top_none (unnamed c.args.problem.now) c.trimmed_whole-sets.ensures.problem sets c.trimmed_whole-sets.ensures.whole in
    let first : IsFirst sets (Some c.in-Some._set) = subst (λ s. IsFirst s (Some c.in-Some._set)) c.as_slice.ensures.value c.in-Some.ensures in
    (0, record { is = omega arith; reached = reached_none (unnamed c.args.problem.now) MAX_LABELS sets first.0 c.trimmed_whole-sets.ensures.count top first.1 })

pub next_of-next-requires-clause-apart : goal.next_of-next-requires-clause-apart
next_of-next-requires-clause-apart c = subst AreApart (sym c.as_slice-in-levels.ensures.value) c.levels.invariant.1.reached.top.apart

pub returns-in_default-first_set : goal.returns-in_default-first_set
returns-in_default-first_set c =
    let sets = c.levels.sets.items in
    let next = c.next_of-next.result.items in
    let (k, so_far) = c.levels.invariant in
    let reached = so_far.reached in
    let are : AreNext (unnamed c.args.problem.now) sets next = subst (λ s. AreNext (unnamed c.args.problem.now) s next) c.as_slice-in-levels.ensures.value c.next_of-next.ensures.next in
    let none : IsFirst next None = subst (λ s. IsFirst s None) c.as_slice-in-levels-2.ensures.value c.in_default-first_set.ensures in
    let is : IsLength (unnamed c.args.problem.now) c.levels.count = subst (IsLength (unnamed c.args.problem.now)) (sym so_far.is)
    (top_length (unnamed c.args.problem.now) sets next k reached.some.0 reached.top reached.some.1 are (λ x y held. none x (own next are.apart x y held))) in
    ((let same = so_far.is in omega (arith, same)), is, none_flexible (unnamed c.args.problem.now) c.levels.count is)

pub returns-then-is_within : goal.returns-then-is_within
returns-then-is_within c =
    let sets = c.levels.sets.items in
    let next = c.next_of-next.result.items in
    let (k, so_far) = c.levels.invariant in
    let are : AreNext (unnamed c.args.problem.now) sets next = subst (λ s. AreNext (unnamed c.args.problem.now) s next) c.as_slice-in-levels.ensures.value c.next_of-next.ensures.next in
    let first : IsFirst next (Some c.in-Some-first_set.set) = subst (λ s. IsFirst s (Some c.in-Some-first_set.set)) c.as_slice-in-levels-2.ensures.value c.in-Some-first_set.ensures in
    let whole : IsWithin sets next = subst (λ t. IsWithin t next) c.as_slice-in-levels-3.ensures.value (subst (λ t. IsWithin c.as_slice-in-levels-3.result.now t) c.as_slice-in-levels-4.ensures.value c.if-is_within.ensures) in
    let (x, self, at, least) = first in
    first_flexible (unnamed c.args.problem.now) MAX_LABELS sets next k so_far.reached are c.in-Some-first_set.set x whole self at least

pub overflow_add-count : goal.overflow_add-count
overflow_add-count c =
    let sets = c.levels.sets.items in
    let next = c.next_of-next.result.items in
    let (k, so_far) = c.levels.invariant in
    let same = so_far.is in
    let are : AreNext (unnamed c.args.problem.now) sets next = subst (λ s. AreNext (unnamed c.args.problem.now) s next) c.as_slice-in-levels.ensures.value c.next_of-next.ensures.next in
    let (x, y, less, under, new, missing) = c.if-is_within.ensures in
    let low : k < MAX_LABELS = reached_low (unnamed c.args.problem.now) MAX_LABELS sets next k so_far.reached are x y (subst (λ t. Relates t x y) c.as_slice-in-levels-3.ensures.value new)
    (λ held. missing (subst (λ t. Relates t x y) (sym c.as_slice-in-levels-4.ensures.value) held)) in
    omega (arith, same, low)

pub levels-smaller : goal.levels-smaller
levels-smaller c =
    let sets = c.levels.sets.items in
    let next = c.next_of-next.result.items in
    let (k, so_far) = c.levels.invariant in
    let same = so_far.is in
    let are : AreNext (unnamed c.args.problem.now) sets next = subst (λ s. AreNext (unnamed c.args.problem.now) s next) c.as_slice-in-levels.ensures.value c.next_of-next.ensures.next in
    let (x, y, less, under, new, missing) = c.if-is_within.ensures in
    let low : k < MAX_LABELS = reached_low (unnamed c.args.problem.now) MAX_LABELS sets next k so_far.reached are x y (subst (λ t. Relates t x y) c.as_slice-in-levels-3.ensures.value new)
    (λ held. missing (subst (λ t. Relates t x y) (sym c.as_slice-in-levels-4.ensures.value) held)) in
    omega (arith, same, low)

pub levels-preserved : goal.levels-preserved
levels-preserved c =
    let sets = c.levels.sets.items in
    let next = c.next_of-next.result.items in
    let (k, so_far) = c.levels.invariant in
    let same = so_far.is in
    let are : AreNext (unnamed c.args.problem.now) sets next = subst (λ s. AreNext (unnamed c.args.problem.now) s next) c.as_slice-in-levels.ensures.value c.next_of-next.ensures.next in
    let first : IsFirst next (Some c.in-Some-first_set.set) = subst (λ s. IsFirst s (Some c.in-Some-first_set.set)) c.as_slice-in-levels-2.ensures.value c.in-Some-first_set.ensures in
    (suc k, record { is = (omega (arith, same)); reached = reached_more (unnamed c.args.problem.now) MAX_LABELS sets next k so_far.reached are first.0 c.next_of-next.ensures.count first.1 })
