use Rattle.std.proofs.Common.{◌≡◌, ◌∙◌, ◌+◌, ◌<◌, ◌⊎◌, ℕ, [], ap, length, subst, sym, take}
use Rattle.std.specs.List.{AllByRecursion}
use Rattle.std.specs.Prelude.{◌↔◌}
use Rattle.re_labels.proofs.Tests.{not_told}
use Rattle.re_labels.specs.declared.TheConstants.{MAX_LABELS}
use Rattle.re_labels.proofs.Lists.{refilled}
use Rattle.re_labels.proofs.Walked.{walked-all, walked-more}
use Rattle.re_flexible.proofs.Joining.{JoinedIn, joined_all, joined_more, joined_none, joined_past}
use Rattle.re_flexible.proofs.together.joins.Goals as goal
use Rattle.re_flexible.specs.Relations.{Relates, Stands}

pub loop-config-init : goal.loop-config-init
loop-config-init c = (
  0,
  record {
    left = c.into_iter-config-iterator.ensures.into_iter_gives ∙ c.configs-config-items.ensures;
    count = c.nothing-table.ensures.count;
    joined = joined_none c.args.sets.now c.nothing-table.result.items c.nothing-table.ensures.nothing;
  },
)

pub note-requires : goal.note-requires
note-requires c = record {
  count = ap length c.as_mut_slice.ensures.value ∙ c.loop-config.invariant.1.count;
  below = subst (AllByRecursion (λ label. label < MAX_LABELS)) (sym c.labels.ensures.labels) c.labels.ensures.config.below;
}

pub loop-config-preserved-then-is_of_one : goal.loop-config-preserved-then-is_of_one
loop-config-preserved-then-is_of_one c =
    let place = c.loop-config.invariant.0 in
    let so_far = c.loop-config.invariant.1 in
    let config = c.in-Some.config.now in
    let step = walked-more c.args.constraint.now.configs place [] config c.next.new.self (sym so_far.left ∙ c.in-Some.ensures.steps) in
    let given : c.as_mut_slice.result.now ≡ c.loop-config.table.items = c.as_mut_slice.ensures.value in
    let kept : length c.note.new.table ≡ length c.loop-config.table.items = c.note.auto.table ∙ ap length given in
    let whole = refilled c.loop-config.table.items c.note.new.table kept in
    let noted : (x y : ℕ) → Relates c.note.new.table x y ↔ (Relates c.loop-config.table.items x y ⊎ Stands config x y) =
    λ x y. subst (λ t. Relates c.note.new.table x y ↔ (Relates t x y ⊎ Stands config x y)) given
    (subst (λ labels. Relates c.note.new.table x y ↔ (Relates c.as_mut_slice.result.now x y ⊎ Stands labels x y)) c.labels.ensures.labels (c.note.ensures x y)) in (
      place + 1,
      record {
        left = step.2;
        count = ap length whole ∙ kept ∙ so_far.count;
        joined = subst (λ t. (x y : ℕ) → Relates t x y ↔ JoinedIn (take (place + 1) c.args.constraint.now.configs) c.args.sets.now x y) (sym whole)
            (joined_more c.args.constraint.now.configs place config c.args.sets.now c.loop-config.table.items c.note.new.table step.0 step.1
            (c.is_of_one.ensures.0 c.if-is_of_one.true) so_far.joined noted);
      },
    )

pub loop-config-preserved : goal.loop-config-preserved
loop-config-preserved c =
    let place = c.loop-config.invariant.0 in
    let so_far = c.loop-config.invariant.1 in
    let config = c.in-Some.config.now in
    let step = walked-more c.args.constraint.now.configs place [] config c.next.new.self (sym so_far.left ∙ c.in-Some.ensures.steps) in (
      place + 1,
      record {
        left = step.2;
        count = so_far.count;
        joined = joined_past c.args.constraint.now.configs place config c.args.sets.now c.loop-config.table.items step.0 step.1
            (not_told c.is_of_one.result c.is_of_one.ensures c.if-is_of_one.false) so_far.joined;
      },
    )

pub returns-clause-joins : goal.returns-clause-joins
returns-clause-joins c =
    let place = c.loop-config.invariant.0 in
    let so_far = c.loop-config.invariant.1 in
    joined_all MAX_LABELS c.args.constraint.now c.args.sets.now c.degree-degree.ensures.constraint c.requires.apart c.loop-config.table.items place
    (walked-all c.args.constraint.now.configs place [] (sym so_far.left ∙ c.in-None.ensures.steps.0)) so_far.joined
