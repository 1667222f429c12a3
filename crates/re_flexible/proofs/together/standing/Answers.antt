use Rattle.std.proofs.Common.{◌∙◌, ◌+◌, [], ap, sym}
use Rattle.re_labels.proofs.Tests.{not_told}
use Rattle.re_labels.specs.Sets.{union}
use Rattle.re_labels.specs.declared.TheConstants.{MAX_LABELS}
use Rattle.re_labels.proofs.Walked.{walked-all, walked-more}
use Rattle.re_flexible.proofs.Joining.{standing_all, standing_early, standing_more, standing_none, standing_past}
use Rattle.re_flexible.proofs.together.standing.Goals as goal

pub loop-config-init : goal.loop-config-init
loop-config-init c = (
  0,
  record {
    left = c.into_iter-config-iterator.ensures.into_iter_gives ∙ c.configs-config-items.ensures;
    standing = standing_none c.args.sets.now c.empty-all.result c.empty-all.ensures;
  },
)

pub returns-then-within : goal.returns-then-within
returns-then-within c =
    let place = c.loop-config.invariant.0 in
    let so_far = c.loop-config.invariant.1 in
    let config = c.in-Some.config.now in
    let step = walked-more c.args.constraint.now.configs place [] config c.next.new.self (sym so_far.left ∙ c.in-Some.ensures.steps) in
    standing_early MAX_LABELS c.args.constraint.now c.args.sets.now c.degree-degree.ensures.constraint c.requires.apart c.union-all.result c.labels_in-wanted.result (place + 1)
    (standing_more c.args.constraint.now.configs place config c.args.sets.now c.loop-config.all c.union-all.result step.0 step.1
    (c.is_of_one.ensures.0 c.if-is_of_one.true) so_far.standing (c.union-all.ensures ∙ ap (union c.loop-config.all) c.support-labels.ensures))
    c.labels_in-wanted.ensures (sym c.within.ensures ∙ c.if-within.true)

pub loop-config-preserved-else-within : goal.loop-config-preserved-else-within
loop-config-preserved-else-within c =
    let place = c.loop-config.invariant.0 in
    let so_far = c.loop-config.invariant.1 in
    let config = c.in-Some.config.now in
    let step = walked-more c.args.constraint.now.configs place [] config c.next.new.self (sym so_far.left ∙ c.in-Some.ensures.steps) in (
      place + 1,
      record {
        left = step.2;
        standing = standing_more c.args.constraint.now.configs place config c.args.sets.now c.loop-config.all c.union-all.result step.0 step.1
            (c.is_of_one.ensures.0 c.if-is_of_one.true) so_far.standing (c.union-all.ensures ∙ ap (union c.loop-config.all) c.support-labels.ensures);
      },
    )

pub loop-config-preserved : goal.loop-config-preserved
loop-config-preserved c =
    let place = c.loop-config.invariant.0 in
    let so_far = c.loop-config.invariant.1 in
    let config = c.in-Some.config.now in
    let step = walked-more c.args.constraint.now.configs place [] config c.next.new.self (sym so_far.left ∙ c.in-Some.ensures.steps) in (
      place + 1,
      record {
        left = step.2;
        standing = standing_past c.args.constraint.now.configs place config c.args.sets.now c.loop-config.all step.0 step.1
            (not_told c.is_of_one.result c.is_of_one.ensures c.if-is_of_one.false) so_far.standing;
      },
    )

pub returns : goal.returns
returns c =
    let place = c.loop-config.invariant.0 in
    let so_far = c.loop-config.invariant.1 in
    standing_all MAX_LABELS c.args.constraint.now c.args.sets.now c.degree-degree.ensures.constraint c.requires.apart c.loop-config.all place
    (walked-all c.args.constraint.now.configs place [] (sym so_far.left ∙ c.in-None.ensures.steps.0)) so_far.standing
