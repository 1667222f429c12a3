use Rattle.std.proofs.Common.{◌≡◌, ◌<◌, ◌+◌, ℕ, List, [], Err, ap, arith, get_or, length, map, subst, sym, ◌∙◌}
use Rattle.std.specs.Prelude.{Contains}
use Rattle.std.specs.List.{AllByRecursion}
use Rattle.std.proofs.lemmas.List.Elements.{Contains-get_or}
use Rattle.re_labels.proofs.Sorting.{length-sorted}
use Rattle.re_labels.specs.Configs.{IsConfig, image_at}
use Rattle.re_labels.proofs.Membership.{AllByRecursion-contains, length-map'}
use Rattle.re_labels.specs.ListSets.{with_list}
use Rattle.re_labels.specs.Sets.{has}
use Rattle.re_labels.proofs.Insertions.{length-with_list_most}
use Rattle.re_labels.proofs.Walked.{walked-all, walked-more}
use Rattle.re_changes.proofs.LeftOut.{images-all, images-passed, images-step}
use Rattle.re_changes.proofs.without.image_without.Goals as goal
use Rattle.re_labels.specs.declared.TheConstants.{MAX_LABELS}

-- a configuration at a place is one
held-at : (configs : List (List ℕ)) (place : ℕ) (config : List ℕ) → place < length configs → config ≡ get_or configs place [] → Contains configs config
held-at configs place config l at = subst (Contains configs) (sym at) (Contains-get_or configs place [] l)

pub image-requires-clause-known : goal.image-requires-clause-known
image-requires-clause-known c =
    let step = walked-more c.args.constraint.now.configs c.loop-config.invariant.0 [] c.in-Some.config.now c.next.new.self (sym c.loop-config.invariant.1.left ∙ c.in-Some.ensures.steps) in
    AllByRecursion-contains (AllByRecursion (λ x. x < length c.args.images.now)) c.args.constraint.now.configs c.in-Some.config.now c.requires.known
    (held-at c.args.constraint.now.configs c.loop-config.invariant.0 c.in-Some.config.now step.0 step.1)

pub insert-requires : goal.insert-requires
insert-requires c =
    let step = walked-more c.args.constraint.now.configs c.loop-config.invariant.0 [] c.in-Some.config.now c.next.new.self (sym c.loop-config.invariant.1.left ∙ c.in-Some.ensures.steps) in
    ap length c.image.ensures ∙ length-sorted (map (image_at c.args.images.now) c.in-Some.config.now) ∙ length-map' (image_at c.args.images.now) c.in-Some.config.now
    ∙ (AllByRecursion-contains (IsConfig c.args.constraint.now.degree MAX_LABELS) c.args.constraint.now.configs c.in-Some.config.now c.degree.ensures.constraint.configs
    (held-at c.args.constraint.now.configs c.loop-config.invariant.0 c.in-Some.config.now step.0 step.1)).count
    ∙ sym c.loop-config.invariant.1.degree

pub unreachable-requires : goal.unreachable-requires
unreachable-requires c =
    let place = c.loop-config.invariant.0 in
    let so_far = c.loop-config.invariant.1 in
    let step = walked-more c.args.constraint.now.configs place [] c.in-Some.config.now c.next.new.self (sym so_far.left ∙ c.in-Some.ensures.steps) in
    let full = c.in-Err-TooManyConfigurations.ensures.full.0 (ap Err c.in-Err-TooManyConfigurations.field-0-is) in
    omega (arith, full.0, so_far.few, step.0, c.len-count.ensures.len, c.len-count.ensures.most)

pub loop-config-preserved-in-Ok : goal.loop-config-preserved-in-Ok
loop-config-preserved-in-Ok c =
    let place = c.loop-config.invariant.0 in
    let so_far = c.loop-config.invariant.1 in
    let config = c.in-Some.config.now in
    let step = walked-more c.args.constraint.now.configs place [] config c.next.new.self (sym so_far.left ∙ c.in-Some.ensures.steps) in
    let absent = ap (λ labels. has labels c.args.label) (sym c.labels.ensures.labels) ∙ sym c.contains.ensures.value ∙ c.if-not-contains.true in (
      place + 1,
      record {
        left = step.2;
        degree = c.insert.ensures.degree ∙ so_far.degree;
        configs = c.in-Ok.ensures.configs ∙ ap (with_list c.loop-config.rest.configs) c.image.ensures
            ∙ images-step c.args.label c.args.images.now c.args.constraint.now.configs c.loop-config.rest.configs place config step.0 step.1 absent so_far.configs;
        few = omega (arith, ap length c.in-Ok.ensures.configs, length-with_list_most c.loop-config.rest.configs c.image.result, so_far.few);
      },
    )

pub loop-config-preserved : goal.loop-config-preserved
loop-config-preserved c =
    let place = c.loop-config.invariant.0 in
    let so_far = c.loop-config.invariant.1 in
    let config = c.in-Some.config.now in
    let step = walked-more c.args.constraint.now.configs place [] config c.next.new.self (sym so_far.left ∙ c.in-Some.ensures.steps) in
    let there = ap (λ labels. has labels c.args.label) (sym c.labels.ensures.labels) ∙ sym c.contains.ensures.value ∙ c.if-not-contains.false in (
      place + 1,
      record {
        left = step.2;
        degree = so_far.degree;
        configs = images-passed c.args.label c.args.images.now c.args.constraint.now.configs c.loop-config.rest.configs place config step.0 step.1 there so_far.configs;
        few = omega (arith, so_far.few);
      },
    )

pub returns : goal.returns
returns c =
    let place = c.loop-config.invariant.0 in
    let so_far = c.loop-config.invariant.1 in
    images-all c.args.label c.args.images.now c.args.constraint.now c.loop-config.rest place
    (walked-all c.args.constraint.now.configs place [] (sym so_far.left ∙ c.in-None.ensures.steps.0)) so_far.degree so_far.configs
