use Rattle.std.proofs.Common.{◌≡◌, ◌+◌, [], Err, ap, arith, length, sym, ◌∙◌}
use Rattle.re_labels.specs.ListSets.{with_list}
use Rattle.re_labels.specs.Sets.{has}
use Rattle.re_labels.proofs.Insertions.{length-with_list_most}
use Rattle.re_labels.proofs.Walked.{walked-all, walked-more}
use Rattle.re_changes.proofs.LeftOut.{without-all, without-passed, without-step}
use Rattle.re_changes.proofs.without.constraint_without.Goals as goal
use Rattle.re_labels.specs.declared.TheConstants.{MAX_LABELS}

pub unreachable-requires : goal.unreachable-requires
unreachable-requires c =
    let place = c.loop-config.invariant.0 in
    let so_far = c.loop-config.invariant.1 in
    let step = walked-more c.args.constraint.now.configs place [] c.in-Some.config.now c.next.new.self (sym so_far.left ∙ c.in-Some.ensures.steps) in
    let full = c.in-Err-TooManyConfigurations.ensures.full.0 (ap Err c.in-Err-TooManyConfigurations.field-0-is) in
    omega (arith, full.0, so_far.few, step.0, c.len-count.ensures.len, c.len-count.ensures.most)

pub loop-config-preserved-in-Ok : goal.loop-config-preserved-in-Ok
loop-config-preserved-in-Ok c =
    let place = c.loop-config.invariant.0 in
    let so_far = c.loop-config.invariant.1 in
    let config = c.in-Some.config.now in
    let step = walked-more c.args.constraint.now.configs place [] config c.next.new.self (sym so_far.left ∙ c.in-Some.ensures.steps) in
    let at : has config c.args.label ≡ c.contains.result =
    ap (λ labels. has labels c.args.label) (sym c.labels.ensures.labels) ∙ sym c.contains.ensures.value in (
      place + 1,
      record {
        left = step.2;
        degree = c.insert.ensures.degree ∙ so_far.degree;
        configs = c.in-Ok.ensures.configs ∙ ap (with_list c.loop-config.rest.configs) c.copy.ensures
            ∙ without-step c.args.label c.args.constraint.now.configs c.loop-config.rest.configs place config step.0 step.1 (at ∙ c.if-not-contains.true) so_far.configs;
        few = omega (arith, ap length c.in-Ok.ensures.configs, length-with_list_most c.loop-config.rest.configs c.copy.result, so_far.few);
      },
    )

pub loop-config-preserved : goal.loop-config-preserved
loop-config-preserved c =
    let place = c.loop-config.invariant.0 in
    let so_far = c.loop-config.invariant.1 in
    let config = c.in-Some.config.now in
    let step = walked-more c.args.constraint.now.configs place [] config c.next.new.self (sym so_far.left ∙ c.in-Some.ensures.steps) in
    let at : has config c.args.label ≡ c.contains.result =
    ap (λ labels. has labels c.args.label) (sym c.labels.ensures.labels) ∙ sym c.contains.ensures.value in (
      place + 1,
      record {
        left = step.2;
        degree = so_far.degree;
        configs = without-passed c.args.label c.args.constraint.now.configs c.loop-config.rest.configs place config step.0 step.1 (at ∙ c.if-not-contains.false) so_far.configs;
        few = omega (arith, so_far.few);
      },
    )

pub returns : goal.returns
returns c =
    let place = c.loop-config.invariant.0 in
    let so_far = c.loop-config.invariant.1 in
    without-all c.args.label MAX_LABELS c.args.constraint.now c.loop-config.rest place c.degree.ensures.constraint
    (walked-all c.args.constraint.now.configs place [] (sym so_far.left ∙ c.in-None.ensures.steps.0)) so_far.degree so_far.configs
