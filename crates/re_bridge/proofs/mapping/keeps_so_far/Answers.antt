use Rattle.std.proofs.Common.{◌+◌, [], length, sym, take, ◌-◌, ◌∙◌}
use Rattle.re_labels.proofs.Walked.{walked-all, walked-more}
use Rattle.re_bridge.proofs.MapTests.{all-done, all-fails, all-more, all-there}
use Rattle.re_bridge.specs.Reductions.{is_kept_so_far}
use Rattle.re_bridge.proofs.mapping.keeps_so_far.Goals as goal

pub keeps_config-requires-clause-front : goal.keeps_config-requires-clause-front
keeps_config-requires-clause-front c =
    let place = c.loop-config.invariant.0 in
    let configs = c.args.constraint.now.configs in
    let step = walked-more configs place [] c.in-Some.config.now c.next.new.self (sym c.loop-config.invariant.1.left ∙ c.in-Some.ensures.steps) in
    all-there (is_kept_so_far c.args.constraint.now (take (length c.args.images.now - 1) c.args.images.now)) configs place c.in-Some.config.now [] step.0 step.1 c.requires.front

pub returns-then-not-keeps_config : goal.returns-then-not-keeps_config
returns-then-not-keeps_config c =
    let place = c.loop-config.invariant.0 in
    let configs = c.args.constraint.now.configs in
    let step = walked-more configs place [] c.in-Some.config.now c.next.new.self (sym c.loop-config.invariant.1.left ∙ c.in-Some.ensures.steps) in
    sym (all-fails (is_kept_so_far c.args.constraint.now c.args.images.now) configs place c.in-Some.config.now [] step.0 step.1 (sym c.keeps_config.ensures ∙ c.if-not-keeps_config.true))

pub loop-config-preserved : goal.loop-config-preserved
loop-config-preserved c =
    let place = c.loop-config.invariant.0 in
    let configs = c.args.constraint.now.configs in
    let step = walked-more configs place [] c.in-Some.config.now c.next.new.self (sym c.loop-config.invariant.1.left ∙ c.in-Some.ensures.steps) in (
      place + 1,
      record {
        left = step.2;
        kept = all-more (is_kept_so_far c.args.constraint.now c.args.images.now) configs place c.in-Some.config.now [] step.0 step.1 c.loop-config.invariant.1.kept (sym c.keeps_config.ensures ∙ c.if-not-keeps_config.false);
      },
    )

pub returns : goal.returns
returns c =
    let place = c.loop-config.invariant.0 in
    let configs = c.args.constraint.now.configs in
    sym (all-done (is_kept_so_far c.args.constraint.now c.args.images.now) configs place (walked-all configs place [] (sym c.loop-config.invariant.1.left ∙ c.in-None.ensures.steps.0)) c.loop-config.invariant.1.kept)
