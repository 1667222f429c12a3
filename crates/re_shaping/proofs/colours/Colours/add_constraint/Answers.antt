use Rattle.std.proofs.Common.{◌+◌, ◌<◌, ◌%◌, ◌^◌, ap, arith, ◌∙◌, sym, length, get_or}
use Rattle.std.specs.List.{sum_by}
use Rattle.re_shaping.specs.Colours.{config_number, numbers_at, times_in}
use Rattle.re_shaping.proofs.Coding.{constraint_step, none_more}
use Rattle.re_shaping.proofs.colours.Colours.add_constraint.Goals as goal

pub loop-config-init : goal.loop-config-init
unfolding numbers_at
loop-config-init c = λ k below.
    ap (λ l. (get_or c.args.sums.now k 0 + sum_by (λ config. times_in config k (config_number c.args.self.now c.args.side config)) l) % 2 ^ 64)
    (c.into_iter-config-iterator.ensures.into_iter_gives ∙ c.configs-config-items.ensures)

pub loop-config-preserved : goal.loop-config-preserved
loop-config-preserved c = λ k below.
    let inside : k < length c.loop-config.sums = omega (arith, c.add_config.auto.sums) in
    constraint_step (λ config. times_in config k (config_number c.args.self.now c.args.side config)) c.in-Some.config.now c.next.new.self (get_or c.add_config.new.sums k 0) (get_or c.loop-config.sums k 0)
    ((get_or c.args.sums.now k 0 + numbers_at c.args.self.now c.args.side c.args.constraint.now k) % 2 ^ 64)
    (c.add_config.ensures k below ∙ ap (λ n. (get_or c.loop-config.sums k 0 + times_in c.in-Some.config.now k n) % 2 ^ 64) c.of_config.ensures)
    (ap (λ l. (get_or c.loop-config.sums k 0 + sum_by (λ config. times_in config k (config_number c.args.self.now c.args.side config)) l) % 2 ^ 64) (sym c.in-Some.ensures.steps)
    ∙ c.loop-config.invariant k inside)

pub returns : goal.returns
returns c = λ i below.
    none_more (get_or c.loop-config.sums i 0)
    ∙ ap (λ l. (get_or c.loop-config.sums i 0 + sum_by (λ config. times_in config i (config_number c.args.self.now c.args.side config)) l) % 2 ^ 64) (sym c.in-None.ensures.steps.0)
    ∙ c.loop-config.invariant i below
