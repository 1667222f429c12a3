use Rattle.std.proofs.Common.{◌+◌, ◌<◌, ◌%◌, ◌^◌, ap, arith, ◌∙◌, sym, zero-add}
use Rattle.std.proofs.Math.Nat.{mod-eq_of_lt, mod-mod}
use Rattle.std.specs.List.{sum_by}
use Rattle.re_shaping.specs.Marks.{config_mark, constraint_mark}
use Rattle.re_shaping.specs.Mixing.{mixed}
use Rattle.re_shaping.proofs.Coding.{constraint_step, none_more}
use Rattle.re_shaping.proofs.marks.constraint_mark.Goals as goal

pub loop-config-init : goal.loop-config-init
loop-config-init c =
    ap (λ l. (0 + sum_by (λ config. mixed (config_mark config)) l) % 2 ^ 64) (c.into_iter-config-iterator.ensures.into_iter_gives ∙ c.configs-config-items.ensures)
    ∙ ap (λ s. s % 2 ^ 64) (zero-add (sum_by (λ config. mixed (config_mark config)) c.args.constraint.now.configs))

pub loop-config-preserved : goal.loop-config-preserved
loop-config-preserved c =
    constraint_step (λ config. mixed (config_mark config)) c.in-Some.config.now c.next.new.self ((c.loop-config.mark + c.mixed-mark.result) % 2 ^ 64) c.loop-config.mark
    (sum_by (λ config. mixed (config_mark config)) c.args.constraint.now.configs % 2 ^ 64)
    (mod-mod (c.loop-config.mark + c.mixed-mark.result) (2 ^ 64) ∙ ap (λ n. (c.loop-config.mark + n) % 2 ^ 64) (c.mixed-mark.ensures ∙ ap mixed c.config_mark.ensures))
    (ap (λ l. (c.loop-config.mark + sum_by (λ config. mixed (config_mark config)) l) % 2 ^ 64) (sym c.in-Some.ensures.steps) ∙ c.loop-config.invariant)

pub returns : goal.returns
unfolding constraint_mark
returns c =
    let fits : c.loop-config.mark < 2 ^ 64 = omega arith in
    c.mixed.ensures
    ∙ ap mixed (sym (mod-eq_of_lt fits)
    ∙ none_more c.loop-config.mark
    ∙ ap (λ l. (c.loop-config.mark + sum_by (λ config. mixed (config_mark config)) l) % 2 ^ 64) (sym c.in-None.ensures.steps.0)
    ∙ c.loop-config.invariant)
