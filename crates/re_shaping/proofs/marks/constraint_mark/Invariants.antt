use Rattle.std.proofs.Common.{◌≡◌, ◌+◌, ◌%◌, ◌^◌}
use Rattle.std.specs.List.{sum_by}
use Rattle.re_shaping.specs.Marks.{config_mark}
use Rattle.re_shaping.specs.Mixing.{mixed}
use Rattle.re_shaping.proofs.marks.constraint_mark.Given as goal

abbrev pub invariant-loop-config : goal.invariant-loop-config
invariant-loop-config l = (l.mark + sum_by (λ config. mixed (config_mark config)) l.config-iterator) % 2 ^ 64 ≡ sum_by (λ config. mixed (config_mark config)) l.constraint.configs % 2 ^ 64
