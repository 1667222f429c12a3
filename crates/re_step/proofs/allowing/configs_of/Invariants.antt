use Rattle.std.proofs.Common.{◌≡◌, ◌++◌}
use Rattle.re_step.proofs.allowing.configs_of.Given as goal

abbrev pub invariant-loop-config : goal.invariant-loop-config
invariant-loop-config l = l.configs.items ++ l.config-iterator ≡ l.constraint.configs
