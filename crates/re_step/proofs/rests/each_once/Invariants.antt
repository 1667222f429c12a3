use Rattle.std.proofs.Common.{ℕ, List, Contains, ◌↔◌, take}
use Rattle.re_step.proofs.rests.each_once.Given as goal

abbrev pub invariant-loop-config : goal.invariant-loop-config
invariant-loop-config l = (config : List ℕ) → Contains l.kept.items config ↔ Contains (take l.config-index l.configs) config
