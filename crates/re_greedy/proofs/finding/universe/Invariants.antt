use Rattle.std.proofs.Common.{◌≡◌, ◌++◌}
use Rattle.re_greedy.proofs.finding.universe.Given as goal
use Rattle.re_greedy.specs.Partials.{IsUniverseTo}

abbrev pub invariant-loop-config : goal.invariant-loop-config
invariant-loop-config l = l.all.items ++ l.config-iterator ≡ l.passive.configs

abbrev pub invariant-loop-place : goal.invariant-loop-place
invariant-loop-place l = IsUniverseTo l.passive l.all.items l.place
