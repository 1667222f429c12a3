use Rattle.std.proofs.Common.{◌≡◌, ◌++◌, filter, map, take}
use Rattle.re_labels.specs.Configs.{sorted}
use Rattle.re_labels.specs.Orders.{splits}
use Rattle.re_step.proofs.rests.push_rests.Given as goal
use Rattle.re_labels.specs.Sets.{has}

abbrev pub invariant-loop-place : goal.invariant-loop-place
invariant-loop-place l = l.rests.items ≡ l.initial.rests.items ++ map (λ split. sorted split.1) (filter (λ split. has l.set split.0) (take l.place (splits l.config)))
