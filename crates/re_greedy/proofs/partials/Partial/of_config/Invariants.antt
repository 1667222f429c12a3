use Rattle.std.proofs.Common.{◌≡◌, take}
use Rattle.re_greedy.proofs.partials.Partial.of_config.Given as goal

abbrev pub invariant-loop-label : goal.invariant-loop-label
invariant-loop-label l = l.held.items ≡ take l.label-index l.label-items
