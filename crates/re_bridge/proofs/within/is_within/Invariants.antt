use Rattle.std.proofs.Common.{◌≡◌, take, true}
use Rattle.re_labels.specs.Sets.{within}
use Rattle.re_bridge.proofs.within.is_within.Given as goal

abbrev pub invariant-loop-label : goal.invariant-loop-label
invariant-loop-label l = within (take l.label-index l.config) l.labels ≡ true
