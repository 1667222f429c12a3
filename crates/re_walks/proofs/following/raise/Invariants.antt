use Rattle.std.proofs.Common.{◌≡◌, length}
use Rattle.re_walks.specs.Walking.{raised}
use Rattle.re_walks.proofs.following.raise.Given as goal

abbrev pub invariant-loop-label : goal.invariant-loop-label
invariant-loop-label l = raised l.n l.labels.items ≡ raised l.n l.initial.labels.items

abbrev pub decreases-loop-label : goal.decreases-loop-label
decreases-loop-label l = length l.labels.items
