use Rattle.std.proofs.Common.{ℕ, ◌<◌, get_or, []}
use Rattle.re_labels.specs.Sets.{IsLabelSet}
use Rattle.re_check.proofs.judging.are_below.Given as goal

abbrev pub invariant-loop-set : goal.invariant-loop-set
invariant-loop-set l = (k : ℕ) → k < l.set-index → IsLabelSet l.labels (get_or l.sets k [])
