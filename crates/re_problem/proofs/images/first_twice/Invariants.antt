use Rattle.std.proofs.Common.{◌≡◌, ℕ, ◌<◌, false, take}
use Rattle.re_labels.specs.Configs.{image_at}
use Rattle.re_labels.specs.Sets.{has}
use Rattle.re_problem.proofs.images.first_twice.Given as goal

abbrev pub invariant-loop-label : goal.invariant-loop-label
invariant-loop-label l = (k : ℕ) → k < l.label → has (take k l.images) (image_at l.images k) ≡ false
