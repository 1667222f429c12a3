use Rattle.std.proofs.Common.{◌≡◌, ◌<◌, ℕ, [], get_or}
use Rattle.re_labels.specs.Sets.{IsIn}
use Rattle.re_boxes.proofs.visiting.are_alone.Given as goal

abbrev pub invariant-loop-label : goal.invariant-loop-label
invariant-loop-label l = (a b : ℕ) → a < l.label → IsIn b (get_or l.ups a []) → b ≡ a
