use Rattle.std.proofs.Common.{◌≡◌, ℕ, ◌<◌, [], false, get_or, map, not}
use Rattle.re_labels.specs.Configs.{image_at}
use Rattle.re_labels.specs.Constraints.{has_config}
use Rattle.re_problem.proofs.images.first_lost.Given as goal

abbrev pub invariant-loop-place : goal.invariant-loop-place
invariant-loop-place l = (k : ℕ) → k < l.place → not (has_config l.to (map (image_at l.images) (get_or l.from.configs k []))) ≡ false
