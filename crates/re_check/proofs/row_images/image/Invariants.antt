use Rattle.std.proofs.Common.{◌≡◌, ◌<◌, map, take}
use Rattle.std.specs.List.{AllByRecursion}
use Rattle.re_problem.specs.Steps.{label_of}
use Rattle.re_check.proofs.row_images.image.Given as goal
use Rattle.re_labels.specs.declared.TheConstants.{MAX_LABELS}

abbrev pub invariant-loop-set : goal.invariant-loop-set
invariant-loop-set l = record {
  labels : l.labels.items ≡ map (label_of l.entries) (take l.set-index l.set-items);
  below : AllByRecursion (λ x. x < MAX_LABELS) l.labels.items;
}
