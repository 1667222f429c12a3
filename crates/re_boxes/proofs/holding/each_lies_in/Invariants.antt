use Rattle.std.proofs.Common.{◌≡◌, true, take}
use Rattle.std.specs.List.{list_all, list_any}
use Rattle.re_labels.specs.Sets.{within}
use Rattle.re_boxes.proofs.holding.each_lies_in.Given as goal

abbrev pub invariant-loop-set : goal.invariant-loop-set
invariant-loop-set l = list_all (λ set. list_any (within set) l.others) (take l.set-index l.sets) ≡ true
