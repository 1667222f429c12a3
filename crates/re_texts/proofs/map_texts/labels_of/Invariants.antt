use Rattle.std.proofs.Common.{◌≡◌, take}
use Rattle.re_labels.specs.Rows.{singles}
use Rattle.re_texts.proofs.map_texts.labels_of.Given as goal

abbrev pub invariant-loop-set : goal.invariant-loop-set
invariant-loop-set l = singles l.labels.items ≡ take l.set-index l.sets
