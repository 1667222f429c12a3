use Rattle.std.proofs.Common.{◌≡◌, ◌++◌, take}
use Rattle.re_labels.specs.Rows.{singles}
use Rattle.re_choice.proofs.choice.fixed.Given as goal

abbrev pub invariant-loop-label : goal.invariant-loop-label
invariant-loop-label l = l.sets.items ≡ singles (take l.label-index l.drawn)

abbrev pub invariant-loop-set : goal.invariant-loop-set
invariant-loop-set l = l.sets.items ≡ singles l.drawn ++ take l.set-index l.others
