use Rattle.std.proofs.Common.{◌≡◌, ◌++◌, ◌-◌, length, take}
use Rattle.std.specs.Prelude.{replicate}
use Rattle.re_labels.specs.Rows.{singles}
use Rattle.re_walks.proofs.begun.begun_sets.Given as goal

abbrev pub invariant-loop-label : goal.invariant-loop-label
invariant-loop-label l = l.sets.items ≡ singles (take l.label-index l.labels)

abbrev pub invariant-loop-place : goal.invariant-loop-place
invariant-loop-place l = l.sets.items ≡ singles l.labels ++ replicate (l._place - length l.labels) l.all
