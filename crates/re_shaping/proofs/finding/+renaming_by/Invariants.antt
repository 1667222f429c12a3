use Rattle.std.proofs.Common.{◌≡◌, ◌+◌, ◌-◌}
use Rattle.std.specs.List.{sum_by}
use Rattle.re_labels.specs.Lists.{count_from}
use Rattle.re_shaping.specs.Tries.{tries_for, tries_of}
use Rattle.re_shaping.proofs.Answering.{NoneBelow}
use Rattle.re_shaping.proofs.finding.+renaming_by.Given as goal

abbrev pub decreases-renaming_by : goal.decreases-renaming_by
decreases-renaming_by l = l.left

abbrev pub invariant-loop-label : goal.invariant-loop-label
invariant-loop-label l = record {
  none : NoneBelow l.from l.to l.colours l.others l.single l.label;
  tries : l.initial.tries ≡ l.tries + sum_by (tries_for (tries_of (l.left - 1) l.from l.to) l.from l.to l.colours l.others l.single) (count_from 0 l.label);
}
