use Rattle.std.proofs.Common.{◌≡◌, ◌≤◌, length, take}
use Rattle.std.specs.Prelude.{slice_set}
use Rattle.re_labels.specs.ListSets.{list_set}
use Rattle.re_shaping.proofs.naming.names_with.Given as goal

abbrev pub invariant-loop-other : goal.invariant-loop-other
invariant-loop-other l = record {
  names : l.renamed ≡ list_set (take l.other (slice_set l.names l.label l.name));
  few : length l.renamed ≤ l.other;
}
