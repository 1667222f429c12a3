use Rattle.std.proofs.Common.{◌≡◌, ◌≤◌, length, take}
use Rattle.re_labels.specs.ListSets.{list_set}
use Rattle.re_labels.proofs.constraint_table.collected.Given as goal

abbrev pub invariant-loop-config : goal.invariant-loop-config
invariant-loop-config l = record {
  degree : l.whole.degree ≡ l.degree;
  configs : l.whole.configs ≡ list_set (take l.config-index l.configs);
  few : length l.whole.configs ≤ l.config-index;
}
