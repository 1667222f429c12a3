use Rattle.std.proofs.Common.{◌≡◌, ℕ, ◌<◌, ◌+◌, List, ◌++◌, length}
use Rattle.re_labels.specs.declared.TheConstants.{MAX_LABELS}
use Rattle.re_labels.specs.ListSets.{list_set}
use Rattle.re_labels.specs.Sets.{IsLabelSet}
use Rattle.re_labels.specs.Constraints.{with_each}
use Rattle.re_labels.specs.PrefixTrees.{IsTable, held_configs}
use Rattle.re_labels.specs.declared.constraint_table.TheConstants.{MAX_CONFIGURATIONS}
use Rattle.re_labels.proofs.prefix_tree.put_each.Given as goal

abbrev pub invariant-each : goal.invariant-each
invariant-each l = record {
  set : IsLabelSet MAX_LABELS l.left;
  table : IsTable (length l.labels + 1) MAX_CONFIGURATIONS l.nodes.items;
  filled : 0 < length l.nodes.items;
  held : (begun : List ℕ) × (begun ++ l.left ≡ l.fn.lasts) × (held_configs l.nodes.items ≡ list_set (held_configs l.fn.nodes.items ++ with_each l.labels begun));
}

abbrev pub decreases-each : goal.decreases-each
decreases-each l = length l.left
