use Rattle.std.proofs.Common.{◌≡◌, ℕ, ◌≤◌, ◌+◌, List, [], ◌∷◌, ◌++◌, length}
use Rattle.std.specs.List.{AllByRecursion}
use Rattle.std.specs.Vec.{vec_capacity, vec_len}
use Rattle.re_labels.specs.declared.TheConstants.{MAX_LABELS}
use Rattle.re_labels.specs.Lists.{IsRising}
use Rattle.re_labels.specs.ListSets.{list_set}
use Rattle.re_labels.specs.Sets.{IsLabelSet}
use Rattle.re_labels.specs.Constraints.{with_each}
use Rattle.re_labels.specs.PrefixTrees.{IsTable, held_configs}
use Rattle.re_labels.specs.TreeGrowth.{IsChildBefore}
use Rattle.re_labels.specs.declared.constraint_table.TheConstants.{MAX_CONFIGURATIONS}
use Rattle.re_labels.proofs.prefix_tree.grow_run.Given as goal

abbrev pub invariant-run : goal.invariant-run
invariant-run l = record {
  set : IsLabelSet MAX_LABELS l.left;
  table : IsTable (length l.labels + 1) MAX_CONFIGURATIONS l.nodes.items;
  behind : AllByRecursion (λ last. IsChildBefore l.nodes.items l.labels l.at last × IsRising (λ x y. x ≤ y) (l.labels ++ last ∷ [])) l.left;
  few : length (held_configs l.nodes.items) + length l.left ≤ MAX_CONFIGURATIONS;
  room : vec_len l.nodes + length l.left + 6 ≤ vec_capacity l.nodes;
  held : (begun : List ℕ) × (begun ++ l.left ≡ l.fn.lasts) × (held_configs l.nodes.items ≡ list_set (held_configs l.fn.nodes.items ++ with_each l.labels begun));
}

abbrev pub decreases-run : goal.decreases-run
decreases-run l = length l.left
