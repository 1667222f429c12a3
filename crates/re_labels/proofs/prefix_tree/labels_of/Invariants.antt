use Rattle.std.proofs.Common.{ℕ, ◌≤◌, ◌+◌, length}
use Rattle.std.specs.Prelude.{◌↔◌, IsTrue}
use Rattle.re_labels.specs.Sets.{has}
use Rattle.re_labels.proofs.TreeLabels.{IsLabelBefore}
use Rattle.re_labels.proofs.prefix_tree.labels_of.Given as goal

abbrev pub invariant-loop-place : goal.invariant-loop-place
invariant-loop-place l = record {
  most : l.place ≤ length l.nodes + 1;
  labels : (label : ℕ) → IsTrue (has l.labels label) ↔ IsLabelBefore l.nodes l.place label;
}
