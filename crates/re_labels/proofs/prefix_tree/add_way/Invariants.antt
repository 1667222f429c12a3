use Rattle.std.proofs.Common.{◌≡◌, ◌<◌, ◌≤◌, ◌+◌, ◌-◌, ◌++◌, cond, eqb, length}
use Rattle.std.specs.Vec.{vec_capacity, vec_len}
use Rattle.re_labels.specs.TreeGrowth.{new_inners}
use Rattle.re_labels.proofs.prefix_tree.add_way.Given as goal

abbrev pub invariant-loop-level : goal.invariant-loop-level
invariant-loop-level l = record {
  low : l.depth ≤ l.level;
  items : l.nodes.items ≡ l.fn.nodes.items ++ new_inners l.config l.depth l.parent l.after (length l.fn.nodes.items) (l.level - l.depth);
  next : l.next ≡ cond (eqb (l.level - l.depth) 0) l.after 0;
  above : l.above ≡ cond (eqb (l.level - l.depth) 0) l.parent (length l.fn.nodes.items + (l.level - l.depth) - 1);
  capacity : vec_capacity l.nodes ≡ vec_capacity l.fn.nodes;
  room : vec_len l.nodes + (l.last - l.level) < vec_capacity l.nodes;
}
