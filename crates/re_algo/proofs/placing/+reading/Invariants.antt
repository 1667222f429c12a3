use Rattle.std.proofs.Common.{◌≡◌, ◌≤◌, ◌<◌, ◌^◌, drop}
use Rattle.re_algo.specs.Counting.{read_after}
use Rattle.re_laws.specs.Shown.{tree_of_children}
use Rattle.re_algo.proofs.placing.+reading.Given as goal

abbrev pub invariant-read_children-loop-child : goal.invariant-read_children-loop-child
invariant-read_children-loop-child l =
    1 ≤ l.own → 1 ≤ l.other → read_after l.own l.other l.before (tree_of_children l.children.items) < 2 ^ 32 →
    read_after l.own l.other l.number (tree_of_children (drop l.child-index l.children.items)) ≡ read_after l.own l.other l.before (tree_of_children l.children.items)
