use Rattle.std.proofs.Common.{◌≡◌, ◌≤◌}
use Rattle.re_labels.specs.LeafWalks.{IsWay}
use Rattle.re_labels.proofs.configurations.go_down.Given as goal

abbrev pub invariant-loop-level : goal.invariant-loop-level
invariant-loop-level l = record {
  most : l.level ≤ l.degree;
  way : IsWay l.degree l.level l.nodes l.way;
  number : l.way.number ≡ l.fn.way.number;
}
