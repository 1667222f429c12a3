use Rattle.std.proofs.Common.{◌≡◌, map}
use Rattle.re_labels.specs.Lists.{count_from}
use Rattle.re_net.specs.Runs.{standing_of}
use Rattle.re_laws.specs.Trees.{Tree}
use Rattle.re_net.proofs.runs.standings.Given as goal

abbrev pub invariant-loop-node : goal.invariant-loop-node
invariant-loop-node g l = record {
  tree_is : l.net.tree ≡ l.initial.net.tree;
  bound_is : l.net.bound ≡ l.initial.net.bound;
  delivered_is : l.net.delivered ≡ l.initial.net.delivered;
  degrees_are : g.R.Rule.degrees l.rule ≡ l.initial.net.tree.degrees;
  radius_is : g.R.Rule.radius l.rule ≡ l.initial.net.bound;
  answers : (v : Tree (Unit {0})) → g.R.Rule.answer l.rule v ≡ g.R.Rule.answer l.initial.rule v;
  so_far : l.all.items ≡ map (standing_of l.initial.net.tree l.initial.net.bound l.initial.net.delivered (g.R.Rule.answer l.initial.rule)) (count_from 0 l.node);
}
