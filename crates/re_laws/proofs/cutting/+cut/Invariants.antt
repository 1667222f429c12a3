use Rattle.std.proofs.Common.{take, ◌≡◌, ◌-◌}
use Rattle.re_laws.specs.Trees.{cut}
use Rattle.re_laws.specs.Shown.{tree_of_children}
use Rattle.re_laws.proofs.ShownLemmas.{mapped}
use Rattle.re_laws.proofs.cutting.+cut.Given as goal

abbrev pub invariant-cut_children-loop-child : goal.invariant-cut_children-loop-child
invariant-cut_children-loop-child g l = tree_of_children l.kept.items ≡ mapped (cut (l.depth - 1)) (tree_of_children (take l.child-index l.children.items))
