use Rattle.std.proofs.Common.{take, ◌≡◌}
use Rattle.re_laws.specs.Trees.{grown}
use Rattle.re_laws.specs.Shown.{tree_of_children}
use Rattle.re_laws.proofs.ShownLemmas.{mapped}
use Rattle.re_laws.proofs.padding.+grow.Given as goal

abbrev pub invariant-grow_children-loop-child : goal.invariant-grow_children-loop-child
invariant-grow_children-loop-child g l = tree_of_children l.answer.items ≡ mapped (grown l.other l.own l.below l.ports l.fill) (tree_of_children (take l.child-index l.children.items))
