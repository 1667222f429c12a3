use Rattle.std.proofs.Common.{take, ◌≡◌}
use Rattle.re_laws.specs.Shown.{tree_of_children}
use Rattle.re_laws.proofs.ShownLemmas.{mapped}
use Rattle.re_laws.proofs.copying.+copy.Given as goal

abbrev pub invariant-copy_children-loop-child : goal.invariant-copy_children-loop-child
invariant-copy_children-loop-child g l = tree_of_children l.copies.items ≡ mapped (λ x. x) (tree_of_children (take l.child-index l.children.items))
