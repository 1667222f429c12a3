use Rattle.std.proofs.Common.{◌≡◌, ◌-◌, ◌*◌, pred}
use Rattle.re_laws.specs.Trees.{copies, full}
use Rattle.re_laws.specs.Shown.{tree_of_children}
use Rattle.re_laws.proofs.padding.+full.Given as goal

abbrev pub decreases-full_branch : goal.decreases-full_branch
decreases-full_branch g l = 2 * l.depth

abbrev pub decreases-full_children : goal.decreases-full_children
decreases-full_children g l = 2 * l.depth - 1

abbrev pub invariant-full_children-loop : goal.invariant-full_children-loop
invariant-full_children-loop g l = tree_of_children l.children.items ≡ copies l.counter l.fill (full l.other l.own (l.depth - 1) (pred l.other) l.fill)
