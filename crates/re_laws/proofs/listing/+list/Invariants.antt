use Rattle.std.proofs.Common.{◌≡◌, ◌-◌, ◌*◌, map}
use Rattle.re_laws.specs.AllViews.{all_children}
use Rattle.re_laws.specs.Shown.{tree_of_branch, tree_of_children}
use Rattle.re_laws.proofs.listing.+list.Given as goal

abbrev pub decreases-all_branches : goal.decreases-all_branches
decreases-all_branches l = 2 * l.depth

abbrev pub decreases-all_lists : goal.decreases-all_lists
decreases-all_lists l = 2 * l.depth - 1

abbrev pub invariant-all_branches-loop-children : goal.invariant-all_branches-loop-children
invariant-all_branches-loop-children l = map tree_of_branch l.branches.items ≡ map (λ children. tree_of_children children.items) l.yielded

abbrev pub invariant-all_lists-loop : goal.invariant-all_lists-loop
invariant-all_lists-loop l = map (λ children. tree_of_children children.items) l.lists.items ≡ all_children l.other (map tree_of_branch l.branches.items) l.counter
