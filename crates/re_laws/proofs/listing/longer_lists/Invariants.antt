use Rattle.std.proofs.Common.{map, ◌≡◌}
use Rattle.std.specs.Prelude.{flat_map}
use Rattle.re_labels.specs.Lists.{count_from}
use Rattle.re_laws.specs.Shown.{tree_of_branch, tree_of_children}
use Rattle.re_laws.specs.Trees.{more}
use Rattle.re_laws.proofs.listing.longer_lists.Given as goal

abbrev pub invariant-loop-index : goal.invariant-loop-index
invariant-loop-index l = map (λ children. tree_of_children children.items) l.lists.items ≡
    flat_map (λ back. flat_map (λ branch. map (more back tt branch) (map (λ children. tree_of_children children.items) l.tails.items)) (map tree_of_branch l.branches.items)) (count_from 1 l.index)
