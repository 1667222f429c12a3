use Rattle.std.proofs.Common.{take, map, ◌≡◌, ◌++◌}
use Rattle.std.specs.Prelude.{flat_map}
use Rattle.re_laws.specs.Shown.{tree_of_branch, tree_of_children}
use Rattle.re_laws.specs.Trees.{more}
use Rattle.re_laws.proofs.listing.add_lists.Given as goal

abbrev pub invariant-loop-branch : goal.invariant-loop-branch
invariant-loop-branch l = map (λ children. tree_of_children children.items) l.lists.items ≡ map (λ children. tree_of_children children.items) l.initial.lists.items ++
    flat_map (λ branch. map (more l.back tt branch) (map (λ children. tree_of_children children.items) l.tails.items)) (map tree_of_branch (take l.branch-index l.branches.items))
