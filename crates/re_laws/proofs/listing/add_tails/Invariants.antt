use Rattle.std.proofs.Common.{take, map, ◌≡◌, ◌++◌}
use Rattle.re_laws.specs.Shown.{tree_of_branch, tree_of_children}
use Rattle.re_laws.specs.Trees.{more}
use Rattle.re_laws.proofs.listing.add_tails.Given as goal

abbrev pub invariant-loop-tail : goal.invariant-loop-tail
invariant-loop-tail l = map (λ children. tree_of_children children.items) l.lists.items ≡ map (λ children. tree_of_children children.items) l.initial.lists.items ++
    map (more l.back tt (tree_of_branch l.branch)) (map (λ children. tree_of_children children.items) (take l.tail-index l.tails.items))
