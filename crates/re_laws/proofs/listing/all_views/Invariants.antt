use Rattle.std.proofs.Common.{◌≡◌, map}
use Rattle.re_laws.specs.Shown.{tree_of_children, tree_of_view}
use Rattle.re_laws.proofs.listing.all_views.Given as goal

abbrev pub invariant-loop-children : goal.invariant-loop-children
invariant-loop-children l = map tree_of_view l.views.items ≡ map (λ children. tree_of_children children.items) l.yielded
