use Rattle.std.proofs.Common.{map, take}
use Rattle.re_extract.proofs.Placed.{Placed}
use Rattle.re_laws.specs.Shown.{tree_of_view}
use Rattle.re_extract.proofs.views.placed.Given as goal

abbrev pub invariant-loop-view : goal.invariant-loop-view
invariant-loop-view l = Placed l.fn.pool l.pool (map tree_of_view (take l.view-index l.views)) l.ids.items
