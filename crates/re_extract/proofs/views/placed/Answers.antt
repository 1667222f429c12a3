use Rattle.std.proofs.Common.{◌+◌, map, take}
use Rattle.re_extract.proofs.Placed.{placed_more, shown_more, view_held}
use Rattle.re_pool.specs.Narrow.{IsNarrow}
use Rattle.re_laws.specs.Shown.{tree_of_view}
use Rattle.re_extract.proofs.views.placed.Goals as goal

pub place-requires : goal.place-requires
place-requires c = view_held IsNarrow c.args.views.now c.loop-view.view-index c.view-item.result c.requires c.loop-view-test.true c.view-item.is

pub loop-view-preserved : goal.loop-view-preserved
loop-view-preserved c =
    placed_more c.args.pool.now c.loop-view.pool c.place.new.self (map tree_of_view (take c.loop-view.view-index c.args.views.now)) (map tree_of_view (take (c.loop-view.view-index + 1) c.args.views.now)) c.loop-view.ids.items c.push.new.self.items
    c.in_ok-place.field-0 (tree_of_view c.view-item.result) c.loop-view.invariant c.in_ok-place.ensures.keeps c.in_ok-place.ensures.pool c.in_ok-place.ensures.held c.in_ok-place.ensures.tree
    (shown_more c.args.views.now c.loop-view.view-index c.view-item.result c.loop-view-test.true c.view-item.is) c.in_ok-push.ensures.items
