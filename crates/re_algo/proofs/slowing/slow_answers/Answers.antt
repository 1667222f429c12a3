use Rattle.std.proofs.Common.{map, sym}
use Rattle.re_labels.proofs.Membership.{AllByRecursion-contains, Contains-map}
use Rattle.re_laws.specs.Shown.{tree_of_view}
use Rattle.re_algo.specs.Choosing.{HasChoice}
use Rattle.re_algo.proofs.slowing.slow_answers.Goals as goal

pub slow_labels-requires : goal.slow_labels-requires
slow_labels-requires c =
    AllByRecursion-contains (HasChoice c.args.active.now c.args.sets.now c.args.table.now) (map tree_of_view c.args.views.now) (tree_of_view c.view-item.result) c.requires
    (Contains-map tree_of_view c.args.views.now c.view-item.result (c.loop-view.view-index, c.loop-view-test.true, sym c.view-item.is))
