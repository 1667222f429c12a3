use Rattle.std.proofs.Common.{◌≡◌, ◌∙◌, ap, sym, length, Some, None}
use Rattle.re_labels.proofs.Rearranging.{length-Rearranged}
use Rattle.re_labels.specs.Rows.{in_order}
use Rattle.re_boxes.proofs.RowsOfSets.{in_order_moved, made, sets_dominated}
use Rattle.re_boxes.proofs.holding.has_top.Goals as goal
use Rattle.re_labels.specs.declared.TheConstants.{MAX_LABELS}

pub any_dominates-requires : goal.any_dominates-requires
any_dominates-requires c =
    let some : Some c.in-Some.row ≡ Some (in_order MAX_LABELS c.args.sets.now) = sym c.in-Some.is ∙ made c.args.sets.now c.from_sets.result c.requires.two c.requires.six c.requires.sets c.from_sets.ensures in
    let same : c.in-Some.row ≡ in_order MAX_LABELS c.args.sets.now = cc in
    λ top held. c.requires.alike top held ∙ length-Rearranged (in_order_moved c.args.sets.now c.requires.sets) ∙ sym (ap length same)

pub unreachable-requires : goal.unreachable-requires
unreachable-requires c =
    let some : None ≡ Some (in_order MAX_LABELS c.args.sets.now) = sym c.in-None.is ∙ made c.args.sets.now c.from_sets.result c.requires.two c.requires.six c.requires.sets c.from_sets.ensures in
    cc

pub returns : goal.returns
returns c =
    let some : Some c.in-Some.row ≡ Some (in_order MAX_LABELS c.args.sets.now) = sym c.in-Some.is ∙ made c.args.sets.now c.from_sets.result c.requires.two c.requires.six c.requires.sets c.from_sets.ensures in
    let same : c.in-Some.row ≡ in_order MAX_LABELS c.args.sets.now = cc in
    sets_dominated c.args.rows.now c.args.sets.now c.in-Some.row c.any_dominates.result c.requires.sets same c.any_dominates.ensures
