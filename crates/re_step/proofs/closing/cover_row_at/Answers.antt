use Rattle.std.proofs.Common.{rules}
use Rattle.std.specs.Prelude.{Contains}
use Rattle.re_boxes.proofs.UpSets.{labels_up}
use Rattle.re_boxes.specs.HeldStrength.{ups_in}
use Rattle.re_step.proofs.KeptRows.{maximal_up_row}
use Rattle.re_step.proofs.closing.cover_row_at.Goals as goal

pub cover_row-requires-clause-up : goal.cover_row-requires-clause-up
cover_row-requires-clause-up c =
    let s = c.args.strength.now in
    let held : Contains c.args.found.now.rows.items c.copy-row.result = search rules in
    maximal_up_row c.args.constraint.now (ups_in s.ups.items) s.labels c.requires.strong (labels_up s.ups.items s.labels s.count s.below) c.copy-row.result
    (c.requires.kept.maximal c.copy-row.result held)
