use Rattle.std.proofs.Common.{sym}
use Rattle.re_check.proofs.RowSets.{row-has-sets}
use Rattle.re_shaping.proofs.row_form.row_form.Goals as goal

pub image_of-requires-clause-held : goal.image_of-requires-clause-held
image_of-requires-clause-held c = row-has-sets c.args.rows.now c.args.entries.now c.requires c.row-item.result (c.loop-row.row-index, c.loop-row-test.true, sym c.row-item.is)
