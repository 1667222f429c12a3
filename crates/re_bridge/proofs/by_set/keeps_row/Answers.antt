use Rattle.std.proofs.Common.{sym, ◌∙◌}
use Rattle.re_bridge.proofs.SetTests.{has_entries-sets, row-tested}
use Rattle.re_bridge.proofs.by_set.keeps_row.Goals as goal

pub image-requires-clause-held : goal.image-requires-clause-held
image-requires-clause-held c = has_entries-sets c.args.entries.now c.args.row.now (sym c.has_entries.ensures ∙ c.if-not-has_entries.false)

pub returns : goal.returns
returns c = row-tested c.args.active.now c.args.row.now c.args.entries.now c.has_entries.result c.image.result c.contains.result c.has_entries.ensures c.if-not-has_entries.false c.contains.ensures c.image.ensures
