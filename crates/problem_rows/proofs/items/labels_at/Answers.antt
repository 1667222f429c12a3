use Rattle.std.proofs.Common.{sym}
use Rattle.problem_rows.proofs.items.labels_at.Goals as goal

pub item_labels-requires : goal.item_labels-requires
item_labels-requires c = (c.args.at, c.requires, sym c.in-Item.ensures)
