use Rattle.std.proofs.Common.{sym}
use Rattle.problem_rows.proofs.items.add_names_at.Goals as goal

pub add_item_names-requires : goal.add_item_names-requires
add_item_names-requires c = (c.args.at, c.requires, sym c.in-Item.ensures)
