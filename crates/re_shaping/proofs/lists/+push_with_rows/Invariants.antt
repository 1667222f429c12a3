use Rattle.std.proofs.Common.{length}
use Rattle.re_shaping.proofs.lists.+push_with_rows.Given as goal

abbrev pub decreases-push_with_rows : goal.decreases-push_with_rows
decreases-push_with_rows l = length l.rows.now
