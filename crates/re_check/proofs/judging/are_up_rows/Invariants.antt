use Rattle.std.proofs.Common.{ℕ, ◌<◌, get_or, []}
use Rattle.re_boxes.specs.UpRows.{IsUpRow}
use Rattle.re_boxes.specs.HeldStrength.{ups_in}
use Rattle.re_check.proofs.judging.are_up_rows.Given as goal

abbrev pub invariant-loop-row : goal.invariant-loop-row
invariant-loop-row l = (k : ℕ) → k < l.row-index → IsUpRow l.constraint (ups_in l.strength.ups.items) l.strength.labels (get_or l.rows k [])
