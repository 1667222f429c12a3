use Rattle.std.proofs.Common.{ℕ, ◌<◌, get_or, []}
use Rattle.re_boxes.specs.Boxed.{AreBoxesCovered}
use Rattle.re_boxes.specs.HeldStrength.{ups_in}
use Rattle.re_check.proofs.covering.are_rows_covered.Given as goal

abbrev pub invariant-loop-row : goal.invariant-loop-row
invariant-loop-row l = (k : ℕ) → k < l.row-index → AreBoxesCovered l.constraint (ups_in l.strength.ups.items) l.strength.labels l.rows (get_or l.rows k [])
