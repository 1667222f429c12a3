use Rattle.std.proofs.Common.{ℕ, ◌<◌, length, get_or, []}
use Rattle.re_boxes.specs.Boxed.{AreBoxesCovered}
use Rattle.re_boxes.specs.HeldStrength.{ups_in}
use Rattle.re_boxes.specs.Growing.{IsLonger}
use Rattle.re_step.specs.Completing.{AreRight}
use Rattle.re_step.specs.Kept.{IsKept}
use Rattle.re_step.proofs.closing.cover_rows.Given as goal
use Rattle.re_labels.specs.declared.TheConstants.{MAX_ROWS}

abbrev pub invariant-loop-index : goal.invariant-loop-index
invariant-loop-index l = record {
  kept : IsKept l.constraint l.strength.labels MAX_ROWS l.found.rows.items;
  right : AreRight l.constraint l.strength.labels l.found.memo.slots.items;
  longer : IsLonger l.fn.found.rows.items l.found.rows.items;
  done : (j : ℕ) → j < l.index → j < length l.found.rows.items → AreBoxesCovered l.constraint (ups_in l.strength.ups.items) l.strength.labels l.found.rows.items (get_or l.found.rows.items j []);
}
