-- Rows and lists of rows that passed the tests.
use Rattle.std.proofs.Common.{◌≡◌, ℕ, ◌<◌, List, length, arith}
use Rattle.std.specs.Prelude.{Contains}
use Rattle.std.specs.List.{AllByRecursion}
use Rattle.re_boxes.specs.Boxes.{IsBoxed, IsUp}
use Rattle.re_labels.specs.Rows.{Dominates, IsRow, set_at}
use Rattle.re_labels.proofs.Membership.{AllByRecursion-contains, AllByRecursion-weaker}
use Rattle.re_labels.specs.Sets.{IsLabelSet}
use Rattle.re_check.proofs.Orders.{Rises}
use Rattle.re_boxes.specs.UpRows.{AreUpRows, IsUpRow}
use Rattle.re_boxes.proofs.RowsOfSets.{AreSets-filled}
use Rattle.re_boxes.specs.Boxed.{AreBoxesCovered, AreConfigsDominated}
use Rattle.re_boxes.specs.Choosing.{AreGoodChoices}
use Rattle.re_labels.specs.Constraints.{Constraint}
use Rattle.re_labels.proofs.Rows.{all_at}

module _ (constraint : Constraint) (ups : ℕ → List ℕ) (n : ℕ) where
  pub up_row : (row : List (List ℕ)) → IsRow (length row) 128 row → length row ≡ constraint.degree → AllByRecursion (IsLabelSet n) row → AllByRecursion (IsUp ups) row
      → AreGoodChoices constraint row → IsUpRow constraint ups n row
  up_row row is count below up good =
      let filled = AllByRecursion-weaker _ (λ s. 0 < length s) (λ s a. a.1) row is.sets in
      record {
        is_row = record { count = count; sets = AreSets-filled n row below filled; ascends = is.ascends };
        good = record { count = count; filled = filled; choice = good };
        up = up;
      }

  -- all tests passed
  pub boxed : (rows : List (List (List ℕ))) → AreUpRows constraint ups n rows → Rises rows
      → ((row other : List (List ℕ)) → Contains rows row → Contains rows other → Dominates row other → row ≡ other) → AreConfigsDominated constraint ups rows
      → ((row : List (List ℕ)) → Contains rows row → AreBoxesCovered constraint ups n rows row) → IsBoxed constraint ups n rows
  boxed rows all rises apart configs boxes = record {
    good = λ row h. let up = all row h in (up.is_row, up.good);
    ascends = rises;
    apart = apart;
    configs = configs;
    boxes = λ row i x h b next.
        let high : next.some.0 < n = AllByRecursion-contains (λ z. z < n) (set_at row i) next.some.0 (all_at _ row i (all row h).is_row.sets b).0.1 next.some.1 in
        boxes row h i x b (let l = next.some.2 in omega (arith, l, high)) next;
  }
