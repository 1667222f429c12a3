-- Maximal rows are good rows that have, with each label, the stronger ones.
use Rattle.std.proofs.Common.{ℕ, ◌<◌, List}
use Rattle.std.specs.Prelude.{Contains}
use Rattle.std.specs.List.{AllByRecursion}
use Rattle.re_boxes.specs.UpRows.{IsUpRow}
use Rattle.re_boxes.proofs.Grown.{grown_law}
use Rattle.re_boxes.specs.Boxes.{IsStrength}
use Rattle.re_boxes.proofs.BoxesOfRows.{maximal_is_up}
use Rattle.re_labels.specs.Constraints.{Constraint}
use Rattle.re_labels.specs.GoodRows.{max_rows}

pub maximal_up_row : (constraint : Constraint) (ups : ℕ → List ℕ) (n : ℕ) → IsStrength constraint ups → ((x : ℕ) → x < n → AllByRecursion (λ z. z < n) (ups x)) → (row : List (List ℕ))
    → Contains (max_rows constraint n) row → IsUpRow constraint ups n row
maximal_up_row constraint ups n strong low row maximal =
    let three = (grown_law constraint n row).0 maximal in
    record { is_row = three.0; good = three.1; up = maximal_is_up constraint ups n strong low row maximal }
