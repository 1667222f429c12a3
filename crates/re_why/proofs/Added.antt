-- A label that is added to a set of a row.
use Rattle.std.proofs.Common.{◌≡◌, ℕ, zero, suc, ◌<◌, ◌≤◌, Bool, true, false, not, ◌&&◌, List, [], ◌∷◌, length, refl, sym, ap, ◌∙◌, subst, Some, None, Option}
use Rattle.std.specs.Prelude.{slice_set}
use Rattle.re_boxes.specs.Grown.{added}
use Rattle.re_labels.specs.Rows.{in_order, row_of, set_at}
use Rattle.re_labels.specs.Sets.{has, with_label}
use Rattle.re_labels.specs.declared.TheConstants.{MAX_LABELS}
use Rattle.re_boxes.proofs.RowsOfSets.{made}
use Rattle.re_boxes.specs.Sets.{AreSets}
use Rattle.re_labels.proofs.SetsInOrder.{in_order-good, in_order-length}
use Rattle.re_labels.specs.Constraints.{Constraint}
use Rattle.re_labels.specs.GoodRows.{is_good}
use Rattle.re_step.proofs.Growth.{added_sets}
use Rattle.re_why.specs.Finding.{can_add}

length-set : {X : Type 0} (xs : List X) (i : ℕ) (v : X) → length (slice_set xs i v) ≡ length xs
length-set [] i v = refl
length-set (x ∷ xs) zero v = refl
length-set (x ∷ xs) (suc i) v = ap suc (length-set xs i v)

module _ (passive : Constraint) (sets : List (List ℕ)) (i x : ℕ) (degree : length sets ≡ passive.degree) (b : i < length sets) (below : x < MAX_LABELS) (are : AreSets MAX_LABELS sets)
    (more : List (List ℕ)) (is : more ≡ added i x sets) where
  more_are : AreSets MAX_LABELS more
  more_are = subst (AreSets MAX_LABELS) (sym is) (added_sets MAX_LABELS i x sets below b are)

  more_count : length more ≡ length sets
  more_count = ap length is ∙ length-set sets i (with_label (set_at sets i) x)

  pub more_row : (r : Option (List (List ℕ))) → 2 ≤ length sets → length sets ≤ 6 → r ≡ row_of MAX_LABELS more → r ≡ Some (in_order MAX_LABELS more)
  more_row r two six e = made more r (subst (λ n. 2 ≤ n) (sym more_count) two) (subst (λ n. n ≤ 6) (sym more_count) six) more_are e

  pub more_length : (row : List (List ℕ)) → row ≡ in_order MAX_LABELS more → length row ≡ passive.degree
  more_length row e = in_order-length more row more_are e ∙ more_count ∙ degree

  pub more_good : (row : List (List ℕ)) (set : List ℕ) (r : Bool) → row ≡ in_order MAX_LABELS more → set ≡ set_at sets i → has set x ≡ false → r ≡ is_good passive row → r ≡ can_add passive sets i x
  more_good row set r e at fails is_is =
      is_is ∙ in_order-good passive more row more_are e ∙ ap (is_good passive) is
      ∙ sym (ap (λ h. not h && is_good passive (added i x sets)) (ap (λ s. has s x) (sym at) ∙ fails))
