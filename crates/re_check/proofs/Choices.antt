-- Whether all choices from some sets are configurations.
use Rattle.re_labels.proofs.Tests.{and-false}
use Rattle.std.proofs.Common.{◌≡◌, ℕ, ◌<◌, ◌≤◌, Bool, true, false, cond, ◌&&◌, leb, List, [], ◌∷◌, length, refl, sym, ap, ◌∙◌, arith, Some, None}
use Rattle.std.specs.Prelude.{IsTrue, ◌↔◌}
use Rattle.std.specs.List.{AllByRecursion}
use Rattle.re_labels.proofs.ChoicesOfRows.{IsChoice-filled}
use Rattle.re_labels.specs.Rows.{IsChoice, in_order, is_full, row_of}
use Rattle.re_labels.specs.Sets.{IsIn, IsLabelSet}
use Rattle.re_labels.proofs.Membership.{Contains-none}
use Rattle.re_labels.proofs.Goodness.{IsGood-is_good, is_full-filled, is_good-IsGood}
use Rattle.re_labels.specs.Constraints.{Constraint, Has, IsConstraint}
use Rattle.re_labels.specs.GoodRows.{is_good}
use Rattle.re_check.proofs.NextLabels.{both-sets}
use Rattle.re_check.proofs.Telling.{tells-true}
use Rattle.re_labels.proofs.SetsInOrder.{AreSets, in_order-good, in_order-length, row_is}
use Rattle.re_labels.specs.declared.TheConstants.{MAX_LABELS}

row-none : (sets : List (List ℕ)) → is_full sets ≡ false → row_of MAX_LABELS sets ≡ None
row-none sets empty = ap (λ b. cond ((leb 2 (length sets) && leb (length sets) 6) && b) (Some (in_order MAX_LABELS sets)) None) empty ∙ ap (λ b. cond b (Some (in_order MAX_LABELS sets)) None) (and-false (leb 2 (length sets) && leb (length sets) 6))

-- sets that make a row are filled, and the row is of them
row-filled : (sets row : List (List ℕ)) → 2 ≤ length sets → length sets ≤ 6 → AllByRecursion (IsLabelSet MAX_LABELS) sets → Some row ≡ row_of MAX_LABELS sets → AreSets sets × (row ≡ in_order MAX_LABELS sets)
row-filled sets row two six are e = by_test (is_full sets) refl
  where
    by_test : (b : Bool) → is_full sets ≡ b → AreSets sets × (row ≡ in_order MAX_LABELS sets)
    by_test true full =
        let filled = both-sets sets are (is_full-filled sets full) in
        let f : Some row ≡ Some (in_order MAX_LABELS sets) = e ∙ row_is sets two six filled in
        (filled, cc)
    by_test false empty = absurd (let f : Some row ≡ None = e ∙ row-none sets empty in cc)

module _ (constraint : Constraint) (is : IsConstraint MAX_LABELS constraint) (sets : List (List ℕ)) (degree : length sets ≡ constraint.degree) (are : AllByRecursion (IsLabelSet MAX_LABELS) sets) where
  two : 2 ≤ length sets
  two = omega (arith, is.least, degree)

  six : length sets ≤ 6
  six = omega (arith, is.most, degree)

  pub row-degree : (row : List (List ℕ)) → Some row ≡ row_of MAX_LABELS sets → length row ≡ constraint.degree
  row-degree row e = let filled = row-filled sets row two six are e in in_order-length sets row filled.0 filled.1 ∙ degree

  pub row-choices : (row : List (List ℕ)) (r : Bool) → Some row ≡ row_of MAX_LABELS sets → r ≡ is_good constraint row → IsTrue r ↔ ((labels : List ℕ) → IsChoice labels sets → Has constraint labels)
  row-choices row r e good =
      let filled = row-filled sets row two six are e in
      let same : r ≡ is_good constraint sets = good ∙ in_order-good constraint sets row filled.0 filled.1 in (
        (λ h labels chosen. (is_good-IsGood constraint sets (sym same ∙ h)).choice labels chosen),
        (λ all. same ∙ IsGood-is_good constraint sets (record { count = degree; filled = nonempty sets filled.0; choice = all })),
      )
    where
      nonempty : (sets : List (List ℕ)) → AreSets sets → AllByRecursion (λ s. 0 < length s) sets
      nonempty [] h = tt
      nonempty (s ∷ sets) h = (h.0.1, nonempty sets h.1)

  pub no-choices : None ≡ row_of MAX_LABELS sets → IsTrue true ↔ ((labels : List ℕ) → IsChoice labels sets → Has constraint labels)
  no-choices e = tells-true true refl (λ labels chosen.
      let filled = both-sets sets are (IsChoice-filled labels sets chosen) in
      absurd (let f : None ≡ Some (in_order MAX_LABELS sets) = e ∙ row_is sets two six filled in cc))
