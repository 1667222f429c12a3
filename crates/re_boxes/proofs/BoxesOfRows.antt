-- The boxes of a row, one after another.
use Rattle.std.proofs.Common.{◌≡◌, ℕ, zero, suc, ◌+◌, ◌-◌, ◌<◌, ◌≤◌, true, eqb, ltb, List, [], ◌∷◌, length, filter, sym, ap, ◌∙◌, subst, ◌⊎◌, inl, inr, arith}
use Rattle.std.specs.Prelude.{Contains}
use Rattle.std.specs.List.{AllByRecursion}
use Rattle.re_boxes.proofs.Covering.{covered_twin}
use Rattle.re_boxes.proofs.Grown.{grown_is_up, grown_law}
use Rattle.re_boxes.proofs.Spread.{AreUp, IsIn-filled}
use Rattle.re_boxes.specs.Boxes.{IsStrength, IsUp, box_at, cut, with_stronger}
use Rattle.re_labels.specs.Rows.{IsRow, set_at}
use Rattle.re_labels.proofs.Membership.{AllByRecursion-contains}
use Rattle.re_labels.proofs.Numbers.{IsLabelSet-filter, IsLabelSet-union, number_apart}
use Rattle.re_labels.proofs.Sets.{IsIn-union}
use Rattle.re_labels.proofs.Tests.{eqb-true}
use Rattle.re_labels.specs.Sets.{IsLabelSet, number}
use Rattle.re_labels.specs.Constraints.{Constraint}
use Rattle.re_labels.specs.GoodRows.{max_rows}
use Rattle.re_boxes.proofs.SetsAtPlaces.{all_set}
use Rattle.re_boxes.specs.Boxed.{IsBoxCovered}
use Rattle.re_boxes.specs.Sets.{AreSets}
use Rattle.re_labels.proofs.Rows.{all_at}

pub all_from_at : (P : List ℕ → Type 0) (r : List (List ℕ)) → ((i : ℕ) → i < length r → P (set_at r i)) → AllByRecursion P r
all_from_at P [] h = tt
all_from_at P (s ∷ r) h = (h zero (omega arith), all_from_at P r (λ i b. h (suc i) (omega (arith, b))))

module _ (constraint : Constraint) (ups : ℕ → List ℕ) (n : ℕ) (strong : IsStrength constraint ups) (low : (x : ℕ) → x < n → AllByRecursion (λ z. z < n) (ups x)) where
  -- a maximal row has, with each label, what it goes up to
  pub maximal_is_up : (row : List (List ℕ)) → Contains (max_rows constraint n) row → AreUp ups row
  maximal_is_up row maximal = all_from_at (IsUp ups) row (λ i b x here y there.
      let three = (grown_law constraint n row).0 maximal in
      let set : IsLabelSet n (set_at row i) = (all_at _ row i three.0.sets b).0 in
      grown_is_up constraint ups n row strong three.1 three.2 i x y b
      (AllByRecursion-contains (λ z. z < n) (ups x) y (low x (AllByRecursion-contains (λ z. z < n) (set_at row i) x set.1 here)) there) here there)

  module _ (d : ℕ) (row : List (List ℕ)) (is : IsRow d n row) where
    pub set_of_row : (i : ℕ) → i < length row → IsLabelSet n (set_at row i)
    set_of_row i b = (all_at _ row i is.sets b).0

    with_stronger_sets : (s : List ℕ) → AllByRecursion (λ z. z < n) s → IsLabelSet n (with_stronger ups s)
    with_stronger_sets [] h = (tt, tt)
    with_stronger_sets (x ∷ s) h = IsLabelSet-union n (with_stronger ups s) (ups x) (with_stronger_sets s h.1) (low x h.0)

    -- the box has nonempty sets
    pub box_sets : (i x : ℕ) → i < length row → x < n → AreSets n (box_at ups i x row)
    box_sets i x b below = all_set _ row i (cut ups x (set_at row i)) is.sets (
      IsLabelSet-union n (with_stronger ups (filter (ltb x) (set_at row i))) (ups x)
          (with_stronger_sets (filter (ltb x) (set_at row i)) (IsLabelSet-filter (ltb x) n (set_at row i) (set_of_row i b)).1) (low x below),
      IsIn-filled x (cut ups x (set_at row i)) (IsIn-union (with_stronger ups (filter (ltb x) (set_at row i))) (ups x) x (inr (strong.holds x))),
    )

    -- a set that is its neighbour
    pub twin : (rows : List (List (List ℕ))) (place : ℕ) → 2 ≤ place → place ≤ length row → eqb (number (set_at row (place - 2))) (number (set_at row (place - 1))) ≡ true
        → ((i x : ℕ) → i < place - 1 → x < n → IsBoxCovered constraint ups rows row i x) → (i x : ℕ) → i < place → x < n → IsBoxCovered constraint ups rows row i x
    twin rows place two inside same before i x b below = elim (last_or_before i place b) [
      | inr less ↦ before i x less below
      | inl last ↦
          let next : suc (place - 2) ≡ i = (let l : i ≡ place - 1 = last in omega arith) in
          subst (λ j. IsBoxCovered constraint ups rows row j x) next
          (covered_twin constraint ups rows row (place - 2) x (omega (arith, inside, two))
          (number_apart n (set_at row (place - 2)) (set_at row (suc (place - 2))) (set_of_row (place - 2) (omega (arith, inside, two))) (set_of_row (suc (place - 2)) (omega (arith, inside, two)))
          (eqb-true _ _ same ∙ ap (λ j. number (set_at row j)) (let e : place - 1 ≡ suc (place - 2) = omega (arith, two) in e)))
          (before (place - 2) x (omega (arith, two)) below))
    ]
      where
        last_or_before : (a b : ℕ) → a < b → (a ≡ b - 1) ⊎ (a < b - 1)
        last_or_before a b h = grind arith

-- ---- boxes one after another
module _ (constraint : Constraint) (ups : ℕ → List ℕ) (n : ℕ) (rows : List (List (List ℕ))) (row : List (List ℕ)) where
  pub next_label : (i label : ℕ) → IsBoxCovered constraint ups rows row i label
      → ((x : ℕ) → label + 1 ≤ x → x < n → IsBoxCovered constraint ups rows row i x) → (x : ℕ) → label ≤ x → x < n → IsBoxCovered constraint ups rows row i x
  next_label i label here rest x low below = elim (at_or_past label x low) [
    | inl same ↦ subst (IsBoxCovered constraint ups rows row i) same here
    | inr past ↦ rest x past below
  ]
    where
      at_or_past : (a b : ℕ) → a ≤ b → (a ≡ b) ⊎ (a + 1 ≤ b)
      at_or_past a b h = grind arith

  pub next_place : (place : ℕ) → 0 < place → ((i x : ℕ) → i < place - 1 → x < n → IsBoxCovered constraint ups rows row i x)
      → ((x : ℕ) → 0 ≤ x → x < n → IsBoxCovered constraint ups rows row (place - 1) x) → (i x : ℕ) → i < place → x < n → IsBoxCovered constraint ups rows row i x
  next_place place some before here i x b below = elim (last_or_before i place some b) [
    | inl last ↦ subst (λ j. IsBoxCovered constraint ups rows row j x) (sym last) (here x (omega arith) below)
    | inr less ↦ before i x less below
  ]
    where
      last_or_before : (a b : ℕ) → 0 < b → a < b → (a ≡ b - 1) ⊎ (a < b - 1)
      last_or_before a b k h = grind arith
