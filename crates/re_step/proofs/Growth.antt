-- Good sets that grow label by label.
use Rattle.std.proofs.Common.{◌≡◌, ℕ, zero, suc, ◌+◌, ◌-◌, ◌<◌, ◌≤◌, Bool, true, false, List, [], ◌∷◌, length, sym, ◌∙◌, subst, ◌⊎◌, inl, inr, arith}
use Rattle.std.specs.Prelude.{Contains, IsTrue, slice_set, ◌↔◌}
use Rattle.std.proofs.lemmas.Bool.{false≢true}
use Rattle.re_boxes.proofs.Grown.{added_good, nothing_above, added_above, both_added}
use Rattle.re_boxes.proofs.Spread.{AreFilled, IsGood-under, IsIn-filled, one_label}
use Rattle.re_boxes.specs.Grown.{IsGrown, added}
use Rattle.re_labels.proofs.ChoicesOfRows.{IsUnder-refl, IsUnder-trans}
use Rattle.re_labels.proofs.Placing.{Dominates-trans}
use Rattle.re_labels.proofs.Rearranging.{Rearranged-sym}
use Rattle.re_labels.proofs.Rows.{AreSets-Rearranged, all_at, not_larger, total, total-Rearranged, under_total}
use Rattle.re_labels.specs.Rearranging.{Rearranged}
use Rattle.re_labels.specs.Rows.{Dominates, IsChoice, IsUnder, in_order, set_at}
use Rattle.re_labels.proofs.Membership.{In-Contains}
use Rattle.re_labels.proofs.Numbers.{IsLabelSet-with_label}
use Rattle.re_labels.proofs.Sets.{has-IsIn, IsIn-with_label_new}
use Rattle.re_labels.specs.Sets.{IsIn, has, with_label}
use Rattle.re_labels.proofs.Goodness.{IsGood-Rearranged}
use Rattle.re_labels.proofs.MaxRows.{IsMaximal-max_rows}
use Rattle.re_labels.specs.Constraints.{Constraint}
use Rattle.re_labels.specs.GoodRows.{IsGood, IsMaximal, max_rows}
use Rattle.re_boxes.proofs.RowsOfSets.{AreSets-more, filled, in_order_moved, in_order_row}
use Rattle.re_boxes.proofs.SetsAtPlaces.{all_set, set_there, under_at}
use Rattle.re_boxes.specs.Choosing.{AreGoodChoices}
use Rattle.re_boxes.specs.Sets.{AreSets}
use Rattle.re_step.specs.Growing.{IsGrownFrom, IsTried}
use Rattle.re_labels.specs.declared.TheConstants.{MAX_LABELS}

-- ---- a set with one more label
added_filled : (i x : ℕ) (r : List (List ℕ)) → AreFilled r → AreFilled (added i x r)
added_filled i x r h = all_set (λ s. 0 < length s) r i (with_label (set_at r i) x) h (IsIn-filled x (with_label (set_at r i) x) (IsIn-with_label_new (set_at r i) x))

pub added_sets : (n i x : ℕ) (r : List (List ℕ)) → x < n → i < length r → AreSets n r → AreSets n (added i x r)
added_sets n i x r below b h =
    all_set _ r i (with_label (set_at r i) x) h (IsLabelSet-with_label n (set_at r i) x below (all_at _ r i h b).0, IsIn-filled x (with_label (set_at r i) x) (IsIn-with_label_new (set_at r i) x))

-- the choices that have the label at the place are choices of the sets with it
pub only_choices : (i x : ℕ) (r : List (List ℕ)) (c : List ℕ) → IsChoice c (slice_set r i (x ∷ [])) → IsChoice c (added i x r)
only_choices i x [] c k = k
only_choices zero x (s ∷ r) [] k = absurd k
only_choices (suc i) x (s ∷ r) [] k = absurd k
only_choices zero x (s ∷ r) (z ∷ c) k = (subst (λ y. IsIn y (with_label s x)) (sym (one_label z x k.0)) (IsIn-with_label_new s x), k.1)
only_choices (suc i) x (s ∷ r) (z ∷ c) k = (k.0, only_choices i x r c k.1)

module _ (constraint : Constraint) (n : ℕ) where
  -- ---- one label
  pub as_they_are : (r : List (List ℕ)) → IsGood constraint r → AreSets n r → IsGrownFrom constraint n r r
  as_they_are r good sets = record { good = good; are_sets = sets; under = IsUnder-refl r }

  pub tried_held : (r : List (List ℕ)) (i x : ℕ) (set : List ℕ) → set ≡ set_at r i → has set x ≡ true → IsTried constraint r i x
  tried_held r i x set e h good = subst (IsIn x) e (has-IsIn set x h)

  pub tried_refused : (r : List (List ℕ)) (i x : ℕ) (can : Bool) → IsTrue can ↔ AreGoodChoices constraint (slice_set r i (x ∷ [])) → can ≡ false → IsTried constraint r i x
  tried_refused r i x can told never good = absurd (false≢true (sym never ∙ told.1 (λ c k. good.choice c (only_choices i x r c k))))

  pub tried_added : (r more : List (List ℕ)) (i x : ℕ) → i < length r → more ≡ added i x r → IsTried constraint more i x
  tried_added r more i x b e good = subst (λ t. IsIn x (set_at t i)) (sym e) (subst (IsIn x) (sym (set_there r i (with_label (set_at r i) x) b)) (IsIn-with_label_new (set_at r i) x))

  pub grown_added : (r more : List (List ℕ)) (i x : ℕ) (can : Bool) → IsTrue can ↔ AreGoodChoices constraint (slice_set r i (x ∷ [])) → can ≡ true → i < length r → x < n
      → IsGood constraint r → AreSets n r → more ≡ added i x r → IsGrownFrom constraint n r more
  grown_added r more i x can told is b below good sets e = subst (IsGrownFrom constraint n r) (sym e) (record {
    good = added_good constraint r i x good (told.0 is);
    are_sets = added_sets n i x r below b sets;
    under = added_above i x r;
  })

  -- ---- one label after another
  pub grown_on : (r t u : List (List ℕ)) → IsGrownFrom constraint n r t → IsGrownFrom constraint n t u → IsGrownFrom constraint n r u
  grown_on r t u one two = record { good = two.good; are_sets = two.are_sets; under = IsUnder-trans r t u one.under two.under }

  pub stays_tried : (r t : List (List ℕ)) (i x : ℕ) → AreSets n r → IsGrownFrom constraint n r t → IsTried constraint r i x → IsTried constraint t i x
  stays_tried r t i x sets grown tried good =
      under_at r t i grown.under x (tried (IsGood-under constraint (added i x r) (added i x t) (both_added i x r t grown.under) (added_filled i x r (filled n r sets)) good))

  pub next_tried : (r t : List (List ℕ)) (i label : ℕ) → AreSets n r → IsGrownFrom constraint n r t → IsTried constraint r i label
      → ((x : ℕ) → label + 1 ≤ x → x < n → IsTried constraint t i x) → (x : ℕ) → label ≤ x → x < n → IsTried constraint t i x
  next_tried r t i label sets grown here rest x low below = elim (at_or_past label x low) [
    | inl same ↦ subst (IsTried constraint t i) same (stays_tried r t i label sets grown here)
    | inr past ↦ rest x past below
  ]
    where
      at_or_past : (a b : ℕ) → a ≤ b → (a ≡ b) ⊎ (a + 1 ≤ b)
      at_or_past a b h = grind arith

  pub place_tried : (r t : List (List ℕ)) (place : ℕ) → (0 < place) → AreSets n r → IsGrownFrom constraint n r t → ((x : ℕ) → 0 ≤ x → x < n → IsTried constraint r (place - 1) x)
      → ((i x : ℕ) → i < place - 1 → x < n → IsTried constraint t i x) → (i x : ℕ) → i < place → x < n → IsTried constraint t i x
  place_tried r t place some sets grown here rest i x before below = elim (last_or_before i place some before) [
    | inl same ↦ subst (λ j. IsTried constraint t j x) (sym same) (stays_tried r t (place - 1) x sets grown (here x (omega arith) below))
    | inr less ↦ rest i x less below
  ]
    where
      last_or_before : (a b : ℕ) → 0 < b → a < b → (a ≡ b - 1) ⊎ (a < b - 1)
      last_or_before a b k h = grind arith

  -- ---- the row at the end
  module _ (few : n ≤ MAX_LABELS) (t : List (List ℕ)) (good : IsGood constraint t) (sets : AreSets n t) where
    moved : Rearranged t (in_order MAX_LABELS t)
    moved = in_order_moved t (AreSets-more n MAX_LABELS few t sets)

    over : Dominates (in_order MAX_LABELS t) t
    over = (t, Rearranged-sym moved, IsUnder-refl t)

    grown_row : IsGrown constraint n t → IsMaximal constraint n (in_order MAX_LABELS t)
    grown_row grown =
        let r = in_order MAX_LABELS t in
        let row = in_order_row n few constraint.degree t good.count sets in
        record {
          is_row = row;
          good = IsGood-Rearranged constraint moved good;
          alone = λ q rowq goodq dom.
              let on : Dominates q t = Dominates-trans q r t dom over in
              let qsets : AreSets n on.0 = AreSets-Rearranged n on.1 rowq.sets in
              let back : IsUnder on.0 t = nothing_above constraint n t on.0 good.filled grown qsets (IsGood-Rearranged constraint on.1 goodq) on.2 in
              let le = (under_total n on.0 t qsets sets back).0 in
              let same : total q ≡ total on.0 = total-Rearranged on.1 in
              let other : total t ≡ total r = total-Rearranged moved in
              not_larger n constraint.degree q r rowq row dom (omega (arith, le, same, other));
        }

    pub grown_maximal : IsGrown constraint n t → (row : List (List ℕ)) → row ≡ in_order MAX_LABELS t → Contains (max_rows constraint n) row
    grown_maximal grown row e = subst (Contains (max_rows constraint n)) (sym e) (In-Contains (in_order MAX_LABELS t) (max_rows constraint n) (IsMaximal-max_rows constraint n (in_order MAX_LABELS t) (grown_row grown)))

    pub grown_dominates : (s : List (List ℕ)) → IsUnder s t → (row : List (List ℕ)) → row ≡ in_order MAX_LABELS t → Dominates row s
    grown_dominates s under row e = subst (λ r. Dominates r s) (sym e) (t, Rearranged-sym moved, under)
