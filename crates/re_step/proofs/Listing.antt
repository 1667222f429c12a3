-- The kept rows in order are the list of the maximal rows.
use Rattle.std.proofs.Common.{◌≡◌, ℕ, zero, suc, ◌+◌, ◌<◌, ◌≤◌, Bool, false, List, [], ◌∷◌, ◌++◌, length, map, get_or, refl, sym, ap, ◌∙◌, subst, ◌⊎◌, inl, inr, arith, length-append, append_assoc}
use Rattle.std.specs.Prelude.{Contains}
use Rattle.std.specs.Cmp.{IsStrictWeakOrder}
use Rattle.std.specs.Cmp.Lexicographic.{nat_list_cmp_total}
use Rattle.std.specs.List.{AllByRecursion}
use Rattle.std.specs.List.Sorted.{IsPermutation, IsSortedBy}
use Rattle.std.specs.Ordering.{is_lt}
use Rattle.std.specs.declared.cmp.Ordering.TheVariants.{Less}
use Rattle.std.proofs.lemmas.Bool.{false≢true}
use Rattle.std.proofs.lemmas.List.MinMax.{ranks_by}
use Rattle.std.proofs.lemmas.List.Sorted.{Contains-permutation, IsPermutation-sym, length_permutation}
use Rattle.re_boxes.proofs.BoxLaw.{boxes_law}
use Rattle.re_boxes.proofs.Covering.{covered_more}
use Rattle.re_boxes.specs.Boxes.{IsBoxed, IsStrength, box_at, only_at}
use Rattle.re_labels.proofs.Rows.{all_at, same_sets}
use Rattle.re_labels.specs.Rows.{row_cmp, set_at}
use Rattle.re_labels.proofs.Before.{three_orders}
use Rattle.re_labels.proofs.Membership.{AllByRecursion-contains, Contains-In, Contains-cases, Contains-here, Contains-later, In, In-Contains, In-append_cases, In-append_left, In-append_right}
use Rattle.re_labels.specs.Lists.{IsRising}
use Rattle.re_labels.specs.Sets.{number}
use Rattle.re_labels.proofs.MaxRows.{max_rows-IsMaximal}
use Rattle.re_labels.specs.Constraints.{Constraint, IsConstraint}
use Rattle.re_labels.specs.GoodRows.{IsMaximal, max_rows}
use Rattle.re_boxes.proofs.Growing.{dominated_longer}
use Rattle.re_step.proofs.Keeping.{no_longer}
use Rattle.re_boxes.proofs.UpSets.{constraint_below}
use Rattle.re_boxes.specs.Boxed.{AreBoxesCovered, AreConfigsDominated}
use Rattle.re_boxes.specs.Growing.{IsLonger}
use Rattle.re_step.specs.Kept.{IsKept}
use Rattle.re_labels.specs.declared.TheConstants.{MAX_LABELS}

abbrev Rows : Type 0
Rows = List (List (List ℕ))

abbrev pub is_below : List (List ℕ) → List (List ℕ) → Bool
is_below row other = is_lt (row_cmp row other)

pub rows_ranked : IsStrictWeakOrder is_below
rows_ranked = ranks_by nat_list_cmp_total (map number)

-- ---- order
not_falling : (ys : Rows) → IsSortedBy is_below ys → IsRising (λ row other. is_below other row ≡ false) ys
not_falling [] h = tt
not_falling (a ∷ []) h = tt
not_falling (a ∷ b ∷ ys) h = (
  h zero [] (omega arith) (omega arith),
  not_falling (b ∷ ys) (λ k d low high.
      let e : suc k + 1 ≡ suc (k + 1) = omega arith in
      subst (λ m. is_below (get_or (a ∷ b ∷ ys) m d) (get_or (b ∷ ys) k d) ≡ false) e (h (suc k) d (omega arith) (omega (arith, high)))),
)

module _ (constraint : Constraint) (n most : ℕ) (rows ys : Rows) (kept : IsKept constraint n most rows) (moved : IsPermutation rows ys) where
  back : (row : List (List ℕ)) → Contains ys row → Contains rows row
  back row h = Contains-permutation ys rows row (IsPermutation-sym rows ys moved) h

  is_maximal : (row : List (List ℕ)) → Contains ys row → IsMaximal constraint n row
  is_maximal row h = max_rows-IsMaximal constraint n row (Contains-In row (max_rows constraint n) (kept.maximal row (back row h)))

  -- a row that is its neighbour could be left out
  no_twins : (p q : Rows) (a b : List (List ℕ)) → ys ≡ p ++ a ∷ b ∷ q → a ≡ b → ⊥
  no_twins p q a b e same =
      let l = no_longer rows (p ++ b ∷ q) kept.different (λ z h.
      still z (In-append_cases z p (a ∷ b ∷ q) (Contains-In z (p ++ a ∷ b ∷ q) (subst (λ l. Contains l z) e (Contains-permutation rows ys z moved h))))) in
      let m : length ys ≡ length rows = length_permutation rows ys moved in
      let one : length ys ≡ length p + suc (suc (length q)) = ap length e ∙ length-append p (a ∷ b ∷ q) in
      let two : length (p ++ b ∷ q) ≡ length p + suc (length q) = length-append p (b ∷ q) in
      omega (arith, l, m, one, two)
    where
      still : (z : List (List ℕ)) → In z p ⊎ In z (a ∷ b ∷ q) → Contains (p ++ b ∷ q) z
      still z (inl i) = In-Contains z (p ++ b ∷ q) (In-append_left z p (b ∷ q) i)
      still z (inr i) = In-Contains z (p ++ b ∷ q) (In-append_right z p (b ∷ q) (elim (Contains-cases z a (b ∷ q) (In-Contains z (a ∷ b ∷ q) i)) [
        | inl here ↦ Contains-In z (b ∷ q) (subst (λ v. Contains (v ∷ q) z) (here ∙ same) (Contains-here z q))
        | inr there ↦ Contains-In z (b ∷ q) there
      ]))

  before : (p q : Rows) (a b : List (List ℕ)) → ys ≡ p ++ a ∷ b ∷ q → is_below b a ≡ false → row_cmp a b ≡ Less
  before p q a b e low = elim (three_orders (map number a) (map number b)) [
    | inl less ↦ less
    | inr other ↦ elim other [
      | inl equal ↦ absurd (no_twins p q a b e (same_sets n a b (is_maximal a (in_ys a (inl refl))).is_row.sets (is_maximal b (in_ys b (inr refl))).is_row.sets equal.1))
      | inr greater ↦ absurd (false≢true (sym low ∙ ap is_lt greater.1))
    ]
  ]
    where
      in_ys : (z : List (List ℕ)) → (z ≡ a) ⊎ (z ≡ b) → Contains ys z
      in_ys z (inl here) = subst (λ l. Contains l z) (sym e) (In-Contains z (p ++ a ∷ b ∷ q) (In-append_right z p (a ∷ b ∷ q)
          (Contains-In z (a ∷ b ∷ q) (subst (λ v. Contains (v ∷ b ∷ q) z) here (Contains-here z (b ∷ q))))))
      in_ys z (inr there) = subst (λ l. Contains l z) (sym e) (In-Contains z (p ++ a ∷ b ∷ q) (In-append_right z p (a ∷ b ∷ q)
          (Contains-In z (a ∷ b ∷ q) (Contains-later z a (b ∷ q) (subst (λ v. Contains (v ∷ q) z) there (Contains-here z q))))))

  rises : (p q : Rows) → ys ≡ p ++ q → IsRising (λ row other. is_below other row ≡ false) q → IsRising (λ row other. row_cmp row other ≡ Less) q
  rises p [] e h = tt
  rises p (a ∷ []) e h = tt
  rises p (a ∷ b ∷ q) e h = (before p q a b e h.0, rises (p ++ a ∷ []) (b ∷ q) (e ∙ sym (append_assoc p (a ∷ []) (b ∷ q))) h.1)

  -- ---- the list
  module _ (fine : IsConstraint MAX_LABELS constraint) (below : AllByRecursion (AllByRecursion (λ x. x < n)) constraint.configs) (ups : ℕ → List ℕ) (strong : IsStrength constraint ups)
      (sorted : IsSortedBy is_below ys) (configs : AreConfigsDominated constraint ups rows) (boxes : (row : List (List ℕ)) → Contains rows row → AreBoxesCovered constraint ups n rows row) where
    all_boxed : IsBoxed constraint ups n ys
    all_boxed = record {
      good = λ row h. let m = is_maximal row h in (m.is_row, m.good);
      ascends = rises [] ys refl (not_falling ys sorted);
      apart = λ row other h k dom. let m = is_maximal row h in (is_maximal other k).alone row m.is_row m.good dom;
      configs = λ c h. let d = configs c h in (d.0, Contains-permutation rows ys d.0 moved d.1, d.2);
      boxes = λ row i x h b next.
          let m = is_maximal row h in
          let high : next.some.0 < n = AllByRecursion-contains (λ z. z < n) (set_at row i) next.some.0 (all_at _ row i m.is_row.sets b).0.1 next.some.1 in
          covered_more constraint ups rows ys (λ z k. Contains-permutation rows ys z moved k) (only_at i x row) (box_at ups i x row)
          (boxes row (back row h) i x b (let l = next.some.2 in omega (arith, l, high)) next);
    }

    pub listed : ys ≡ max_rows constraint n
    listed = (boxes_law constraint ups n ys (constraint_below constraint n fine below) strong).0 all_boxed

    pub listed_few : length (max_rows constraint n) ≤ most
    listed_few = let m = length_permutation rows ys moved in omega (arith, m, ap length listed, kept.few)

pub configs_longer : (constraint : Constraint) (ups : ℕ → List ℕ) (rows all : Rows) → IsLonger rows all → AreConfigsDominated constraint ups rows → AreConfigsDominated constraint ups all
configs_longer constraint ups rows all longer configs c h = dominated_longer rows all longer (map ups c) (configs c h)
