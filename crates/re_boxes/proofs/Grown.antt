-- A good row to which no label can be added is maximal, and a good row that no row of a list dominates shows that it lacks one.
use Rattle.std.proofs.Common.{◌≡◌, ℕ, zero, suc, ◌<◌, List, [], ◌∷◌, length, refl, sym, ap, ◌∙◌, subst, ◌⊎◌, inl, inr, arith}
use Rattle.std.specs.Prelude.{slice_set}
use Rattle.std.specs.List.{AllZip}
use Rattle.re_labels.proofs.Rows.{AreSets, AreSets-Rearranged, not_larger, total, total-Rearranged, under_total, as_row}
use Rattle.re_labels.specs.Rows.{IsChoice, IsUnder, set_at, IsRow}
use Rattle.re_labels.proofs.Membership.{AllByRecursion-contains, Contains-here, Contains-none, In-Contains, Contains-In}
use Rattle.re_labels.proofs.Sets.{IsIn-union, IsIn-with_label_cases, IsIn-with_label_new}
use Rattle.re_labels.specs.Sets.{IsIn, IsWithin, with_label}
use Rattle.re_labels.proofs.Goodness.{IsGood-Rearranged}
use Rattle.re_labels.proofs.MaxRows.{IsMaximal-max_rows, dominated, max_rows-IsMaximal}
use Rattle.re_labels.specs.Constraints.{Constraint, Has}
use Rattle.re_labels.specs.GoodRows.{IsDominated, IsGood, max_rows, IsMaximal}
use Rattle.re_labels.proofs.Numbers.{IsLabelSet-with_label}
use Rattle.re_labels.proofs.ChoicesOfRows.{IsUnder-refl}
use Rattle.re_labels.proofs.Rearranging.{Rearranged-sym}
use Rattle.re_boxes.proofs.Spread.{AreFilled, IsGood-under, IsIn-filled}
use Rattle.re_boxes.specs.Boxes.{IsStrength}
use Rattle.re_boxes.specs.Grown.{GrownLaw, IsGrown, LacksLaw, added}

-- ---- a set with one more label
pub with_label_within : (s : List ℕ) (x : ℕ) → IsWithin s (with_label s x)
with_label_within s x z i = IsIn-union s (x ∷ []) z (inl i)

-- ---- a row with one more label
added_filled : (i x : ℕ) (r : List (List ℕ)) → AreFilled r → AreFilled (added i x r)
added_filled i x [] h = tt
added_filled zero x (s ∷ r) h = (IsIn-filled x (with_label s x) (IsIn-with_label_new s x), h.1)
added_filled (suc i) x (s ∷ r) h = (h.0, added_filled i x r h.1)

length-added : (i x : ℕ) (r : List (List ℕ)) → length (added i x r) ≡ length r
length-added i x [] = refl
length-added zero x (s ∷ r) = refl
length-added (suc i) x (s ∷ r) = ap suc (length-added i x r)

-- with a label that the row above has there, the row stays under it
added_under : (i x : ℕ) (r t : List (List ℕ)) → IsUnder r t → IsIn x (set_at t i) → IsUnder (added i x r) t
added_under i x [] [] h k = tt
added_under i x [] (w ∷ t) h k = absurd h
added_under i x (s ∷ r) [] h k = absurd h
added_under zero x (s ∷ r) (w ∷ t) h k =
    ((λ z c. elim (IsIn-with_label_cases s x z c) [ inl e ↦ subst (λ v. IsIn v w) e k | inr j ↦ h.0 z j ]), h.1)
added_under (suc i) x (s ∷ r) (w ∷ t) h k = (h.0, added_under i x r t h.1 k)

pub both_added : (i x : ℕ) (r t : List (List ℕ)) → IsUnder r t → IsUnder (added i x r) (added i x t)
both_added i x [] [] h = tt
both_added i x [] (w ∷ t) h = absurd h
both_added i x (s ∷ r) [] h = absurd h
both_added zero x (s ∷ r) (w ∷ t) h = (
  (λ z c. elim (IsIn-with_label_cases s x z c) [
    | inl e ↦ subst (λ v. IsIn v (with_label w x)) e (IsIn-with_label_new w x)
    | inr j ↦ with_label_within w x z (h.0 z j)
  ]),
  h.1,
)
both_added (suc i) x (s ∷ r) (w ∷ t) h = (h.0, both_added i x r t h.1)

-- the row with the label x alone at place i
abbrev pub with_only : ℕ → ℕ → List (List ℕ) → List (List ℕ)
with_only i x r = slice_set r i (x ∷ [])

-- a label can be added to a good row where the choices that have it there are configurations
pub added_good : (constraint : Constraint) (r : List (List ℕ)) (i x : ℕ) → IsGood constraint r
    → ((c : List ℕ) → IsChoice c (with_only i x r) → Has constraint c) → IsGood constraint (added i x r)
added_good constraint r i x good only = record {
  count = length-added i x r ∙ good.count;
  filled = added_filled i x r good.filled;
  choice = λ c k. elim (parts i r c k) [ inl here ↦ good.choice c here | inr one ↦ only c one ];
}
  where
    parts : (i : ℕ) (r : List (List ℕ)) (c : List ℕ) → IsChoice c (added i x r) → IsChoice c r ⊎ IsChoice c (with_only i x r)
    parts i [] c k = inl k
    parts zero (s ∷ r) [] k = absurd k
    parts (suc i) (s ∷ r) [] k = absurd k
    parts zero (s ∷ r) (z ∷ c) k = elim (IsIn-with_label_cases s x z k.0) [
      | inl e ↦ inr (subst (λ v. IsIn v (x ∷ [])) e (Contains-here x []), k.1)
      | inr j ↦ inl (j, k.1)
    ]
    parts (suc i) (s ∷ r) (z ∷ c) k = elim (parts i r c k.1) [ inl j ↦ inl (k.0, j) | inr j ↦ inr (k.0, j) ]

-- ---- grown rows
-- what is above the row and has at each place labels of the row alone lies below it
places_under : (t r : List (List ℕ)) → IsUnder r t → ((i x : ℕ) → i < length r → IsIn x (set_at t i) → IsIn x (set_at r i)) → IsUnder t r
places_under [] [] h k = tt
places_under (w ∷ t) [] h k = absurd h
places_under [] (s ∷ r) h k = absurd h
places_under (w ∷ t) (s ∷ r) h k = ((λ x c. k zero x (omega arith) c), places_under t r h.1 (λ i x b c. k (suc i) x (omega (arith, b)) c))

set_below : (n : ℕ) (t : List (List ℕ)) → AreSets n t → (i x : ℕ) → IsIn x (set_at t i) → x < n
set_below n [] h i x c = absurd (Contains-none x c)
set_below n (w ∷ t) h zero x c = AllByRecursion-contains (λ z. z < n) w x h.0.0.1 c
set_below n (w ∷ t) h (suc i) x c = set_below n t h.1 i x c

-- no good row lies above a grown one
pub nothing_above : (constraint : Constraint) (n : ℕ) (r t : List (List ℕ)) → AreFilled r → IsGrown constraint n r → AreSets n t → IsGood constraint t → IsUnder r t
    → IsUnder t r
nothing_above constraint n r t filled grown sets good h = places_under t r h
    (λ i x b c. grown i x b (set_below n t sets i x c) (IsGood-under constraint (added i x r) t (added_under i x r t h c) (added_filled i x r filled) good))

-- a grown good row is maximal
pub grown_is_maximal : (constraint : Constraint) (n : ℕ) (r : List (List ℕ)) → IsRow constraint.degree n r → IsGood constraint r → IsGrown constraint n r → IsMaximal constraint n r
grown_is_maximal constraint n r row good grown = record {
  is_row = row;
  good = good;
  alone = λ q rowq goodq dom.
      let sets : AreSets n dom.0 = AreSets-Rearranged n dom.1 rowq.sets in
      let back : IsUnder dom.0 r = nothing_above constraint n r dom.0 good.filled grown sets (IsGood-Rearranged constraint dom.1 goodq) dom.2 in
      let le = (under_total n dom.0 r sets row.sets back).0 in
      let same : total q ≡ total dom.0 = total-Rearranged dom.1 in
      not_larger n constraint.degree q r rowq row dom (omega (arith, le, same));
}

AreSets-added : (n i x : ℕ) (r : List (List ℕ)) → x < n → AreSets n r → AreSets n (added i x r)
AreSets-added n i x [] b h = tt
AreSets-added n zero x (s ∷ r) b h = ((IsLabelSet-with_label n s x b h.0.0, IsIn-filled x (with_label s x) (IsIn-with_label_new s x)), h.1)
AreSets-added n (suc i) x (s ∷ r) b h = (h.0, AreSets-added n i x r b h.1)

pub added_above : (i x : ℕ) (r : List (List ℕ)) → IsUnder r (added i x r)
added_above i x [] = tt
added_above zero x (s ∷ r) = (with_label_within s x, IsUnder-refl r)
added_above (suc i) x (s ∷ r) = ((λ z c. c), added_above i x r)

added_there : (i x : ℕ) (r : List (List ℕ)) → i < length r → IsIn x (set_at (added i x r) i)
added_there i x [] b = absurd (omega arith)
added_there zero x (s ∷ r) b = IsIn-with_label_new s x
added_there (suc i) x (s ∷ r) b = added_there i x r (omega arith)

-- no label can be added to a maximal row
pub maximal_is_grown : (constraint : Constraint) (n : ℕ) (r : List (List ℕ)) → IsMaximal constraint n r → IsGrown constraint n r
maximal_is_grown constraint n r maximal i x b below good =
    let t : List (List ℕ) = added i x r in
    let row : IsRow constraint.degree n r = maximal.is_row in
    let sets : AreSets n t = AreSets-added n i x r below row.sets in
    let q = as_row n constraint.degree t good.count sets in
    let same : q.0 ≡ r = maximal.alone q.0 q.1 (IsGood-Rearranged constraint q.2 good) (t, Rearranged-sym q.2, added_above i x r) in
    let one : total t ≡ total q.0 = total-Rearranged q.2 in
    let two : total q.0 ≡ total r = ap total same in
    let whole : r ≡ t = (under_total n r t row.sets sets (added_above i x r)).1 (omega (arith, one, two)) in
    subst (λ w. IsIn x (set_at w i)) (sym whole) (added_there i x r b)

pub grown_law : GrownLaw
grown_law constraint n r = (
  (λ held.
      let maximal : IsMaximal constraint n r = max_rows-IsMaximal constraint n r (Contains-In r (max_rows constraint n) held) in
      (maximal.is_row, maximal.good, maximal_is_grown constraint n r maximal)),
  (λ three. In-Contains r (max_rows constraint n) (IsMaximal-max_rows constraint n r (grown_is_maximal constraint n r three.0 three.1 three.2))),
)

pub lacks_law : LacksLaw
lacks_law constraint n rows row good sets none same = none (subst (λ l. IsDominated l row) (sym same) (dominated constraint n row good sets))

-- ---- up sets
-- a choice of the row with a stronger label too is one of the row whose labels go up
pub each_up : (ups : ℕ → List ℕ) (r : List (List ℕ)) (i x y : ℕ) (c : List ℕ) → ((z : ℕ) → IsIn z (ups z)) → IsIn x (set_at r i)
    → IsIn y (ups x) → IsChoice c (added i y r) → (e : List ℕ) × IsChoice e r × AllZip (λ u v. IsIn v (ups u)) e c
each_up ups [] i x y c itself w k h = absurd (Contains-none x w)
each_up ups (s ∷ r) zero x y [] itself w k h = absurd h
each_up ups (s ∷ r) (suc i) x y [] itself w k h = absurd h
each_up ups (s ∷ r) zero x y (v ∷ c) itself w k h = elim (IsIn-with_label_cases s y v h.0) [
  | inl e ↦ (x ∷ c, (w, h.1), (subst (λ u. IsIn u (ups x)) e k, each_same c))
  | inr j ↦ (v ∷ c, (j, h.1), (itself v, each_same c))
]
  where
    each_same : (c : List ℕ) → AllZip (λ u v. IsIn v (ups u)) c c
    each_same [] = tt
    each_same (u ∷ c) = (itself u, each_same c)
each_up ups (s ∷ r) (suc i) x y (v ∷ c) itself w k h =
    let more = each_up ups r i x y c itself w k h.1 in
    (v ∷ more.0, (h.0, more.1), (itself v, more.2))

-- the sets of a grown good row are up
pub grown_is_up : (constraint : Constraint) (ups : ℕ → List ℕ) (n : ℕ) (r : List (List ℕ)) → IsStrength constraint ups → IsGood constraint r → IsGrown constraint n r
    → (i x y : ℕ) → i < length r → y < n → IsIn x (set_at r i) → IsIn y (ups x) → IsIn y (set_at r i)
grown_is_up constraint ups n r strong good grown i x y b below w k = grown i y b below (record {
  count = length-added i y r ∙ good.count;
  filled = added_filled i y r good.filled;
  choice = λ c h. let a = each_up ups r i x y c strong.holds w k h in strong.keeps a.0 c a.2 (good.choice a.0 a.1);
})
