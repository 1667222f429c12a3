-- Labels that are added at a place, all at once.
use Rattle.std.proofs.Common.{◌≡◌, ℕ, zero, suc, ◌<◌, ◌≤◌, not, true, false, List, [], ◌∷◌, ◌++◌, length, refl, sym, ap, ◌∙◌, subst, ◌⊎◌, inl, inr, arith, append_assoc}
use Rattle.std.specs.Prelude.{◌↔◌, remove, slice_set}
use Rattle.std.specs.List.{AllZip}
use Rattle.std.proofs.lemmas.Bool.{cases_lt, false≢true}
use Rattle.re_boxes.specs.Boxes.{IsStrength}
use Rattle.re_boxes.proofs.UpSets.{weakest_tell}
use Rattle.re_boxes.specs.HeldStrength.{IsWeakest}
use Rattle.re_boxes.proofs.Spread.{IsIn-filled, one_label}
use Rattle.re_boxes.specs.Grown.{added}
use Rattle.re_labels.proofs.ChoicesOfRows.{IsUnder-refl}
use Rattle.re_labels.proofs.Rearranging.{Rearranged-refl, Rearranged-sym}
use Rattle.re_labels.proofs.Rows.{all_at}
use Rattle.re_labels.specs.Rearranging.{Rearranged, chained, kept, swapped}
use Rattle.re_labels.specs.Rows.{IsChoice, set_at}
use Rattle.re_labels.proofs.Membership.{AllByRecursion-from_contains, Contains-here}
use Rattle.re_labels.proofs.Numbers.{IsLabelSet-union}
use Rattle.re_labels.proofs.Sets.{IsIn-has, IsIn-union, IsIn-union_cases, has-IsIn}
use Rattle.re_labels.specs.Sets.{IsIn, has, union}
use Rattle.re_labels.proofs.Goodness.{Has-Rearranged}
use Rattle.re_labels.specs.Constraints.{Constraint, Has}
use Rattle.re_labels.specs.GoodRows.{IsGood}
use Rattle.re_boxes.proofs.SetsAtPlaces.{all_set, length-slice_set, set_there, under_set}
use Rattle.re_boxes.specs.Choosing.{AreGoodBehind, AreGoodChoices}
use Rattle.re_boxes.specs.Sets.{AreSets}
use Rattle.re_step.proofs.Growth.{only_choices}
use Rattle.re_step.specs.Growing.{IsGrownFrom, IsTried}

-- ---- a label that stands first or at its place
front : (x : ℕ) (drawn c : List ℕ) → Rearranged (x ∷ drawn ++ c) (drawn ++ x ∷ c)
front x [] c = Rearranged-refl (x ∷ c)
front x (y ∷ drawn) c = chained swapped (kept (front x drawn c))

slice_twice : (r : List (List ℕ)) (i : ℕ) (v w : List ℕ) → slice_set (slice_set r i v) i w ≡ slice_set r i w
slice_twice [] i v w = refl
slice_twice (s ∷ r) zero v w = refl
slice_twice (s ∷ r) (suc i) v w = ap (λ t. s ∷ t) (slice_twice r i v w)

module _ (constraint : Constraint) where
  pub put_in : (x : ℕ) (drawn : List ℕ) (w : List (List ℕ)) (i : ℕ) → i < length w → AreGoodBehind constraint (x ∷ drawn) (remove w i) → AreGoodBehind constraint drawn (slice_set w i (x ∷ []))
  put_in x drawn [] i b good c k = absurd (omega (arith, b))
  put_in x drawn (s ∷ w) zero b good [] k = absurd k
  put_in x drawn (s ∷ w) zero b good (z ∷ c) k = subst (λ y. Has constraint (drawn ++ y ∷ c)) (sym (one_label z x k.0)) (Has-Rearranged constraint (front x drawn c) (good c k.1))
  put_in x drawn (s ∷ w) (suc i) b good [] k = absurd k
  put_in x drawn (s ∷ w) (suc i) b good (z ∷ c) k = subst (Has constraint) (append_assoc drawn (z ∷ []) c)
      (put_in x (drawn ++ z ∷ []) w i (omega (arith, b)) (λ d j. subst (Has constraint) (sym (append_assoc (x ∷ drawn) (z ∷ []) d)) (good (z ∷ d) (k.0, j))) c k.1)

  pub put_out : (x : ℕ) (drawn : List ℕ) (w : List (List ℕ)) (i : ℕ) → i < length w → AreGoodBehind constraint drawn (slice_set w i (x ∷ [])) → AreGoodBehind constraint (x ∷ drawn) (remove w i)
  put_out x drawn [] i b good c k = absurd (omega (arith, b))
  put_out x drawn (s ∷ w) zero b good c k = Has-Rearranged constraint (Rearranged-sym (front x drawn c)) (good (x ∷ c) (Contains-here x [], k))
  put_out x drawn (s ∷ w) (suc i) b good [] k = absurd k
  put_out x drawn (s ∷ w) (suc i) b good (z ∷ c) k = subst (Has constraint) (append_assoc (x ∷ drawn) (z ∷ []) c)
      (put_out x (drawn ++ z ∷ []) w i (omega (arith, b)) (λ d j. subst (Has constraint) (sym (append_assoc drawn (z ∷ []) d)) (good (z ∷ d) (k.0, j))) c k.1)

-- ---- more labels at a place
abbrev pub united : ℕ → List ℕ → List (List ℕ) → List (List ℕ)
united i add r = slice_set r i (union (set_at r i) add)

united_cases : (add : List ℕ) (i : ℕ) (r : List (List ℕ)) (c : List ℕ) → IsChoice c (united i add r) → IsChoice c r ⊎ ((z : ℕ) × IsIn z add × IsChoice c (slice_set r i (z ∷ [])))
united_cases add i [] c k = inl k
united_cases add zero (s ∷ r) [] k = absurd k
united_cases add zero (s ∷ r) (z ∷ c) k = elim (IsIn-union_cases s add z k.0) [
  | inl h ↦ inl (h, k.1)
  | inr h ↦ inr (z, h, (Contains-here z [], k.1))
]
united_cases add (suc i) (s ∷ r) [] k = absurd k
united_cases add (suc i) (s ∷ r) (z ∷ c) k = elim (united_cases add i r c k.1) [
  | inl h ↦ inl (k.0, h)
  | inr t ↦ inr (t.0, t.1, (k.0, t.2))
]

united_filled : (s t : List ℕ) → 0 < length s → 0 < length (union s t)
united_filled [] t h = absurd (omega (arith, h))
united_filled (y ∷ s) t h = IsIn-filled y (union (y ∷ s) t) (IsIn-union (y ∷ s) t y (inl (Contains-here y s)))

module _ (constraint : Constraint) (n : ℕ) (r : List (List ℕ)) (i : ℕ) (b : i < length r) (add : List ℕ) where
  united_good : IsGood constraint r → ((x : ℕ) → IsIn x add → AreGoodChoices constraint (slice_set r i (x ∷ []))) → IsGood constraint (united i add r)
  united_good good each = record {
    count = length-slice_set r i (union (set_at r i) add) ∙ good.count;
    filled = all_set (λ s. 0 < length s) r i (union (set_at r i) add) good.filled (united_filled (set_at r i) add (all_at (λ s. 0 < length s) r i good.filled b));
    choice = λ c k. elim (united_cases add i r c k) [
      | inl h ↦ good.choice c h
      | inr t ↦ each t.0 t.1 c t.2
    ];
  }

  united_sets : AreSets n r → ((x : ℕ) → IsIn x add → x < n) → AreSets n (united i add r)
  united_sets sets below = all_set _ r i (union (set_at r i) add) sets (
    IsLabelSet-union n (set_at r i) add (all_at _ r i sets b).0 (AllByRecursion-from_contains (λ x. x < n) add below),
    united_filled (set_at r i) add (all_at _ r i sets b).1,
  )

  pub united_grown : (more : List (List ℕ)) → more ≡ united i add r → IsGood constraint r → AreSets n r
      → ((x : ℕ) → IsIn x add → (x < n) × AreGoodChoices constraint (slice_set r i (x ∷ []))) → IsGrownFrom constraint n r more
  united_grown more e good sets each = subst (IsGrownFrom constraint n r) (sym e) (record {
    good = united_good good (λ x h. (each x h).1);
    are_sets = united_sets sets (λ x h. (each x h).0);
    under = under_set r r i (union (set_at r i) add) (IsUnder-refl r) (λ x h. IsIn-union (set_at r i) add x (inl h));
  })

  pub united_tried : (more : List (List ℕ)) → more ≡ united i add r → ((x : ℕ) → x < n → (IsIn x (set_at r i) → ⊥) → AreGoodChoices constraint (slice_set r i (x ∷ [])) → IsIn x add)
      → (x : ℕ) → x < n → IsTried constraint more i x
  united_tried more e all x below good = subst (λ t. IsIn x (set_at t i)) (sym e) (subst (IsIn x) (sym (set_there r i (union (set_at r i) add) b)) (elim (has (set_at r i) x) as (λ h. has (set_at r i) x ≡ h → IsIn x (union (set_at r i) add)) [
    | true ↦ λ h. IsIn-union (set_at r i) add x (inl (has-IsIn (set_at r i) x h))
    | false ↦ λ h. IsIn-union (set_at r i) add x (inr (all x below (λ held. false≢true (sym h ∙ IsIn-has (set_at r i) x held)) (λ c k. here c k)))
  ] refl))
    where
      here : (c : List ℕ) → IsChoice c (slice_set r i (x ∷ [])) → Has constraint c
      here c k = (subst (λ t. IsGood constraint (added i x t)) e good).choice c
          (only_choices i x (united i add r) c (subst (IsChoice c) (sym (slice_twice r i (union (set_at r i) add) (x ∷ []))) k))

-- ---- what is found
zip_length : (R : List ℕ → List ℕ → Type 0) (xs ys : List (List ℕ)) → AllZip R xs ys → length xs ≡ length ys
zip_length R [] [] h = refl
zip_length R [] (y ∷ ys) h = absurd h
zip_length R (x ∷ xs) [] h = absurd h
zip_length R (x ∷ xs) (y ∷ ys) h = ap suc (zip_length R xs ys h.1)

pub outside_below : (n : ℕ) (left : List ℕ) → ((z : ℕ) → n ≤ z → has left z ≡ false) → (x : ℕ) → IsIn x left → x < n
outside_below n left above x h = elim (cases_lt x n) [
  | inl l ↦ l
  | inr past ↦ absurd (false≢true (sym (above x past) ∙ IsIn-has left x h))
]

pub outside_held : (n : ℕ) (left set : List ℕ) → ((z : ℕ) → z < n → has left z ≡ not (has set z)) → (x : ℕ) → x < n → (IsIn x set → ⊥) → IsIn x left
outside_held n left set below x b never = has-IsIn left x (below x b ∙ elim (has set x) as (λ h. has set x ≡ h → not h ≡ true) [
  | true ↦ λ h. absurd (never (has-IsIn set x h))
  | false ↦ λ h. refl
] refl)

module _ (constraint : Constraint) (ups : ℕ → List ℕ) (strong : IsStrength constraint ups) (weakest seen sets : List (List ℕ)) (same : seen ≡ sets) (zip : AllZip (IsWeakest ups) weakest seen)
    (i : ℕ) (b : i < length sets) (others : List (List ℕ)) (without : others ≡ remove weakest i) (x : ℕ) where
  within : i < length weakest
  within = omega (arith, b, ap length same, zip_length (IsWeakest ups) weakest seen zip)

  tell : AreGoodChoices constraint (slice_set weakest i (x ∷ [])) ↔ AreGoodChoices constraint (slice_set sets i (x ∷ []))
  tell = subst (λ s. AreGoodChoices constraint (slice_set weakest i (x ∷ [])) ↔ AreGoodChoices constraint (slice_set s i (x ∷ []))) same
      (weakest_tell constraint ups strong weakest seen (slice_set weakest i (x ∷ [])) i x zip refl)

  pub others_tell : AreGoodBehind constraint (x ∷ []) others → AreGoodChoices constraint (slice_set sets i (x ∷ []))
  others_tell good = tell.0 (put_in constraint x [] weakest i within (subst (AreGoodBehind constraint (x ∷ [])) without good))

  pub others_told : AreGoodChoices constraint (slice_set sets i (x ∷ [])) → AreGoodBehind constraint (x ∷ []) others
  others_told good = subst (AreGoodBehind constraint (x ∷ [])) (sym without) (put_out constraint x [] weakest i within (tell.1 good))
