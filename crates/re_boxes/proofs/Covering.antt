-- The search in a box: what covers it.
use Rattle.std.proofs.Common.{◌≡◌, ℕ, zero, suc, ◌<◌, true, false, not, ltb, List, [], ◌∷◌, length, refl, sym, ap, ◌∙◌, subst, ◌⊎◌, inl, inr, arith}
use Rattle.std.specs.Prelude.{Contains, filter}
use Rattle.std.proofs.lemmas.Bool.{false≢true}
use Rattle.re_labels.proofs.ChoicesOfRows.{IsUnder-refl}
use Rattle.re_labels.proofs.Rearranging.{Rearranged-refl, along}
use Rattle.re_labels.proofs.Sorting.{AllByRecursion-Rearranged}
use Rattle.re_labels.specs.Rearranging.{Rearranged, kept, swapped}
use Rattle.re_labels.specs.Rows.{IsChoice, IsUnder, set_at}
use Rattle.re_labels.proofs.Membership.{Contains-filter, Contains-filter_cases, Contains-here, Contains-none}
use Rattle.re_labels.proofs.Sets.{IsIn-has, IsIn-union_cases, has-IsIn}
use Rattle.re_labels.specs.Sets.{IsIn, IsWithin, has, union}
use Rattle.re_labels.proofs.Goodness.{IsGood-Rearranged}
use Rattle.re_labels.specs.Constraints.{Constraint, Has}
use Rattle.re_labels.specs.GoodRows.{IsDominated}
use Rattle.re_boxes.proofs.Boxes.{Fits, boxed, boxed_parts, parts_boxed}
use Rattle.re_boxes.proofs.Spread.{AreFilled, AreUp, IsIn-filled, dominated_under, of_with_stronger}
use Rattle.re_boxes.specs.Boxes.{IsCovered, IsNext, IsUp, box_at, only_at, with_stronger}

-- the box without what would bring the choice's label at this place
abbrev pub without : (ℕ → List ℕ) → ℕ → List ℕ → List (List ℕ) → List (List ℕ)
without ups p c [] = []
without ups p [] (s ∷ b) = s ∷ b
without ups zero (x ∷ c) (s ∷ b) = filter (λ z. not (has (ups z) x)) s ∷ b
without ups (suc p) (x ∷ c) (s ∷ b) = s ∷ without ups p c b

-- what has to be in a row, with the up sets of the choice's labels before this place
abbrev pub held : (ℕ → List ℕ) → ℕ → List ℕ → List (List ℕ) → List (List ℕ)
held ups p c [] = []
held ups zero c (g ∷ f) = g ∷ f
held ups (suc p) [] (g ∷ f) = g ∷ f
held ups (suc p) (x ∷ c) (g ∷ f) = union g (ups x) ∷ held ups p c f

not_in : (ups : ℕ → List ℕ) (x : ℕ) (s t : List ℕ) → IsUp ups s → IsWithin s t → (IsIn x s → ⊥) → IsWithin s (filter (λ z. not (has (ups z) x)) t)
not_in ups x s t up sub lacks z c = Contains-filter (λ z. not (has (ups z) x)) t z (sub z c)
    (elim (has (ups z) x) as (λ b. has (ups z) x ≡ b → not b ≡ true) [
      | true ↦ λ e. absurd (lacks (up z c x (has-IsIn (ups z) x e)))
      | false ↦ λ e. refl
    ] refl)

-- a row of the box has the choice, or lies in the box of one of the places
split : (ups : ℕ → List ℕ) (r f b : List (List ℕ)) (c : List ℕ) → AreUp ups r → IsChoice c b → IsUnder f r → IsUnder r b
    → IsChoice c r ⊎ ((p : ℕ) × (p < length b) × IsUnder (held ups p c f) r × IsUnder r (without ups p c b))
split ups [] [] [] [] up k h u = inl tt
split ups [] [] [] (x ∷ c) up k h u = absurd k
split ups [] (g ∷ f) b c up k h u = absurd h
split ups [] [] (s ∷ b) c up k h u = absurd u
split ups (a ∷ r) [] b c up k h u = absurd h
split ups (a ∷ r) (g ∷ f) [] c up k h u = absurd u
split ups (a ∷ r) (g ∷ f) (s ∷ b) [] up k h u = absurd k
split ups (a ∷ r) (g ∷ f) (s ∷ b) (x ∷ c) up k h u =
    elim (has a x) as (λ t. has a x ≡ t
    → IsChoice (x ∷ c) (a ∷ r)
    ⊎ ((p : ℕ) × (p < suc (length b)) × IsUnder (held ups p (x ∷ c) (g ∷ f)) (a ∷ r) × IsUnder (a ∷ r) (without ups p (x ∷ c) (s ∷ b)))) [
      | true ↦ λ e. elim (split ups r f b c up.1 k.1 h.1 u.1) [
        | inl i ↦ inl (has-IsIn a x e, i)
        | inr i ↦ inr (
          suc i.0,
          omega (arith, i.1),
          ((λ z j. elim (IsIn-union_cases g (ups x) z j) [ inl l ↦ h.0 z l | inr l ↦ up.0 x (has-IsIn a x e) z l ]), i.2),
          (u.0, i.3),
        )
      ]
      | false ↦ λ e. inr (zero, omega arith, h, (not_in ups x a s up.0 u.0 (λ i. false≢true (sym e ∙ IsIn-has a x i)), u.1))
    ] refl

module _ (constraint : Constraint) (ups : ℕ → List ℕ) (rows : List (List (List ℕ))) where
  -- a dominated box is covered
  pub covered_by_row : (f b : List (List ℕ)) → IsDominated rows b → IsCovered constraint ups rows f b
  covered_by_row f b d r good up h u = dominated_under rows r b b u (Rearranged-refl b) d

  -- a choice that is no configuration splits the box by its places
  pub covered_by_split : (f b : List (List ℕ)) (c : List ℕ) → IsChoice c b → (Has constraint c → ⊥)
      → ((p : ℕ) → p < length b → IsCovered constraint ups rows (held ups p c f) (without ups p c b)) → IsCovered constraint ups rows f b
  covered_by_split f b c k bad each r good up h u = elim (split ups r f b c up k h u) [
    | inl i ↦ absurd (bad (good.choice c i))
    | inr i ↦ each i.0 i.1 r good up i.2 i.3
  ]

  -- a box with an empty set holds no row
  pub covered_empty : (f b : List (List ℕ)) → (AreFilled b → ⊥) → IsCovered constraint ups rows f b
  covered_empty f b none r good up h u = absurd (none (filled_over r b u good.filled))
    where
      filled_over : (r m : List (List ℕ)) → IsUnder r m → AreFilled r → AreFilled m
      filled_over [] [] h k = k
      filled_over [] (t ∷ m) h k = absurd h
      filled_over (s ∷ r) [] h k = absurd h
      filled_over ([] ∷ r) (t ∷ m) h k = absurd (omega (arith, k.0))
      filled_over ((x ∷ s) ∷ r) (t ∷ m) h k = (IsIn-filled x t (h.0 x (Contains-here x s)), filled_over r m h.1 k.1)

-- what a list covers, a longer one covers
pub covered_more : (constraint : Constraint) (ups : ℕ → List ℕ) (rows more : List (List (List ℕ))) → ((r : List (List ℕ)) → Contains rows r → Contains more r)
    → (f b : List (List ℕ)) → IsCovered constraint ups rows f b → IsCovered constraint ups more f b
covered_more constraint ups rows more to f b covered r good up h u =
    let (top, here, dom) = covered r good up h u in
    (top, to top here, dom)

-- ---- boxes that need no search
-- the label has to be in the row at this place
abbrev pub IsHeldAt : ℕ → List ℕ → List (List ℕ) → Type 0
IsHeldAt p [] f = ⊥
IsHeldAt p (x ∷ c) [] = ⊥
IsHeldAt zero (x ∷ c) (g ∷ f) = IsIn x g
IsHeldAt (suc p) (x ∷ c) (g ∷ f) = IsHeldAt p c f

not_held : (ups : ℕ → List ℕ) → ((x : ℕ) → IsIn x (ups x)) → (p : ℕ) (c : List ℕ) (f r b : List (List ℕ)) → IsHeldAt p c f
    → IsUnder (held ups p c f) r → IsUnder r (without ups p c b) → ⊥
not_held ups itself p [] f r b w h u = w
not_held ups itself p (x ∷ c) [] r b w h u = w
not_held ups itself zero (x ∷ c) (g ∷ f) [] b w h u = h
not_held ups itself (suc p) (x ∷ c) (g ∷ f) [] b w h u = h
not_held ups itself zero (x ∷ c) (g ∷ f) (a ∷ r) [] w h u = u
not_held ups itself (suc p) (x ∷ c) (g ∷ f) (a ∷ r) [] w h u = u
not_held ups itself zero (x ∷ c) (g ∷ f) (a ∷ r) (s ∷ b) w h u =
    let both = Contains-filter_cases (λ z. not (has (ups z) x)) s x (u.0 x (h.0 x w)) in
    false≢true (sym (ap not (IsIn-has (ups x) x (itself x))) ∙ both.1)
not_held ups itself (suc p) (x ∷ c) (g ∷ f) (a ∷ r) (s ∷ b) w h u = not_held ups itself p c f r b w h.1 u.1

box_within : (ups : ℕ → List ℕ) (i x : ℕ) (m : List (List ℕ)) → AreUp ups m → IsIn x (set_at m i) → IsUnder (box_at ups i x m) m
box_within ups i x [] up w = absurd (Contains-none x w)
box_within ups zero x (s ∷ r) up w = (
  (λ z c. elim (IsIn-union_cases (with_stronger ups (filter (ltb x) s)) (ups x) z c) [
    | inl i ↦ let a = of_with_stronger ups (filter (ltb x) s) z i in up.0 a.0 (Contains-filter_cases (ltb x) s a.0 a.1).0 z a.2
    | inr i ↦ up.0 x w z i
  ]),
  IsUnder-refl r,
)
box_within ups (suc i) x (s ∷ r) up w = ((λ z c. c), box_within ups i x r up.1 w)

-- a label that the row's set has already needs no box
pub covered_there : (constraint : Constraint) (ups : ℕ → List ℕ) (rows : List (List (List ℕ))) (m : List (List ℕ)) → Contains rows m → AreUp ups m
    → (i x : ℕ) → IsIn x (set_at m i) → IsCovered constraint ups rows (only_at i x m) (box_at ups i x m)
covered_there constraint ups rows m here up i x w =
    covered_by_row constraint ups rows (only_at i x m) (box_at ups i x m) (m, here, (m, Rearranged-refl m, box_within ups i x m up w))

boxed_twin : (ups : ℕ → List ℕ) (i x : ℕ) (m : List (List ℕ)) → suc i < length m → set_at m i ≡ set_at m (suc i)
    → Rearranged (boxed ups (suc i) x m) (boxed ups i x m)
boxed_twin ups i x [] b w = absurd (omega arith)
boxed_twin ups i x (s ∷ []) b w = absurd (omega arith)
boxed_twin ups zero x (s ∷ t ∷ r) b w = twin s t w
  where
    twin : (s t : List ℕ) → s ≡ t → Rearranged (boxed ups (suc zero) x (s ∷ t ∷ r)) (boxed ups zero x (s ∷ t ∷ r))
    twin s t w = subst (λ v. Rearranged (boxed ups (suc zero) x (s ∷ v ∷ r)) (boxed ups zero x (s ∷ v ∷ r))) w swapped
boxed_twin ups (suc i) x (s ∷ t ∷ r) b w = kept (boxed_twin ups i x (t ∷ r) (omega arith) w)

-- of two neighbouring places with one set, the first is enough
pub covered_twin : (constraint : Constraint) (ups : ℕ → List ℕ) (rows : List (List (List ℕ))) (m : List (List ℕ)) (i x : ℕ) → suc i < length m
    → set_at m i ≡ set_at m (suc i) → (IsNext ups x (set_at m i) → IsCovered constraint ups rows (only_at i x m) (box_at ups i x m))
    → IsNext ups x (set_at m (suc i)) → IsCovered constraint ups rows (only_at (suc i) x m) (box_at ups (suc i) x m)
covered_twin constraint ups rows m i x b same covered next r good up f u =
    let v = along (Fits ups) (boxed_twin ups i x m b same) r (parts_boxed ups (suc i) x r m f u next) in
    let parts = boxed_parts ups i x v.0 m (omega arith) v.2 in
    dominated_under rows r r v.0 (IsUnder-refl r) v.1
    (covered parts.2 v.0 (IsGood-Rearranged constraint v.1 good) (AllByRecursion-Rearranged (λ s. (z : ℕ) → IsIn z s → IsWithin (ups z) s) v.1 up) parts.0 parts.1)
