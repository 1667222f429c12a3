-- Rows of labels in place of lines of sets: what lies within what.
use Rattle.std.proofs.Common.{◌≡◌, ℕ, zero, suc, ◌<◌, List, [], ◌∷◌, length, map, refl, sym, ap, subst, inl, inr, arith}
use Rattle.std.specs.List.{AllByRecursion, AllZip}
use Rattle.re_labels.proofs.ChoicesOfRows.{IsUnder-refl}
use Rattle.re_labels.proofs.Placing.{Dominates-trans, beside_map, from_beside}
use Rattle.re_labels.proofs.Rearranging.{along}
use Rattle.re_labels.specs.Rearranging.{Rearranged}
use Rattle.re_labels.specs.Rows.{IsChoice, IsUnder, combined, meets, placed, set_at, singles}
use Rattle.re_labels.proofs.Membership.{Contains-cases, Contains-count_from, Contains-filter, Contains-filter_cases, Contains-none, count_from_range}
use Rattle.re_labels.proofs.Numbers.{IsLabelSet-count_from, IsLabelSet-filter}
use Rattle.re_labels.proofs.Sets.{IsIn-meet, IsIn-meet_cases, IsIn-union, IsIn-union_cases, IsWithin-within, within-IsWithin}
use Rattle.re_labels.specs.Lists.{count_from}
use Rattle.re_labels.specs.Sets.{IsIn, IsLabelSet, IsWithin, union, meet, within}
use Rattle.re_labels.proofs.Closure.{Shape}
use Rattle.re_labels.specs.GoodRows.{IsDominated}
use Rattle.re_closure_laws.specs.Lines.{labels_within}

-- ---- dominated rows
pub dominated_moved : (rows : List (List (List ℕ))) (r t : List (List ℕ)) → Rearranged r t → IsDominated rows r → IsDominated rows t
dominated_moved rows r t p (top, held, dom) = (top, held, Dominates-trans top r t dom (t, p, IsUnder-refl t))

pub dominated_under : (rows : List (List (List ℕ))) (r t : List (List ℕ)) → IsUnder t r → IsDominated rows r → IsDominated rows t
dominated_under rows r t u (top, held, dom) = (top, held, Dominates-trans top r t dom (r, same, u))
  where
    same : Rearranged r r
    same = Rattle.re_labels.proofs.Rearranging.Rearranged-refl r

-- ---- another order of a mapped list
pub map_moved : {X Y : Type 0} (f : X → Y) (xs : List X) (ys : List Y) → Rearranged (map f xs) ys → (zs : List X) × Rearranged xs zs × (ys ≡ map f zs)
map_moved f xs ys p = let u = along (λ x y. y ≡ f x) p xs (beside_map f xs) in (u.0, u.1, from_beside f u.0 ys u.2)

pub shape-map : {X Y : Type 0} (f : X → List ℕ) (g : Y → List ℕ) (xs : List X) (ys : List Y) → Shape (map f xs) (map g ys) → AllZip (λ x y. Unit {0}) xs ys
shape-map f g [] [] h = tt
shape-map f g [] (y ∷ ys) h = absurd h
shape-map f g (x ∷ xs) [] h = absurd h
shape-map f g (x ∷ xs) (y ∷ ys) h = (tt, shape-map f g xs ys h.1)

-- ---- one label of a set
pub one_in : (x : ℕ) (s : List ℕ) → IsIn x s → IsWithin (x ∷ []) s
one_in x s h z i = elim (Contains-cases z x [] i) [ inl e ↦ subst (λ w. IsIn w s) (sym e) h | inr k ↦ absurd (Contains-none z k) ]

-- ---- labels within a set
module _ (sets : List (List ℕ)) where
  pub IsIn-labels_within : (set : List ℕ) (x : ℕ) → x < length sets → IsWithin (set_at sets x) set → IsIn x (labels_within sets set)
  IsIn-labels_within set x low h =
      Contains-filter (λ label. within (set_at sets label) set) (count_from 0 (length sets)) x (Contains-count_from 0 (length sets) x (omega arith) (omega arith)) (IsWithin-within (set_at sets x) set h)

  pub IsIn-labels_within_cases : (set : List ℕ) (x : ℕ) → IsIn x (labels_within sets set) → (x < length sets) × IsWithin (set_at sets x) set
  IsIn-labels_within_cases set x i =
      let two = Contains-filter_cases (λ label. within (set_at sets label) set) (count_from 0 (length sets)) x i in
      let range = count_from_range 0 (length sets) x two.0 in
      (omega (arith, range.1), within-IsWithin (set_at sets x) set two.1)

  pub labels_within-more : (s t : List ℕ) → IsWithin s t → IsWithin (labels_within sets s) (labels_within sets t)
  labels_within-more s t h x i = let c = IsIn-labels_within_cases s x i in IsIn-labels_within t x c.0 (λ z k. h z (c.1 z k))

  pub IsLabelSet-labels_within : (set : List ℕ) → IsLabelSet (length sets) (labels_within sets set)
  IsLabelSet-labels_within set = IsLabelSet-filter (λ label. within (set_at sets label) set) (length sets) (count_from 0 (length sets)) (IsLabelSet-count_from 0 (length sets) (length sets) (omega arith))

  pub under-labels_within : (r t : List (List ℕ)) → IsUnder r t → IsUnder (map (labels_within sets) r) (map (labels_within sets) t)
  under-labels_within [] [] h = tt
  under-labels_within [] (w ∷ t) h = absurd h
  under-labels_within (s ∷ r) [] h = absurd h
  under-labels_within (s ∷ r) (w ∷ t) h = (labels_within-more s w h.0, under-labels_within r t h.1)

  under_meets : (r u : List (List ℕ)) → Shape r u → IsUnder (meets (map (labels_within sets) r) (map (labels_within sets) u)) (map (labels_within sets) (meets r u))
  under_meets [] [] h = tt
  under_meets [] (w ∷ u) h = absurd h
  under_meets (s ∷ r) [] h = absurd h
  under_meets (s ∷ r) (w ∷ u) h = (meet_within s w, under_meets r u h.1)
    where
      meet_within : (s w : List ℕ) → IsWithin (meet (labels_within sets s) (labels_within sets w)) (labels_within sets (meet s w))
      meet_within s w x i =
          let two = IsIn-meet_cases (labels_within sets s) (labels_within sets w) x i in
          let a = IsIn-labels_within_cases s x two.0 in
          let b = IsIn-labels_within_cases w x two.1 in
          IsIn-labels_within (meet s w) x a.0 (λ z k. IsIn-meet s w z (a.1 z k) (b.1 z k))

  -- labels within both sets, or within one of them: they lie within the combination
  pub under_combined : (i : ℕ) (r u : List (List ℕ)) → Shape r u → IsUnder (combined i (map (labels_within sets) r) (map (labels_within sets) u)) (map (labels_within sets) (combined i r u))
  under_combined i [] [] h = tt
  under_combined i [] (w ∷ u) h = absurd h
  under_combined i (s ∷ r) [] h = absurd h
  under_combined zero (s ∷ r) (w ∷ u) h = (union_within s w, under_meets r u h.1)
    where
      union_within : (s w : List ℕ) → IsWithin (union (labels_within sets s) (labels_within sets w)) (labels_within sets (union s w))
      union_within s w x i = elim (IsIn-union_cases (labels_within sets s) (labels_within sets w) x i) [
        | inl k ↦ let a = IsIn-labels_within_cases s x k in IsIn-labels_within (union s w) x a.0 (λ z m. IsIn-union s w z (inl (a.1 z m)))
        | inr k ↦ let a = IsIn-labels_within_cases w x k in IsIn-labels_within (union s w) x a.0 (λ z m. IsIn-union s w z (inr (a.1 z m)))
      ]
  under_combined (suc i) (s ∷ r) (w ∷ u) h = (meet_within s w, under_combined i r u h.1)
    where
      meet_within : (s w : List ℕ) → IsWithin (meet (labels_within sets s) (labels_within sets w)) (labels_within sets (meet s w))
      meet_within s w x i =
          let two = IsIn-meet_cases (labels_within sets s) (labels_within sets w) x i in
          let a = IsIn-labels_within_cases s x two.0 in
          let b = IsIn-labels_within_cases w x two.1 in
          IsIn-labels_within (meet s w) x a.0 (λ z k. IsIn-meet s w z (a.1 z k) (b.1 z k))

  -- a choice of labels within the sets of a line
  pub choice_under : (line : List (List ℕ)) (c : List ℕ) → IsChoice c (map (labels_within sets) line)
      → IsUnder (placed sets c) line × AllByRecursion (λ x. x < length sets) c × (length c ≡ length line)
  choice_under [] [] h = (tt, tt, refl)
  choice_under [] (x ∷ c) h = absurd h
  choice_under (s ∷ line) [] h = absurd h
  choice_under (s ∷ line) (x ∷ c) h =
      let a = IsIn-labels_within_cases s x h.0 in
      let m = choice_under line c h.1 in
      ((a.1, m.0), (a.0, m.1), ap suc m.2)

  pub singles_under : (c : List ℕ) (line : List (List ℕ)) → AllByRecursion (λ x. x < length sets) c → IsUnder (placed sets c) line → IsUnder (singles c) (map (labels_within sets) line)
  singles_under [] [] h k = tt
  singles_under [] (s ∷ line) h k = absurd k
  singles_under (x ∷ c) [] h k = absurd k
  singles_under (x ∷ c) (s ∷ line) h k = (one_in x (labels_within sets s) (IsIn-labels_within s x h.0 k.0), singles_under c line h.1 k.1)
