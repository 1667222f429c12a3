-- The ascending lists of numbers are all there, in order.
use Rattle.std.proofs.Common.{◌≡◌, ℕ, zero, suc, ◌<◌, ◌≤◌, ◌+◌, List, [], ◌∷◌, length, map, refl, sym, ap, subst, inl, inr, arith}
use Rattle.std.specs.List.{AllByRecursion}
use Rattle.std.proofs.lemmas.Bool.Decides.{eqb_tells}
use Rattle.re_labels.specs.Orders.{begun, multisets}
use Rattle.re_labels.proofs.Before.{IsBefore-head, IsBefore-tail, IsBefore-trans}
use Rattle.re_labels.proofs.Membership.{In, In-append_cases, In-append_left, In-append_right, In-map, In-map_from}
use Rattle.re_labels.proofs.Rising.{rising-append, rising-map}
use Rattle.re_labels.specs.Lists.{IsBefore, IsRising}

-- ascending numbers from lo on
abbrev pub Steps : ℕ → List ℕ → Type 0
Steps lo [] = Unit {0}
Steps lo (x ∷ v) = (lo ≤ x) × Steps x v

pub record IsMultiset (d lo k : ℕ) (v : List ℕ) : Type 0 where
  pub count : length v ≡ d
  pub steps : Steps lo v
  pub below : AllByRecursion (λ x. x < lo + k) v

-- ---- all ascending lists
Steps-lower : (lo x : ℕ) (v : List ℕ) → lo ≤ x → Steps x v → Steps lo v
Steps-lower lo x [] h k = tt
Steps-lower lo x (y ∷ v) h k = (omega (arith, k.0), k.1)

module _ (d : ℕ) (f : ℕ → ℕ → List (List ℕ)) where
  In-begun : ((lo k : ℕ) (v : List ℕ) → IsMultiset d lo k v → In v (f lo k)) → (k lo x : ℕ) (v : List ℕ) → lo ≤ x → IsMultiset (suc d) lo k (x ∷ v) → In (x ∷ v) (begun f lo k)
  In-begun more zero lo x v h m = absurd (omega (arith, m.below.0))
  In-begun more (suc k) lo x v h m = elim (eqb_tells lo x) [
    | inl t ↦
        let there : In v (f lo (suc k)) = more lo (suc k) v (record {
          count = omega (arith, m.count);
          steps = subst (λ y. Steps y v) (sym t.1) m.steps.1;
          below = m.below.1;
        }) in
        In-append_left (x ∷ v) _ _ (subst (λ y. In (y ∷ v) (map (λ w. lo ∷ w) (f lo (suc k)))) t.1 (In-map (λ w. lo ∷ w) v (f lo (suc k)) there))
    | inr t ↦
        let above : suc lo ≤ x = (let apart : lo ≡ x → ⊥ = t.1 in omega arith) in
        In-append_right (x ∷ v) (map (λ w. lo ∷ w) (f lo (suc k))) _ (In-begun more k (suc lo) x v above (record {
          count = m.count;
          steps = (above, m.steps.1);
          below = shifted (x ∷ v) m.below;
        }))
  ]
    where
      shifted : (v : List ℕ) → AllByRecursion (λ y. y < lo + suc k) v → AllByRecursion (λ y. y < suc lo + k) v
      shifted [] h = tt
      shifted (y ∷ v) h = (omega (arith, h.0), shifted v h.1)

  In-begun_from : ((lo k : ℕ) (v : List ℕ) → In v (f lo k) → IsMultiset d lo k v) → (k lo : ℕ) (v : List ℕ) → In v (begun f lo k) → IsMultiset (suc d) lo k v
  In-begun_from more zero lo v i = absurd i
  In-begun_from more (suc k) lo v i = elim (In-append_cases v (map (λ w. lo ∷ w) (f lo (suc k))) (begun f (suc lo) k) i) [
    | inl j ↦
        let r = In-map_from (λ w. lo ∷ w) v (f lo (suc k)) j in
        let m = more lo (suc k) r.0 r.1 in
        subst (IsMultiset (suc d) lo (suc k)) (sym r.2) (record { count = ap suc m.count; steps = (omega arith, m.steps); below = (omega arith, m.below) })
    | inr j ↦
        let m = In-begun_from more k (suc lo) v j in
        record { count = m.count; steps = Steps-lower lo (suc lo) v (omega arith) m.steps; below = shifted v m.below }
  ]
    where
      shifted : (v : List ℕ) → AllByRecursion (λ y. y < suc lo + k) v → AllByRecursion (λ y. y < lo + suc k) v
      shifted [] h = tt
      shifted (y ∷ v) h = (omega (arith, h.0), shifted v h.1)

pub In-multisets : (d lo k : ℕ) (v : List ℕ) → IsMultiset d lo k v → In v (multisets d lo k)
In-multisets zero lo k [] m = inl refl
In-multisets zero lo k (x ∷ v) m = absurd (omega (arith, m.count))
In-multisets (suc d) lo k [] m = absurd (omega (arith, m.count))
In-multisets (suc d) lo k (x ∷ v) m = In-begun d (multisets d) (In-multisets d) k lo x v m.steps.0 m

pub In-multisets_from : (d lo k : ℕ) (v : List ℕ) → In v (multisets d lo k) → IsMultiset d lo k v
In-multisets_from zero lo k v (inl e) = subst (IsMultiset zero lo k) (sym e) (record { count = refl; steps = tt; below = tt })
In-multisets_from zero lo k v (inr i) = absurd i
In-multisets_from (suc d) lo k v i = In-begun_from d (multisets d) (In-multisets_from d) k lo v i

rising_begun : (d : ℕ) → ((lo k : ℕ) → IsRising IsBefore (multisets d lo k)) → (k lo : ℕ) → IsRising IsBefore (begun (multisets d) lo k)
rising_begun d more zero lo = tt
rising_begun d more (suc k) lo =
    rising-append IsBefore IsBefore-trans (map (λ w. lo ∷ w) (multisets d lo (suc k))) (begun (multisets d) (suc lo) k)
    (rising-map IsBefore IsBefore (λ w. lo ∷ w) (multisets d lo (suc k)) (λ v w i j. IsBefore-tail lo lo v w refl) (more lo (suc k)))
    (rising_begun d more k (suc lo))
    (λ v w i j.
    let r = In-map_from (λ u. lo ∷ u) v (multisets d lo (suc k)) i in
    let m = In-begun_from d (multisets d) (In-multisets_from d) k (suc lo) w j in
    rw r.2 (first_above r.0 w m.count m.steps))
  where
    first_above : (u w : List ℕ) → length w ≡ suc d → Steps (suc lo) w → IsBefore (lo ∷ u) w
    first_above u [] e s = absurd (omega arith)
    first_above u (y ∷ w) e s = IsBefore-head lo y u w (omega (arith, s.0))

pub rising-multisets : (d lo k : ℕ) → IsRising IsBefore (multisets d lo k)
rising-multisets zero lo k = tt
rising-multisets (suc d) lo k = rising_begun d (rising-multisets d) k lo

-- ---- ascending lists by their steps
pub rising_steps : (x : ℕ) (v : List ℕ) → IsRising (λ x y. x ≤ y) (x ∷ v) → Steps x v
rising_steps x [] h = tt
rising_steps x (y ∷ v) h = (h.0, rising_steps y v h.1)

pub all_rising_steps : (v : List ℕ) → IsRising (λ x y. x ≤ y) v → Steps 0 v
all_rising_steps [] h = tt
all_rising_steps (x ∷ v) h = (omega arith, rising_steps x v h)
