-- Labels that ascend where input labels are equal.
use Rattle.std.proofs.Common.{◌≡◌, ℕ, zero, suc, ◌<◌, ◌≤◌, Bool, true, false, cond, eqb, ltb, not, ◌&&◌, List, [], ◌∷◌, take, map, refl, sym, ap, subst, arith}
use Rattle.std.proofs.lemmas.Bool.Decides.{nat_tests}
use Rattle.re_labels.proofs.Tests.{and-true, eqb-true, true-and}
use Rattle.re_labels.specs.Sets.{IsIn}
use Rattle.re_labels.proofs.Rearranging.{Rearranged-refl}
use Rattle.re_labels.specs.Rearranging.{Rearranged, chained, kept, swapped}
use Rattle.re_labels.specs.Rows.{IsChoice}
use Rattle.re_settings.specs.Fits.{is_in_order}

-- the first labels are in order, too
pub in_order-take : (config labels : List ℕ) (k : ℕ) → is_in_order config labels ≡ true → is_in_order config (take k labels) ≡ true
in_order-take [] labels k h = refl
in_order-take (x ∷ config) labels zero h = refl
in_order-take (x ∷ config) [] (suc k) h = refl
in_order-take (x ∷ []) (l ∷ labels) (suc k) h = refl
in_order-take (x ∷ y ∷ config) (l ∷ labels) (suc zero) h = refl
in_order-take (x ∷ y ∷ config) (l ∷ []) (suc (suc k)) h = refl
in_order-take (x ∷ y ∷ config) (l ∷ m ∷ labels) (suc (suc k)) h =
    let both = and-true (not (eqb x y && ltb m l)) (is_in_order (y ∷ config) (m ∷ labels)) h in
    true-and (not (eqb x y && ltb m l)) (is_in_order (y ∷ config) (m ∷ take k labels)) both.0 (in_order-take (y ∷ config) (m ∷ labels) (suc k) both.1)

-- and so are those behind the first
in_order-behind : (x m : ℕ) (config labels : List ℕ) → is_in_order (x ∷ config) (m ∷ labels) ≡ true → is_in_order config labels ≡ true
in_order-behind x m [] labels h = refl
in_order-behind x m (y ∷ config) [] h = refl
in_order-behind x m (y ∷ config) (l ∷ labels) h = (and-true (not (eqb x y && ltb l m)) (is_in_order (y ∷ config) (l ∷ labels)) h).1

-- the first label, where there is one, isn't less
abbrev StartsFrom : ℕ → List ℕ → Type 0
StartsFrom m [] = Unit {0}
StartsFrom m (l ∷ labels) = m ≤ l

before-order : (x y m : ℕ) (config labels : List ℕ) → StartsFrom m labels → is_in_order (y ∷ config) labels ≡ true → is_in_order (x ∷ y ∷ config) (m ∷ labels) ≡ true
before-order x y m config [] starts h = refl
before-order x y m config (l ∷ labels) starts h =
    let least : ltb l m ≡ false = (let low : m ≤ l = starts in grind (arith, nat_tests)) in
    true-and (not (eqb x y && ltb l m)) (is_in_order (y ∷ config) (l ∷ labels)) (go (eqb x y) (ltb l m) least) h
  where
    go : (b c : Bool) → c ≡ false → not (b && c) ≡ true
    go false c e = refl
    go true false e = refl
    go true true e = absurd (cc)

-- ---- one more label
-- the label of the input label put in front of the others, behind those of the same input label that are less
abbrev put : ℕ → ℕ → List ℕ → List ℕ → List ℕ
put x l [] labels = l ∷ labels
put x l (y ∷ config) [] = l ∷ []
put x l (y ∷ config) (m ∷ labels) = cond (eqb x y && ltb m l) (m ∷ put x l config labels) (l ∷ m ∷ labels)

put-choice : (sets : ℕ → List ℕ) (x l : ℕ) (config labels : List ℕ) → IsIn l (sets x) → IsChoice labels (map sets config) → IsChoice (put x l config labels) (map sets (x ∷ config))
put-choice sets x l [] [] at chosen = (at, tt)
put-choice sets x l [] (m ∷ labels) at chosen = absurd chosen
put-choice sets x l (y ∷ config) [] at chosen = absurd chosen
put-choice sets x l (y ∷ config) (m ∷ labels) at chosen = go (eqb x y && ltb m l) refl (put-choice sets x l config labels at chosen.1)
  where
    go : (b : Bool) → b ≡ (eqb x y && ltb m l) → IsChoice (put x l config labels) (map sets (x ∷ config)) → IsChoice (cond b (m ∷ put x l config labels) (l ∷ m ∷ labels)) (map sets (x ∷ y ∷ config))
    go true e rest =
        let same : x ≡ y = eqb-true x y (and-true (eqb x y) (ltb m l) (sym e)).0 in
        (subst (λ z. IsIn m (sets z)) (sym same) chosen.0, subst (λ z. IsChoice (put x l config labels) (map sets (z ∷ config))) same rest)
    go false e rest = (at, chosen)

put-rearranged : (x l : ℕ) (config labels : List ℕ) → Rearranged (l ∷ labels) (put x l config labels)
put-rearranged x l [] labels = Rearranged-refl (l ∷ labels)
put-rearranged x l (y ∷ config) [] = Rearranged-refl (l ∷ [])
put-rearranged x l (y ∷ config) (m ∷ labels) = go (eqb x y && ltb m l) (put-rearranged x l config labels)
  where
    go : (b : Bool) → Rearranged (l ∷ labels) (put x l config labels) → Rearranged (l ∷ m ∷ labels) (cond b (m ∷ put x l config labels) (l ∷ m ∷ labels))
    go true rest = chained swapped (kept rest)
    go false rest = Rearranged-refl (l ∷ m ∷ labels)

put-starts : (x l m : ℕ) (config labels : List ℕ) → m < l → is_in_order (x ∷ config) (m ∷ labels) ≡ true → StartsFrom m (put x l config labels)
put-starts x l m [] labels less h = omega (arith, less)
put-starts x l m (y ∷ config) [] less h = omega (arith, less)
put-starts x l m (y ∷ config) (k ∷ labels) less h = go (eqb x y && ltb k l) refl
  where
    low : (b c : Bool) → b ≡ true → not (b && c) ≡ true → c ≡ false
    low true false e f = refl
    low true true e f = absurd (cc)
    low false c e f = absurd (cc)

    go : (b : Bool) → b ≡ (eqb x y && ltb k l) → StartsFrom m (cond b (k ∷ put x l config labels) (l ∷ k ∷ labels))
    go false e = omega (arith, less)
    go true e =
        let same : eqb x y ≡ true = (and-true (eqb x y) (ltb k l) (sym e)).0 in
        let least : ltb k m ≡ false = low (eqb x y) (ltb k m) same (and-true (not (eqb x y && ltb k m)) (is_in_order (y ∷ config) (k ∷ labels)) h).0 in
        grind (arith, nat_tests)

put-order : (x l : ℕ) (config labels : List ℕ) → is_in_order config labels ≡ true → is_in_order (x ∷ config) (put x l config labels) ≡ true
put-order x l [] labels h = refl
put-order x l (y ∷ config) [] h = refl
put-order x l (y ∷ config) (m ∷ labels) h = go (eqb x y && ltb m l) refl (put-order x l config labels (in_order-behind y m config labels h))
  where
    go : (b : Bool) → b ≡ (eqb x y && ltb m l) → is_in_order (x ∷ config) (put x l config labels) ≡ true → is_in_order (x ∷ y ∷ config) (cond b (m ∷ put x l config labels) (l ∷ m ∷ labels)) ≡ true
    go false e rest = true-and (not (eqb x y && ltb m l)) (is_in_order (y ∷ config) (m ∷ labels)) (ap not (sym e)) h
    go true e rest =
        let both = and-true (eqb x y) (ltb m l) (sym e) in
        let same : x ≡ y = eqb-true x y both.0 in
        let less : m < l = (let b : ltb m l ≡ true = both.1 in grind (arith, nat_tests)) in
        before-order x y m config (put x l config labels) (put-starts x l m config labels less (subst (λ z. is_in_order (z ∷ config) (m ∷ labels) ≡ true) (sym same) h))
        (subst (λ z. is_in_order (z ∷ config) (put x l config labels) ≡ true) same rest)

-- ---- a choice in order
pub in_order : (sets : ℕ → List ℕ) (config labels : List ℕ) → IsChoice labels (map sets config) → (moved : List ℕ) × IsChoice moved (map sets config) × Rearranged labels moved × (is_in_order config moved ≡ true)
in_order sets [] [] chosen = ([], tt, Rearranged-refl [], refl)
in_order sets [] (l ∷ labels) chosen = absurd chosen
in_order sets (x ∷ config) [] chosen = absurd chosen
in_order sets (x ∷ config) (l ∷ labels) chosen =
    let (moved, again, order, rises) = in_order sets config labels chosen.1 in
    (put x l config moved, put-choice sets x l config moved chosen.0 again, chained (kept order) (put-rearranged x l config moved), put-order x l config moved rises)
