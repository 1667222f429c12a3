-- A list of rows dominates each good row where the boxes of its rows are covered.
use Rattle.re_labels.proofs.Tests.{true-below}
use Rattle.std.proofs.Common.{◌≡◌, ℕ, zero, suc, ◌<◌, true, ltb, List, [], ◌∷◌, ◌++◌, length, map, sym, subst, inl, inr, arith}
use Rattle.std.specs.Prelude.{Contains, filter}
use Rattle.std.specs.List.{AllByRecursion, AllZip}
use Rattle.std.proofs.lemmas.Bool.Decides.{nat_tests}
use Rattle.re_labels.proofs.ChoicesOfRows.{IsUnder-refl}
use Rattle.re_labels.proofs.Rearranging.{Rearranged-map, Rearranged-sym, along}
use Rattle.re_labels.proofs.Sorting.{AllByRecursion-Rearranged}
use Rattle.re_labels.specs.Rearranging.{Rearranged, chained, kept, swapped, unmoved}
use Rattle.re_labels.specs.Rows.{IsUnder, set_at}
use Rattle.re_labels.proofs.Membership.{Contains-cases, Contains-filter, Contains-here, Contains-none}
use Rattle.re_labels.proofs.Sets.{IsIn-one, IsIn-union, IsIn-union_cases}
use Rattle.re_labels.specs.Sets.{IsIn, IsWithin}
use Rattle.re_labels.proofs.Goodness.{IsGood-Rearranged}
use Rattle.re_labels.specs.Constraints.{Constraint, Has}
use Rattle.re_labels.specs.GoodRows.{IsDominated, IsGood}
use Rattle.re_boxes.proofs.Spread.{AreUp-raised, IsGood-raised, IsLadder, dominated_under, head_least, in_with_stronger, of_with_stronger, one_label, raised, spread}
use Rattle.re_boxes.specs.Boxes.{IsCovered, IsNext, IsStrength, box_at, cut, only_at, with_stronger}

-- what has to be in a set, what it lies in, and the row's own set there
abbrev Bounds : Type 0
Bounds = List ℕ × List ℕ × List ℕ

abbrev pub Fits : (ℕ → List ℕ) → List ℕ → Bounds → Type 0
Fits ups s g = IsWithin g.0 s × IsWithin s g.1 × ((x : ℕ) → IsIn x g.0 → IsNext ups x g.2)

abbrev loose : List (List ℕ) → List Bounds
loose r = map (λ s. ([], s, s)) r

abbrev pub boxed : (ℕ → List ℕ) → ℕ → ℕ → List (List ℕ) → List Bounds
boxed ups i x [] = []
boxed ups zero x (s ∷ r) = (x ∷ [], cut ups x s, s) ∷ loose r
boxed ups (suc i) x (s ∷ r) = ([], s, s) ∷ boxed ups i x r

boxed_along : (ups : ℕ → List ℕ) {t m : List (List ℕ)} → Rearranged t m → (i x : ℕ) → i < length t
    → (j : ℕ) × (j < length m) × Rearranged (boxed ups i x t) (boxed ups j x m)
boxed_along ups unmoved i x b = absurd (omega arith)
boxed_along ups (kept p) zero x b = (zero, omega arith, kept (Rearranged-map (λ s. ([], s, s)) p))
boxed_along ups (kept p) (suc i) x b = let m = boxed_along ups p i x (omega arith) in (suc m.0, omega (arith, m.1), kept m.2)
boxed_along ups swapped zero x b = (suc zero, omega arith, swapped)
boxed_along ups swapped (suc zero) x b = (zero, omega arith, swapped)
boxed_along ups swapped (suc (suc i)) x b = (suc (suc i), b, swapped)
boxed_along ups (chained p q) i x b =
    let m = boxed_along ups p i x b in
    let n = boxed_along ups q m.0 x m.1 in
    (n.0, n.1, chained m.2 n.2)

no_label : (s : List ℕ) → IsWithin [] s
no_label s x c = absurd (Contains-none x c)

loose_parts : (ups : ℕ → List ℕ) (r t : List (List ℕ)) → AllZip (Fits ups) r (loose t) → IsUnder (map (λ t. []) t) r × IsUnder r t
loose_parts ups [] [] h = (tt, tt)
loose_parts ups [] (w ∷ t) h = absurd h
loose_parts ups (s ∷ r) [] h = absurd h
loose_parts ups (s ∷ r) (w ∷ t) h = let more = loose_parts ups r t h.1 in ((h.0.0, more.0), (h.0.1, more.1))

pub boxed_parts : (ups : ℕ → List ℕ) (i x : ℕ) (r t : List (List ℕ)) → i < length t → AllZip (Fits ups) r (boxed ups i x t)
    → IsUnder (only_at i x t) r × IsUnder r (box_at ups i x t) × IsNext ups x (set_at t i)
boxed_parts ups i x r [] b h = absurd (omega arith)
boxed_parts ups zero x [] (w ∷ t) b h = absurd h
boxed_parts ups (suc i) x [] (w ∷ t) b h = absurd h
boxed_parts ups zero x (s ∷ r) (w ∷ t) b h =
    let more = loose_parts ups r t h.1 in
    ((h.0.0, more.0), (h.0.1, more.1), h.0.2 x (Contains-here x []))
boxed_parts ups (suc i) x (s ∷ r) (w ∷ t) b h =
    let more = boxed_parts ups i x r t (omega arith) h.1 in
    ((h.0.0, more.0), (h.0.1, more.1), more.2)

no_bound : (ups : ℕ → List ℕ) (w : List ℕ) (x : ℕ) → IsIn x [] → IsNext ups x w
no_bound ups w x c = absurd (Contains-none x c)

fits_loose : (ups : ℕ → List ℕ) (r t : List (List ℕ)) → IsUnder r t → AllZip (Fits ups) r (loose t)
fits_loose ups [] [] h = tt
fits_loose ups [] (w ∷ t) h = absurd h
fits_loose ups (s ∷ r) [] h = absurd h
fits_loose ups (s ∷ r) (w ∷ t) h = ((no_label s, h.0, no_bound ups w), fits_loose ups r t h.1)

-- the other way round
pub parts_boxed : (ups : ℕ → List ℕ) (i x : ℕ) (r t : List (List ℕ)) → IsUnder (only_at i x t) r → IsUnder r (box_at ups i x t) → IsNext ups x (set_at t i)
    → AllZip (Fits ups) r (boxed ups i x t)
parts_boxed ups i x [] [] f b n = tt
parts_boxed ups zero x [] (w ∷ t) f b n = absurd b
parts_boxed ups (suc i) x [] (w ∷ t) f b n = absurd b
parts_boxed ups i x (s ∷ r) [] f b n = absurd b
parts_boxed ups zero x (s ∷ r) (w ∷ t) f b n =
    ((f.0, b.0, λ z c. subst (λ v. IsNext ups v w) (sym (one_label z x c)) n), fits_loose ups r t b.1)
parts_boxed ups (suc i) x (s ∷ r) (w ∷ t) f b n = ((no_label s, b.0, no_bound ups w), parts_boxed ups i x r t f.1 b.1 n)

module _ (constraint : Constraint) (ups : ℕ → List ℕ) (strong : IsStrength constraint ups) where
  in_cut : (x : ℕ) (s w : List ℕ) → IsLadder ups (x ∷ s) → IsWithin (with_stronger ups s) w → IsWithin (with_stronger ups (x ∷ s)) (cut ups x w)
  in_cut x s w lad sub z c = IsIn-union (with_stronger ups (filter (ltb x) w)) (ups x) z (elim (IsIn-union_cases (with_stronger ups s) (ups x) z c) [
    | inr i ↦ inr i
    | inl i ↦
        let a = of_with_stronger ups s z i in
        let high : ltb x a.0 ≡ true = true-below x a.0 (head_least x s lad.rises a.0 a.1) in
        inl (in_with_stronger ups (filter (ltb x) w) a.0 z
        (Contains-filter (ltb x) w a.0 (sub a.0 (in_with_stronger ups s a.0 a.0 a.1 (strong.holds a.0))) high) a.2)
  ])

  next_in : (x y : ℕ) (s w : List ℕ) → IsLadder ups (x ∷ y ∷ s) → IsWithin (with_stronger ups (y ∷ s)) w → (z : ℕ) → IsIn z (x ∷ []) → IsNext ups z w
  next_in x y s w lad sub z c =
      let same : z ≡ x = one_label z x c in
      record {
        stronger = λ v k l.
            elim (Contains-cases v x (y ∷ s) (lad.above z v (IsIn-one x (y ∷ s) z c) k l)) [
              | inl e ↦ let other : v ≡ x = e in absurd (omega (arith, l, same, other))
              | inr i ↦ sub v (in_with_stronger ups (y ∷ s) v v i (strong.holds v))
            ];
        some = (
          y,
          sub y (in_with_stronger ups (y ∷ s) y y (Contains-here y s) (strong.holds y)),
          let l : x < y = lad.rises.0 in omega (arith, l, same),
        );
      }

  fits_boxed : (x y : ℕ) (s : List ℕ) → IsLadder ups (x ∷ y ∷ s) → (p q t : List (List ℕ)) → IsUnder (raised ups (p ++ (y ∷ s) ∷ q)) t
      → AllZip (Fits ups) (raised ups (p ++ (x ∷ y ∷ s) ∷ q)) (boxed ups (length p) x t) × (length p < length t)
  fits_boxed x y s lad [] q [] h = absurd h
  fits_boxed x y s lad [] q (w ∷ t) h = (
    (
      (
        (λ z c. in_with_stronger ups (x ∷ y ∷ s) x z (Contains-here x (y ∷ s)) (subst (λ v. IsIn v (ups x)) (sym (one_label z x c)) (strong.holds x))),
        in_cut x (y ∷ s) w lad h.0,
        next_in x y s w lad h.0,
      ),
      fits_loose ups (raised ups q) t h.1,
    ),
    omega arith,
  )
  fits_boxed x y s lad (o ∷ p) q [] h = absurd h
  fits_boxed x y s lad (o ∷ p) q (w ∷ t) h =
      let more = fits_boxed x y s lad p q t h.1 in
      (((no_label (with_stronger ups o), h.0, no_bound ups w), more.0), omega (arith, more.1))

  module _ (rows : List (List (List ℕ)))
      (base : (c : List ℕ) → Has constraint c → IsDominated rows (map ups c))
      (boxes : (m : List (List ℕ)) (i x : ℕ) → Contains rows m → i < length m → IsNext ups x (set_at m i)
      → IsCovered constraint ups rows (only_at i x m) (box_at ups i x m)) where
    one_step : (p q : List (List ℕ)) (x y : ℕ) (s : List ℕ) → IsDominated rows (raised ups (p ++ (y ∷ s) ∷ q)) → IsLadder ups (x ∷ y ∷ s)
        → IsGood constraint (p ++ (x ∷ y ∷ s) ∷ q) → IsDominated rows (raised ups (p ++ (x ∷ y ∷ s) ∷ q))
    one_step p q x y s (m, held, (t, pm, u)) lad good =
        let r : List (List ℕ) = raised ups (p ++ (x ∷ y ∷ s) ∷ q) in
        let f = fits_boxed x y s lad p q t u in
        let b = boxed_along ups (Rearranged-sym pm) (length p) x f.1 in
        let v = along (Fits ups) b.2 r f.0 in
        let parts = boxed_parts ups b.0 x v.0 m b.1 v.2 in
        dominated_under rows r r v.0 (IsUnder-refl r) v.1
        (boxes m b.0 x held b.1 parts.2 v.0
        (IsGood-Rearranged constraint v.1 (IsGood-raised constraint ups strong (p ++ (x ∷ y ∷ s) ∷ q) good))
        (AllByRecursion-Rearranged (λ s. (z : ℕ) → IsIn z s → IsWithin (ups z) s) v.1 (AreUp-raised constraint ups strong (p ++ (x ∷ y ∷ s) ∷ q)))
        parts.0 parts.1)

    -- each good row of ladders is dominated where the box of each row, place and label is covered
    pub boxes_suffice : (r : List (List ℕ)) → AllByRecursion (IsLadder ups) r → IsGood constraint r → IsDominated rows r
    boxes_suffice = spread constraint ups strong rows base one_step
