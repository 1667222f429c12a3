-- The orders of a row, and domination by a test of all of them.
use Rattle.std.proofs.Common.{◌≡◌, ℕ, zero, suc, ◌<◌, ◌≤◌, ◌+◌, true, cond, ◌&&◌, leb, List, [], ◌∷◌, ◌++◌, length, map, take, drop, get_or, refl, sym, ap, ◌∙◌, subst, inl, inr, arith, Some, None, append_assoc, length-append, add-one, drop-cons}
use Rattle.std.specs.List.{AllZip}
use Rattle.std.proofs.lemmas.List.{take_more}
use Rattle.std.proofs.lemmas.Bool.{false≢true}
use Rattle.std.proofs.lemmas.Bool.Decides.{nat_tests}
use Rattle.re_labels.proofs.ChoicesOfRows.{IsUnder-refl, IsUnder-trans}
use Rattle.re_labels.proofs.OrdersAt.{length-orders}
use Rattle.re_labels.proofs.Rearranging.{AllZip-Rearranged, Rearranged-map, Rearranged-refl, Rearranged-sym, along, length-Rearranged}
use Rattle.re_labels.specs.Configs.{sorted}
use Rattle.re_labels.specs.Orders.{factorial, orders, placements, splits}
use Rattle.re_labels.specs.Rearranging.{Rearranged, chained, kept, swapped, unmoved}
use Rattle.re_labels.specs.Rows.{Dominates, IsUnder, combined, covers, dominates, is_full, meets, placed, row_of}
use Rattle.re_labels.proofs.Membership.{In, In-flat_map, In-flat_map_from, In-map, In-map_from, any-In, any-In_from, length-count_from}
use Rattle.re_labels.proofs.Sets.{IsWithin-within, within-IsWithin}
use Rattle.re_labels.proofs.Tests.{and-true, true-and}
use Rattle.re_labels.specs.Lists.{count_from}
use Rattle.re_labels.specs.Sets.{IsWithin, meet, number, set_of, union, within}
use Rattle.re_labels.specs.declared.TheConstants.{MAX_LABELS}

pub data Pick {X : Type 0} (x : X) : List X → List X → Type 0 where
  here : {xs : List X} → Pick x (x ∷ xs) xs
  there : {y : X} {xs ys : List X} → Pick x xs ys → Pick x (y ∷ xs) (y ∷ ys)

pub picked : {X : Type 0} {x : X} {xs ys xs' : List X} → Rearranged xs ys → Pick x xs xs' → (ys' : List X) × Pick x ys ys' × Rearranged xs' ys'
picked unmoved k = elim k [ ]
picked (kept {ys = ys} p) here = (ys, here, p)
picked (kept {x = a} p) (there k) = let r = picked p k in (a ∷ r.0, there r.1, kept r.2)
picked (swapped {x = a} {y = b} {xs = xs}) here = (b ∷ xs, there here, Rearranged-refl (b ∷ xs))
picked (swapped {x = a} {y = b} {xs = xs}) (there here) = (a ∷ xs, here, Rearranged-refl (a ∷ xs))
picked (swapped {x = a} {y = b} {xs = xs}) (there (there {ys = ys} k)) = (b ∷ a ∷ ys, there (there k), swapped)
picked (chained p q) k =
    let r = picked p k in
    let s = picked q r.1 in
    (s.0, s.1, chained r.2 s.2)

In-splits : {y : ℕ} {xs ys : List ℕ} → Pick y xs ys → In (y, ys) (splits xs)
In-splits here = inl refl
In-splits {y = y} (there {y = x} {xs = xs} {ys = ys} k) = inr (In-map (λ p. (p.0, x ∷ p.1)) (y, ys) (splits xs) (In-splits k))

pub Pick-from : (xs : List ℕ) (p : ℕ × List ℕ) → In p (splits xs) → Pick p.0 xs p.1
Pick-from [] p i = absurd i
Pick-from (x ∷ xs) p (inl e) = subst (λ q. Pick q.0 (x ∷ xs) q.1) (sym e) here
Pick-from (x ∷ xs) p (inr i) =
    let r = In-map_from (λ q. (q.0, x ∷ q.1)) p (splits xs) i in
    subst (λ q. Pick q.0 (x ∷ xs) q.1) (sym r.2) (there (Pick-from xs r.0 r.1))

pub Rearranged-Pick : {y : ℕ} {xs ys : List ℕ} → Pick y xs ys → Rearranged xs (y ∷ ys)
Rearranged-Pick (here {xs = xs}) = Rearranged-refl _
Rearranged-Pick (there k) = chained (kept (Rearranged-Pick k)) swapped

pub no_length : {X : Type 0} (xs : List X) → length xs ≡ 0 → xs ≡ []
no_length [] e = refl
no_length (x ∷ xs) e = absurd (omega arith)

pub Rearranged-orders : (n : ℕ) (xs ys : List ℕ) → length xs ≡ n → In ys (orders n xs) → Rearranged xs ys
Rearranged-orders zero xs ys e (inl d) = subst (λ l. Rearranged l ys) (sym (no_length xs e)) (subst (Rearranged []) (sym d) unmoved)
Rearranged-orders zero xs ys e (inr i) = absurd i
Rearranged-orders (suc n) xs ys e i =
    let r = In-flat_map_from (λ p. map (λ o. p.0 ∷ o) (orders n p.1)) ys (splits xs) i in
    let s = In-map_from (λ o. r.0.0 ∷ o) ys (orders n r.0.1) r.2 in
    let p = Rearranged-Pick (Pick-from xs r.0 r.1) in
    let l : length r.0.1 ≡ n = (let k = length-Rearranged p in omega (arith, k)) in
    subst (Rearranged xs) (sym s.2) (chained p (kept (Rearranged-orders n r.0.1 s.0 l s.1)))

pub In-orders : (n : ℕ) (xs ys : List ℕ) → length xs ≡ n → Rearranged xs ys → In ys (orders n xs)
In-orders zero xs ys e p = inl (no_length ys (sym (length-Rearranged p) ∙ e))
In-orders (suc n) xs [] e p = absurd (let l = length-Rearranged p in omega (arith, l))
In-orders (suc n) xs (y ∷ ys) e p =
    let r = picked (Rearranged-sym p) here in
    let k = length-Rearranged (Rearranged-Pick r.1) in
    In-flat_map (λ q. map (λ o. q.0 ∷ o) (orders n q.1)) (y, r.0) (y ∷ ys) (splits xs) (In-splits r.1)
    (In-map (λ o. y ∷ o) ys (orders n r.0) (In-orders n r.0 ys (omega (arith, k)) (Rearranged-sym r.2)))

pub beside_map : {X Y : Type 0} (f : X → Y) (xs : List X) → AllZip (λ x y. y ≡ f x) xs (map f xs)
beside_map f [] = tt
beside_map f (x ∷ xs) = (refl, beside_map f xs)

pub from_beside : {X Y : Type 0} (f : X → Y) (xs : List X) (ys : List Y) → AllZip (λ x y. y ≡ f x) xs ys → ys ≡ map f xs
from_beside f [] [] h = refl
from_beside f [] (y ∷ ys) h = absurd h
from_beside f (x ∷ xs) [] h = absurd h
from_beside f (x ∷ xs) (y ∷ ys) h = (λ i. h.0 i ∷ from_beside f xs ys h.1 i)

-- a row is its sets at all places
at_all_places : {X : Type 0} (front r : List X) (d : X) → map (λ i. get_or (front ++ r) i d) (count_from (length front) (length r)) ≡ r
at_all_places front [] d = refl
at_all_places front (s ∷ r) d = joined front s r d (at_all_places (front ++ s ∷ []) r d)
  where
    one_more : (n : ℕ) → n + 1 ≡ suc n
    one_more n = omega arith

    seam : {X : Type 0} (f : List X) (s : X) (r : List X) (d : X) → get_or (f ++ s ∷ r) (length f) d ≡ s
    seam [] s r d = refl
    seam (x ∷ f) s r d = seam f s r d

    joined : {X : Type 0} (f : List X) (s : X) (r : List X) (d : X) → map (λ i. get_or ((f ++ s ∷ []) ++ r) i d) (count_from (length (f ++ s ∷ [])) (length r)) ≡ r
        → map (λ i. get_or (f ++ s ∷ r) i d) (length f ∷ count_from (suc (length f)) (length r)) ≡ s ∷ r
    joined f s r d rest =
        let l : length (f ++ s ∷ []) ≡ suc (length f) = length-append f (s ∷ []) ∙ one_more (length f) in
        let more : map (λ i. get_or (f ++ s ∷ r) i d) (count_from (suc (length f)) (length r)) ≡ r =
        subst (λ m. map (λ i. get_or (f ++ s ∷ r) i d) (count_from m (length r)) ≡ r) l
        (subst (λ k. map (λ i. get_or k i d) (count_from (length (f ++ s ∷ [])) (length r)) ≡ r) (append_assoc f (s ∷ []) r) rest) in
        (λ i. seam f s r d i ∷ more i)

-- a row at all its places is the row
pub placed_whole : (row : List (List ℕ)) → placed row (count_from 0 (length row)) ≡ row
placed_whole row = at_all_places [] row []

-- each order of the places gives the row in another order, and each order of the row comes from one of the places
pub Rearranged-placed : (row : List (List ℕ)) (order : List ℕ) → In order (placements (length row)) → Rearranged row (placed row order)
unfolding placements
Rearranged-placed row order i =
    let p = Rearranged-orders (length row) (count_from 0 (length row)) order (length-count_from 0 (length row)) i in
    subst (λ q. Rearranged q (placed row order)) (placed_whole row) (Rearranged-map (λ k. get_or row k []) p)

pub placed-Rearranged : (row moved : List (List ℕ)) → Rearranged row moved → (order : List ℕ) × In order (placements (length row)) × (moved ≡ placed row order)
unfolding placements
placed-Rearranged row moved r =
    let n = length row in
    let p : Rearranged (placed row (count_from 0 n)) moved = subst (λ q. Rearranged q moved) (sym (placed_whole row)) r in
    let u = along (λ i t. t ≡ get_or row i []) p (count_from 0 n) (beside_map (λ i. get_or row i []) (count_from 0 n)) in
    (u.0, In-orders n (count_from 0 n) u.0 (length-count_from 0 n) u.1, from_beside (λ i. get_or row i []) u.0 moved u.2)

-- ---- domination
pub covers-IsUnder : (t s : List (List ℕ)) → covers t s ≡ true → IsUnder s t
covers-IsUnder [] [] h = tt
covers-IsUnder [] (a ∷ s) h = absurd (false≢true h)
covers-IsUnder (b ∷ t) [] h = absurd (false≢true h)
covers-IsUnder (b ∷ t) (a ∷ s) h = let r = and-true (within a b) (covers t s) h in (within-IsWithin a b r.0, covers-IsUnder t s r.1)

pub IsUnder-covers : (t s : List (List ℕ)) → IsUnder s t → covers t s ≡ true
IsUnder-covers [] [] h = refl
IsUnder-covers [] (a ∷ s) h = absurd h
IsUnder-covers (b ∷ t) [] h = absurd h
IsUnder-covers (b ∷ t) (a ∷ s) h = true-and (within a b) (covers t s) (IsWithin-within a b h.0) (IsUnder-covers t s h.1)

pub dominates-Dominates : (row other : List (List ℕ)) → dominates row other ≡ true → Dominates row other
dominates-Dominates row other h =
    let a = any-In_from (λ order. covers (placed row order) other) (placements (length row)) h in
    (placed row a.0, Rearranged-placed row a.0 a.1, covers-IsUnder (placed row a.0) other a.2)

pub Dominates-dominates : (row other : List (List ℕ)) → Dominates row other → dominates row other ≡ true
Dominates-dominates row other d =
    let p = placed-Rearranged row d.0 d.1 in
    any-In (λ order. covers (placed row order) other) p.0 (placements (length row)) p.1
    (ap (λ t. covers t other) (sym p.2) ∙ IsUnder-covers d.0 other d.2)

pub Dominates-refl : (r : List (List ℕ)) → Dominates r r
Dominates-refl r = (r, Rearranged-refl r, IsUnder-refl r)

pub Dominates-trans : (q r s : List (List ℕ)) → Dominates q r → Dominates r s → Dominates q s
Dominates-trans q r s a b =
    let back = AllZip-Rearranged IsWithin b.1 a.0 a.2 in
    (back.0, chained a.1 back.1, IsUnder-trans s b.0 back.0 b.2 back.2)

-- ---- the steps of the loops
pub covers_step : (t s : List (List ℕ)) (i : ℕ) → i < length t → i < length s → covers (drop i t) (drop i s) ≡ (within (get_or s i []) (get_or t i []) && covers (drop (i + 1) t) (drop (i + 1) s))
covers_step [] s i h k = absurd (omega arith)
covers_step (a ∷ t) [] i h k = absurd (omega arith)
covers_step (a ∷ t) (b ∷ s) zero h k = refl
covers_step (a ∷ t) (b ∷ s) (suc i) h k =
    let e : suc i + 1 ≡ suc (i + 1) = omega arith in
    covers_step t s i (omega arith) (omega arith) ∙ ap (λ n. within (get_or s i []) (get_or t i []) && covers (drop n (a ∷ t)) (drop n (b ∷ s))) (sym e)

pub get_or-placed : (r : List (List ℕ)) (p : List ℕ) (i : ℕ) → i < length p → get_or (placed r p) i [] ≡ get_or r (get_or p i 0) []
get_or-placed r [] i h = absurd (omega arith)
get_or-placed r (x ∷ p) zero h = refl
get_or-placed r (x ∷ p) (suc i) h = get_or-placed r p i (omega arith)

pub length-placed : (r : List (List ℕ)) (p : List ℕ) → length (placed r p) ≡ length p
length-placed r [] = refl
length-placed r (x ∷ p) = ap suc (length-placed r p)

pub length-placements : (n : ℕ) → length (placements n) ≡ factorial n
unfolding placements
length-placements n = length-orders n (count_from 0 n) (length-count_from 0 n)

take_all : (xs : List (List ℕ)) (i : ℕ) → length xs ≤ i → take i xs ≡ xs
take_all [] zero h = refl
take_all [] (suc i) h = refl
take_all (x ∷ xs) zero h = absurd (omega arith)
take_all (x ∷ xs) (suc i) h = ap (λ l. x ∷ l) (take_all xs i (omega arith))

-- ---- combinations, set by set
get_or-meets : (r u : List (List ℕ)) (i : ℕ) → i < length r → length u ≡ length r → get_or (meets r u) i [] ≡ meet (get_or r i []) (get_or u i [])
get_or-meets [] u i h e = absurd (omega arith)
get_or-meets (s ∷ r) [] i h e = absurd (omega arith)
get_or-meets (s ∷ r) (t ∷ u) zero h e = refl
get_or-meets (s ∷ r) (t ∷ u) (suc i) h e = get_or-meets r u i (omega arith) (omega arith)

combined_at : (place : ℕ) (r u : List (List ℕ)) → place < length r → length u ≡ length r → get_or (combined place r u) place [] ≡ union (get_or r place []) (get_or u place [])
combined_at place [] u h e = absurd (omega arith)
combined_at place (s ∷ r) [] h e = absurd (omega arith)
combined_at zero (s ∷ r) (t ∷ u) h e = refl
combined_at (suc place) (s ∷ r) (t ∷ u) h e = combined_at place r u (omega arith) (omega arith)

combined_off : (place : ℕ) (r u : List (List ℕ)) (i : ℕ) → (i ≡ place → ⊥) → i < length r → length u ≡ length r → get_or (combined place r u) i [] ≡ meet (get_or r i []) (get_or u i [])
combined_off place [] u i ne h e = absurd (omega arith)
combined_off place (s ∷ r) [] i ne h e = absurd (omega arith)
combined_off zero (s ∷ r) (t ∷ u) zero ne h e = absurd (ne refl)
combined_off zero (s ∷ r) (t ∷ u) (suc i) ne h e = get_or-meets r u i (omega arith) (omega arith)
combined_off (suc place) (s ∷ r) (t ∷ u) zero ne h e = refl
combined_off (suc place) (s ∷ r) (t ∷ u) (suc i) ne h e = combined_off place r u i (λ d. ne (ap suc d)) (omega arith) (omega arith)

length-meets : (r u : List (List ℕ)) → length u ≡ length r → length (meets r u) ≡ length r
length-meets [] u e = refl
length-meets (s ∷ r) [] e = absurd (omega arith)
length-meets (s ∷ r) (t ∷ u) e = ap suc (length-meets r u (omega arith))

pub length-combined : (place : ℕ) (r u : List (List ℕ)) → length u ≡ length r → length (combined place r u) ≡ length r
length-combined place [] u e = refl
length-combined place (s ∷ r) [] e = absurd (omega arith)
length-combined zero (s ∷ r) (t ∷ u) e = ap suc (length-meets r u (omega arith))
length-combined (suc place) (s ∷ r) (t ∷ u) e = ap suc (length-combined place r u (omega arith))

pub read_at : (xs : List (List ℕ)) (i : ℕ) (x : List ℕ) → i < length xs → x ≡ get_or xs i x → x ≡ get_or xs i []
read_at [] i x h e = absurd (omega arith)
read_at (y ∷ xs) zero x h e = e
read_at (y ∷ xs) (suc i) x h e = read_at xs i x (omega arith) e

module _ (place : ℕ) (sets others : List (List ℕ)) (order : List ℕ) (i : ℕ) (set other : List ℕ) (h : i < length sets) (l : length order ≡ length sets)
    (se : set ≡ get_or sets i set) (oe : other ≡ get_or others (get_or order i 0) []) where
  abbrev both : List (List ℕ)
  both = combined place sets (placed others order)

  next : (x : List ℕ) (done done' : List (List ℕ)) → done ≡ take i both → x ≡ get_or both i [] → done' ≡ done ++ x ∷ [] → done' ≡ take (i + 1) both
  next x done done' d xe de =
      let n = length-combined place sets (placed others order) (length-placed others order ∙ l) in
      de ∙ (λ j. d j ++ xe j ∷ []) ∙ sym (take_more both i [] (omega (arith, n)))

  pub next_union : (done done' : List (List ℕ)) → i ≡ place → done ≡ take i both → done' ≡ done ++ union set other ∷ [] → done' ≡ take (i + 1) both
  next_union done done' ip d de = next (union set other) done done' d
      (sym (ap (λ k. get_or both k []) ip ∙ combined_at place sets (placed others order) (omega arith) (length-placed others order ∙ l)
      ∙ ap (λ k. union (get_or sets k []) (get_or (placed others order) k [])) (sym ip)
      ∙ (λ j. union (sym (read_at sets i set h se) j) ((get_or-placed others order i (omega arith) ∙ sym oe) j)))) de

  pub next_meet : (done done' : List (List ℕ)) → (i ≡ place → ⊥) → done ≡ take i both → done' ≡ done ++ meet set other ∷ [] → done' ≡ take (i + 1) both
  next_meet done done' ip d de = next (meet set other) done done' d
      (sym (combined_off place sets (placed others order) i ip h (length-placed others order ∙ l)
      ∙ (λ j. meet (sym (read_at sets i set h se) j) ((get_or-placed others order i (omega arith) ∙ sym oe) j)))) de

pub all_done : (place : ℕ) (sets others : List (List ℕ)) (order : List ℕ) (i : ℕ) (done : List (List ℕ)) → length order ≡ length sets → length sets ≤ i
    → done ≡ take i (combined place sets (placed others order)) → done ≡ combined place sets (placed others order)
all_done place sets others order i done l h d =
    let n = length-combined place sets (placed others order) (length-placed others order ∙ l) in
    d ∙ take_all (combined place sets (placed others order)) i (omega (arith, n))

-- ---- the row of some sets
pub row_found : (sets : List (List ℕ)) (numbers : List ℕ) → 2 ≤ length sets → length sets ≤ 6 → is_full sets ≡ true → numbers ≡ sorted (map number sets) → Some (map (set_of MAX_LABELS) numbers) ≡ row_of MAX_LABELS sets
row_found sets numbers two six full e =
    let a : leb 2 (length sets) ≡ true = grind (arith, nat_tests) in
    let b : leb (length sets) 6 ≡ true = grind (arith, nat_tests) in
    ap (λ l. Some (map (set_of MAX_LABELS) l)) e ∙ sym (λ j. cond ((a j && b j) && full j) (Some (map (set_of MAX_LABELS) (sorted (map number sets)))) None)

-- ---- one order after another
drop_all : (xs : List (List ℕ)) (i : ℕ) → length xs ≤ i → drop i xs ≡ []
drop_all [] zero h = refl
drop_all [] (suc i) h = refl
drop_all (x ∷ xs) zero h = absurd (omega arith)
drop_all (x ∷ xs) (suc i) h = drop_all xs i (omega arith)

pub orders_done : (n i : ℕ) → factorial n ≤ i → drop i (placements n) ≡ []
orders_done n i h = drop_all (placements n) i (let l = length-placements n in omega (arith, l))

pub orders_next : (n i : ℕ) (o : List ℕ) → i < factorial n → o ≡ get_or (placements n) i [] → drop i (placements n) ≡ o ∷ drop (i + 1) (placements n)
orders_next n i o h e = let k : i < length (placements n) = (let l = length-placements n in omega (arith, l)) in rw (add-one, drop-cons (placements n) i [], e) refl
