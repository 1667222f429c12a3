-- Lists without the element at a place.
use Rattle.std.proofs.Common.{◌≡◌, ℕ, zero, suc, ◌-◌, ◌<◌, ◌≤◌, List, [], ◌∷◌, ◌++◌, length, take, drop, get_or, refl, sym, ap, ◌∙◌, subst, arith}
use Rattle.std.specs.List.{insert, remove}
use Rattle.std.proofs.lemmas.List.{take_all}
use Rattle.re_labels.proofs.Placing.{Pick, picked}
use Rattle.re_labels.proofs.Placing.Pick.{here, there}
use Rattle.re_labels.proofs.Rearranging.{Rearranged-refl, Rearranged-sym, length-Rearranged}
use Rattle.re_labels.specs.Rearranging.{Rearranged, chained, kept, swapped, unmoved}
use Rattle.re_labels.specs.Rows.{set_at}
use Rattle.re_labels.proofs.Lists.{split_first}

-- the element at a place stands first in another order
pub front : {X : Type 0} (xs : List X) (i : ℕ) (d : X) → i < length xs → Rearranged xs (get_or xs i d ∷ remove xs i)
front [] i d h = absurd (omega arith)
front (x ∷ xs) zero d h = Rearranged-refl (x ∷ xs)
front (x ∷ xs) (suc i) d h = chained (kept (front xs i d (omega arith))) swapped

-- an element stands in order at the place
pub inserted_front : {X : Type 0} (xs : List X) (i : ℕ) (x : X) → Rearranged (x ∷ xs) (insert xs i x)
inserted_front [] zero x = Rearranged-refl (x ∷ [])
inserted_front [] (suc i) x = Rearranged-refl (x ∷ [])
inserted_front (y ∷ xs) zero x = Rearranged-refl (x ∷ y ∷ xs)
inserted_front (y ∷ xs) (suc i) x = chained swapped (kept (inserted_front xs i x))

picked_at : {X : Type 0} {x : X} {xs ys : List X} (d : X) → Pick x xs ys → (i : ℕ) × (i < length xs) × (get_or xs i d ≡ x) × (remove xs i ≡ ys)
picked_at d here = (zero, omega arith, refl, refl)
picked_at d (there {y = y} k) = let m = picked_at d k in (suc m.0, (let l = m.1 in omega (arith, l)), m.2, ap (λ l. y ∷ l) m.3)

-- what stands first in another order stands at a place, and the others are, in some order, the others
pub placed_first : {X : Type 0} (d : X) {xs ys : List X} {y : X} → Rearranged xs (y ∷ ys) → (i : ℕ) × (i < length xs) × (get_or xs i d ≡ y) × Rearranged (remove xs i) ys
placed_first d {xs = xs} {ys = ys} {y = y} p =
    let r = picked (Rearranged-sym p) here in
    let m = picked_at d r.1 in
    (m.0, m.1, m.2, subst (λ l. Rearranged l ys) (sym m.3) (Rearranged-sym r.2))

removed_again : {X : Type 0} (xs : List X) (p : ℕ) (d : X) → suc p < length xs → get_or xs p d ≡ get_or xs (suc p) d → remove xs p ≡ remove xs (suc p)
removed_again [] p d h e = absurd (omega arith)
removed_again (x ∷ []) p d h e = absurd (omega arith)
removed_again (x ∷ y ∷ xs) zero d h e = ap (λ z. z ∷ xs) (sym e)
removed_again (x ∷ y ∷ xs) (suc p) d h e = ap (λ l. x ∷ l) (removed_again (y ∷ xs) p d (omega arith) e)

-- of two equal elements side by side either may be left out
pub removed_same : (xs : List (List ℕ)) (p : ℕ) → 0 < p → p < length xs → set_at xs (p - 1) ≡ set_at xs p → remove xs (p - 1) ≡ remove xs p
removed_same xs zero l h e = absurd (omega arith)
removed_same xs (suc p) l h e =
    let same : suc p - 1 ≡ p = omega arith in
    subst (λ q. remove xs q ≡ remove xs (suc p)) (sym same) (removed_again xs p [] h (subst (λ q. set_at xs q ≡ set_at xs (suc p)) same e))

pub append_right : {X : Type 0} {xs ys : List X} (zs : List X) → Rearranged xs ys → Rearranged (xs ++ zs) (ys ++ zs)
append_right zs unmoved = Rearranged-refl zs
append_right zs (kept p) = kept (append_right zs p)
append_right zs swapped = swapped
append_right zs (chained p q) = chained (append_right zs p) (append_right zs q)

pub to_middle : {X : Type 0} (x : X) (xs zs : List X) → Rearranged (x ∷ xs ++ zs) (xs ++ x ∷ zs)
to_middle x [] zs = Rearranged-refl (x ∷ zs)
to_middle x (y ∷ xs) zs = chained swapped (kept (to_middle x xs zs))

pub nothing : {X : Type 0} {ys : List X} → Rearranged [] ys → ys ≡ []
nothing {ys = ys} p = elim ys as (λ ys. 0 ≡ length ys → ys ≡ []) [ [] ↦ λ e. refl | x ∷ xs ↦ λ e. absurd (omega (arith, e)) ] (length-Rearranged p)

-- the element that is read at a place
pub read_at : (xs : List (List ℕ)) (i : ℕ) (x : List ℕ) → i < length xs → x ≡ get_or xs i x → set_at xs i ≡ x
read_at [] i x h e = absurd (omega arith)
read_at (y ∷ xs) zero x h e = sym e
read_at (y ∷ xs) (suc i) x h e = read_at xs i x (omega arith) e

-- all elements are read
pub read_all : {X : Type 0} (xs ys : List X) (i : ℕ) → ys ≡ take i xs → length xs ≤ i → ys ≡ xs
read_all xs ys i e past = e ∙ take_all i xs past

pub no_elements : (xs : List (List ℕ)) → length xs < 1 → xs ≡ []
no_elements [] h = refl
no_elements (x ∷ xs) h = absurd (omega arith)

pub parts_count : (xs : List (List ℕ)) (x : List ℕ) → 1 ≤ length xs → x ≡ get_or xs 0 x → length xs ≡ suc (length (take (length xs - 1) (drop 1 xs)))
parts_count xs x some e = ap length (split_first xs x some e)
