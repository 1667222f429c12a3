-- What the calls that make the faster table find.
use Rattle.std.proofs.Common.{◌≡◌, ℕ, suc, ◌+◌, ◌≤◌, ◌<◌, Bool, true, false, List, [], ◌∷◌, map, length, get_or, drop, refl, sym, ◌∙◌, ap, arith, one-add, Option, Some, ◌&&◌, ◌||◌}
use Rattle.std.specs.Prelude.{find, unwrap_or, nat_le}
use Rattle.std.specs.List.{AllByRecursion, list_any, position_or_len}
use Rattle.std.proofs.lemmas.Bool.Decides.{nat_tests}
use Rattle.std.proofs.lemmas.List.{get_or_default, length-map}
use Rattle.std.proofs.lemmas.List.Elements.{Contains-get_or}
use Rattle.re_labels.proofs.Placing.{Dominates-dominates, covers_step, dominates-Dominates, get_or-placed, length-placed}
use Rattle.re_labels.proofs.Rearranging.{AllZip-Rearranged, Rearranged-sym, length-Rearranged}
use Rattle.re_labels.specs.Rearranging.{Rearranged}
use Rattle.re_labels.specs.Rows.{covers, dominates, placed}
use Rattle.re_labels.proofs.Membership.{AllByRecursion-contains}
use Rattle.re_labels.proofs.Tests.{same_tests}
use Rattle.re_labels.specs.Lists.{place_of}
use Rattle.re_labels.specs.Sets.{IsWithin, within}
use Rattle.re_laws.proofs.FastRounds.{fitted_is}
use Rattle.re_laws.specs.Fast.{fitted}
use Rattle.re_algo.specs.Constructions.{top_places}
use Rattle.re_labels.specs.PortLabels.{port_labels}

-- rows of different length hold nothing
pub covers-uneven : (t s : List (List ℕ)) → (length t ≡ length s → ⊥) → false ≡ covers t s
covers-uneven [] [] apart = absurd (apart refl)
covers-uneven [] (x ∷ s) apart = refl
covers-uneven (x ∷ t) [] apart = refl
covers-uneven (x ∷ t) (y ∷ s) apart = go (within y x) (covers-uneven t s (λ e. apart (ap suc e)))
  where
    go : (b : Bool) → false ≡ covers t s → false ≡ (b && covers t s)
    go true rest = rest
    go false rest = refl

-- domination is of multisets
pub dominates-same : (top row other : List (List ℕ)) → Rearranged row other → dominates top row ≡ dominates top other
dominates-same top row other order = same_tests (dominates top row) (dominates top other) (λ e. to row other order e) (λ e. to other row (Rearranged-sym order) e)
  where
    to : (row other : List (List ℕ)) → Rearranged row other → dominates top row ≡ true → dominates top other ≡ true
    to row other order e =
        let (moved, placed_is, under) = dominates-Dominates top row e in
        let (moved', order', under') = AllZip-Rearranged IsWithin order moved under in
        Dominates-dominates top other (moved', Rearranged.chained placed_is order', under')

-- one set more is compared
pub holds_more : (sets others : List (List ℕ)) (order : List ℕ) (i place : ℕ) (set other : List ℕ) → length order ≡ length others → i < length order → place ≡ get_or order i 0 → set ≡ get_or sets place [] → other ≡ get_or others i [] →
    covers (drop i (placed sets order)) (drop i others) ≡ (within other set && covers (drop (i + 1) (placed sets order)) (drop (i + 1) others))
holds_more sets others order i place set other even below place_is set_is other_is =
    let set_at : get_or (placed sets order) i [] ≡ set = get_or-placed sets order i below ∙ (ap (λ p. get_or sets p []) (sym place_is) ∙ sym set_is) in
    covers_step (placed sets order) others i (omega (arith, length-placed sets order)) (omega arith)
    ∙ (ap (λ s. within s (get_or (placed sets order) i []) && covers (drop (i + 1) (placed sets order)) (drop (i + 1) others)) (sym other_is)
    ∙ ap (λ s. within other s && covers (drop (i + 1) (placed sets order)) (drop (i + 1) others)) set_at)

-- where two tests agree, they pass first at one place
pub position-same : {A : Type 0} (p q : A → Bool) (xs : List A) → ((x : A) → p x ≡ q x) → position_or_len p xs ≡ position_or_len q xs
position-same p q [] each = refl
position-same p q (x ∷ xs) each = rw (each x, position-same p q xs each) refl

-- what is found stands at the first place
pub found_first : {A : Type 0} (p : A → Bool) (xs : List A) (d : A) → list_any p xs ≡ true → (position_or_len p xs < length xs) × (unwrap_or (find p xs) d ≡ get_or xs (position_or_len p xs) d) × (p (get_or xs (position_or_len p xs) d) ≡ true)
found_first p [] d some = absurd (cc)
found_first {A} p (x ∷ xs) d some = go (p x) refl (found_first p xs d) some
  where
    go : (b : Bool) → p x ≡ b → (list_any p xs ≡ true → (position_or_len p xs < length xs) × (unwrap_or (find p xs) d ≡ get_or xs (position_or_len p xs) d) × (p (get_or xs (position_or_len p xs) d) ≡ true)) → (b || list_any p xs) ≡ true
        → (position_or_len p (x ∷ xs) < suc (length xs)) × (unwrap_or (find p (x ∷ xs)) d ≡ get_or (x ∷ xs) (position_or_len p (x ∷ xs)) d) × (p (get_or (x ∷ xs) (position_or_len p (x ∷ xs)) d) ≡ true)
    go true is rest some = rw is (omega arith, refl, is)
    go false is rest some = let (below, at, passes) = rest some in rw (is, one-add) (omega arith, at, passes)

pub any-same : {A : Type 0} (p q : A → Bool) (xs : List A) → ((x : A) → p x ≡ q x) → list_any p xs ≡ list_any q xs
any-same p q [] each = refl
any-same p q (x ∷ xs) each = rw (each x, any-same p q xs each) refl

-- the labels for a row that is dominated
pub length-fitted : (row other : List (List ℕ)) → dominates row other ≡ true → length (fitted row other) ≡ length row
length-fitted row other dom = sym (length-Rearranged (fitted_is row other dom).0)

pub labels-some : (labels : List ℕ) → 2 ≤ length labels → length labels ≤ 6 → port_labels labels ≡ Some labels
labels-some labels two six =
    let a : nat_le 2 (length labels) ≡ true = grind (arith, nat_tests) in
    let b : nat_le (length labels) 6 ≡ true = grind (arith, nat_tests) in
    rw (a, b) refl

-- the labels for the first row that dominates
pub top_done : (rows : List (List (List ℕ))) (sets seen row other top : List (List ℕ)) (index : ℕ) (made : List ℕ) → list_any (λ row. dominates row seen) rows ≡ true → Rearranged seen other → index ≡ position_or_len (λ row. dominates row other) rows → index < length rows → row ≡ get_or rows index row
    → top ≡ fitted row seen → made ≡ map (place_of sets) top → AllByRecursion (λ row. length row ≡ length seen) rows → (made ≡ top_places rows sets seen) × (length made ≡ length seen)
top_done rows sets seen row other top index made some order index_is below is top_is made_is alike =
    let (within_, at, passes) = found_first (λ row. dominates row seen) rows [] some in
    let index_is' : index ≡ position_or_len (λ row. dominates row seen) rows = index_is ∙ position-same (λ row. dominates row other) (λ row. dominates row seen) rows (λ row. sym (dominates-same row seen other order)) in
    let row_is : row ≡ get_or rows (position_or_len (λ row. dominates row seen) rows) [] = is ∙ (get_or_default rows index row [] below ∙ ap (λ k. get_or rows k []) index_is') in
    let dom : dominates row seen ≡ true = ap (λ r. dominates r seen) row_is ∙ passes in
    let row_count : length row ≡ length seen = AllByRecursion-contains (λ row. length row ≡ length seen) rows row alike (rw is (Contains-get_or rows index row below)) in (
      made_is ∙ ap (map (place_of sets)) (top_is ∙ ap (λ r. fitted r seen) (row_is ∙ sym at)),
      ap length (made_is ∙ ap (map (place_of sets)) top_is) ∙ (length-map (fitted row seen) (place_of sets) ∙ (length-fitted row seen dom ∙ row_count)),
    )

pub same_some : (x y : List ℕ) → ◌≡◌ {A = Option (List ℕ)} (Some x) (Some y) → x ≡ y
same_some x y e = cc
