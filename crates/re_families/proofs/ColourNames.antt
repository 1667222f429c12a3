-- Names that are put one after another.
use Rattle.std.proofs.Common.{◌≡◌, ℕ, zero, suc, ◌+◌, ◌≤◌, ◌<◌, List, [], ◌∷◌, ◌++◌, length, map, take, get_or, refl, sym, ap, ◌∙◌, arith, below_more}
use Rattle.std.proofs.lemmas.List.{length-take-le, map_more}
use Rattle.re_labels.proofs.ListSets.{list_set_push}
use Rattle.re_labels.proofs.Membership.{length-count_from, length-map'}
use Rattle.re_labels.specs.Lists.{count_from}
use Rattle.re_labels.specs.ListSets.{list_set, with_list}
use Rattle.re_problem.proofs.ListSizes.{length-list_set}
use Rattle.re_families.specs.Families.{colour_name}

-- ---- letters
pub letter_put : (f : ℕ → List ℕ) (letters : List ℕ) (i : ℕ) (names new : List (List ℕ)) → i < length letters → names ≡ list_set (map f (take i letters)) → new ≡ with_list names (f (get_or letters i 0))
    → new ≡ list_set (map f (take (i + 1) letters))
letter_put f letters i names new l e n =
    n ∙ ap (λ w. with_list w (f (get_or letters i 0))) e ∙ sym (list_set_push (map f (take i letters)) (f (get_or letters i 0))) ∙ ap list_set (sym (map_more f letters i 0 l))

pub letters_short : (f : ℕ → List ℕ) (letters : List ℕ) (i : ℕ) (names : List (List ℕ)) → i ≤ length letters → names ≡ list_set (map f (take i letters)) → length names ≤ i
letters_short f letters i names l e =
    let at : length names ≡ length (list_set (map f (take i letters))) = ap length e in
    omega (arith, at, length-list_set (map f (take i letters)), length-map' f (take i letters), length-take-le i letters l)

-- ---- colours
map-next : (f : ℕ → List ℕ) (lo n : ℕ) → map f (count_from lo (suc n)) ≡ map f (count_from lo n) ++ f (lo + n) ∷ []
map-next f lo zero = ap (λ k. f k ∷ []) (let s : lo ≡ lo + 0 = omega arith in s)
map-next f lo (suc n) = ap (λ w. f lo ∷ w) (map-next f (suc lo) n ∙ ap (λ k. map f (count_from (suc lo) n) ++ f k ∷ []) (let s : suc lo + n ≡ lo + suc n = omega arith in s))

-- one name more
pub name_put : (f : ℕ → List ℕ) (before : ℕ) (names new : List (List ℕ)) → names ≡ list_set (map f (count_from 1 before)) → new ≡ with_list names (f (before + 1)) → new ≡ list_set (map f (count_from 1 (before + 1)))
name_put f before names new e n =
    n ∙ ap (λ w. with_list w (f (before + 1))) e ∙ sym (list_set_push (map f (count_from 1 before)) (f (before + 1)))
    ∙ ap (λ k. list_set (map f (count_from 1 before) ++ f k ∷ [])) (let s : before + 1 ≡ 1 + before = omega arith in s) ∙ sym (ap list_set (map-next f 1 before))
    ∙ ap (λ k. list_set (map f (count_from 1 k))) (let s : suc before ≡ before + 1 = omega arith in s)

pub names_short : (f : ℕ → List ℕ) (before : ℕ) (names : List (List ℕ)) → names ≡ list_set (map f (count_from 1 before)) → length names ≤ before
names_short f before names e =
    let at : length names ≡ length (list_set (map f (count_from 1 before))) = ap length e in
    omega (arith, at, length-list_set (map f (count_from 1 before)), length-map' f (count_from 1 before), length-count_from 1 before)

-- the names of the colours ascend as they stand
names_in_order : (colours : ℕ) → colours < 17 → list_set (map (colour_name colours) (count_from 1 colours)) ≡ map (colour_name colours) (count_from 1 colours)
names_in_order =
    let P : ℕ → Type 0 = λ colours. list_set (map (colour_name colours) (count_from 1 colours)) ≡ map (colour_name colours) (count_from 1 colours) in
    below_more P 16 (below_more P 15 (below_more P 14 (below_more P 13 (below_more P 12 (below_more P 11 (below_more P 10 (below_more P 9 (below_more P 8 (below_more P 7 (below_more P 6 (below_more P 5 (below_more P 4 (below_more P 3 (below_more P 2 (below_more P 1 (below_more P 0 (λ k l. absurd (omega arith)) refl) refl) refl) refl) refl) refl) refl) refl) refl) refl) refl) refl) refl) refl) refl) refl) refl

pub names_done : (colours before : ℕ) (names : List (List ℕ)) → colours ≤ 16 → before ≡ colours → names ≡ list_set (map (colour_name colours) (count_from 1 before)) → names ≡ map (colour_name colours) (count_from 1 colours)
names_done colours before names few all e = e ∙ ap (λ k. list_set (map (colour_name colours) (count_from 1 k))) all ∙ names_in_order colours (omega arith)
