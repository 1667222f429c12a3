-- What is added to the sets of labels that passive nodes may get.
use Rattle.std.proofs.Common.{◌≡◌, ◌≢◌, ℕ, zero, suc, ◌+◌, ◌-◌, ◌≤◌, ◌<◌, Bool, true, false, List, [], ◌∷◌, map, length, get_or, refl, sym, ◌∙◌, ap, arith, eqb, ◌&&◌, ◌||◌, inl, inr}
use Rattle.std.specs.Prelude.{filter}
use Rattle.std.proofs.Math.ListN.{set}
use Rattle.std.proofs.lemmas.List.{get_or-map}
use Rattle.re_labels.proofs.Membership.{Contains-count_from, filter-alike, get_or-count_from, length-count_from}
use Rattle.re_labels.proofs.Numbers.{IsLabelSet-count_from, IsLabelSet-filter, IsLabelSet-with_label, same_labels}
use Rattle.re_labels.proofs.Sets.{Chosen, IsIn-has, has-filter, has-with_label}
use Rattle.re_labels.proofs.Tests.{and-true, eqb-apart, eqb-same, eqb-true, or-false, or-left, or-right, or-true, true-and}
use Rattle.re_labels.specs.Lists.{count_from}
use Rattle.re_labels.specs.Sets.{IsLabelSet, has, with_label}
use Rattle.re_labels.specs.declared.TheConstants.{MAX_LABELS}
use Rattle.re_algo.proofs.Places.{place_at, tree_at}
use Rattle.re_algo.specs.Counting.{view_place}
use Rattle.re_laws.proofs.Tables.{same_view-refl, same_view-same}
use Rattle.re_laws.specs.Algorithms.{Plain, same_view}
use Rattle.re_algo.specs.SeenRows.{tested_row, tested_rows}
use Rattle.re_laws.specs.AllViews.{all_views}
use Rattle.re_laws.specs.Trees.{IsView, leaf}

-- one more label passes
pub with_label-filter : (p q : ℕ → Bool) (n y : ℕ) → y < n → ((x : ℕ) → q x ≡ (p x || eqb y x)) → with_label (filter p (count_from 0 n)) y ≡ filter q (count_from 0 n)
with_label-filter p q n y below each =
    same_labels (with_label s y) (filter q (count_from 0 n)) (IsLabelSet-with_label n s y below is).0 (IsLabelSet-filter q n (count_from 0 n) all).0 to back
  where
    s : List ℕ
    s = filter p (count_from 0 n)

    all : IsLabelSet n (count_from 0 n)
    all = IsLabelSet-count_from 0 n n (omega arith)

    is : IsLabelSet n (filter p (count_from 0 n))
    is = IsLabelSet-filter p n (count_from 0 n) all

    listed : has (count_from 0 n) y ≡ true
    listed = IsIn-has (count_from 0 n) y (Contains-count_from 0 n y (omega arith) (omega arith))

    to : (x : ℕ) → Chosen x (with_label s y) → Chosen x (filter q (count_from 0 n))
    to x c = rw (has-filter q (count_from 0 n) x) (elim (or-true (eqb y x) (has s x) (sym (has-with_label s y x) ∙ c)) [
      | inl e ↦ let same : y ≡ x = eqb-true y x e in
          true-and (has (count_from 0 n) x) (q x) (rw (← same) listed) (each x ∙ or-right (p x) (eqb y x) e)
      | inr i ↦ let both = and-true (has (count_from 0 n) x) (p x) (sym (has-filter p (count_from 0 n) x) ∙ i) in
          true-and (has (count_from 0 n) x) (q x) both.0 (each x ∙ or-left (p x) (eqb y x) both.1)
    ])

    back : (x : ℕ) → Chosen x (filter q (count_from 0 n)) → Chosen x (with_label s y)
    back x c =
        let both = and-true (has (count_from 0 n) x) (q x) (sym (has-filter q (count_from 0 n) x) ∙ c) in
        rw (has-with_label s y x) (elim (or-true (p x) (eqb y x) (sym (each x) ∙ both.1)) [
          | inl e ↦ or-right (eqb y x) (has s x) (has-filter p (count_from 0 n) x ∙ true-and (has (count_from 0 n) x) (p x) both.0 e)
          | inr e ↦ or-left (eqb y x) (has s x) e
        ])

pub map-at_each : {A B : Type 0} (f g : A → B) (xs : List A) (d : A) → ((j : ℕ) → j < length xs → f (get_or xs j d) ≡ g (get_or xs j d)) → map f xs ≡ map g xs
map-at_each f g [] d each = refl
map-at_each f g (x ∷ xs) d each =
    let here : f x ≡ g x = each 0 (omega arith) in
    let rest : map f xs ≡ map g xs = map-at_each f g xs d (λ j l. each (suc j) (omega arith)) in
    cc

-- where two functions agree at all other places, one element is replaced
pub set-map_at : {A B : Type 0} (f g : A → B) (xs : List A) (k : ℕ) (d : A) (b : B) → k < length xs → b ≡ g (get_or xs k d) → ((j : ℕ) → j < length xs → j ≢ k → f (get_or xs j d) ≡ g (get_or xs j d)) → set (map f xs) k b ≡ map g xs
set-map_at f g [] k d b below here each = absurd (omega arith)
set-map_at f g (x ∷ xs) zero d b below here each =
    let rest : map f xs ≡ map g xs = map-at_each f g xs d (λ j l. each (suc j) (omega arith) (omega arith)) in
    cc
set-map_at f g (x ∷ xs) (suc k) d b below here each =
    let first : f x ≡ g x = each 0 (omega arith) (omega arith) in
    let rest : set (map f xs) k b ≡ map g xs = set-map_at f g xs k d b (omega arith) here (λ j l apart. each (suc j) (omega arith) (λ e. apart (omega arith))) in
    cc

-- one more label at a port
pub set_more : (e i y : ℕ) (p q : ℕ → ℕ → Bool) → 1 ≤ i → i ≤ e → y < MAX_LABELS → ((j x : ℕ) → q j x ≡ (p j x || (eqb i j && eqb y x)))
    → set (tested_row e p) (i - 1) (with_label (get_or (tested_row e p) (i - 1) []) y) ≡ tested_row e q
set_more e i y p q low high below each =
    set-map_at (λ i. filter (p i) (count_from 0 MAX_LABELS)) (λ i. filter (q i) (count_from 0 MAX_LABELS)) (count_from 1 e) (i - 1) 0 (with_label (get_or (tested_row e p) (i - 1) []) y) within here others
  where
    within : i - 1 < length (count_from 1 e)
    within = omega (arith, length-count_from 1 e)

    at : get_or (count_from 1 e) (i - 1) 0 ≡ i
    at = get_or-count_from 1 e (i - 1) 0 (omega arith) ∙ omega arith

    set_at : get_or (tested_row e p) (i - 1) [] ≡ filter (p i) (count_from 0 MAX_LABELS)
    set_at = get_or-map (λ i. filter (p i) (count_from 0 MAX_LABELS)) (count_from 1 e) (i - 1) 0 [] within ∙ ap (λ i. filter (p i) (count_from 0 MAX_LABELS)) at

    here : with_label (get_or (tested_row e p) (i - 1) []) y ≡ filter (q (get_or (count_from 1 e) (i - 1) 0)) (count_from 0 MAX_LABELS)
    here = rw (set_at, at) (with_label-filter (p i) (q i) MAX_LABELS y below (λ x. each i x ∙ ap (λ b. p i x || (b && eqb y x)) (eqb-same i)))

    others : (j : ℕ) → j < length (count_from 1 e) → j ≢ i - 1 → filter (p (get_or (count_from 1 e) j 0)) (count_from 0 MAX_LABELS) ≡ filter (q (get_or (count_from 1 e) j 0)) (count_from 0 MAX_LABELS)
    others j l apart =
        let m : ℕ = get_or (count_from 1 e) j 0 in
        let m_is : m ≡ 1 + j = get_or-count_from 1 e j 0 (omega (arith, length-count_from 1 e)) in
        filter-alike (p m) (q m) (count_from 0 MAX_LABELS) (λ x held. sym (each m x ∙ (ap (λ b. p m x || (b && eqb y x)) (eqb-apart i m (λ e. apart (omega arith))) ∙ or-false (p m x))))

-- one more label at a port of one view
pub row_more : (d e t i y : ℕ) (w : Plain) (p q : Plain → ℕ → ℕ → Bool) → IsView e d t w → 1 ≤ i → i ≤ e → y < MAX_LABELS
    → ((v : Plain) (j x : ℕ) → q v j x ≡ (p v j x || (eqb i j && same_view w v && eqb y x)))
    → set (tested_rows d e t p) (view_place e d w) (set (tested_row e (p w)) (i - 1) (with_label (get_or (tested_row e (p w)) (i - 1) []) y)) ≡ tested_rows d e t q
row_more d e t i y w p q is low high below each =
    set-map_at (λ v. tested_row e (p v)) (λ v. tested_row e (q v)) (all_views e d t) (view_place e d w) leaf (set (tested_row e (p w)) (i - 1) (with_label (get_or (tested_row e (p w)) (i - 1) []) y)) placed.0 here others
  where
    placed : (view_place e d w < length (all_views e d t)) × (get_or (all_views e d t) (view_place e d w) leaf ≡ w)
    placed = tree_at e d t e w is

    here : set (tested_row e (p w)) (i - 1) (with_label (get_or (tested_row e (p w)) (i - 1) []) y) ≡ tested_row e (q (get_or (all_views e d t) (view_place e d w) leaf))
    here = rw placed.1 (set_more e i y (p w) (q w) low high below (λ j x. each w j x ∙ (ap (λ b. p w j x || (eqb i j && b && eqb y x)) (same_view-refl w) ∙ ap (λ b. p w j x || (b && eqb y x)) (and-yes (eqb i j)))))
      where
        and-yes : (b : Bool) → (b && true) ≡ b
        and-yes true = refl
        and-yes false = refl

    others : (j : ℕ) → j < length (all_views e d t) → j ≢ view_place e d w → tested_row e (p (get_or (all_views e d t) j leaf)) ≡ tested_row e (q (get_or (all_views e d t) j leaf))
    others j l apart =
        let v : Plain = get_or (all_views e d t) j leaf in
        let place : view_place e d v ≡ j = place_at e d t j l in
        map-at_each (λ i. filter (p v i) (count_from 0 MAX_LABELS)) (λ i. filter (q v i) (count_from 0 MAX_LABELS)) (count_from 1 e) 0 (λ k m.
        let port : ℕ = get_or (count_from 1 e) k 0 in
        filter-alike (p v port) (q v port) (count_from 0 MAX_LABELS) (λ x held. sym (each v port x ∙ (ap (λ b. p v port x || b) (none v port x (other v place)) ∙ or-false (p v port x)))))
      where
        other : (v : Plain) → view_place e d v ≡ j → same_view w v ≡ false
        other v place = go (same_view w v) refl
          where
            go : (b : Bool) → same_view w v ≡ b → b ≡ false
            go true same = let one : w ≡ v = same_view-same w v same in absurd (apart (sym place ∙ ap (view_place e d) (sym one)))
            go false same = refl

        none : (v : Plain) (port x : ℕ) → same_view w v ≡ false → (eqb i port && same_view w v && eqb y x) ≡ false
        none v port x differs = rw differs (no (eqb i port) (eqb y x))
          where
            no : (a b : Bool) → (a && false && b) ≡ false
            no true b = refl
            no false b = refl
