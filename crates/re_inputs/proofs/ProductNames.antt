-- The names of pairs: which of them are names of their own, and the labels that they give.
use Rattle.std.proofs.Common.{◌≡◌, ℕ, zero, suc, ◌+◌, ◌*◌, ◌/◌, ◌%◌, ◌≤◌, ◌<◌, Bool, true, false, not, ◌||◌, ◌↔◌, List, [], ◌∷◌, ◌++◌, length, map, refl, sym, ap, ◌∙◌, subst, inl, inr, arith, Some, None, cond}
use Rattle.std.specs.Prelude.{Contains, IsTrue}
use Rattle.std.specs.List.{AllByRecursion, list_any}
use Rattle.std.proofs.Math.Nat.{div-lt_iff_lt-mul, mod-lt, mul-zero}
use Rattle.std.proofs.lemmas.Bool.{false≢true}
use Rattle.std.proofs.lemmas.List.{map-append}
use Rattle.re_labels.proofs.Before.{same_list-refl, same_list-same}
use Rattle.re_labels.proofs.ListSets.{In-list_set, list_set-In}
use Rattle.re_labels.proofs.Membership.{AllByRecursion-from_In, Contains-In, In, In-Contains, In-map, In-map_from, any-In, any-In_from, count_from-last, count_from_range, Contains-count_from, length-count_from, length-map'}
use Rattle.re_labels.proofs.LabelPlaces.{place_of-below}
use Rattle.re_labels.proofs.Tests.{below-cases}
use Rattle.re_labels.specs.ListSets.{list_set}
use Rattle.re_labels.specs.Lists.{count_from, place_of, same_list}
use Rattle.re_labels.specs.Names.{is_name, name_of}
use Rattle.re_labels.specs.declared.TheConstants.{MAX_LABELS}
use Rattle.re_problem.proofs.ListSizes.{length-list_set}
use Rattle.re_problem.specs.NamedProblems.{NamedProblem}
use Rattle.re_inputs.specs.NamedProducts.{is_nameless, is_taken, pair_count, pair_name, pair_names, product_labels, product_names}

-- ---- the parts of a pair
pub parts_there : (n m pair : ℕ) → pair < n * m → 0 < m
parts_there n zero pair l = absurd (omega (arith, l, mul-zero n))
parts_there n (suc m) pair l = omega arith

pub first_low : (n m pair : ℕ) → pair < n * m → pair / m < n
first_low n m pair l = (div-lt_iff_lt-mul {k = m} {x = pair} {y = n} (parts_there n m pair l)).1 l

pub second_low : (n m pair : ℕ) → pair < n * m → pair % m < m
second_low n m pair l = mod-lt pair (parts_there n m pair l)

-- ---- names of their own

pub a_name : (text name : List ℕ) → name_of text ≡ Some name → (is_name text ≡ true) × (name ≡ text)
a_name text name e = go (is_name text) e
  where
    go : (b : Bool) → cond b (Some text) None ≡ Some name → (b ≡ true) × (name ≡ text)
    go true e = (refl, cc)
    go false e = absurd (cc)

-- a list stands among others exactly where it is equal to one of them
pub held_taken : (vs : List (List ℕ)) (v : List ℕ) → Contains (list_set vs) v → list_any (same_list v) vs ≡ true
held_taken vs v held = any-In (same_list v) v vs (In-list_set vs v (Contains-In v (list_set vs) held)) (same_list-refl v)

pub taken_held : (vs : List (List ℕ)) (v : List ℕ) → list_any (same_list v) vs ≡ true → Contains (list_set vs) v
taken_held vs v t =
    let (w, i, e) = any-In_from (same_list v) vs t in
    In-Contains v (list_set vs) (list_set-In vs v (subst (λ u. In u vs) (sym (same_list-same v w e)) i))

module _ (problem input : NamedProblem) where
  pub long_nameless : (pair : ℕ) → is_name (pair_name problem input pair) ≡ false → false ≡ not (is_nameless problem input pair)
  long_nameless pair e = λ i. not (not (sym e i) || is_taken problem input pair)

  pub new_own : (pair : ℕ) (names : List (List ℕ)) (name : List ℕ) (is_new : Bool) → names ≡ list_set (pair_names problem input pair) → name ≡ pair_name problem input pair → is_name (pair_name problem input pair) ≡ true
      → IsTrue is_new ↔ (Contains names name → ⊥) → is_new ≡ not (is_nameless problem input pair)
  new_own pair names name is_new e f named tells = go is_new (is_taken problem input pair) refl tells ∙ (λ i. not (not (sym named i) || is_taken problem input pair))
    where
      go : (b t : Bool) → is_taken problem input pair ≡ t → IsTrue b ↔ (Contains names name → ⊥) → b ≡ not t
      go true true at tells =
          absurd (tells.0 refl (subst (λ w. Contains w name) (sym e) (subst (Contains (list_set (pair_names problem input pair))) (sym f) (taken_held (pair_names problem input pair) (pair_name problem input pair) at))))
      go true false at tells = refl
      go false true at tells = refl
      go false false at tells =
          absurd (false≢true (tells.1 (λ held. absurd (false≢true (sym at ∙ held_taken (pair_names problem input pair) (pair_name problem input pair)
          (subst (Contains (list_set (pair_names problem input pair))) f (subst (λ w. Contains w name) e held)))))))

  -- one name more
  pub names_more : (pair : ℕ) → pair_names problem input (pair + 1) ≡ pair_names problem input pair ++ pair_name problem input pair ∷ []
  names_more pair =
      let next : pair + 1 ≡ suc pair = omega arith in
      let last : 0 + pair ≡ pair = omega arith in
      ap (pair_names problem input) next ∙ ap (map (pair_name problem input)) (count_from-last 0 pair)
      ∙ map-append (pair_name problem input) (count_from 0 pair) ((0 + pair) ∷ []) ∙ ap (λ k. pair_names problem input pair ++ pair_name problem input k ∷ []) last

  pub few_names : (pair : ℕ) → length (list_set (pair_names problem input pair)) ≤ pair
  few_names pair = omega (arith, length-list_set (pair_names problem input pair), length-map' (pair_name problem input) (count_from 0 pair), length-count_from 0 pair)

  pub own_false : (pair : ℕ) (own : Bool) → own ≡ not (is_nameless problem input pair) → own ≡ true → is_nameless problem input pair ≡ false
  own_false pair own e t = go (is_nameless problem input pair) (sym t ∙ e)
    where
      go : (b : Bool) → true ≡ not b → b ≡ false
      go true e = absurd (false≢true (sym e))
      go false e = refl

  pub not_own : (pair : ℕ) (own : Bool) → own ≡ not (is_nameless problem input pair) → own ≡ false → is_nameless problem input pair ≡ true
  not_own pair own e t = go (is_nameless problem input pair) (sym t ∙ e)
    where
      go : (b : Bool) → false ≡ not b → b ≡ true
      go true e = refl
      go false e = absurd (false≢true e)

  pub before_more : (pair : ℕ) → ((k : ℕ) → k < pair → is_nameless problem input k ≡ false) → is_nameless problem input pair ≡ false → (k : ℕ) → k < pair + 1 → is_nameless problem input k ≡ false
  before_more pair before here k l = elim (below-cases k pair l) [
    | inl less ↦ before k less
    | inr same ↦ ap (is_nameless problem input) same ∙ here
  ]

  -- the name of a pair is one of all names
  pub name_there : (pair : ℕ) → pair < pair_count problem input → In (pair_name problem input pair) (product_names problem input)
  name_there pair l =
      list_set-In (pair_names problem input (pair_count problem input)) (pair_name problem input pair)
      (In-map (pair_name problem input) pair (count_from 0 (pair_count problem input))
      (Contains-In pair (count_from 0 (pair_count problem input)) (Contains-count_from 0 (pair_count problem input) pair (omega arith) (omega (arith, l)))))

  -- ---- labels
  pub length-product_labels : length (product_labels problem input) ≡ pair_count problem input
  length-product_labels =
      length-map' (λ pair. place_of (product_names problem input) (pair_name problem input pair)) (count_from 0 (pair_count problem input)) ∙ length-count_from 0 (pair_count problem input)

  pub labels_low : pair_count problem input ≤ MAX_LABELS → AllByRecursion (λ label. label < MAX_LABELS) (product_labels problem input)
  labels_low few = AllByRecursion-from_In (λ label. label < MAX_LABELS) (product_labels problem input) (λ label i.
      let (pair, j, e) = In-map_from (λ pair. place_of (product_names problem input) (pair_name problem input pair)) label (count_from 0 (pair_count problem input)) i in
      let l : pair < pair_count problem input = omega (arith, (count_from_range 0 (pair_count problem input) pair (In-Contains pair (count_from 0 (pair_count problem input)) j)).1) in
      let low = place_of-below (product_names problem input) (pair_name problem input pair) (In-Contains (pair_name problem input pair) (product_names problem input) (name_there pair l)) in
      omega (arith, e, low, few, few_names (pair_count problem input)))

-- one more by counting
pub counted_more : (f : ℕ → ℕ) (n : ℕ) (xs new : List ℕ) (x : ℕ) → xs ≡ map f (count_from 0 n) → new ≡ xs ++ x ∷ [] → x ≡ f n → new ≡ map f (count_from 0 (n + 1))
counted_more f n xs new x e g h =
    let next : suc n ≡ n + 1 = omega arith in
    let last : 0 + n ≡ n = omega arith in
    g ∙ (λ i. e i ++ h i ∷ []) ∙ ap (λ k. map f (count_from 0 n) ++ f k ∷ []) (sym last) ∙ sym (map-append f (count_from 0 n) ((0 + n) ∷ [])) ∙ ap (map f) (sym (count_from-last 0 n)) ∙ ap (λ k. map f (count_from 0 k)) next
