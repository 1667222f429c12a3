-- New numbers of labels that stay, and the problem that they make.
use Rattle.re_problem.proofs.Walks.{alone}
use Rattle.re_problem.proofs.NewNumbers.{names_rise}
use Rattle.std.proofs.Common.{◌≡◌, ℕ, zero, suc, ◌+◌, ◌-◌, ◌<◌, ◌≤◌, Bool, true, false, cond, ◌&&◌, ◌||◌, ltb, List, [], ◌∷◌, length, map, take, get_or, None, Some, refl, sym, ap, ◌∙◌, subst, arith, ◌⊎◌, inl, inr}
use Rattle.std.specs.Prelude.{filter}
use Rattle.std.specs.List.{list_all}
use Rattle.std.proofs.lemmas.Bool.Decides.{nat_tests}
use Rattle.std.proofs.lemmas.List.{get_or-map, take_all}
use Rattle.std.proofs.lemmas.List.Sums.{length-filter}
use Rattle.re_labels.proofs.Rearranging.{Contains-Rearranged, Rearranged-sym}
use Rattle.re_labels.proofs.Sorting.{Rearranged-sorted}
use Rattle.re_labels.specs.Configs.{image_at, sorted}
use Rattle.re_labels.proofs.Before.{IsBefore-trans}
use Rattle.re_labels.proofs.ListSets.{In-list_set, list_set-In, one_set, rising-list_set}
use Rattle.re_labels.proofs.Membership.{AllByRecursion-In, Contains-In, In, In-Contains, In-map_from, all-In_from, length-map'}
use Rattle.re_labels.proofs.Rising.{rising-below, rising-map}
use Rattle.re_labels.proofs.Tests.{or-left, or-right}
use Rattle.re_labels.specs.Lists.{IsBefore, IsRising, count_from}
use Rattle.re_labels.specs.ListSets.{list_set, with_list}
use Rattle.re_labels.specs.Sets.{IsLabelSet}
use Rattle.re_problem.proofs.NumberedLabels.{numbered_occurs}
use Rattle.re_problem.proofs.UsedLabels.{all_counted}
use Rattle.re_problem.specs.NamedProblems.{NamedProblem, OccursIn, all_occur, are_named, built, occurs}
use Rattle.re_labels.proofs.Insertions.{list_set-step}
use Rattle.re_labels.specs.Constraints.{Constraint}
use Rattle.re_changes.specs.Renumbering.{constraint_image, number_among, renumbered}

-- ---- numbers among those that stay
number-is : (stay : List ℕ) (x : ℕ) → number_among stay x ≡ length (filter (λ other. ltb other x) stay)
number-is stay x = sym (length-filter (λ other. ltb other x) stay)

none-less : (stay : List ℕ) (x : ℕ) → ((y : ℕ) → In y stay → x ≤ y) → length (filter (λ other. ltb other x) stay) ≡ 0
none-less [] x h = refl
none-less (y ∷ stay) x h =
    let over : x ≤ y = h y (inl refl) in
    let no : ltb y x ≡ false = grind (arith, nat_tests) in
    rw no (none-less stay x (λ z i. h z (inr i)))

rest-above : (y : ℕ) (stay : List ℕ) → IsRising (λ x y. x < y) (y ∷ stay) → (z : ℕ) → In z stay → y < z
rest-above y [] h z i = absurd i
rest-above y (w ∷ stay) h z i = rising-below (λ x y. x < y) (λ a b c l m. omega arith) y w stay h.0 h.1 z i

rest-rises : (y : ℕ) (stay : List ℕ) → IsRising (λ x y. x < y) (y ∷ stay) → IsRising (λ x y. x < y) stay
rest-rises y [] h = tt
rest-rises y (z ∷ stay) h = h.1

one-more : (y x : ℕ) (stay : List ℕ) → y < x → length (filter (λ other. ltb other x) (y ∷ stay)) ≡ suc (length (filter (λ other. ltb other x) stay))
one-more y x stay l = let yes : ltb y x ≡ true = grind (arith, nat_tests) in rw yes refl

first-number : (y : ℕ) (stay : List ℕ) → IsRising (λ x y. x < y) (y ∷ stay) → length (filter (λ other. ltb other y) (y ∷ stay)) ≡ 0
first-number y stay h = none-less (y ∷ stay) y (λ z i. elim i [ inl e ↦ omega arith | inr j ↦ let l = rest-above y stay h z j in omega arith ])

-- the label at a place has this number
pub number_at : (stay : List ℕ) (k : ℕ) → IsRising (λ x y. x < y) stay → k < length stay → number_among stay (get_or stay k 0) ≡ k
number_at stay k h l = number-is stay (get_or stay k 0) ∙ go stay k h l
  where
    in_rest : (stay : List ℕ) (k : ℕ) → k < length stay → In (get_or stay k 0) stay
    in_rest [] k l = absurd (omega arith)
    in_rest (y ∷ stay) zero l = inl refl
    in_rest (y ∷ stay) (suc k) l = inr (in_rest stay k (omega arith))

    go : (stay : List ℕ) (k : ℕ) → IsRising (λ x y. x < y) stay → k < length stay → length (filter (λ other. ltb other (get_or stay k 0)) stay) ≡ k
    go [] k h l = absurd (omega arith)
    go (y ∷ stay) zero h l = first-number y stay h
    go (y ∷ stay) (suc k) h l =
        one-more y (get_or stay k 0) stay (rest-above y stay h (get_or stay k 0) (in_rest stay k (omega arith))) ∙ ap suc (go stay k (rest-rises y stay h) (omega arith))

-- a label that stays is at the place of its number
pub at_number : (stay : List ℕ) (x : ℕ) → IsRising (λ x y. x < y) stay → In x stay → (number_among stay x < length stay) × (get_or stay (number_among stay x) 0 ≡ x)
at_number stay x h i =
    let r = go stay h i in
    (let e = number-is stay x in let l = r.0 in omega arith, ap (λ k. get_or stay k 0) (number-is stay x) ∙ r.1)
  where
    go : (stay : List ℕ) → IsRising (λ x y. x < y) stay → In x stay
        → (length (filter (λ other. ltb other x) stay) < length stay) × (get_or stay (length (filter (λ other. ltb other x) stay)) 0 ≡ x)
    go [] h i = absurd i
    go (y ∷ stay) h (inl e) =
        let z : length (filter (λ other. ltb other x) (y ∷ stay)) ≡ 0 = subst (λ w. length (filter (λ other. ltb other w) (y ∷ stay)) ≡ 0) (sym e) (first-number y stay h) in
        (omega arith, ap (λ k. get_or (y ∷ stay) k 0) z ∙ sym e)
    go (y ∷ stay) h (inr i) =
        let r = go stay (rest-rises y stay h) i in
        let l = r.0 in
        let s = one-more y x stay (rest-above y stay h x i) in
        (omega arith, ap (λ k. get_or (y ∷ stay) k 0) s ∙ r.1)

pub number-most : (stay : List ℕ) (x : ℕ) → number_among stay x ≤ length stay
number-most stay x = let e = number-is stay x in let l = go stay in omega arith
  where
    go : (stay : List ℕ) → length (filter (λ other. ltb other x) stay) ≤ length stay
    go [] = omega arith
    go (y ∷ stay) = elim (ltb y x) as (λ b. length (cond b (y ∷ filter (λ other. ltb other x) stay) (filter (λ other. ltb other x) stay)) ≤ suc (length stay)) [
      | true ↦ let l = go stay in omega arith
      | false ↦ let l = go stay in omega arith
    ]

-- a higher label has no lower number
pub number-rises : (stay : List ℕ) (x y : ℕ) → x ≤ y → number_among stay x ≤ number_among stay y
number-rises stay x y l = let e = number-is stay x in let f = number-is stay y in let most = go stay in omega arith
  where
    both : (other : ℕ) (stay : List ℕ) (a b : Bool) → ltb other x ≡ a → ltb other y ≡ b → length (filter (λ other. ltb other x) stay) ≤ length (filter (λ other. ltb other y) stay)
        → length (cond a (other ∷ filter (λ other. ltb other x) stay) (filter (λ other. ltb other x) stay)) ≤ length (cond b (other ∷ filter (λ other. ltb other y) stay) (filter (λ other. ltb other y) stay))
    both other stay true true e f rest = omega arith
    both other stay true false e f rest = absurd (grind (arith, nat_tests))
    both other stay false true e f rest = omega arith
    both other stay false false e f rest = rest

    go : (stay : List ℕ) → length (filter (λ other. ltb other x) stay) ≤ length (filter (λ other. ltb other y) stay)
    go [] = omega arith
    go (other ∷ stay) = both other stay (ltb other x) (ltb other y) refl refl (go stay)

-- the number of a label among some of the labels below a bound is no more than the label
pub number-low : (p : ℕ → Bool) (n x : ℕ) → number_among (filter p (count_from 0 n)) x ≤ x
number-low p n x = let e = number-is (filter p (count_from 0 n)) x in let l = go 0 n in omega arith
  where
    by : (i n : ℕ) (a b : Bool) → p i ≡ a → ltb i x ≡ b → length (filter (λ other. ltb other x) (filter p (count_from (suc i) n))) ≤ x - suc i
        → length (filter (λ other. ltb other x) (cond a (i ∷ filter p (count_from (suc i) n)) (filter p (count_from (suc i) n)))) ≤ x - i
    by i n false b e f rest = omega arith
    by i n true true e f rest =
        let l : i < x = grind (arith, nat_tests) in
        subst (λ b. length (cond b (i ∷ filter (λ other. ltb other x) (filter p (count_from (suc i) n))) (filter (λ other. ltb other x) (filter p (count_from (suc i) n)))) ≤ x - i) (sym f) (omega arith)
    by i n true false e f rest =
        subst (λ b. length (cond b (i ∷ filter (λ other. ltb other x) (filter p (count_from (suc i) n))) (filter (λ other. ltb other x) (filter p (count_from (suc i) n)))) ≤ x - i) (sym f) (omega arith)

    go : (i n : ℕ) → length (filter (λ other. ltb other x) (filter p (count_from i n))) ≤ x - i
    go i zero = omega arith
    go i (suc n) = by i n (p i) (ltb i x) refl refl (go (suc i) n)

-- ---- the names of labels that stay
pub rising-names : (names : List (List ℕ)) (stay : List ℕ) → IsRising IsBefore names → IsLabelSet (length names) stay → IsRising IsBefore (map (λ label. get_or names label []) stay)
rising-names names stay h set = rising-map (λ x y. x < y) IsBefore (λ label. get_or names label []) stay
    (λ x y i j l. names_rise names x y h l (AllByRecursion-In (λ x. x < length names) stay y set.1 j)) set.0

-- one name more
pub names-step : (names : List (List ℕ)) (stay : List ℕ) (i : ℕ) (kept : List (List ℕ)) (label : ℕ) (name : List ℕ) → i < length stay → label ≡ get_or stay i 0 → name ≡ get_or names label []
    → kept ≡ list_set (take i (map (λ label. get_or names label []) stay)) → with_list kept name ≡ list_set (take (i + 1) (map (λ label. get_or names label []) stay))
names-step names stay i kept label name l at is so_far =
    ap (λ k. with_list k name) so_far
    ∙ sym (list_set-step (map (λ label. get_or names label []) stay) i name (let e = length-map' (λ label. get_or names label []) stay in omega arith)
    (is ∙ ap (λ x. get_or names x []) at ∙ sym (get_or-map (λ label. get_or names label []) stay i 0 name l)))

pub names-all : (names : List (List ℕ)) (stay : List ℕ) (i : ℕ) (kept : List (List ℕ)) → length stay ≤ i → IsRising IsBefore names → IsLabelSet (length names) stay
    → kept ≡ list_set (take i (map (λ label. get_or names label []) stay)) → kept ≡ map (λ label. get_or names label []) stay
names-all names stay i kept l h set so_far =
    so_far ∙ ap list_set (take_all i (map (λ label. get_or names label []) stay) (let e = length-map' (λ label. get_or names label []) stay in omega arith))
    ∙ alone (map (λ label. get_or names label []) stay) (rising-names names stay h set)

-- ---- the constraints
In-unsorted : (x : ℕ) (xs : List ℕ) → In x (sorted xs) → In x xs
In-unsorted x xs i = Contains-In x xs (Contains-Rearranged x (Rearranged-sym (Rearranged-sorted xs)) (In-Contains x (sorted xs) i))

module _ (images : List ℕ) (constraint : Constraint) where
  pub image-named : (m : ℕ) → ((config : List ℕ) (x : ℕ) → In config constraint.configs → In x config → image_at images x < m) → are_named m (constraint_image images constraint) ≡ true
  image-named m below = all-In_from (list_all (λ label. ltb label m)) (list_set (map (λ c. sorted (map (image_at images) c)) constraint.configs)) (λ config i.
      let from = In-map_from (λ c. sorted (map (image_at images) c)) config constraint.configs (In-list_set (map (λ c. sorted (map (image_at images) c)) constraint.configs) config i) in
      all-In_from (λ label. ltb label m) config (λ y j.
      let x = In-map_from (image_at images) y from.0 (In-unsorted y (map (image_at images) from.0) (subst (In y) from.2 j)) in
      let l : y < m = subst (λ z. z < m) (sym x.2) (below from.0 x.0 from.1 x.1) in
      grind (arith, nat_tests)))

  pub image-occurs : (x : ℕ) → OccursIn constraint x → occurs (constraint_image images constraint) (image_at images x) ≡ true
  image-occurs x o = numbered_occurs (image_at images) constraint.degree constraint.configs o.0 x (Contains-In o.0 constraint.configs o.1) (Contains-In x o.0 o.2)

-- a problem that is numbered anew is built
module _ (stay images : List ℕ) (named : NamedProblem) where
  pub renumbered-built : IsRising (λ x y. x < y) stay
      → ((config : List ℕ) (x : ℕ) → In config named.active.configs → In x config → image_at images x < length stay)
      → ((config : List ℕ) (x : ℕ) → In config named.passive.configs → In x config → image_at images x < length stay)
      → ((x : ℕ) → In x stay → image_at images x ≡ number_among stay x)
      → ((x : ℕ) → In x stay → OccursIn named.active x ⊎ OccursIn named.passive x)
      → built (renumbered stay images named).names (renumbered stay images named).active (renumbered stay images named).passive ≡ Some (renumbered stay images named)
  renumbered-built rises active passive own occur =
      passes (are_named (length names) (constraint_image images named.active)) (are_named (length names) (constraint_image images named.passive))
      (all_occur (length names) (constraint_image images named.active) (constraint_image images named.passive))
      (image-named images named.active (length names) (λ config x i j. let l = active config x i j in omega (arith, count)))
      (image-named images named.passive (length names) (λ config x i j. let l = passive config x i j in omega (arith, count)))
      (all_counted (λ label. occurs (constraint_image images named.active) label || occurs (constraint_image images named.passive) label) (length names) all)
    where
      names : List (List ℕ)
      names = map (λ label. get_or named.names label []) stay

      count : length (map (λ label. get_or named.names label []) stay) ≡ length stay
      count = length-map' (λ label. get_or named.names label []) stay

      in_stay : (stay : List ℕ) (k : ℕ) → k < length stay → In (get_or stay k 0) stay
      in_stay [] k l = absurd (omega arith)
      in_stay (y ∷ stay) zero l = inl refl
      in_stay (y ∷ stay) (suc k) l = inr (in_stay stay k (omega arith))

      all : (k : ℕ) → k < length (map (λ label. get_or named.names label []) stay) → (occurs (constraint_image images named.active) k || occurs (constraint_image images named.passive) k) ≡ true
      all k l =
          let m : k < length stay = omega (arith, count) in
          let i = in_stay stay k m in
          let e : image_at images (get_or stay k 0) ≡ k = own (get_or stay k 0) i ∙ number_at stay k rises m in
          elim (occur (get_or stay k 0) i) [
            | inl o ↦ or-left (occurs (constraint_image images named.active) k) (occurs (constraint_image images named.passive) k)
                (subst (λ x. occurs (constraint_image images named.active) x ≡ true) e (image-occurs images named.active (get_or stay k 0) o))
            | inr o ↦ or-right (occurs (constraint_image images named.active) k) (occurs (constraint_image images named.passive) k)
                (subst (λ x. occurs (constraint_image images named.passive) x ≡ true) e (image-occurs images named.passive (get_or stay k 0) o))
          ]

      passes : (a b c : Bool) → a ≡ true → b ≡ true → c ≡ true → cond (a && b && c) (Some (renumbered stay images named)) None ≡ Some (renumbered stay images named)
      passes a b c ea eb ec =
          ap (λ t. cond (t && b && c) (Some (renumbered stay images named)) None) ea ∙ ap (λ t. cond (true && t && c) (Some (renumbered stay images named)) None) eb
          ∙ ap (λ t. cond (true && true && t) (Some (renumbered stay images named)) None) ec
