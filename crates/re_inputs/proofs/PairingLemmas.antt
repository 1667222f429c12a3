-- The configurations of pairs that are listed are those of the product.
use Rattle.std.proofs.Common.{◌≡◌, ℕ, suc, ◌+◌, ◌*◌, ◌/◌, ◌≤◌, ◌<◌, List, [], ◌∷◌, ◌++◌, length, map, refl, sym, ap, ◌∙◌, subst, inl, arith, append_assoc}
use Rattle.std.specs.Prelude.{Contains}
use Rattle.std.specs.List.{AllByRecursion, flat_map}
use Rattle.std.proofs.Math.Nat.{div-mul-le_self, mul_comm}
use Rattle.std.proofs.lemmas.List.{append-nil, get_or_default}
use Rattle.std.proofs.lemmas.List.Concat.{flat_map-append}
use Rattle.std.proofs.lemmas.List.Elements.{same_from_all_zip}
use Rattle.std.proofs.lemmas.Nat.{div-add-mod', div-mul-add, le-div, mod-mul-add, mul-add-lt}
use Rattle.re_labels.proofs.LawsOfRows.{multisets_law}
use Rattle.re_labels.proofs.Placing.{In-orders, Rearranged-orders, beside_map, from_beside}
use Rattle.re_labels.proofs.Rearranging.{Rearranged-map, Rearranged-sym, along, length-Rearranged}
use Rattle.re_labels.proofs.Sorting.{AllByRecursion-Rearranged, Rearranged-sorted, sorted-Rearranged, sorted_again}
use Rattle.re_labels.specs.Configs.{IsConfig, image_at, sorted}
use Rattle.re_labels.specs.Orders.{multisets, placements}
use Rattle.re_labels.specs.Rearranging.{Rearranged}
use Rattle.re_given.proofs.Colourings.{filtered_constraint}
use Rattle.re_given.proofs.Pairs.{from_parts, parts}
use Rattle.re_given.specs.Products.{are_pairs, firsts, pairs_of, seconds}
use Rattle.re_labels.proofs.Before.{IsBefore-trans}
use Rattle.re_labels.proofs.ListSets.{In-list_set, list_set-In, list_set-longer, list_set_append, one_set, rising-list_set}
use Rattle.re_labels.proofs.Membership.{AllByRecursion-contains, AllByRecursion-from_In, AllByRecursion-weaker, Contains-In, Contains-filter_cases, In, In-Contains, In-append_right, In-flat_map, In-flat_map_from, In-map, In-map_from, count_from_range, length-count_from}
use Rattle.re_labels.proofs.Rising.{rising-filter, rising-map}
use Rattle.re_labels.specs.ListSets.{list_set}
use Rattle.re_labels.specs.Lists.{IsBefore, IsRising, count_from}
use Rattle.re_labels.specs.declared.TheConstants.{MAX_LABELS}
use Rattle.re_laws.proofs.Ports.{AllZip-count}
use Rattle.re_problem.proofs.Walks.{alone}
use Rattle.re_labels.proofs.ConstraintImages.{itself-held}
use Rattle.re_labels.specs.Constraints.{Constraint, Has, IsConstraint}
use Rattle.re_labels.specs.declared.constraint_table.TheConstants.{MAX_CONFIGURATIONS}
use Rattle.re_inputs.specs.Pairings.{all_pairings, beside, beside_in, pairings, pairings_with}

-- ---- pairs
pub pair_low : (n m x y : ℕ) → n * m ≤ MAX_LABELS → x < n → y < m → x * m + y < MAX_LABELS
pair_low n m x y few l r = omega (arith, few, mul-add-lt x m y n l r, mul_comm m n)

pub beside-below : (n m : ℕ) (xs ys : List ℕ) → n * m ≤ MAX_LABELS → AllByRecursion (λ x. x < n) xs → AllByRecursion (λ y. y < m) ys → AllByRecursion (λ pair. pair < MAX_LABELS) (beside m xs ys)
beside-below n m [] ys few h k = tt
beside-below n m (x ∷ xs) [] few h k = tt
beside-below n m (x ∷ xs) (y ∷ ys) few h k = (pair_low n m x y few h.0 k.0, beside-below n m xs ys few h.1 k.1)

pub length-beside : (m : ℕ) (xs ys : List ℕ) → length xs ≡ length ys → length (beside m xs ys) ≡ length xs
length-beside m [] ys l = refl
length-beside m (x ∷ xs) [] l = absurd (omega (arith, l))
length-beside m (x ∷ xs) (y ∷ ys) l = ap suc (length-beside m xs ys (omega (arith, l)))

pub firsts-beside : (m : ℕ) (xs ys : List ℕ) → length xs ≡ length ys → AllByRecursion (λ y. y < m) ys → firsts m (beside m xs ys) ≡ xs
firsts-beside m [] ys l h = refl
firsts-beside m (x ∷ xs) [] l h = absurd (omega (arith, l))
firsts-beside m (x ∷ xs) (y ∷ ys) l h = let rest = firsts-beside m xs ys (omega (arith, l)) h.1 in (λ i. div-mul-add x m y h.0 i ∷ rest i)

pub seconds-beside : (m : ℕ) (xs ys : List ℕ) → length xs ≡ length ys → AllByRecursion (λ y. y < m) ys → seconds m (beside m xs ys) ≡ ys
seconds-beside m [] [] l h = refl
seconds-beside m [] (y ∷ ys) l h = absurd (omega (arith, l))
seconds-beside m (x ∷ xs) [] l h = absurd (omega (arith, l))
seconds-beside m (x ∷ xs) (y ∷ ys) l h = let rest = seconds-beside m xs ys (omega (arith, l)) h.1 in (λ i. mod-mul-add x m y h.0 i ∷ rest i)

-- pairs are their parts, side by side
beside-parts : (m : ℕ) (pairs : List ℕ) → beside m (firsts m pairs) (seconds m pairs) ≡ pairs
beside-parts m [] = refl
beside-parts m (pair ∷ pairs) = let rest = beside-parts m pairs in (λ i. div-add-mod' pair m i ∷ rest i)

-- ---- orders
-- a list is its elements at all places
pub all_places : (ys : List ℕ) → map (image_at ys) (count_from 0 (length ys)) ≡ ys
all_places ys =
    sym (same_from_all_zip (λ (x y : ℕ). x ≡ y) (map (image_at ys) (count_from 0 (length ys))) ys
    (AllZip-count (λ (x y : ℕ). x ≡ y) (image_at ys) 0 (length ys) ys refl (λ k d l. let e : 0 + k ≡ k = omega arith in rw e (get_or_default ys k 0 d l))) (λ x y e. sym e))

pub Rearranged-order : (n : ℕ) (order : List ℕ) → In order (placements n) → Rearranged (count_from 0 n) order
unfolding placements
Rearranged-order n order i = Rearranged-orders n (count_from 0 n) order (length-count_from 0 n) i

pub order-below : (n : ℕ) (order : List ℕ) → In order (placements n) → AllByRecursion (λ place. place < n) order
order-below n order i =
    AllByRecursion-Rearranged (λ place. place < n) (Rearranged-order n order i)
    (AllByRecursion-from_In (λ place. place < n) (count_from 0 n) (λ place j. omega (arith, (count_from_range 0 n place (In-Contains place (count_from 0 n) j)).1)))

pub in_some_order : (ys : List ℕ) (order : List ℕ) → In order (placements (length ys)) → Rearranged ys (map (image_at ys) order)
in_some_order ys order i =
    subst (λ zs. Rearranged zs (map (image_at ys) order)) (all_places ys) (Rearranged-map (image_at ys) (Rearranged-order (length ys) order i))

some_order : (ys moved : List ℕ) → Rearranged ys moved → (order : List ℕ) × In order (placements (length ys)) × (moved ≡ map (image_at ys) order)
unfolding placements
some_order ys moved r =
    let n = length ys in
    let p : Rearranged (map (image_at ys) (count_from 0 n)) moved = subst (λ zs. Rearranged zs moved) (sym (all_places ys)) r in
    let u = along (λ i t. t ≡ image_at ys i) p (count_from 0 n) (beside_map (image_at ys) (count_from 0 n)) in
    (u.0, In-orders n (count_from 0 n) u.0 (length-count_from 0 n) u.1, from_beside (image_at ys) u.0 moved u.2)

-- the pairs of two configurations, where the second one stands in some order
module _ (d n m : ℕ) (xs ys : List ℕ) (first : IsConfig d n xs) (second : IsConfig d m ys) (order : List ℕ) (i : In order (placements (length xs))) where
  there : In order (placements (length ys))
  there = subst (λ k. In order (placements k)) (first.count ∙ sym second.count) i

  pub order_places : AllByRecursion (λ place. place < length ys) order
  order_places = order-below (length ys) order there

  pub order_count : length (beside_in m xs ys order) ≡ d
  order_count = length-beside m xs (map (image_at ys) order) (first.count ∙ sym second.count ∙ length-Rearranged (in_some_order ys order there)) ∙ first.count

  pub order_low : n * m ≤ MAX_LABELS → AllByRecursion (λ pair. pair < MAX_LABELS) (beside_in m xs ys order)
  order_low few = beside-below n m xs (map (image_at ys) order) few first.below (AllByRecursion-Rearranged (λ y. y < m) (in_some_order ys order there) second.below)

-- what a walk comes to stands in the list
pub come_to : (all done rest behind : List (List ℕ)) (x : List ℕ) → done ++ rest ≡ all → rest ≡ x ∷ behind → In x all
come_to all done rest behind x e r = subst (In x) (ap (λ l. done ++ l) (sym r) ∙ e) (In-append_right x done (x ∷ behind) (inl refl))

-- ---- what is listed
module _ (n m : ℕ) (own given : Constraint) (own_is : IsConstraint n own) (given_is : IsConstraint m given) (same : given.degree ≡ own.degree) where
  config_of : (config : List ℕ) → In config own.configs → IsConfig own.degree n config
  config_of config i = AllByRecursion-contains (IsConfig own.degree n) own.configs config own_is.configs (In-Contains config own.configs i)

  given_of : (config : List ℕ) → In config given.configs → IsConfig given.degree m config
  given_of config i = AllByRecursion-contains (IsConfig given.degree m) given.configs config given_is.configs (In-Contains config given.configs i)

  -- what is listed stands in the product
  listed : (xs ys order : List ℕ) → In xs own.configs → In ys given.configs → In order (placements (length xs)) → In (sorted (beside_in m xs ys order)) (pairs_of n m own given).configs
  listed xs ys order i j k =
      let first = config_of xs i in
      let second = given_of ys j in
      let count : length xs ≡ length ys = first.count ∙ sym same ∙ sym second.count in
      let at : In order (placements (length ys)) = subst (λ c. In order (placements c)) count k in
      let moved : Rearranged ys (map (image_at ys) order) = in_some_order ys order at in
      let low : AllByRecursion (λ y. y < m) (map (image_at ys) order) = AllByRecursion-Rearranged (λ y. y < m) moved second.below in
      let alike : length xs ≡ length (map (image_at ys) order) = count ∙ length-Rearranged moved in
      let has : Has own (firsts m (beside_in m xs ys order)) =
      subst (Has own) (sym (firsts-beside m xs (map (image_at ys) order) alike low)) (itself-held n own own_is xs (In-Contains xs own.configs i)) in
      let held : Has given ys = itself-held m given given_is ys (In-Contains ys given.configs j) in
      let has' : Has given (seconds m (beside_in m xs ys order)) =
      subst (Has given) (sym (seconds-beside m xs (map (image_at ys) order) alike low)) (subst (Contains given.configs) (sorted-Rearranged moved) held) in
      Contains-In (sorted (beside_in m xs ys order)) (pairs_of n m own given).configs (from_parts n m own given own_is given_is (beside_in m xs ys order) has has')

  from_list : (z : List ℕ) → In z (all_pairings m own given) → In z (pairs_of n m own given).configs
  from_list z i =
      let (xs, at_xs, i') = In-flat_map_from (pairings_with m given) z own.configs i in
      let (ys, at_ys, i'') = In-flat_map_from (pairings m xs) z given.configs i' in
      let (order, at_order, e) = In-map_from (λ order. sorted (beside_in m xs ys order)) z (placements (length xs)) i'' in
      subst (λ w. In w (pairs_of n m own given).configs) (sym e) (listed xs ys order at_xs at_ys at_order)

  -- the first parts of ascending pairs ascend
  firsts-rise : (z : List ℕ) → 0 < m → IsRising (λ x y. x ≤ y) z → IsRising (λ x y. x ≤ y) (firsts m z)
  firsts-rise z some rises =
      rising-map (λ x y. x ≤ y) (λ x y. x ≤ y) (λ pair. pair / m) z (λ x y i j l. le-div (x / m) y m some (omega (arith, l, div-mul-le_self x m))) rises

  some_below : (ys : List ℕ) → 2 ≤ length ys → AllByRecursion (λ y. y < m) ys → 0 < m
  some_below [] l h = absurd (omega (arith, l))
  some_below (y ∷ ys) l h = omega (arith, h.0)

  to_list : (z : List ℕ) → In z (pairs_of n m own given).configs → In z (all_pairings m own given)
  to_list z i =
      let held : Contains (pairs_of n m own given).configs z = In-Contains z (pairs_of n m own given).configs i in
      let (among, _) = Contains-filter_cases (are_pairs m own given) (multisets own.degree 0 (n * m)) z held in
      let config : IsConfig own.degree (n * m) z = ((multisets_law own.degree (n * m)).1 z).0 among in
      let (has, has') = parts n m own given z (subst (Contains (pairs_of n m own given).configs) (sym (sorted_again z config.ascends)) held) in
      let xs : List ℕ = firsts m z in
      let ys : List ℕ = sorted (seconds m z) in
      let at_ys : In ys given.configs = Contains-In ys given.configs has' in
      let second = given_of ys at_ys in
      let some : 0 < m = some_below ys (omega (arith, second.count, given_is.least)) second.below in
      let at_xs : In xs own.configs = Contains-In xs own.configs (subst (Contains own.configs) (sorted_again xs (firsts-rise z some config.ascends)) has) in
      let (order, at_order, e) = some_order ys (seconds m z) (Rearranged-sym (Rearranged-sorted (seconds m z))) in
      let count : length ys ≡ length xs = second.count ∙ same ∙ sym (config_of xs at_xs).count in
      let is : sorted (beside_in m xs ys order) ≡ z = ap (λ zs. sorted (beside m xs zs)) (sym e) ∙ ap sorted (beside-parts m z) ∙ sorted_again z config.ascends in
      In-flat_map (pairings_with m given) xs z own.configs at_xs
      (In-flat_map (pairings m xs) ys z given.configs at_ys
      (subst (λ w. In w (pairings m xs ys)) is
      (In-map (λ order. sorted (beside_in m xs ys order)) order (placements (length xs)) (subst (λ c. In order (placements c)) count at_order))))

  pub all_listed : list_set (all_pairings m own given) ≡ (pairs_of n m own given).configs
  all_listed =
      one_set (list_set (all_pairings m own given)) (pairs_of n m own given).configs (rising-list_set (all_pairings m own given))
      (rising-filter IsBefore IsBefore-trans (are_pairs m own given) (multisets own.degree 0 (n * m)) (multisets_law own.degree (n * m)).0)
      (λ z i. from_list z (In-list_set (all_pairings m own given) z i)) (λ z i. list_set-In (all_pairings m own given) z (to_list z i))

-- the pairs are below their number
pub pairs_low : (n m k : ℕ) (own given : Constraint) → 2 ≤ own.degree → own.degree ≤ 6 → k ≡ n * m → AllByRecursion (AllByRecursion (λ pair. pair < k)) (pairs_of n m own given).configs
pairs_low n m k own given low high e =
    AllByRecursion-weaker (IsConfig own.degree (n * m)) (AllByRecursion (λ pair. pair < k)) (λ config is. subst (λ b. AllByRecursion (λ pair. pair < b) config) (sym e) is.below) (pairs_of n m own given).configs
    (filtered_constraint own.degree (n * m) (are_pairs m own given) low high).configs

-- ---- what a walk over a list has put into a constraint
module _ (f : List ℕ → List (List ℕ)) (old all done rest now : List (List ℕ)) (whole : done ++ rest ≡ all) (e : now ≡ list_set (old ++ flat_map f done)) where
  -- the lists of one more
  joined : (x : List ℕ) → list_set (now ++ f x) ≡ list_set (old ++ flat_map f (done ++ x ∷ []))
  joined x =
      ap (λ w. list_set (w ++ f x)) e ∙ sym (list_set_append (old ++ flat_map f done) (f x))
      ∙ ap list_set (append_assoc old (flat_map f done) (f x) ∙ ap (λ w. old ++ w) (ap (λ w. flat_map f done ++ w) (sym (append-nil (f x))) ∙ sym (flat_map-append f done (x ∷ []))))

  pub one_more : (x : List ℕ) (new : List (List ℕ)) → new ≡ list_set (now ++ f x) → new ≡ list_set (old ++ flat_map f (done ++ x ∷ []))
  one_more x new n = n ∙ joined x

  pub too_many : (x : List ℕ) (behind : List (List ℕ)) → rest ≡ x ∷ behind → MAX_CONFIGURATIONS < length (list_set (now ++ f x)) → MAX_CONFIGURATIONS < length (list_set (old ++ flat_map f all))
  too_many x behind r many =
      let split : flat_map f all ≡ flat_map f (done ++ x ∷ []) ++ flat_map f behind =
      ap (flat_map f) (sym whole ∙ ap (λ w. done ++ w) r ∙ sym (append_assoc done (x ∷ []) behind)) ∙ flat_map-append f (done ++ x ∷ []) behind in
      let longer : length (list_set (old ++ flat_map f (done ++ x ∷ []))) ≤ length (list_set (old ++ flat_map f all)) =
      subst (λ w. length (list_set (old ++ flat_map f (done ++ x ∷ []))) ≤ length (list_set w)) (append_assoc old (flat_map f (done ++ x ∷ [])) (flat_map f behind) ∙ ap (λ w. old ++ w) (sym split))
      (list_set-longer (old ++ flat_map f (done ++ x ∷ [])) (flat_map f behind)) in
      omega (arith, longer, many, ap length (joined x))

  pub at_end : rest ≡ [] → now ≡ list_set (old ++ flat_map f all)
  at_end none = e ∙ ap (λ w. list_set (old ++ flat_map f w)) (sym (append-nil done) ∙ ap (λ w. done ++ w) (sym none) ∙ whole)

-- a map lists one for each
pub map-listed : (f : List ℕ → List ℕ) (xs : List (List ℕ)) → flat_map (λ x. f x ∷ []) xs ≡ map f xs
map-listed f [] = refl
map-listed f (x ∷ xs) = ap (λ w. f x ∷ w) (map-listed f xs)

-- nothing is put in yet
pub at_start : (f : List ℕ → List (List ℕ)) (old : List (List ℕ)) → IsRising IsBefore old → old ≡ list_set (old ++ flat_map f [])
at_start f old rises = sym (ap list_set (append-nil old) ∙ alone old rises)
