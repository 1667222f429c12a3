-- The product with names is the product under other labels, and a problem.
use Rattle.std.proofs.Common.{◌≡◌, ℕ, zero, suc, ◌/◌, ◌%◌, ◌≤◌, ◌<◌, Bool, true, false, not, ◌||◌, List, [], ◌∷◌, length, map, get_or, refl, sym, ap, ◌∙◌, subst, inl, inr, ◌⊎◌, arith, Some, None, Option, cond, ltb}
use Rattle.std.specs.Prelude.{Contains, find, unwrap_or, ◌↔◌}
use Rattle.std.specs.List.{AllByRecursion}
use Rattle.std.proofs.lemmas.Bool.{false≢true, le-ltb, ltb-false}
use Rattle.std.proofs.lemmas.List.{get_or-map, map-id}
use Rattle.std.proofs.lemmas.List.Elements.{Contains-get_or}
use Rattle.std.proofs.lemmas.Nat.{div-add-mod'}
use Rattle.re_labels.proofs.Rearranging.{Contains-Rearranged, Rearranged-refl, length-Rearranged}
use Rattle.re_labels.proofs.Sorting.{AllByRecursion-Rearranged, Rearranged-sorted}
use Rattle.re_labels.specs.Configs.{IsConfig, image_at, image_of, sorted}
use Rattle.re_labels.specs.Rearranging.{Rearranged, chained, kept, swapped}
use Rattle.re_given.proofs.GivenProducts.{IsInput-product, SolvableGiven-from_product, SolvableGiven-product}
use Rattle.re_given.proofs.MappingGiven.{IsInput-same, SolvableGiven-relaxed}
use Rattle.re_given.proofs.Pairs.{IsProblem-product, from_parts}
use Rattle.re_given.specs.Given.{SolvableGiven}
use Rattle.re_given.specs.Inputs.{IsInput}
use Rattle.re_given.specs.Products.{firsts, pairs_of, product, seconds}
use Rattle.re_labels.proofs.Before.{same_list-refl, same_list-same}
use Rattle.re_labels.proofs.ListSets.{In-list_set, rising-list_set}
use Rattle.re_labels.proofs.Membership.{AllByRecursion-contains, AllByRecursion-from_In, Contains-In, In, In-Contains, In-map, In-map_from, any-In, Contains-count_from, Contains-map, count_from_range, get_or-count_from, length-count_from, length-map', map-alike}
use Rattle.re_labels.proofs.LabelPlaces.{get-place_of, place_of-below}
use Rattle.re_labels.proofs.Searching.{place_of-at}
use Rattle.re_labels.specs.Lists.{count_from, place_of, same_list}
use Rattle.re_labels.specs.Names.{IsName, IsNames, is_name}
use Rattle.re_labels.specs.declared.TheConstants.{MAX_LABELS}
use Rattle.re_problem.specs.NamedProblems.{IsNamedProblem, NamedProblem, OccursIn, unnamed}
use Rattle.re_problem.specs.Problems.{IsProblem}
use Rattle.re_problem.specs.Steps.{IsRelaxed}
use Rattle.re_labels.proofs.ConstraintImages.{IsConstraint-image, back-held, config-below, image-held, itself-held}
use Rattle.re_labels.proofs.Goodness.{Has-Rearranged}
use Rattle.re_labels.specs.Constraints.{Constraint, Has, IsConstraint}
use Rattle.re_inputs.proofs.PairingLemmas.{firsts-beside, seconds-beside}
use Rattle.re_inputs.proofs.ProductNames.{few_names, first_low, name_there, second_low}
use Rattle.re_inputs.specs.NamedProducts.{NamedProductLaw, is_full, is_long, is_nameless, is_taken, name_fault, named_product, nameless, pair_count, pair_name, pair_names, product_fault, product_labels, product_names, relabelled, full_fault}
use Rattle.re_inputs.specs.Pairings.{beside}
use Rattle.re_inputs.specs.declared.products.ProductFault.TheVariants.{Nameless, TooManyLabels}

-- ---- pairs that stand in the product
-- an element moves to the front
to_front : (x : ℕ) (xs : List ℕ) → In x xs → (rest : List ℕ) × Rearranged xs (x ∷ rest)
to_front x [] i = absurd i
to_front x (y ∷ xs) (inl e) = (xs, subst (λ z. Rearranged (y ∷ xs) (z ∷ xs)) (sym e) (Rearranged-refl (y ∷ xs)))
to_front x (y ∷ xs) (inr i) = let (rest, r) = to_front x xs i in (y ∷ rest, chained (kept r) swapped)

module _ (n m : ℕ) (own given : Constraint) (own_is : IsConstraint n own) (given_is : IsConstraint m given) (same : given.degree ≡ own.degree) where
  -- where both parts of a pair occur, it does
  pub pair_occurs : (pair : ℕ) → OccursIn own (pair / m) → OccursIn given (pair % m) → OccursIn (pairs_of n m own given) pair
  pair_occurs pair (xs, at_xs, in_xs) (ys, at_ys, in_ys) =
      let first : IsConfig own.degree n xs = AllByRecursion-contains (IsConfig own.degree n) own.configs xs own_is.configs at_xs in
      let second : IsConfig given.degree m ys = AllByRecursion-contains (IsConfig given.degree m) given.configs ys given_is.configs at_ys in
      let (xs', r) = to_front (pair / m) xs (Contains-In (pair / m) xs in_xs) in
      let (ys', s) = to_front (pair % m) ys (Contains-In (pair % m) ys in_ys) in
      let front : List ℕ = pair / m ∷ xs' in
      let back : List ℕ = pair % m ∷ ys' in
      let alike : length front ≡ length back = sym (length-Rearranged r) ∙ first.count ∙ sym same ∙ sym second.count ∙ length-Rearranged s in
      let low : AllByRecursion (λ y. y < m) back = AllByRecursion-Rearranged (λ y. y < m) s second.below in
      let pairs : List ℕ = beside m front back in
      let has : Has own (firsts m pairs) = subst (Has own) (sym (firsts-beside m front back alike low)) (Has-Rearranged own r (itself-held n own own_is xs at_xs)) in
      let has' : Has given (seconds m pairs) = subst (Has given) (sym (seconds-beside m front back alike low)) (Has-Rearranged given s (itself-held m given given_is ys at_ys)) in
      let here : In pair pairs = inl (sym (div-add-mod' pair m)) in (
        sorted pairs,
        from_parts n m own given own_is given_is pairs has has',
        Contains-Rearranged pair (Rearranged-sorted pairs) (In-Contains pair pairs here),
      )

-- ---- places of names that differ
-- the place of a list is that at which it stands first
place_first : (vs : List (List ℕ)) (k : ℕ) (v : List ℕ) → k < length vs → get_or vs k [] ≡ v → ((j : ℕ) → j < k → get_or vs j [] ≡ v → ⊥) → place_of vs v ≡ k
place_first [] k v l e apart = absurd (omega (arith, l))
place_first (w ∷ vs) zero v l e apart = ap (λ b. cond b 0 (suc (place_of vs v))) (ap (λ u. same_list u v) e ∙ same_list-refl v)
place_first (w ∷ vs) (suc k) v l e apart =
    go (same_list w v) refl (place_first vs k v (omega (arith, l)) e (λ j h at. apart (suc j) (omega (arith, h)) at))
  where
    go : (b : Bool) → same_list w v ≡ b → place_of vs v ≡ k → cond b 0 (suc (place_of vs v)) ≡ suc k
    go true same rest = absurd (apart 0 (omega arith) (same_list-same w v same))
    go false same rest = ap suc rest

-- a test that finds nothing fails everywhere
find_nothing : (p : ℕ → Bool) (xs : List ℕ) → find p xs ≡ None → (x : ℕ) → In x xs → p x ≡ false
find_nothing p [] e x i = absurd i
find_nothing p (y ∷ xs) e x i = go (p y) refl e i (λ e' j. find_nothing p xs e' x j)
  where
    go : (b : Bool) → p y ≡ b → cond b (Some y) (find p xs) ≡ None → In x (y ∷ xs) → (find p xs ≡ None → In x xs → p x ≡ false) → p x ≡ false
    go true at e i rest = absurd (cc)
    go false at e (inl same) rest = ap p same ∙ at
    go false at e (inr i) rest = rest e i

or_false : (a b : Bool) → (a || b) ≡ false → (a ≡ false) × (b ≡ false)
or_false true b e = absurd (false≢true (sym e))
or_false false b e = (refl, e)

-- ---- the product with names
module _ (problem input : NamedProblem) (few : pair_count problem input ≤ MAX_LABELS) (own : nameless problem input ≡ None) where
  its_own : (pair : ℕ) → pair < pair_count problem input → (is_long problem input pair ≡ false) × (is_taken problem input pair ≡ false)
  its_own pair l =
      or_false (is_long problem input pair) (is_taken problem input pair)
      (find_nothing (is_nameless problem input) (count_from 0 (pair_count problem input)) own pair
      (Contains-In pair (count_from 0 (pair_count problem input)) (Contains-count_from 0 (pair_count problem input) pair (omega arith) (omega (arith, l)))))

  pair_of_name : (name : List ℕ) → In name (product_names problem input) → (pair : ℕ) × (pair < pair_count problem input) × (name ≡ pair_name problem input pair)
  pair_of_name name i =
      let (pair, j, e) = In-map_from (pair_name problem input) name (count_from 0 (pair_count problem input)) (In-list_set (pair_names problem input (pair_count problem input)) name i) in
      (pair, omega (arith, (count_from_range 0 (pair_count problem input) pair (In-Contains pair (count_from 0 (pair_count problem input)) j)).1), e)

  pub IsNames-product : IsNames (product_names problem input)
  IsNames-product = record {
    ascends = rising-list_set (pair_names problem input (pair_count problem input));
    each = AllByRecursion-from_In IsName (product_names problem input) (λ name i. let (pair, l, e) = pair_of_name name i in subst IsName (sym e) (not_false (is_name (pair_name problem input pair)) (its_own pair l).0));
    few = omega (arith, few, few_names problem input (pair_count problem input));
  }
    where
      not_false : (b : Bool) → not b ≡ false → b ≡ true
      not_false true e = refl
      not_false false e = absurd (false≢true (sym e))

  -- the label of a pair
  label_is : (pair : ℕ) → pair < pair_count problem input → image_at (product_labels problem input) pair ≡ place_of (product_names problem input) (pair_name problem input pair)
  label_is pair l =
      let at : get_or (count_from 0 (pair_count problem input)) pair 0 ≡ pair = get_or-count_from 0 (pair_count problem input) pair 0 l ∙ omega arith in
      get_or-map (λ pair. place_of (product_names problem input) (pair_name problem input pair)) (count_from 0 (pair_count problem input)) pair 0 0 (omega (arith, l, length-count_from 0 (pair_count problem input)))
      ∙ ap (λ k. place_of (product_names problem input) (pair_name problem input k)) at

  label_low : (pair : ℕ) → pair < pair_count problem input → image_at (product_labels problem input) pair < length (product_names problem input)
  label_low pair l =
      let low = place_of-below (product_names problem input) (pair_name problem input pair) (In-Contains (pair_name problem input pair) (product_names problem input) (name_there problem input pair l)) in
      omega (arith, low, label_is pair l)

  -- the pair of a label
  pair_at : ℕ → ℕ
  pair_at label = place_of (pair_names problem input (pair_count problem input)) (get_or (product_names problem input) label [])

  back_again : (pair : ℕ) → pair < pair_count problem input → pair_at (image_at (product_labels problem input) pair) ≡ pair
  unfolding pair_at
  back_again pair l =
      let named : get_or (product_names problem input) (image_at (product_labels problem input) pair) [] ≡ pair_name problem input pair =
      ap (λ k. get_or (product_names problem input) k []) (label_is pair l)
      ∙ get-place_of (product_names problem input) (pair_name problem input pair) (In-Contains (pair_name problem input pair) (product_names problem input) (name_there problem input pair l)) in
      ap (place_of (pair_names problem input (pair_count problem input))) named
      ∙ place_first (pair_names problem input (pair_count problem input)) pair (pair_name problem input pair) (omega (arith, l, length-map' (pair_name problem input) (count_from 0 (pair_count problem input)), length-count_from 0 (pair_count problem input)))
      (listed pair l)
      (λ j h e. false≢true (sym (its_own pair l).1 ∙ any-In (same_list (pair_name problem input pair)) (pair_name problem input j) (pair_names problem input pair)
      (In-map (pair_name problem input) j (count_from 0 pair) (Contains-In j (count_from 0 pair) (Contains-count_from 0 pair j (omega arith) (omega (arith, h)))))
      (ap (same_list (pair_name problem input pair)) (sym (listed j (omega (arith, h, l))) ∙ e) ∙ same_list-refl (pair_name problem input pair))))
    where
      listed : (k : ℕ) → k < pair_count problem input → get_or (pair_names problem input (pair_count problem input)) k [] ≡ pair_name problem input k
      listed k h =
          get_or-map (pair_name problem input) (count_from 0 (pair_count problem input)) k 0 [] (omega (arith, h, length-count_from 0 (pair_count problem input)))
          ∙ ap (pair_name problem input) (get_or-count_from 0 (pair_count problem input) k 0 h ∙ omega arith)

  module _ (is : IsNamedProblem problem) (is_input : IsInput (unnamed problem) (unnamed input)) where
    whole : IsProblem (product (unnamed problem) (unnamed input))
    whole = IsProblem-product (unnamed problem) (unnamed input) is.problem

    constraint_of_side : (side : Constraint) → IsConstraint (pair_count problem input) side → IsConstraint (length (product_names problem input)) (relabelled (product_labels problem input) side)
    constraint_of_side side side_is =
        IsConstraint-image (product_labels problem input) side (pair_count problem input) (length (product_names problem input)) side_is
        (λ config x i j. label_low x (config-below (pair_count problem input) side side_is config x i j))

    IsProblem-named : IsProblem (unnamed (named_product problem input))
    IsProblem-named = record {
      active = constraint_of_side (product (unnamed problem) (unnamed input)).active whole.active;
      passive = constraint_of_side (product (unnamed problem) (unnamed input)).passive whole.passive;
    }

    -- a pair that occurs gives a label that occurs
    occurs_here : (side : Constraint) (label pair : ℕ) → pair < pair_count problem input → place_of (product_names problem input) (pair_name problem input pair) ≡ label → OccursIn side pair
        → OccursIn (relabelled (product_labels problem input) side) label
    occurs_here side label pair l e (config, held, at) = (
      image_of (product_labels problem input) config,
      image-held (product_labels problem input) side config held,
      subst (Contains (image_of (product_labels problem input) config)) (label_is pair l ∙ e)
          (Contains-Rearranged (image_at (product_labels problem input) pair) (Rearranged-sorted (map (image_at (product_labels problem input)) config)) (Contains-map (image_at (product_labels problem input)) config pair at)),
    )

    pub IsNamedProblem-product : IsNamedProblem (named_product problem input)
    IsNamedProblem-product = record { names = IsNames-product; problem = IsProblem-named; occur = occur }
      where
        occur : (label : ℕ) → label < length (product_names problem input) → OccursIn (named_product problem input).active label ⊎ OccursIn (named_product problem input).passive label
        occur label l =
            let name : List ℕ = get_or (product_names problem input) label [] in
            let (pair, low, e) = pair_of_name name (Contains-In name (product_names problem input) (Contains-get_or (product_names problem input) label [] l)) in
            let at : place_of (product_names problem input) (pair_name problem input pair) ≡ label = place_of-at (product_names problem input) label (pair_name problem input pair) IsNames-product.ascends l e in
            let given = is_input.occurs (pair % length input.names) (second_low (length problem.names) (length input.names) pair low) in
            elim (is.occur (pair / length input.names) (first_low (length problem.names) (length input.names) pair low)) [
              | inl here ↦ inl (occurs_here (product (unnamed problem) (unnamed input)).active label pair low at
                  (pair_occurs (length problem.names) (length input.names) problem.active input.active is.problem.active is_input.is_problem.active is_input.active_degree pair here given.0))
              | inr here ↦ inr (occurs_here (product (unnamed problem) (unnamed input)).passive label pair low at
                  (pair_occurs (length problem.names) (length input.names) problem.passive input.passive is.problem.passive is_input.is_problem.passive is_input.passive_degree pair here given.1))
            ]

    -- ---- relaxations
    forth : IsRelaxed (product (unnamed problem) (unnamed input)) (unnamed (named_product problem input)) (image_at (product_labels problem input))
    forth = record {
      active_degree = refl;
      passive_degree = refl;
      active = image-held (product_labels problem input) (product (unnamed problem) (unnamed input)).active;
      passive = image-held (product_labels problem input) (product (unnamed problem) (unnamed input)).passive;
    }

    side_back : (side : Constraint) → IsConstraint (pair_count problem input) side → (config : List ℕ) → Contains (relabelled (product_labels problem input) side).configs config → Has side (map pair_at config)
    side_back side side_is =
        back-held (product_labels problem input) side pair_at (λ config held.
        subst (Has side)
        (sym (map-alike (λ x. pair_at (image_at (product_labels problem input) x)) (λ x. x) config (λ x at. back_again x (config-below (pair_count problem input) side side_is config x (Contains-In config side.configs held) (Contains-In x config at))) ∙ map-id config))
        (itself-held (pair_count problem input) side side_is config held))

    back : IsRelaxed (unnamed (named_product problem input)) (product (unnamed problem) (unnamed input)) pair_at
    back = record {
      active_degree = refl;
      passive_degree = refl;
      active = side_back (product (unnamed problem) (unnamed input)).active whole.active;
      passive = side_back (product (unnamed problem) (unnamed input)).passive whole.passive;
    }

    pub as_solvable : (T : ℕ) → SolvableGiven (unnamed problem) (unnamed input) T ↔ SolvableGiven (unnamed (named_product problem input)) (unnamed input) T
    as_solvable T = (
      λ h. SolvableGiven-relaxed (product (unnamed problem) (unnamed input)) (unnamed (named_product problem input)) (unnamed input) (image_at (product_labels problem input)) T whole IsProblem-named
          (IsInput-product (unnamed problem) (unnamed input) is_input) forth (SolvableGiven-product (unnamed problem) (unnamed input) T is.problem is_input h),
      λ h. SolvableGiven-from_product (unnamed problem) (unnamed input) T is.problem is_input
          (SolvableGiven-relaxed (unnamed (named_product problem input)) (product (unnamed problem) (unnamed input)) (unnamed input) pair_at T IsProblem-named whole
          (IsInput-same (unnamed problem) (unnamed (named_product problem input)) (unnamed input) is_input refl refl) back h),
    )

-- ---- where no fault is told
pub no_fault : (problem input : NamedProblem) → product_fault problem input ≡ None → (pair_count problem input ≤ MAX_LABELS) × (nameless problem input ≡ None)
no_fault problem input e = go (ltb MAX_LABELS (pair_count problem input)) (nameless problem input) refl refl e
  where
    go : (b : Bool) (o : Option ℕ) → ltb MAX_LABELS (pair_count problem input) ≡ b → nameless problem input ≡ o → cond b (Some TooManyLabels) (name_fault o (full_fault (is_full problem input))) ≡ None
        → (pair_count problem input ≤ MAX_LABELS) × (nameless problem input ≡ None)
    go true o at is e = absurd (cc)
    go false (Some pair) at is e = absurd (cc)
    go false None at is e = (ltb-false MAX_LABELS (pair_count problem input) at, is)

pub as_solvable_named : NamedProductLaw
as_solvable_named problem input T is is_input e =
    let (few, own) = no_fault problem input e in
    as_solvable problem input few own is is_input T

-- ---- a pair without a name of its own
find_some : (p : ℕ → Bool) (xs : List ℕ) (x : ℕ) → find p xs ≡ Some x → In x xs
find_some p [] x e = absurd (cc)
find_some p (y ∷ xs) x e = go (p y) e (λ f. find_some p xs x f)
  where
    go : (b : Bool) → cond b (Some y) (find p xs) ≡ Some x → (find p xs ≡ Some x → In x xs) → In x (y ∷ xs)
    go true e rest = inl (ap (λ found. unwrap_or found x) (sym e))
    go false e rest = inr (rest e)

pub nameless_fault : (problem input : NamedProblem) (pair : ℕ) → pair_count problem input ≤ MAX_LABELS → nameless problem input ≡ Some pair
    → (product_fault problem input ≡ Some (Nameless pair)) × (pair < pair_count problem input)
nameless_fault problem input pair few e =
    let at = find_some (is_nameless problem input) (count_from 0 (pair_count problem input)) pair e in (
      (λ i. cond (le-ltb MAX_LABELS (pair_count problem input) few i) (Some TooManyLabels) (name_fault (e i) (full_fault (is_full problem input)))),
      omega (arith, (count_from_range 0 (pair_count problem input) pair (In-Contains pair (count_from 0 (pair_count problem input)) at)).1),
    )
