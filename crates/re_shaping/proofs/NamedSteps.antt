-- A label of the last problem has another name: the problem, and the step to it.
use Rattle.std.proofs.Common.{◌≡◌, ℕ, zero, suc, ◌+◌, ◌<◌, Bool, true, false, cond, not, eqb, List, [], ◌∷◌, ◌++◌, length, map, get_or, set, None, Some, refl, sym, ap, ◌∙◌, subst, arith, ◌⊎◌, inl, inr}
use Rattle.std.proofs.lemmas.List.{get_or-map, get_or-set_other, get_or-set_same, length-set, map-id}
use Rattle.std.proofs.lemmas.Map.Steps.{le-length_from_below}
use Rattle.std.specs.Prelude.{Contains, ◌&&◌, ◌||◌, filter, flat_map, if◌then◌else◌}
use Rattle.std.specs.List.{AllByRecursion, list_all, list_any}
use Rattle.std.specs.Str.{bytes_eq}
use Rattle.std.proofs.lemmas.Slice.Eq.{bytes_eq-Decides}
use Rattle.re_labels.proofs.Rearranging.{Rearranged-map}
use Rattle.re_labels.proofs.Sorting.{Rearranged-sorted}
use Rattle.re_labels.specs.Configs.{image_at, image_of}
use Rattle.re_labels.specs.Rearranging.{Rearranged}
use Rattle.re_labels.proofs.Before.{IsBefore-apart, same_list-refl, same_list-same, three_ways}
use Rattle.re_labels.proofs.ListSets.{In-list_set, list_set-In, rising-list_set}
use Rattle.re_labels.proofs.Membership.{AllByRecursion-In, AllByRecursion-from_In, Contains-In, In, In-Contains, In-filter_from, In-flat_map_from, In-map, In-map_from, all-In, all-In_from, any-In, get_or-count_from, length-count_from, length-map', map-alike}
use Rattle.re_labels.proofs.LabelPlaces.{get-place_of, place_of-below}
use Rattle.re_labels.proofs.Searching.{place_of-at}
use Rattle.re_labels.proofs.Tests.{and-true, eqb-same, eqb-true, or-left, or-right, true-and}
use Rattle.re_labels.specs.Lists.{IsBefore, count_from, place_of, same_list}
use Rattle.re_labels.specs.ListSets.{list_set}
use Rattle.re_labels.specs.Names.{IsName, IsNames}
use Rattle.re_problem.proofs.ListSizes.{length-list_set}
use Rattle.re_problem.proofs.NewNumbers.{named_in, names_rise}
use Rattle.re_problem.proofs.StepLaws.{map-map}
use Rattle.re_problem.proofs.UsedLabels.{all_counted}
use Rattle.re_problem.specs.NamedProblems.{IsNamedProblem, NamedProblem, all_occur, are_named, built, occurs, unnamed}
use Rattle.re_problem.specs.Problems.{IsProblem}
use Rattle.re_problem.specs.Steps.LowerMap.{by_row, by_set}
use Rattle.re_problem.specs.Steps.{IsRelaxed, LowerMap, SetEntry, entry_sets, set_for}
use Rattle.re_labels.proofs.ConstraintImages.{IsConstraint-image, config-below, image-from, image-held}
use Rattle.re_labels.proofs.Goodness.{IsAllowed-Rearranged, IsAllowed-is_allowed, IsGood-Rearranged, IsGood-is_good, is_allowed-IsAllowed, is_good-IsGood}
use Rattle.re_labels.specs.Constraints.{Constraint, IsConstraint}
use Rattle.re_labels.specs.GoodRows.{is_allowed, is_good}
use Rattle.re_changes.proofs.Numbering.{image-named, image-occurs}
use Rattle.re_changes.proofs.OneChange.{below-counted, counted-below}
use Rattle.re_cert.proofs.KnownEntries.{entries-fit}
use Rattle.re_cert.specs.Bounds.{BoundStep, entries_in, entry_fits, is_by_row, is_lower, map_fits, step_fits}
use Rattle.re_cert.specs.declared.certificate.Kind.{Kind}
use Rattle.re_check.proofs.StepMeaning.{all_pass, lower_clauses, none_fails}
use Rattle.re_check.specs.Clauses.{is_filled, meets, step_clauses, step_fault}
use Rattle.re_check.specs.declared.clause.Clause.TheVariants.{U1, U2, U3, U4}
use Rattle.re_check.proofs.Meaning.{kind-lower}
use Rattle.re_shaping.proofs.LastSteps.{Keeps}
use Rattle.re_shaping.proofs.NamedProblems.{IsNamed-built}
use Rattle.re_shaping.proofs.RelaxedSteps.{relaxed-step}
use Rattle.re_shaping.proofs.StepsAlong.{along-form, is-upper, map-fits, parts-fit, step-parts}
use Rattle.re_shaping.specs.Chains.{entry_sent, sent_along, step_along}
use Rattle.re_shaping.specs.Naming.{by_label, is_taken, name_numbers, named_problem, named_step, names_with}

-- ---- lists
get-below : (names : List (List ℕ)) (v : List ℕ) → In v names → (k : ℕ) × (k < length names) × (get_or names k [] ≡ v)
get-below [] v i = absurd i
get-below (name ∷ names) v (inl e) = (0, omega arith, sym e)
get-below (name ∷ names) v (inr i) = let (k, l, e) = get-below names v i in (suc k, omega arith, e)

In-set : (names : List (List ℕ)) (x : ℕ) (name v : List ℕ) → In v (set names x name) → (v ≡ name) ⊎ In v names
In-set [] x name v i = inr i
In-set (first ∷ names) zero name v (inl e) = inl e
In-set (first ∷ names) zero name v (inr i) = inr (inr i)
In-set (first ∷ names) (suc x) name v (inl e) = inr (inl e)
In-set (first ∷ names) (suc x) name v (inr i) = elim (In-set names x name v i) [ inl e ↦ inl e | inr j ↦ inr (inr j) ]

-- the one element that passes
filter-none : {X : Type 0} (p : X → Bool) (xs : List X) (d : X) → ((j : ℕ) → j < length xs → p (get_or xs j d) ≡ true → ⊥) → filter p xs ≡ []
filter-none p [] d none = refl
filter-none {X} p (x ∷ xs) d none = go (p x) refl (filter-none p xs d (λ j l h. none (suc j) (omega arith) h))
  where
    go : (b : Bool) → p x ≡ b → filter p xs ≡ [] → cond b (x ∷ filter p xs) (filter p xs) ≡ []
    go true e rest = absurd (none 0 (omega arith) e)
    go false e rest = rest

filter-one : {X : Type 0} (p : X → Bool) (xs : List X) (k : ℕ) (d : X) → k < length xs → p (get_or xs k d) ≡ true → ((j : ℕ) → j < length xs → p (get_or xs j d) ≡ true → j ≡ k) → filter p xs ≡ get_or xs k d ∷ []
filter-one p [] k d l h alone = absurd (omega arith)
filter-one p (x ∷ xs) zero d l h alone =
    ap (λ b. cond b (x ∷ filter p xs) (filter p xs)) h ∙ ap (λ r. x ∷ r) (filter-none p xs d (λ j m i. let e = alone (suc j) (omega arith) i in absurd (omega arith)))
filter-one {X} p (x ∷ xs) (suc k) d l h alone = go (p x) refl (filter-one p xs k d (omega arith) h (λ j m i. let e = alone (suc j) (omega arith) i in omega arith))
  where
    go : (b : Bool) → p x ≡ b → filter p xs ≡ get_or xs k d ∷ [] → cond b (x ∷ filter p xs) (filter p xs) ≡ get_or xs k d ∷ []
    go true e rest = let wrong = alone 0 (omega arith) e in absurd (omega arith)
    go false e rest = rest

flat-singles : {X Y : Type 0} (f : X → List Y) (g : X → Y) (xs : List X) → ((x : X) → In x xs → f x ≡ g x ∷ []) → flat_map f xs ≡ map g xs
flat-singles f g [] h = refl
flat-singles f g (x ∷ xs) h = ap (λ l. l ++ flat_map f xs) (h x (inl refl)) ∙ ap (λ l. g x ∷ l) (flat-singles f g xs (λ y i. h y (inr i)))

module _ (x : ℕ) (name : List ℕ) (problem : NamedProblem) (is : IsNamedProblem problem) (below : x < length problem.names) where
  renamed : List (List ℕ)
  renamed = names_with x name problem

  count : length (names_with x name problem) ≡ length problem.names
  count = length-set problem.names x name

  -- the number of a label is the place of its name
  number-is : (label : ℕ) → label < length problem.names → image_at (name_numbers x name problem) label ≡ place_of (list_set (names_with x name problem)) (get_or (names_with x name problem) label [])
  number-is label l = get_or-map (place_of (list_set (names_with x name problem))) (names_with x name problem) label [] 0 (let c = count in omega arith)

  held : (label : ℕ) → label < length problem.names → Contains (list_set (names_with x name problem)) (get_or (names_with x name problem) label [])
  held label l = In-Contains (get_or (names_with x name problem) label []) (list_set (names_with x name problem))
      (list_set-In (names_with x name problem) (get_or (names_with x name problem) label []) (named_in (names_with x name problem) label (let c = count in omega arith)))

  pub number-below : (label : ℕ) → label < length problem.names → image_at (name_numbers x name problem) label < length (list_set (names_with x name problem))
  number-below label l = subst (λ k. k < length (list_set (names_with x name problem))) (sym (number-is label l))
      (place_of-below (list_set (names_with x name problem)) (get_or (names_with x name problem) label []) (held label l))

  -- each new label is the number of a label
  number-from : (k : ℕ) → k < length (list_set (names_with x name problem)) → (label : ℕ) × (label < length problem.names) × (image_at (name_numbers x name problem) label ≡ k)
  number-from k l =
      let i = In-list_set (names_with x name problem) (get_or (list_set (names_with x name problem)) k []) (named_in (list_set (names_with x name problem)) k l) in
      let (label, m, e) = get-below (names_with x name problem) (get_or (list_set (names_with x name problem)) k []) i in
      let low : label < length problem.names = (let c = count in omega arith) in
      (label, low, number-is label low ∙ place_of-at (list_set (names_with x name problem)) k (get_or (names_with x name problem) label []) (rising-list_set (names_with x name problem)) l (sym e))

  pub named-names : IsName name → IsNames (list_set (names_with x name problem))
  named-names is_name = record {
    ascends = rising-list_set (names_with x name problem);
    each = AllByRecursion-from_In IsName (list_set (names_with x name problem)) (λ v i.
        elim (In-set problem.names x name v (In-list_set (names_with x name problem) v i)) [
          | inl e ↦ subst IsName (sym e) is_name
          | inr j ↦ AllByRecursion-In IsName problem.names v is.names.each j
        ]);
    few = let most = length-list_set (names_with x name problem) in let c = count in let f = is.names.few in omega arith;
  }

  number-low : (constraint : Constraint) → IsConstraint (length problem.names) constraint → (config : List ℕ) (label : ℕ) → In config constraint.configs → In label config
      → image_at (name_numbers x name problem) label < length (list_set (names_with x name problem))
  number-low constraint fine config label i j = number-below label (config-below (length problem.names) constraint fine config label i j)

  pub named-is : IsProblem (unnamed (named_problem x name problem))
  named-is = record {
    active = IsConstraint-image (name_numbers x name problem) problem.active (length problem.names) (length (list_set (names_with x name problem))) is.problem.active (number-low problem.active is.problem.active);
    passive = IsConstraint-image (name_numbers x name problem) problem.passive (length problem.names) (length (list_set (names_with x name problem))) is.problem.passive (number-low problem.passive is.problem.passive);
  }

  pub named-built : built (named_problem x name problem).names (named_problem x name problem).active (named_problem x name problem).passive ≡ Some (named_problem x name problem)
  named-built =
      passes (are_named (length (list_set (names_with x name problem))) (named_problem x name problem).active) (are_named (length (list_set (names_with x name problem))) (named_problem x name problem).passive)
      (all_occur (length (list_set (names_with x name problem))) (named_problem x name problem).active (named_problem x name problem).passive)
      (image-named (name_numbers x name problem) problem.active (length (list_set (names_with x name problem))) (number-low problem.active is.problem.active))
      (image-named (name_numbers x name problem) problem.passive (length (list_set (names_with x name problem))) (number-low problem.passive is.problem.passive))
      (all_counted (λ label. occurs (named_problem x name problem).active label || occurs (named_problem x name problem).passive label) (length (list_set (names_with x name problem))) (λ k l.
      let (label, m, e) = number-from k l in
      elim (is.occur label m) [
        | inl o ↦ or-left (occurs (named_problem x name problem).active k) (occurs (named_problem x name problem).passive k)
            (subst (λ k. occurs (named_problem x name problem).active k ≡ true) e (image-occurs (name_numbers x name problem) problem.active label o))
        | inr o ↦ or-right (occurs (named_problem x name problem).active k) (occurs (named_problem x name problem).passive k)
            (subst (λ k. occurs (named_problem x name problem).passive k ≡ true) e (image-occurs (name_numbers x name problem) problem.passive label o))
      ]))
    where
      passes : (a b c : Bool) → a ≡ true → b ≡ true → c ≡ true → cond (a && b && c) (Some (named_problem x name problem)) None ≡ Some (named_problem x name problem)
      passes a b c ea eb ec =
          ap (λ t. cond (t && b && c) (Some (named_problem x name problem)) None) ea ∙ ap (λ t. cond (true && t && c) (Some (named_problem x name problem)) None) eb
          ∙ ap (λ t. cond (true && true && t) (Some (named_problem x name problem)) None) ec

  pub named-named : IsName name → IsNamedProblem (named_problem x name problem)
  named-named is_name = IsNamed-built (named_problem x name problem) (named-names is_name) named-is named-built

  pub named-relaxed : IsRelaxed (unnamed problem) (unnamed (named_problem x name problem)) (image_at (name_numbers x name problem))
  named-relaxed = record {
    active_degree = refl;
    passive_degree = refl;
    active = image-held (name_numbers x name problem) problem.active;
    passive = image-held (name_numbers x name problem) problem.passive;
  }

  -- ---- the names are different
  module _ (free : is_taken x name problem ≡ false) where
    names-apart : (a b : ℕ) → a < length problem.names → b < length problem.names → get_or problem.names a [] ≡ get_or problem.names b [] → a ≡ b
    names-apart a b la lb e = elim (three_ways a b) [
      | inl low ↦ absurd (IsBefore-apart (get_or problem.names b []) (subst (λ v. IsBefore v (get_or problem.names b [])) e (names_rise problem.names a b is.names.ascends low lb)))
      | inr more ↦ elim more [
        | inl same ↦ same
        | inr high ↦ absurd (IsBefore-apart (get_or problem.names a []) (subst (λ v. IsBefore v (get_or problem.names a [])) (sym e) (names_rise problem.names b a is.names.ascends high la)))
      ]
    ]

    -- another label doesn't have the name
    not-taken : (b : ℕ) → b < length problem.names → (b ≡ x → ⊥) → name ≡ get_or problem.names b [] → ⊥
    not-taken b l apart e =
        let yes : list_any (same_list name) problem.names ≡ true = any-In (same_list name) (get_or problem.names b []) problem.names (named_in problem.names b l) (ap (same_list name) (sym e) ∙ same_list-refl name) in
        go (same_list name (get_or problem.names x [])) refl (ap (λ t. t && not (same_list name (get_or problem.names x []))) (sym yes) ∙ free)
      where
        go : (t : Bool) → same_list name (get_or problem.names x []) ≡ t → (true && not (same_list name (get_or problem.names x []))) ≡ false → ⊥
        go true f h = apart (names-apart b x l below (sym e ∙ same_list-same name (get_or problem.names x []) f))
        go false f h = let wrong : true ≡ false = ap not (sym f) ∙ h in cc

    at_x : get_or (names_with x name problem) x [] ≡ name
    at_x = get_or-set_same problem.names x name [] below

    at_other : (a : ℕ) → (a ≡ x → ⊥) → get_or (names_with x name problem) a [] ≡ get_or problem.names a []
    at_other a apart = get_or-set_other problem.names x a name [] apart

    all-apart : (a b : ℕ) → a < length problem.names → b < length problem.names → get_or (names_with x name problem) a [] ≡ get_or (names_with x name problem) b [] → a ≡ b
    all-apart a b la lb e = go (eqb a x) (eqb b x) refl refl
      where
        different : (c : ℕ) → eqb c x ≡ false → c ≡ x → ⊥
        different c f s = let wrong : false ≡ true = sym f ∙ ap (λ d. eqb d x) s ∙ eqb-same x in cc

        go : (s t : Bool) → eqb a x ≡ s → eqb b x ≡ t → a ≡ b
        go true true f g = eqb-true a x f ∙ sym (eqb-true b x g)
        go true false f g =
            let here : get_or (names_with x name problem) a [] ≡ name = ap (λ c. get_or (names_with x name problem) c []) (eqb-true a x f) ∙ at_x in
            absurd (not-taken b lb (different b g) (sym here ∙ e ∙ at_other b (different b g)))
        go false true f g =
            let here : get_or (names_with x name problem) b [] ≡ name = ap (λ c. get_or (names_with x name problem) c []) (eqb-true b x g) ∙ at_x in
            absurd (not-taken a la (different a f) (sym here ∙ sym e ∙ at_other a (different a f)))
        go false false f g = names-apart a b la lb (sym (at_other a (different a f)) ∙ e ∙ at_other b (different b g))

    -- the label that has a new number
    back : ℕ → ℕ
    back k = place_of (names_with x name problem) (get_or (list_set (names_with x name problem)) k [])

    there : (k : ℕ) → k < length (list_set (names_with x name problem)) → Contains (names_with x name problem) (get_or (list_set (names_with x name problem)) k [])
    there k l = In-Contains (get_or (list_set (names_with x name problem)) k []) (names_with x name problem)
        (In-list_set (names_with x name problem) (get_or (list_set (names_with x name problem)) k []) (named_in (list_set (names_with x name problem)) k l))

    back-below : (k : ℕ) → k < length (list_set (names_with x name problem)) → place_of (names_with x name problem) (get_or (list_set (names_with x name problem)) k []) < length problem.names
    back-below k l = let low = place_of-below (names_with x name problem) (get_or (list_set (names_with x name problem)) k []) (there k l) in let c = count in omega arith

    number-back : (k : ℕ) → k < length (list_set (names_with x name problem)) → image_at (name_numbers x name problem) (place_of (names_with x name problem) (get_or (list_set (names_with x name problem)) k [])) ≡ k
    number-back k l =
        number-is (place_of (names_with x name problem) (get_or (list_set (names_with x name problem)) k [])) (back-below k l)
        ∙ place_of-at (list_set (names_with x name problem)) k (get_or (names_with x name problem) (place_of (names_with x name problem) (get_or (list_set (names_with x name problem)) k [])) []) (rising-list_set (names_with x name problem)) l
        (sym (get-place_of (names_with x name problem) (get_or (list_set (names_with x name problem)) k []) (there k l)))

    -- different labels have different numbers
    number-apart : (a b : ℕ) → a < length problem.names → b < length problem.names → image_at (name_numbers x name problem) a ≡ image_at (name_numbers x name problem) b → a ≡ b
    number-apart a b la lb e = all-apart a b la lb
        (sym (get-place_of (list_set (names_with x name problem)) (get_or (names_with x name problem) a []) (held a la))
        ∙ ap (λ k. get_or (list_set (names_with x name problem)) k []) (sym (number-is a la) ∙ e ∙ number-is b lb)
        ∙ get-place_of (list_set (names_with x name problem)) (get_or (names_with x name problem) b []) (held b lb))

    -- there are as many names as before
    pub count-names : length (list_set (names_with x name problem)) ≡ length problem.names
    count-names =
        let most = length-list_set (names_with x name problem) in
        let c = count in
        let backs : List ℕ = map (λ k. place_of (names_with x name problem) (get_or (list_set (names_with x name problem)) k [])) (count_from 0 (length (list_set (names_with x name problem)))) in
        let size : length backs ≡ length (list_set (names_with x name problem)) = length-map' (λ k. place_of (names_with x name problem) (get_or (list_set (names_with x name problem)) k [])) (count_from 0 (length (list_set (names_with x name problem)))) ∙ length-count_from 0 (length (list_set (names_with x name problem))) in
        let least = le-length_from_below backs (length problem.names) (λ q l.
        let m = number-below q l in
        let same : q ≡ place_of (names_with x name problem) (get_or (list_set (names_with x name problem)) (image_at (name_numbers x name problem) q) []) =
        number-apart q (place_of (names_with x name problem) (get_or (list_set (names_with x name problem)) (image_at (name_numbers x name problem) q) [])) l (back-below (image_at (name_numbers x name problem) q) m) (sym (number-back (image_at (name_numbers x name problem) q) m)) in
        any-In (eqb q) (place_of (names_with x name problem) (get_or (list_set (names_with x name problem)) (image_at (name_numbers x name problem) q) [])) backs
        (In-map (λ k. place_of (names_with x name problem) (get_or (list_set (names_with x name problem)) k [])) (image_at (name_numbers x name problem) q) (count_from 0 (length (list_set (names_with x name problem)))) (counted-below (length (list_set (names_with x name problem))) (image_at (name_numbers x name problem) q) m))
        (ap (eqb q) (sym same) ∙ eqb-same q)) in
        omega arith

    -- ---- entries with all labels in order
    module _ (entries : List SetEntry) (order : map (λ (entry : SetEntry). entry.label) entries ≡ count_from 0 (length problem.names)) where
      no_entry : SetEntry
      no_entry = record { set = []; label = 0 }

      many : length entries ≡ length problem.names
      many = sym (length-map' (λ (entry : SetEntry). entry.label) entries) ∙ ap length order ∙ length-count_from 0 (length problem.names)

      label-at : (j : ℕ) → j < length problem.names → (get_or entries j (record { set = []; label = 0 })).label ≡ j
      label-at j l =
          let m : j < length entries = (let e = many in omega arith) in
          let z : 0 + j ≡ j = omega arith in
          sym (get_or-map (λ (entry : SetEntry). entry.label) entries j (record { set = []; label = 0 }) 0 m)
          ∙ ap (λ (labels : List ℕ). get_or labels j 0) order ∙ get_or-count_from 0 (length problem.names) j 0 l ∙ z

      -- the one entry of a new label
      one : (k : ℕ) → k < length (list_set (names_with x name problem))
          → filter (λ (entry : SetEntry). eqb entry.label k) (map (entry_sent (image_at (name_numbers x name problem))) entries)
          ≡ record { set = set_for entries (place_of (names_with x name problem) (get_or (list_set (names_with x name problem)) k [])); label = k } ∷ []
      one k l =
          let image = image_at (name_numbers x name problem) in
          let from : ℕ = place_of (names_with x name problem) (get_or (list_set (names_with x name problem)) k []) in
          let low : from < length problem.names = back-below k l in
          let m : from < length entries = (let e = many in omega arith) in
          let sent : (j : ℕ) → j < length problem.names → get_or (map (entry_sent (image_at (name_numbers x name problem))) entries) j (record { set = []; label = 0 }) ≡ record { set = set_for entries j; label = image_at (name_numbers x name problem) j }
          = λ j n. get_or-map (entry_sent (image_at (name_numbers x name problem))) entries j (record { set = []; label = 0 }) (record { set = []; label = 0 }) (let e = many in omega arith)
          ∙ ap (λ (label : ℕ). record { set = set_for entries j; label = image_at (name_numbers x name problem) label }) (label-at j n) in
          let size : length (map (entry_sent (image_at (name_numbers x name problem))) entries) ≡ length problem.names = length-map' (entry_sent (image_at (name_numbers x name problem))) entries ∙ many in
          filter-one (λ (entry : SetEntry). eqb entry.label k) (map (entry_sent (image_at (name_numbers x name problem))) entries) from (record { set = []; label = 0 }) (omega arith)
          (ap (λ (entry : SetEntry). eqb entry.label k) (sent from low) ∙ ap (λ n. eqb n k) (number-back k l) ∙ eqb-same k)
          (λ j n h.
          let here : j < length problem.names = omega arith in
          number-apart j from here low (eqb-true (image_at (name_numbers x name problem) j) k (sym (ap (λ (entry : SetEntry). eqb entry.label k) (sent j here)) ∙ h) ∙ sym (number-back k l)))
          ∙ ap (λ (entry : SetEntry). entry ∷ []) (sent from low ∙ ap (λ (label : ℕ). record { set = set_for entries from; label = label }) (number-back k l))

      -- each new label with the set of the label that has it as its number
      pub ordered : by_label (length problem.names) (map (entry_sent (image_at (name_numbers x name problem))) entries)
          ≡ map (λ k. record { set = set_for entries (place_of (names_with x name problem) (get_or (list_set (names_with x name problem)) k [])); label = k }) (count_from 0 (length problem.names))
      ordered = flat-singles (λ label. filter (λ (entry : SetEntry). eqb entry.label label) (map (entry_sent (image_at (name_numbers x name problem))) entries))
          (λ k. record { set = set_for entries (place_of (names_with x name problem) (get_or (list_set (names_with x name problem)) k [])); label = k }) (count_from 0 (length problem.names))
          (λ k i. let c = count-names in let l = below-counted (length problem.names) k i in one k (omega arith))

      pub labels-ordered : map (λ (entry : SetEntry). entry.label) (by_label (length problem.names) (map (entry_sent (image_at (name_numbers x name problem))) entries)) ≡ count_from 0 (length (list_set (names_with x name problem)))
      labels-ordered = ap (map (λ (entry : SetEntry). entry.label)) ordered
          ∙ map-map (λ (entry : SetEntry). entry.label) (λ k. record { set = set_for entries (place_of (names_with x name problem) (get_or (list_set (names_with x name problem)) k [])); label = k }) (count_from 0 (length problem.names))
          ∙ map-id (count_from 0 (length problem.names)) ∙ ap (count_from 0) (sym count-names)

      -- the set of a number is that of its label
      pub set-kept : (label : ℕ) → label < length problem.names
          → set_for entries label ≡ set_for (by_label (length problem.names) (map (entry_sent (image_at (name_numbers x name problem))) entries)) (image_at (name_numbers x name problem) label)
      set-kept label l =
          let number : ℕ = image_at (name_numbers x name problem) label in
          let low : number < length (list_set (names_with x name problem)) = number-below label l in
          let c = count-names in
          let below' : number < length problem.names = omega arith in
          let m : number < length (count_from 0 (length problem.names)) = (let e = length-count_from 0 (length problem.names) in omega arith) in
          let z : 0 + number ≡ number = omega arith in
          let same : label ≡ place_of (names_with x name problem) (get_or (list_set (names_with x name problem)) number []) =
          number-apart label (place_of (names_with x name problem) (get_or (list_set (names_with x name problem)) number [])) l (back-below number low) (sym (number-back number low)) in
          ap (set_for entries) same
          ∙ ap (λ k. set_for entries (place_of (names_with x name problem) (get_or (list_set (names_with x name problem)) k []))) (sym (get_or-count_from 0 (length problem.names) number 0 below' ∙ z))
          ∙ sym (ap (λ (entry : SetEntry). entry.set) (get_or-map (λ k. record { set = set_for entries (place_of (names_with x name problem) (get_or (list_set (names_with x name problem)) k [])); label = k }) (count_from 0 (length problem.names)) number 0 (record { set = []; label = 0 }) m))
          ∙ ap (λ (es : List SetEntry). set_for es number) (sym ordered)

      -- the sets of the image of a configuration are those of the configuration, in some order
      pub sets-moved : (constraint : Constraint) → IsConstraint (length problem.names) constraint → (config : List ℕ) → In config constraint.configs
          → Rearranged (map (set_for entries) config) (map (set_for (by_label (length problem.names) (map (entry_sent (image_at (name_numbers x name problem))) entries))) (image_of (name_numbers x name problem) config))
      sets-moved constraint fine config i =
          let ordered' : List SetEntry = by_label (length problem.names) (map (entry_sent (image_at (name_numbers x name problem))) entries) in
          let same : map (set_for (by_label (length problem.names) (map (entry_sent (image_at (name_numbers x name problem))) entries))) (map (image_at (name_numbers x name problem)) config) ≡ map (set_for entries) config =
          map-map (set_for (by_label (length problem.names) (map (entry_sent (image_at (name_numbers x name problem))) entries))) (image_at (name_numbers x name problem)) config
          ∙ map-alike (λ label. set_for (by_label (length problem.names) (map (entry_sent (image_at (name_numbers x name problem))) entries)) (image_at (name_numbers x name problem) label)) (set_for entries) config
          (λ label at. sym (set-kept label (config-below (length problem.names) constraint fine config label i (Contains-In label config at)))) in
          subst (λ row. Rearranged row (map (set_for (by_label (length problem.names) (map (entry_sent (image_at (name_numbers x name problem))) entries))) (image_of (name_numbers x name problem) config))) same
          (Rearranged-map (set_for (by_label (length problem.names) (map (entry_sent (image_at (name_numbers x name problem))) entries))) (Rearranged-sorted (map (image_at (name_numbers x name problem)) config)))

-- ---- the step
module _ (kind : Kind) (x : ℕ) (name : List ℕ) (before : NamedProblem) (s : BoundStep) (is_name : IsName name) (l : x < length s.next.names) (free : is_taken x name s.next ≡ false) (is : IsNamedProblem s.next) where
  image : ℕ → ℕ
  image = image_at (name_numbers x name s.next)

  -- an entry in the order of labels is one of the entries sent along
  In-by_label : (n : ℕ) (entries : List SetEntry) (entry : SetEntry) → In entry (by_label n entries) → In entry entries
  In-by_label n entries entry i =
      let (label, j, h) = In-flat_map_from (λ label. filter (λ (entry : SetEntry). eqb entry.label label) entries) entry (count_from 0 n) i in
      (In-filter_from (λ (entry : SetEntry). eqb entry.label label) entry entries h).0

  name-fits : step_fits kind before s ≡ true → step_fits kind before (named_step x name s) ≡ true
  name-fits fits =
      let parts = step-parts kind before s fits in
      let sent = map-fits before s.next (named_problem x name s.next) (image_at (name_numbers x name s.next)) (λ label low. number-below x name s.next is l label low) s.map parts.map in
      parts-fit kind before (named_step x name s) (record {
        kind_is = kinds s.lower s.map parts.kind_is;
        few = parts.few;
        rows = parts.rows;
        map = maps s.lower sent;
      })
    where
      form : (b : Bool) (map : LowerMap) → is_by_row (if b then sent_along (image_at (name_numbers x name s.next)) map else by_set (by_label (length s.next.names) (entries_in (sent_along (image_at (name_numbers x name s.next)) map)))) ≡ (if b then is_by_row map else false)
      form true map = along-form (image_at (name_numbers x name s.next)) map
      form false map = refl

      kinds : (b : Bool) (map : LowerMap) → (if b then is_lower kind else not (is_lower kind) && not (is_by_row map)) ≡ true
          → (if b then is_lower kind else not (is_lower kind) && not (is_by_row (if b then sent_along (image_at (name_numbers x name s.next)) map else by_set (by_label (length s.next.names) (entries_in (sent_along (image_at (name_numbers x name s.next)) map)))))) ≡ true
      kinds true map h = h
      kinds false map h = true-and (not (is_lower kind)) true (and-true (not (is_lower kind)) (not (is_by_row map)) h).0 refl

      maps : (b : Bool) → map_fits before (named_problem x name s.next) (sent_along (image_at (name_numbers x name s.next)) s.map) ≡ true
          → map_fits before (named_problem x name s.next) (if b then sent_along (image_at (name_numbers x name s.next)) s.map else by_set (by_label (length s.next.names) (entries_in (sent_along (image_at (name_numbers x name s.next)) s.map)))) ≡ true
      maps true h = h
      maps false h =
          let all = entries-fit before (named_problem x name s.next) (sent_along (image_at (name_numbers x name s.next)) s.map) h in
          all-In_from (entry_fits before (named_problem x name s.next)) (by_label (length s.next.names) (entries_in (sent_along (image_at (name_numbers x name s.next)) s.map))) (λ entry i.
          all-In (entry_fits before (named_problem x name s.next)) (entries_in (sent_along (image_at (name_numbers x name s.next)) s.map)) all entry (In-by_label (length s.next.names) (entries_in (sent_along (image_at (name_numbers x name s.next)) s.map)) entry i))

  -- a lower step
  lower-sound : s.lower ≡ true → step_fault before s ≡ None → step_fault before (named_step x name s) ≡ None
  lower-sound low none =
      let same : named_step x name s ≡ step_along (image_at (name_numbers x name s.next)) (named_problem x name s.next) s =
      ap (λ b. record { lower = s.lower; next = named_problem x name s.next; rows = s.rows; map = if b then sent_along (image_at (name_numbers x name s.next)) s.map else by_set (by_label (length s.next.names) (entries_in (sent_along (image_at (name_numbers x name s.next)) s.map))) }) low in
      ap (step_fault before) same
      ∙ (lower_clauses before (step_along (image_at (name_numbers x name s.next)) (named_problem x name s.next) s) low).1
      (relaxed-step (unnamed before) (unnamed s.next) (unnamed (named_problem x name s.next)) s.rows s.map (image_at (name_numbers x name s.next)) ((lower_clauses before s low).0 none) (named-relaxed x name s.next is l))

  -- an upper step
  upper-sound : s.lower ≡ false → is_by_row s.map ≡ false → step_fault before s ≡ None → step_fault before (named_step x name s) ≡ None
  upper-sound low by none =
      let same : named_step x name s ≡ record { lower = false; next = named_problem x name s.next; rows = s.rows; map = by_set (by_label (length s.next.names) (entries_in (sent_along (image_at (name_numbers x name s.next)) s.map))) } =
      ap (λ b. record { lower = b; next = named_problem x name s.next; rows = s.rows; map = if b then sent_along (image_at (name_numbers x name s.next)) s.map else by_set (by_label (length s.next.names) (entries_in (sent_along (image_at (name_numbers x name s.next)) s.map))) }) low in
      let clauses : step_clauses s ≡ U1 ∷ U2 ∷ U3 ∷ U4 ∷ [] = ap (λ b. step_clauses (record s { lower = b })) low in
      let met = subst (AllByRecursion (λ clause. meets before s clause ≡ true)) clauses (all_pass (meets before s) (step_clauses s) none) in
      ap (step_fault before) same ∙ go s.map by met
    where
      go : (map : LowerMap) → is_by_row map ≡ false → AllByRecursion (λ clause. meets before (record s { map = map }) clause ≡ true) (U1 ∷ U2 ∷ U3 ∷ U4 ∷ [])
          → step_fault before (record { lower = false; next = named_problem x name s.next; rows = s.rows; map = by_set (by_label (length s.next.names) (entries_in (sent_along (image_at (name_numbers x name s.next)) map))) }) ≡ None
      go (by_row images) by met = cc
      go (by_set entries) by (degrees, (labels, (good, (allow, u)))) =
          let moved : List SetEntry = by_label (length s.next.names) (map (entry_sent (image_at (name_numbers x name s.next))) entries) in
          let two = and-true (bytes_eq (map (λ (entry : SetEntry). entry.label) entries) (count_from 0 (length s.next.names))) (list_all (is_filled before) (entry_sets entries)) labels in
          let order : map (λ (entry : SetEntry). entry.label) entries ≡ count_from 0 (length s.next.names) = (bytes_eq-Decides (map (λ (entry : SetEntry). entry.label) entries) (count_from 0 (length s.next.names))).0 two.0 in
          none_fails (meets before (record { lower = false; next = named_problem x name s.next; rows = s.rows; map = by_set (by_label (length s.next.names) (map (entry_sent (image_at (name_numbers x name s.next))) entries)) })) (U1 ∷ U2 ∷ U3 ∷ U4 ∷ []) (
            degrees,
            (
              true-and (bytes_eq (map (λ (entry : SetEntry). entry.label) (by_label (length s.next.names) (map (entry_sent (image_at (name_numbers x name s.next))) entries))) (count_from 0 (length (list_set (names_with x name s.next)))))
                  (list_all (is_filled before) (entry_sets (by_label (length s.next.names) (map (entry_sent (image_at (name_numbers x name s.next))) entries))))
                  ((bytes_eq-Decides (map (λ (entry : SetEntry). entry.label) (by_label (length s.next.names) (map (entry_sent (image_at (name_numbers x name s.next))) entries))) (count_from 0 (length (list_set (names_with x name s.next))))).1
                  (labels-ordered x name s.next is l free entries order))
                  (all-In_from (is_filled before) (entry_sets (by_label (length s.next.names) (map (entry_sent (image_at (name_numbers x name s.next))) entries))) (λ set i.
                  let (sent, j, e) = In-map_from (λ (entry : SetEntry). entry.set) set (by_label (length s.next.names) (map (entry_sent (image_at (name_numbers x name s.next))) entries)) i in
                  let (entry, k, f) = In-map_from (entry_sent (image_at (name_numbers x name s.next))) sent entries (In-by_label (length s.next.names) (map (entry_sent (image_at (name_numbers x name s.next))) entries) sent j) in
                  ap (is_filled before) (e ∙ ap (λ (entry : SetEntry). entry.set) f) ∙ all-In (is_filled before) (entry_sets entries) two.1 entry.set (In-map (λ (entry : SetEntry). entry.set) entry entries k))),
              (
                all-In_from (λ config. is_good before.passive (map (set_for (by_label (length s.next.names) (map (entry_sent (image_at (name_numbers x name s.next))) entries))) config)) (named_problem x name s.next).active.configs (λ config i.
                    let (from, j, e) = image-from (name_numbers x name s.next) s.next.active config i in
                    ap (λ config. is_good before.passive (map (set_for (by_label (length s.next.names) (map (entry_sent (image_at (name_numbers x name s.next))) entries))) config)) e
                    ∙ IsGood-is_good before.passive (map (set_for (by_label (length s.next.names) (map (entry_sent (image_at (name_numbers x name s.next))) entries))) (image_of (name_numbers x name s.next) from))
                    (IsGood-Rearranged before.passive (sets-moved x name s.next is l free entries order s.next.active is.problem.active from j)
                    (is_good-IsGood before.passive (map (set_for entries) from) (all-In (λ config. is_good before.passive (map (set_for entries) config)) s.next.active.configs good from j)))),
                (
                  all-In_from (λ config. is_allowed before.active (map (set_for (by_label (length s.next.names) (map (entry_sent (image_at (name_numbers x name s.next))) entries))) config)) (named_problem x name s.next).passive.configs (λ config i.
                      let (from, j, e) = image-from (name_numbers x name s.next) s.next.passive config i in
                      ap (λ config. is_allowed before.active (map (set_for (by_label (length s.next.names) (map (entry_sent (image_at (name_numbers x name s.next))) entries))) config)) e
                      ∙ IsAllowed-is_allowed before.active (map (set_for (by_label (length s.next.names) (map (entry_sent (image_at (name_numbers x name s.next))) entries))) (image_of (name_numbers x name s.next) from))
                      (IsAllowed-Rearranged before.active (sets-moved x name s.next is l free entries order s.next.passive is.problem.passive from j)
                      (is_allowed-IsAllowed before.active (map (set_for entries) from) (all-In (λ config. is_allowed before.active (map (set_for entries) config)) s.next.passive.configs allow from j)))),
                  tt,
                ),
              ),
            ),
          )

  name-form : step_fits kind before s ≡ true → is_by_row (named_step x name s).map ≡ is_by_row s.map
  name-form fits = go s.lower (is_lower kind) refl refl (step-parts kind before s fits).kind_is
    where
      go : (b l : Bool) → s.lower ≡ b → is_lower kind ≡ l → (if s.lower then is_lower kind else (not (is_lower kind) && not (is_by_row s.map))) ≡ true
          → is_by_row (if s.lower then sent_along (image_at (name_numbers x name s.next)) s.map else by_set (by_label (length s.next.names) (entries_in (sent_along (image_at (name_numbers x name s.next)) s.map)))) ≡ is_by_row s.map
      go true l e f h = ap (λ b. is_by_row (if b then sent_along (image_at (name_numbers x name s.next)) s.map else by_set (by_label (length s.next.names) (entries_in (sent_along (image_at (name_numbers x name s.next)) s.map))))) e ∙ along-form (image_at (name_numbers x name s.next)) s.map
      go false true e f h = let wrong : false ≡ true = ap (λ l. not l && not (is_by_row s.map)) (sym f) ∙ ap (λ b. if b then is_lower kind else (not (is_lower kind) && not (is_by_row s.map))) (sym e) ∙ h in cc
      go false false e f h = ap (λ b. is_by_row (if b then sent_along (image_at (name_numbers x name s.next)) s.map else by_set (by_label (length s.next.names) (entries_in (sent_along (image_at (name_numbers x name s.next)) s.map))))) e
          ∙ sym (is-upper kind before s f fits).1

  pub name-keeps : Keeps kind before s (named_step x name s)
  name-keeps = record {
    fits = name-fits;
    sound = λ fits. go s.lower (is_lower kind) refl refl fits;
    problem = named-named x name s.next is l is_name;
    form = name-form;
  }
    where
      go : (b l : Bool) → s.lower ≡ b → is_lower kind ≡ l → step_fits kind before s ≡ true → step_fault before s ≡ None → step_fault before (named_step x name s) ≡ None
      go true l e f fits = lower-sound e
      go false true e f fits = let wrong : false ≡ true = sym e ∙ kind-lower kind before s f fits in cc
      go false false e f fits = upper-sound e (is-upper kind before s f fits).1
