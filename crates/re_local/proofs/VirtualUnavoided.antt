-- Identifiers with virtual ports, seen from their passive nodes, are unavoidable where they have ports enough and alike ones are joined.
use Rattle.std.proofs.Common.{◌≡◌, ℕ, zero, suc, ◌+◌, ◌-◌, ◌*◌, ◌^◌, ◌≤◌, ◌<◌, Bool, eqb, ◌&&◌, inl, inr, List, [], ◌∷◌, filter, map, length, get_or, refl, sym, ◌∙◌, ap, subst, arith}
use Rattle.std.specs.Prelude.{Contains}
use Rattle.std.specs.List.{AllByRecursion, AllZip, list_any}
use Rattle.std.proofs.lemmas.List.{get_or-map, get_or_default, length-map}
use Rattle.std.proofs.lemmas.List.Elements.{Contains-get_or}
use Rattle.re_labels.proofs.LawsOfRows.{multisets_law}
use Rattle.re_labels.proofs.Rearranging.{Contains-Rearranged, Rearranged-sym}
use Rattle.re_labels.proofs.Sorting.{Rearranged-sorted, sorted_again}
use Rattle.re_labels.specs.Configs.{IsConfig, sorted}
use Rattle.re_labels.specs.Orders.{multisets}
use Rattle.re_given.proofs.Colourings.{pigeonhole}
use Rattle.re_given.specs.Inputs.{exchanged}
use Rattle.re_given.specs.Unavoidable.{IsMet, IsUnavoidable}
use Rattle.re_local.proofs.UnavoidableIdentifiers.{first_alike, first_ports, joined_there, labels_at_below, length-labels_at, same_port}
use Rattle.re_local.specs.Identifiers.{AreAlike, IdHypergraph, JoinsAlike, labels_at, virtual_identifiers}
use Rattle.re_labels.proofs.Membership.{AllByRecursion-contains, AllByRecursion-from_contains, Contains-cases, Contains-count_from, Contains-filter, Contains-filter_cases, Contains-here, Contains-later, Contains-map, Contains-map_cases, Contains-none, any_found, any_true, count_from_range, get_or-count_from, length-count_from}
use Rattle.re_labels.proofs.Numbers.{IsLabelSet-count_from, IsLabelSet-filter, set_of-number}
use Rattle.re_labels.proofs.Tests.{and-true, eqb-same, eqb-true, true-and}
use Rattle.re_labels.specs.Lists.{count_from}
use Rattle.re_labels.specs.Sets.{IsLabelSet, number, set_of}
use Rattle.re_problem.specs.Steps.{Becomes}
use Rattle.re_labels.specs.Constraints.{Constraint}
use Rattle.re_local.proofs.VirtualLabels.{labels_of, labels_rise, ports_there}

-- ---- the first of a list
abbrev firsts : ℕ → List ℕ → List ℕ
firsts zero xs = []
firsts (suc k) [] = []
firsts (suc k) (x ∷ xs) = x ∷ firsts k xs

length-firsts : (k : ℕ) (xs : List ℕ) → k ≤ length xs → length (firsts k xs) ≡ k
length-firsts zero xs l = refl
length-firsts (suc k) [] l = absurd (omega (arith, l))
length-firsts (suc k) (x ∷ xs) l = ap suc (length-firsts k xs (omega (arith, l)))

firsts_set : (n k : ℕ) (xs : List ℕ) → IsLabelSet n xs → IsLabelSet n (firsts k xs)
firsts_set n zero xs set = (tt, tt)
firsts_set n (suc k) [] set = (tt, tt)
firsts_set n (suc zero) (x ∷ xs) set = (tt, (set.1.0, tt))
firsts_set n (suc (suc k)) (x ∷ []) set = (tt, (set.1.0, tt))
firsts_set n (suc (suc k)) (x ∷ y ∷ xs) set =
    let rest : IsLabelSet n (firsts (suc k) (y ∷ xs)) = firsts_set n (suc k) (y ∷ xs) (set.0.1, set.1.1) in
    ((set.0.0, rest.0), (set.1.0, rest.1))

firsts_of : (k : ℕ) (xs : List ℕ) (x : ℕ) → Contains (firsts k xs) x → Contains xs x
firsts_of zero xs x at = absurd (Contains-none x at)
firsts_of (suc k) [] x at = absurd (Contains-none x at)
firsts_of (suc k) (y ∷ xs) x at = elim (Contains-cases x y (firsts k xs) at) [
  | inl e ↦ subst (Contains (y ∷ xs)) (sym e) (Contains-here y xs)
  | inr later ↦ Contains-later x y xs (firsts_of k xs x later)
]

-- whose labels stand at one and the same port
labels_cases : (M j u k : ℕ) (ids : List ℕ) → Contains (labels_at M ids (same_port j k)) u → (x : ℕ) × Contains ids x × (u ≡ x * M + j)
labels_cases M j u k [] at = absurd (Contains-none u at)
labels_cases M j u zero (x ∷ ids) at = absurd (Contains-none u at)
labels_cases M j u (suc k) (x ∷ ids) at = elim (Contains-cases u (x * M + j) (labels_at M ids (same_port j k)) at) [
  | inl e ↦ (x, Contains-here x ids, e)
  | inr later ↦ (let (y, held, is) = labels_cases M j u k ids later in (y, Contains-later y x ids held, is))
]

module _ (a M p N n : ℕ) (hyper : IdHypergraph) (image : List ℕ → List ℕ)
    (each : (config : List ℕ) → Contains (exchanged (virtual_identifiers a M p N hyper)).active.configs config → (length (image config) ≡ p) × AllByRecursion (λ x. x < n) (image config)) where
  abbrev edges : Constraint
  edges = (virtual_identifiers a M p N hyper).passive

  edge_is : (config : List ℕ) → Contains edges.configs config → IsConfig p (M * N) config
  edge_is config held = ((multisets_law p (M * N)).1 config).0 (Contains-filter_cases hyper (multisets p 0 (M * N)) config held).0

  -- ---- the labels that an identifier's label becomes
  -- whether it becomes y at this place of the edge
  abbrev is_at : ℕ → ℕ → List ℕ → ℕ → Bool
  is_at u y config k = eqb (get_or config k 0) u && eqb (get_or (image config) k 0) y

  abbrev is_beside : ℕ → ℕ → Bool
  is_beside u y = list_any (λ config. list_any (is_at u y config) (count_from 0 p)) edges.configs

  abbrev beside : ℕ → List ℕ
  beside u = filter (is_beside u) (count_from 0 n)

  beside_set : (u : ℕ) → IsLabelSet n (beside u)
  beside_set u = IsLabelSet-filter (is_beside u) n (count_from 0 n) (IsLabelSet-count_from 0 n n (omega arith))

  beside_at : (config : List ℕ) (k : ℕ) → Contains edges.configs config → k < p → Contains (beside (get_or config k 0)) (get_or (image config) k 0)
  beside_at config k held l =
      let u : ℕ = get_or config k 0 in
      let y : ℕ = get_or (image config) k 0 in
      let (count, below) = each config held in
      let low : y < n = AllByRecursion-contains (λ x. x < n) (image config) y below (Contains-get_or (image config) k 0 (omega (arith, l, count))) in
      Contains-filter (is_beside u) (count_from 0 n) y (Contains-count_from 0 n y (omega arith) (omega (arith, low)))
      (any_true (λ config. list_any (is_at u y config) (count_from 0 p)) edges.configs config held
      (any_true (is_at u y config) (count_from 0 p) k (Contains-count_from 0 p k (omega arith) (omega (arith, l)))
      (true-and (eqb u u) (eqb y y) (eqb-same u) (eqb-same y))))

  becomes_of : (u y : ℕ) → Contains (beside u) y → Becomes edges image u y
  becomes_of u y held =
      let (config, there, some) = any_found (λ config. list_any (is_at u y config) (count_from 0 p)) edges.configs (Contains-filter_cases (is_beside u) (count_from 0 n) y held).1 in
      let (k, within, both) = any_found (is_at u y config) (count_from 0 p) some in
      let (left, right) = and-true (eqb (get_or config k 0) u) (eqb (get_or (image config) k 0) y) both in
      let l : k < p = (let range = (count_from_range 0 p k within).1 in omega (arith, range)) in
      let config_in : k < length config = (let count = (edge_is config there).count in omega (arith, l, count)) in
      let image_in : k < length (image config) = (let count = (each config there).0 in omega (arith, l, count)) in
      (config, there, (k, config_in, image_in, get_or_default config k u 0 config_in ∙ eqb-true (get_or config k 0) u left, get_or_default (image config) k y 0 image_in ∙ eqb-true (get_or (image config) k 0) y right))

  -- ---- the sets of an identifier, one for each port, by their numbers
  abbrev list_of : ℕ → List ℕ
  list_of x = map (λ i. number (beside (x * M + i))) (count_from 0 M)

  lists_are : (x : ℕ) → x < N → (length (list_of x) ≡ M) × AllByRecursion (λ y. y < 2 ^ n) (list_of x)
  lists_are x l = (
    length-map (count_from 0 M) (λ i. number (beside (x * M + i))) ∙ length-count_from 0 M,
    AllByRecursion-from_contains (λ y. y < 2 ^ n) (list_of x) (λ y held.
        let (i, at, is) = Contains-map_cases (λ i. number (beside (x * M + i))) (count_from 0 M) y held in
        subst (λ z. z < 2 ^ n) is (set_of-number n (beside (x * M + i)) (beside_set (x * M + i))).0),
  )

  set_at : (list : List ℕ) (x i : ℕ) → list_of x ≡ list → i < M → set_of n (get_or list i 0) ≡ beside (x * M + i)
  set_at list x i same l =
      let place : get_or (list_of x) i 0 ≡ number (beside (x * M + get_or (count_from 0 M) i 0)) =
      get_or-map (λ i. number (beside (x * M + i))) (count_from 0 M) i 0 0 (omega (arith, l, length-count_from 0 M)) in
      let port : get_or (count_from 0 M) i 0 ≡ i = get_or-count_from 0 M i 0 l ∙ omega arith in
      ap (λ (ys : List ℕ). set_of n (get_or ys i 0)) (sym same)
      ∙ (ap (set_of n) place ∙ (ap (λ j. set_of n (number (beside (x * M + j)))) port ∙ (set_of-number n (beside (x * M + i)) (beside_set (x * M + i))).1))

  -- ---- identifiers of one class, and ports with one set
  module _ (list set : List ℕ) (alike : (ports : List ℕ) → length ports ≡ p → AllByRecursion (λ i. i < M) ports → AreAlike M N hyper list_of list ports) where
    -- an edge between such identifiers, all by such a port, has its labels in the set
    record Edge : Type 0 where
      config : List ℕ
      held : Contains edges.configs config
      inside : (y : ℕ) → Contains (image config) y → Contains set y

    edge_by : (j : ℕ) → j < M → set_of n (get_or list j 0) ≡ set → Edge
    edge_by j l is_set = record { config = sorted labels; held = held; inside = inside }
      where
        ports_count : length (same_port j p) ≡ p
        ports_count = (first_ports M p j l).0

        ports_low : AllByRecursion (λ i. i < M) (same_port j p)
        ports_low = (first_ports M p j l).1

        all : AreAlike M N hyper list_of list (same_port j p)
        all = alike (same_port j p) ports_count ports_low

        labels : List ℕ
        labels = labels_at M all.ids (same_port j p)

        held : Contains edges.configs (sorted labels)
        held = joined_there M p N hyper labels (length-labels_at M all.ids (same_port j p) all.count ∙ ports_count) (labels_at_below M N all.ids (same_port j p) all.below ports_low) all.joined

        at_place : (y k : ℕ) → k < p → get_or (image (sorted labels)) k 0 ≡ y → Contains set y
        at_place y k kl at =
            let u : ℕ = get_or (sorted labels) k 0 in
            let in_edge : Contains (sorted labels) u = Contains-get_or (sorted labels) k 0 (let count = (edge_is (sorted labels) held).count in omega (arith, kl, count)) in
            let (x, member, is) = labels_cases M j u p all.ids (Contains-Rearranged u (Rearranged-sym (Rearranged-sorted labels)) in_edge) in
            let of_class : list_of x ≡ list = AllByRecursion-contains (λ x. list_of x ≡ list) all.ids x all.lists member in
            let here : Contains (beside u) y = subst (Contains (beside u)) at (beside_at (sorted labels) k held kl) in
            let same : beside u ≡ set = ap beside is ∙ (sym (set_at list x j of_class l) ∙ is_set) in
            subst (λ (s : List ℕ). Contains s y) same here

        inside : (y : ℕ) → Contains (image (sorted labels)) y → Contains set y
        inside y (k, k_in, at) =
            let count : length (image (sorted labels)) ≡ p = (each (sorted labels) held).0 in
            at_place y k (omega (arith, k_in, count)) (get_or_default (image (sorted labels)) k 0 y k_in ∙ at)

    -- an identifier of the class meets what is drawn from the set, each label by another port
    meets : (x : ℕ) → list_of x ≡ list → (ports drawn : List ℕ) → length ports ≡ length drawn → AllByRecursion (λ i. (i < M) × (set_of n (get_or list i 0) ≡ set)) ports → AllByRecursion (Contains set) drawn
        → AllZip (Becomes edges image) (labels_of M x ports) drawn
    meets x same [] [] count are within = tt
    meets x same [] (y ∷ drawn) count are within = absurd (omega (arith, count))
    meets x same (i ∷ ports) [] count are within = absurd (omega (arith, count))
    meets x same (i ∷ ports) (y ∷ drawn) count are within =
        let (l, is_set) = are.0 in
        let there : Contains (beside (x * M + i)) y = subst (λ (s : List ℕ). Contains s y) (sym is_set ∙ set_at list x i same l) within.0 in
        (becomes_of (x * M + i) y there, meets x same ports drawn (omega (arith, count)) are.1 within.1)

    met_by : (x : ℕ) → x < N → list_of x ≡ list → (ports : List ℕ) → length ports ≡ a → IsLabelSet M ports → ((i : ℕ) → Contains ports i → set_of n (get_or list i 0) ≡ set) → 1 ≤ a
        → (config : List ℕ) × Contains edges.configs config × IsMet (exchanged (virtual_identifiers a M p N hyper)) image (image config)
    met_by x xl same [] count is one some = absurd (omega (arith, count, some))
    met_by x xl same (j ∷ ports) count is one some =
        let edge : Edge = edge_by j is.1.0 (one j (Contains-here j ports)) in (
          edge.config,
          edge.held,
          λ drawn many within. (
            labels_of M x (j ∷ ports),
            meets x same (j ∷ ports) drawn (count ∙ sym many)
                (AllByRecursion-from_contains (λ i. (i < M) × (set_of n (get_or list i 0) ≡ set)) (j ∷ ports) (λ i at. (AllByRecursion-contains (λ i. i < M) (j ∷ ports) i is.1 at, one i at)))
                (AllByRecursion-from_contains (Contains set) drawn (λ y at. edge.inside y (AllByRecursion-contains (Contains (image edge.config)) drawn y within at))),
            subst (Contains (virtual_identifiers a M p N hyper).active.configs) (sym (sorted_again (labels_of M x (j ∷ ports)) (labels_rise M x (j ∷ ports) is.0))) (ports_there a M p N hyper x (j ∷ ports) count is xl),
          ),
        )

  -- ---- a class, a set that many ports have, and an edge
  abbrev all_sets : List (List ℕ)
  all_sets = map (set_of n) (count_from 0 (2 ^ n))

  beside_listed : (u : ℕ) → Contains all_sets (beside u)
  beside_listed u =
      let (low, same) = set_of-number n (beside u) (beside_set u) in
      subst (Contains all_sets) same (Contains-map (set_of n) (count_from 0 (2 ^ n)) (number (beside u)) (Contains-count_from 0 (2 ^ n) (number (beside u)) (omega arith) (omega (arith, low))))

  pub virtual_met : 1 ≤ a → 1 ≤ p → (a - 1) * 2 ^ n < M → JoinsAlike M p N hyper (2 ^ n) → (config : List ℕ) × Contains edges.configs config × IsMet (exchanged (virtual_identifiers a M p N hyper)) image (image config)
  virtual_met some more many joins =
      let (list, alike) = joins list_of lists_are in
      let (x, xl, same) = first_alike M p N hyper list_of list (omega (arith, many)) more alike in
      let listed : (i : ℕ) → Contains (count_from 0 M) i → Contains all_sets (set_of n (get_or list i 0)) = λ i held.
      subst (Contains all_sets) (sym (set_at list x i same (let range = (count_from_range 0 M i held).1 in omega (arith, range)))) (beside_listed (x * M + i)) in
      let (set, ports, is, enough, one) = pigeonhole (λ i. set_of n (get_or list i 0)) (a - 1) M all_sets (count_from 0 M) (IsLabelSet-count_from 0 M M (omega arith)) listed places in
      met_by list set alike x xl same (firsts a ports) (length-firsts a ports (omega (arith, enough))) (firsts_set M a ports is) (λ i at. one i (firsts_of a ports i at)) some
    where
      places : (a - 1) * length all_sets < length (count_from 0 M)
      places =
          let count : length all_sets ≡ 2 ^ n = length-map (count_from 0 (2 ^ n)) (set_of n) ∙ length-count_from 0 (2 ^ n) in
          rw (count, length-count_from 0 M) many

pub virtual_unavoidable : (a M p N n : ℕ) (hyper : IdHypergraph) → 1 ≤ a → 1 ≤ p → (a - 1) * 2 ^ n < M → JoinsAlike M p N hyper (2 ^ n) → IsUnavoidable (exchanged (virtual_identifiers a M p N hyper)) n
virtual_unavoidable a M p N n hyper some more many joins image each = virtual_met a M p N n hyper image each some more many joins
