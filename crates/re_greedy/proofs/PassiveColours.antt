-- A proper colouring of the active nodes gives one of the passive nodes, in two hops: each takes what stands around it as its colour.
use Rattle.std.proofs.Common.{◌≡◌, ℕ, zero, suc, ◌+◌, ◌-◌, ◌*◌, ◌/◌, ◌≤◌, ◌<◌, List, [], ◌∷◌, filter, map, length, get_or, refl, sym, ◌∙◌, subst, arith, inl, inr}
use Rattle.std.specs.Prelude.{Contains, replicate}
use Rattle.std.specs.List.{AllByRecursion}
use Rattle.std.proofs.lemmas.List.{length-map, length-replicate, map-id}
use Rattle.std.proofs.lemmas.List.Elements.{Contains-get_or}
use Rattle.std.proofs.lemmas.Nat.{div-mul-add}
use Rattle.re_labels.proofs.Rearranging.{Contains-Rearranged, length-AllZip}
use Rattle.re_labels.proofs.Sorting.{AllByRecursion-Rearranged, Rearranged-sorted, length-sorted, sorted_again, sorted_rises}
use Rattle.re_labels.specs.Configs.{IsConfig, sorted}
use Rattle.re_labels.specs.Rows.{IsChoice}
use Rattle.re_labels.proofs.Replicated.{alike_rise}
use Rattle.re_local.proofs.ColouredHops.{IsProblem-colouring, chosen_in, one_chosen}
use Rattle.re_local.proofs.DifferentLabels.{Distinct-Rearranged, rising_strictly}
use Rattle.re_given.proofs.Colourings.{IsInput-colouring, colour_there, colours_there}
use Rattle.re_given.specs.Given.{SolvableGiven}
use Rattle.re_given.specs.Inputs.{IsInput, exchanged}
use Rattle.re_given.specs.Unavoidable.{colouring}
use Rattle.re_greedy.proofs.Colours.{colours_around}
use Rattle.re_greedy.proofs.Hops.{SolvableGiven-hops}
use Rattle.re_greedy.proofs.Parts.{choice_only, chosen_itself, known_by}
use Rattle.re_greedy.proofs.Ported.{IsProblem-ported, SolvableGiven-ported, colour_of, number_below, ported, ported_active, ported_passive, ported_passive_there}
use Rattle.re_labels.proofs.Membership.{AllByRecursion-contains, AllByRecursion-from_contains, Contains-cases, Contains-count_from, Contains-filter, Contains-filter_cases, Contains-here, Contains-later, Contains-map, Contains-map_cases, Contains-none, Distinct, Distinct-count_from, count_from_range, map-alike}
use Rattle.re_labels.proofs.LabelPlaces.{get-place_of, place_of-below}
use Rattle.re_labels.proofs.Sets.{IsIn-has, has-IsIn}
use Rattle.re_labels.specs.Lists.{count_from, place_of}
use Rattle.re_labels.specs.Sets.{IsIn, has}
use Rattle.re_problem.proofs.StepLaws.{map-map}
use Rattle.re_problem.specs.Problems.{IsProblem, Problem}
use Rattle.re_labels.specs.Constraints.{Has}
use Rattle.re_labels.specs.GoodRows.{IsAllowed, IsGood}

module _ (a p N : ℕ) (a_low : 2 ≤ a) (a_high : a ≤ 6) (p_low : 2 ≤ p) (p_high : p ≤ 6) (enough : p ≤ N) where
  -- what may stand around a passive node, where active ones number their edges
  abbrev rows : List (List ℕ)
  rows = (ported a p N).passive.configs

  -- as many colours as there are such rows, and no fewer than a
  abbrev pub passive_colours : ℕ
  passive_colours = a + length rows

  abbrev row : ℕ → List ℕ
  row y = get_or rows y []

  abbrev wide : ℕ → List ℕ
  wide z = filter (λ y. has (row y) z) (count_from 0 (length rows))

  abbrev sets : ℕ → List ℕ
  sets y = y ∷ []

  abbrev target : Problem
  target = exchanged (colouring p a passive_colours)

  pub IsProblem-passive_colours : IsProblem target
  IsProblem-passive_colours =
      let is : IsProblem (colouring p a passive_colours) = IsProblem-colouring p a passive_colours p_low p_high a_low a_high in
      record { active = is.passive; passive = is.active }

  wide_cases : (z y : ℕ) → Contains (wide z) y → (y < length rows) × Contains (row y) z
  wide_cases z y held =
      let (listed, passes) = Contains-filter_cases (λ y. has (row y) z) (count_from 0 (length rows)) y held in
      let range = (count_from_range 0 (length rows) y listed).1 in
      (omega (arith, range), has-IsIn (row y) z passes)

  wide_there : (z y : ℕ) → y < length rows → Contains (row y) z → Contains (wide z) y
  wide_there z y low held =
      Contains-filter (λ y. has (row y) z) (count_from 0 (length rows)) y (Contains-count_from 0 (length rows) y (omega arith) (omega (arith, low))) (IsIn-has (row y) z held)

  some_of : (s : List ℕ) (y : ℕ) → Contains s y → 0 < length s
  some_of s y (j, l, e) = omega (arith, l)

  only_one : (z w : ℕ) → Contains (z ∷ []) w → w ≡ z
  only_one z w held = elim (Contains-cases w z [] held) [ inl e ↦ e | inr there ↦ absurd (Contains-none w there) ]

  -- ---- active nodes
  -- each number stands in some row
  filled : (config : List ℕ) (z : ℕ) → Contains (ported a p N).active.configs config → Contains config z → 0 < length (wide z)
  filled config z held at =
      let (config_is, (x, low, same)) = ported_active a p N a_low a_high p_low p_high config held in
      let number : Contains (count_from (x * a) a) z = subst (λ zs. Contains zs z) same at in
      let (from, to) = count_from_range (x * a) a z number in
      let (colours, there, x_in) = ((IsInput-colouring (ported a p N) N (IsProblem-ported a p N a_low a_high p_low p_high) enough).occurs x low).1 in
      let (colours_is, different) = colours_around a p N colours there in
      go x low from to colours colours_is different x_in
    where
      go : (x : ℕ) → x < N → x * a ≤ z → z < x * a + a → (colours : List ℕ) → IsConfig p N colours → Distinct colours → Contains colours x → 0 < length (wide z)
      go x low from to colours colours_is different x_in =
          let port : ℕ = z - x * a in
          let port_low : port < a = omega (arith, from, to) in
          let z_is : x * a + port ≡ z = omega (arith, from) in
          let others : List ℕ = map (λ w. w * a + port) colours in
          let back : map (λ z. z / a) others ≡ colours =
          map-map (λ z. z / a) (λ w. w * a + port) colours ∙ (map-alike (λ w. (w * a + port) / a) (λ w. w) colours (λ w at. div-mul-add w a port port_low) ∙ map-id colours) in
          let below : AllByRecursion (λ z. z < N * a) others =
          AllByRecursion-from_contains (λ z. z < N * a) others (λ y at.
          let (w, here, e) = Contains-map_cases (λ w. w * a + port) colours y at in
          let w_low : w < N = AllByRecursion-contains (λ x. x < N) colours w colours_is.below here in
          subst (λ y. y < N * a) e (number_below a p N a_low a_high p_low p_high w (w * a + port) w_low (Contains-count_from (w * a) a (w * a + port) (omega arith) (omega (arith, port_low))))) in
          let stands : Contains rows (sorted others) =
          ported_passive_there a p N a_low a_high p_low p_high others (length-map colours (λ w. w * a + port) ∙ colours_is.count) below (subst Distinct (sym back) different) in
          let z_in : Contains others z = subst (Contains others) z_is (Contains-map (λ w. w * a + port) colours x x_in) in
          let z_in_row : Contains (sorted others) z = Contains-Rearranged z (Rearranged-sorted others) z_in in
          let y : ℕ = place_of rows (sorted others) in
          some_of (wide z) y (wide_there z y (place_of-below rows (sorted others) stands) (subst (λ r. Contains r z) (sym (get-place_of rows (sorted others) stands)) z_in_row))

  -- different numbers of one colour stand in different rows
  apart : (x : ℕ) (zs ys : List ℕ) → ((z : ℕ) → Contains zs z → z / a ≡ x) → Distinct zs → IsChoice ys (map wide zs) → Distinct ys
  apart x [] [] same d chosen = tt
  apart x [] (y ∷ ys) same d chosen = absurd chosen
  apart x (z ∷ zs) [] same d chosen = absurd chosen
  apart x (z ∷ zs) (y ∷ ys) same d chosen = (
    λ held. (
        let (w, there, in_set) = chosen_in wide ys zs y chosen.1 held in
        let (y_low, z_in) = wide_cases z y chosen.0 in
        let (y_low', w_in) = wide_cases w y in_set in
        let different : Distinct (map (λ z. z / a) (row y)) = (ported_passive a p N a_low a_high p_low p_high (row y) (Contains-get_or rows y [] y_low)).1 in
        let one : w ≡ z = known_by (λ z. z / a) (row y) w z different w_in z_in (same w (later z zs w there) ∙ sym (same z (Contains-here z zs))) in
        d.0 (subst (Contains zs) one there)),
    apart x zs ys (λ w at. same w (later z zs w at)) d.1 chosen.1,
  )
    where
      later : (z : ℕ) (zs : List ℕ) (w : ℕ) → Contains zs w → Contains (z ∷ zs) w
      later z zs w at = Contains-later w z zs at

  allowed : (config ys : List ℕ) → Contains (ported a p N).active.configs config → IsChoice ys (map wide config)
      → AllByRecursion (λ y. y < length rows) ys × IsAllowed target.active (map sets ys)
  allowed config ys held chosen =
      let (config_is, (x, low, same)) = ported_active a p N a_low a_high p_low p_high config held in
      let one : (z : ℕ) → Contains config z → z / a ≡ x =
      λ z at. colour_of a p N a_low a_high p_low p_high x z (subst (λ zs. Contains zs z) same at) in
      let different : Distinct ys = apart x config ys one (subst Distinct (sym same) (Distinct-count_from (x * a) a)) chosen in
      let count : length ys ≡ a = length-AllZip IsIn ys (map wide config) chosen ∙ (length-map config wide ∙ config_is.count) in
      let small : (y : ℕ) → Contains ys y → y < length rows =
      λ y at. (let (z, there, in_set) = chosen_in wide ys config y chosen at in (wide_cases z y in_set).0) in
      let below : AllByRecursion (λ y. y < passive_colours) ys = AllByRecursion-from_contains (λ y. y < passive_colours) ys (λ y at. let l = small y at in omega (arith, l)) in (
        AllByRecursion-from_contains (λ y. y < length rows) ys small,
        (
          ys,
          chosen_itself sets ys (λ y at. Contains-here y []),
          colours_there p a passive_colours (sorted ys) (length-sorted ys ∙ count)
              (rising_strictly (sorted ys) (sorted_rises ys) (Distinct-Rearranged (Rearranged-sorted ys) different), AllByRecursion-Rearranged (λ y. y < passive_colours) (Rearranged-sorted ys) below),
        ),
      )

  -- ---- passive nodes
  good : (config : List ℕ) → Contains rows config
      → (ys : List ℕ) × IsChoice ys (map wide config) × AllByRecursion (λ y. y < length rows) ys × IsGood target.passive (map sets ys)
  good config held =
      let config_is : IsConfig p (N * a) config = (ported_passive a p N a_low a_high p_low p_high config held).0 in
      let y : ℕ = place_of rows config in
      let low : y < length rows = place_of-below rows config held in
      let each : (z : ℕ) → Contains config z → Contains (wide z) y =
      λ z at. wide_there z y low (subst (λ r. Contains r z) (sym (get-place_of rows config held)) at) in
      let chosen : IsChoice (replicate p y) (map wide config) = subst (λ k. IsChoice (replicate k y) (map wide config)) config_is.count (one_chosen wide y config each) in
      let has : Has target.passive (replicate p y) =
      subst (Contains (colouring p a passive_colours).active.configs) (sym (sorted_again (replicate p y) (alike_rise p y)))
      (colour_there p a passive_colours y (omega (arith, p_low)) (omega (arith, low))) in (
        replicate p y,
        chosen,
        alike_below p y low,
        record {
          count = length-map (replicate p y) sets ∙ length-replicate p y;
          filled = AllByRecursion-from_contains (λ s. 0 < length s) (map sets (replicate p y)) (λ s at.
              let (w, there, e) = Contains-map_cases sets (replicate p y) s at in
              subst (λ s. 0 < length s) e (some_of (sets w) w (Contains-here w [])));
          choice = λ labels picked.
              let same : replicate p y ≡ labels = sym (choice_only sets (replicate p y) labels (λ z w at in_set. only_one z w in_set) picked) in
              subst (Has target.passive) same has;
        },
      )
    where
      alike_below : (k y : ℕ) → y < length rows → AllByRecursion (λ y. y < length rows) (replicate k y)
      alike_below zero y low = tt
      alike_below (suc k) y low = (low, alike_below k y low)

  pub IsInput-passive : IsInput target (colouring a p N)
  IsInput-passive = IsInput-colouring target N IsProblem-passive_colours enough

  pub SolvableGiven-passive_colours : SolvableGiven target (colouring a p N) 2
  SolvableGiven-passive_colours =
      SolvableGiven-hops target (ported a p N) (length rows) sets wide refl refl
      (λ config held. (ported_active a p N a_low a_high p_low p_high config held).0.count)
      (λ config held. (ported_passive a p N a_low a_high p_low p_high config held).0.count)
      filled allowed good (colouring a p N) 0 IsInput-passive (SolvableGiven-ported a p N a_low a_high p_low p_high enough)
