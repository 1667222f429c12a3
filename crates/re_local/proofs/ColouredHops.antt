-- From one proper colouring to another in one hop.
use Rattle.std.proofs.Common.{◌≡◌, ℕ, zero, suc, ◌+◌, ◌-◌, ◌*◌, ◌≤◌, ◌<◌, Bool, true, eqb, ◌&&◌, List, [], ◌∷◌, ◌++◌, filter, map, length, get_or, refl, sym, ◌∙◌, ap, subst, arith, inl, inr}
use Rattle.std.specs.Prelude.{Contains, not, replicate}
use Rattle.std.specs.List.{AllByRecursion, flat_map, list_all}
use Rattle.std.proofs.lemmas.List.{length-append, length-map, length-replicate}
use Rattle.std.proofs.lemmas.List.Elements.{Contains-get_or}
use Rattle.re_labels.proofs.ChoicesOfRows.{IsChoice-choices, choices-IsChoice}
use Rattle.re_labels.proofs.LawsOfRows.{multisets_law}
use Rattle.re_labels.proofs.Rearranging.{length-AllZip}
use Rattle.re_labels.proofs.Sorting.{AllByRecursion-Rearranged, Rearranged-sorted, length-sorted, sorted_again, sorted_rises}
use Rattle.re_labels.specs.Configs.{IsConfig, sorted, support_of}
use Rattle.re_labels.specs.Orders.{multisets}
use Rattle.re_labels.specs.Rows.{IsChoice, choices}
use Rattle.re_labels.proofs.Replicated.{alike_rise}
use Rattle.re_local.proofs.DifferentLabels.{Distinct-Rearranged, left, left_cases, left_held, left_less, rising_strictly}
use Rattle.re_local.proofs.OneHop.{SolvableGiven-hop}
use Rattle.re_given.proofs.Colourings.{IsInput-colouring, colour_there, colours_there, filtered_constraint}
use Rattle.re_given.specs.Given.{SolvableGiven}
use Rattle.re_given.specs.Unavoidable.{colouring}
use Rattle.re_labels.proofs.Membership.{AllByRecursion-contains, AllByRecursion-from_contains, Contains-In, Contains-cases, Contains-count_from, Contains-filter, Contains-filter_cases, Contains-flat_map, Contains-flat_map_cases, Contains-here, Contains-later, Contains-map_cases, Contains-none, Distinct, In-Contains, all-In, all-In_from, count_from_range}
use Rattle.re_labels.proofs.LabelPlaces.{get-place_of, place_of-below}
use Rattle.re_labels.proofs.Tests.{and-true, eqb-apart, eqb-same, eqb-true, true-and}
use Rattle.re_labels.specs.Lists.{count_from, place_of}
use Rattle.re_labels.specs.Sets.{IsIn}
use Rattle.re_local.proofs.Complete.{alike_choice}
use Rattle.re_local.proofs.Supports.{Distinct-support, alike_support}
use Rattle.re_problem.specs.Problems.{IsProblem}
use Rattle.re_labels.specs.GoodRows.{IsAllowed, IsGood}

-- ---- lists and choices
pub alike_cases : (n k : ℕ) (labels : List ℕ) → IsChoice labels (replicate k (count_from 0 n)) → (length labels ≡ k) × AllByRecursion (λ x. x < n) labels
alike_cases n zero [] h = (refl, tt)
alike_cases n zero (x ∷ labels) h = absurd h
alike_cases n (suc k) [] h = absurd h
alike_cases n (suc k) (x ∷ labels) h =
    let (count, below) = alike_cases n k labels h.1 in
    let range = (count_from_range 0 n x h.0).1 in
    (ap suc count, (omega (arith, range), below))

pub in_replicate : (k w y : ℕ) → Contains (replicate k w) y → y ≡ w
in_replicate zero w y held = absurd (Contains-none y held)
in_replicate (suc k) w y held = elim (Contains-cases y w (replicate k w) held) [ inl e ↦ e | inr later ↦ in_replicate k w y later ]

-- what is chosen is in the set of some label
pub chosen_in : (f : ℕ → List ℕ) (ys xs : List ℕ) (y : ℕ) → IsChoice ys (map f xs) → Contains ys y → (x : ℕ) × Contains xs x × Contains (f x) y
chosen_in f [] xs y chosen held = absurd (Contains-none y held)
chosen_in f (z ∷ ys) [] y chosen held = absurd chosen
chosen_in f (z ∷ ys) (x ∷ xs) y chosen held = elim (Contains-cases y z ys held) [
  | inl e ↦ (x, Contains-here x xs, subst (Contains (f x)) (sym e) chosen.0)
  | inr there ↦ (let (w, at, in_set) = chosen_in f ys xs y chosen.1 there in (w, Contains-later w x xs at, in_set))
]

-- one label from all sets
pub one_chosen : (f : ℕ → List ℕ) (z : ℕ) (ys : List ℕ) → ((y : ℕ) → Contains ys y → Contains (f y) z) → IsChoice (replicate (length ys) z) (map f ys)
one_chosen f z [] each = tt
one_chosen f z (y ∷ ys) each = (each y (Contains-here y ys), one_chosen f z ys (λ w held. each w (Contains-later w y ys held)))

length-pieces : (f : ℕ → List ℕ) (k : ℕ) (ys : List ℕ) → ((y : ℕ) → Contains ys y → length (f y) ≡ k) → length (flat_map f ys) ≡ length ys * k
length-pieces f k [] each = let none : 0 * k ≡ 0 = omega arith in sym none
length-pieces f k (y ∷ ys) each =
    let first : length (f y) ≡ k = each y (Contains-here y ys) in
    let rest : length (flat_map f ys) ≡ length ys * k = length-pieces f k ys (λ w held. each w (Contains-later w y ys held)) in
    let both : length (f y ++ flat_map f ys) ≡ length (f y) + length (flat_map f ys) = length-append (f y) (flat_map f ys) in
    let more : suc (length ys) * k ≡ k + length ys * k = grind arith in
    omega (arith, first, rest, both, more)

-- the colour of a node, and those of the others at a passive node
abbrev first : List ℕ → ℕ
first [] = 0
first (x ∷ xs) = x

abbrev later : List ℕ → List ℕ
later [] = []
later (x ∷ xs) = xs

length-later : (xs : List ℕ) → length (later xs) ≡ length xs - 1
length-later [] = refl
length-later (x ∷ xs) = omega arith

later_within : (xs : List ℕ) (v : ℕ) → Contains (later xs) v → Contains xs v
later_within [] v held = held
later_within (x ∷ xs) v held = Contains-later v x xs held

-- ---- a new colour for each node
pub IsProblem-colouring : (a p m : ℕ) → 2 ≤ a → a ≤ 6 → 2 ≤ p → p ≤ 6 → IsProblem (colouring a p m)
IsProblem-colouring a p m a_low a_high p_low p_high = record {
  active = filtered_constraint a m (λ edges. eqb (length (support_of edges)) 1) a_low a_high;
  passive = filtered_constraint p m (λ edges. eqb (length (support_of edges)) (length edges)) p_low p_high;
}

-- whether a new colour suits a node of colour x, beside one of colour v, by a test of x, the new colour and v: where each node has some that
-- suits it beside all its neighbours, and none suits both of two neighbours beside each other
module _ (a p m n : ℕ) (a_low : 2 ≤ a) (a_high : a ≤ 6) (p_low : 2 ≤ p) (p_high : p ≤ 6) (suits : ℕ → ℕ → ℕ → Bool)
    (some : (x : ℕ) (near : List ℕ) → x < n → length near ≡ a * (p - 1) → ((v : ℕ) → Contains near v → (v < n) × (v ≡ x → ⊥)) → (z : ℕ) × (z < m) × ((v : ℕ) → Contains near v → suits x z v ≡ true))
    (apart : (x v z : ℕ) → (x ≡ v → ⊥) → x < n → v < n → suits x z v ≡ true → suits v z x ≡ true → ⊥) where
  -- what a passive node tells an active one: its colour and those of the others
  abbrev lists : List (List ℕ)
  lists = choices (replicate p (count_from 0 n))

  abbrev told : ℕ → List ℕ
  told y = get_or lists y []

  -- the new colours that suit a node that is told this
  abbrev sets : ℕ → List ℕ
  sets y = filter (λ z. list_all (suits (first (told y)) z) (later (told y))) (count_from 0 m)

  -- what a node of this colour may be told
  abbrev wide : ℕ → List ℕ
  wide x = filter (λ y. eqb (first (told y)) x && list_all (λ v. not (eqb v x)) (later (told y))) (count_from 0 (length lists))

  wide_cases : (x y : ℕ) → Contains (wide x) y
      → (y < length lists) × (first (told y) ≡ x) × ((v : ℕ) → Contains (later (told y)) v → (v < n) × (v ≡ x → ⊥)) × (length (later (told y)) ≡ p - 1)
  wide_cases x y held =
      let (there, passes) =
      Contains-filter_cases (λ y. eqb (first (told y)) x && list_all (λ v. not (eqb v x)) (later (told y))) (count_from 0 (length lists)) y held in
      let (same, others) = and-true (eqb (first (told y)) x) (list_all (λ v. not (eqb v x)) (later (told y))) passes in
      let range = (count_from_range 0 (length lists) y there).1 in
      let low : y < length lists = omega (arith, range) in
      let (count, below) = alike_cases n p (told y) (IsChoice-choices (replicate p (count_from 0 n)) (told y) (Contains-get_or lists y [] low)) in (
        low,
        eqb-true (first (told y)) x same,
        λ v at. (AllByRecursion-contains (λ x. x < n) (told y) v below (later_within (told y) v at), other v (all-In (λ v. not (eqb v x)) (later (told y)) others v (Contains-In v (later (told y)) at))),
        length-later (told y) ∙ ap (λ k. k - 1) count,
      )
    where
      other : (v : ℕ) → not (eqb v x) ≡ true → v ≡ x → ⊥
      other v passes e = let one : eqb v x ≡ true = subst (λ w. eqb v w ≡ true) e (eqb-same v) in absurd (cc)

  -- a new colour that suits a node whatever its passive nodes tell it
  common : (x : ℕ) (ys : List ℕ) → x < n → length ys ≡ a → ((y : ℕ) → Contains ys y → Contains (wide x) y)
      → (z : ℕ) × (z < m) × ((y : ℕ) → Contains ys y → Contains (sets y) z)
  common x ys low count each =
      let number : length (flat_map (λ y. later (told y)) ys) ≡ a * (p - 1) =
      length-pieces (λ y. later (told y)) (p - 1) ys (λ y at. (wide_cases x y (each y at)).3) ∙ ap (λ k. k * (p - 1)) count in
      let (z, below, all) = some x (flat_map (λ y. later (told y)) ys) low number (λ v at. let (y, there, in_it) = Contains-flat_map_cases (λ y. later (told y)) ys v at in (wide_cases x y (each y there)).2 v in_it) in (
        z,
        below,
        λ y at.
            Contains-filter (λ z. list_all (suits (first (told y)) z) (later (told y))) (count_from 0 m) z (Contains-count_from 0 m z (omega arith) (omega (arith, below)))
            (subst (λ w. list_all (suits w z) (later (told y)) ≡ true) (sym (wide_cases x y (each y at)).1)
            (all-In_from (suits x z) (later (told y)) (λ v i. all v (Contains-flat_map (λ y. later (told y)) ys y v at (In-Contains v (later (told y)) i))))),
      )

  allowed : (config ys : List ℕ) → Contains (colouring a p n).active.configs config → IsChoice ys (map wide config)
      → AllByRecursion (λ y. y < length lists) ys × IsAllowed (colouring a p m).active (map sets ys)
  allowed config ys held chosen =
      let (listed, passes) = Contains-filter_cases (λ edges. eqb (length (support_of edges)) 1) (multisets a 0 n) config held in
      let is : IsConfig a n config = ((multisets_law a n).1 config).0 listed in
      let one : length (support_of config) ≡ 1 = eqb-true (length (support_of config)) 1 passes in
      let number : length config ≡ a = is.count in
      let x : ℕ = get_or config 0 0 in
      let x_in : Contains config x = Contains-get_or config 0 0 (omega (arith, number, a_low)) in
      let each : (y : ℕ) → Contains ys y → Contains (wide x) y =
      λ y at. (let (w, there, in_set) = chosen_in wide ys config y chosen at in subst (λ w. Contains (wide w) y) (alike_support config w x one there x_in) in_set) in
      let count : length ys ≡ a = length-AllZip IsIn ys (map wide config) chosen ∙ (length-map config wide ∙ number) in
      let (z, below, all) = common x ys (AllByRecursion-contains (λ x. x < n) config x is.below x_in) count each in (
        AllByRecursion-from_contains (λ y. y < length lists) ys (λ y at. (wide_cases x y (each y at)).0),
        (
          replicate a z,
          subst (λ k. IsChoice (replicate k z) (map sets ys)) count (one_chosen sets z ys all),
          subst (Contains (colouring a p m).active.configs) (sym (sorted_again (replicate a z) (alike_rise a z))) (colour_there a p m z (omega (arith, a_low)) below),
        ),
      )

  -- ---- what passive nodes tell
  module _ (xs : List ℕ) (held : Contains (colouring a p n).passive.configs xs) where
    is_config : IsConfig p n xs
    is_config = ((multisets_law p n).1 xs).0 (Contains-filter_cases (λ edges. eqb (length (support_of edges)) (length edges)) (multisets p 0 n) xs held).0

    different : Distinct xs
    different = Distinct-support xs (eqb-true (length (support_of xs)) (length xs) (Contains-filter_cases (λ edges. eqb (length (support_of edges)) (length edges)) (multisets p 0 n) xs held).1)

    low : (x : ℕ) → Contains xs x → x < n
    low x at = AllByRecursion-contains (λ x. x < n) xs x is_config.below at

    -- the label that tells a node its colour and those of the others
    abbrev tells : ℕ → ℕ
    tells x = place_of lists (x ∷ left x xs)

    listed : (x : ℕ) → Contains xs x → Contains lists (x ∷ left x xs)
    listed x at =
        let count : suc (length (left x xs)) ≡ p = left_less x xs different at ∙ is_config.count in
        choices-IsChoice (replicate p (count_from 0 n)) (x ∷ left x xs)
        (subst (λ k. IsChoice (x ∷ left x xs) (replicate k (count_from 0 n))) count
        (alike_choice n (x ∷ left x xs) (low x at, AllByRecursion-from_contains (λ x. x < n) (left x xs) (λ v there. low v (left_cases x v xs there).0))))

    told_is : (x : ℕ) → Contains xs x → told (tells x) ≡ x ∷ left x xs
    told_is x at = get-place_of lists (x ∷ left x xs) (listed x at)

    tells_below : (x : ℕ) → Contains xs x → tells x < length lists
    tells_below x at = place_of-below lists (x ∷ left x xs) (listed x at)

    in_wide : (x : ℕ) → Contains xs x → Contains (wide x) (tells x)
    in_wide x at =
        Contains-filter (λ y. eqb (first (told y)) x && list_all (λ v. not (eqb v x)) (later (told y))) (count_from 0 (length lists)) (tells x)
        (Contains-count_from 0 (length lists) (tells x) (omega arith) (let l = tells_below x at in omega (arith, l)))
        (subst (λ l. (eqb (first l) x && list_all (λ v. not (eqb v x)) (later l)) ≡ true) (sym (told_is x at))
        (true-and (eqb x x) (list_all (λ v. not (eqb v x)) (left x xs)) (eqb-same x) (all-In_from (λ v. not (eqb v x)) (left x xs) (λ v i. ap not (eqb-apart v x (left_cases x v xs (In-Contains v (left x xs) i)).1)))))

    all_tell : (us : List ℕ) → ((u : ℕ) → Contains us u → Contains xs u) → IsChoice (map tells us) (map wide us)
    all_tell [] within = tt
    all_tell (u ∷ us) within = (in_wide u (within u (Contains-here u us)), all_tell us (λ v at. within v (Contains-later v u us at)))

    -- the new colour of one suits it beside each other
    suits_of : (u w z : ℕ) → Contains xs u → Contains xs w → (w ≡ u → ⊥) → Contains (sets (tells u)) z → suits u z w ≡ true
    suits_of u w z at there other in_set =
        let passes : list_all (suits (first (told (tells u))) z) (later (told (tells u))) ≡ true =
        (Contains-filter_cases (λ z. list_all (suits (first (told (tells u))) z) (later (told (tells u)))) (count_from 0 m) z in_set).1 in
        let all : list_all (suits u z) (left u xs) ≡ true = subst (λ l. list_all (suits (first l) z) (later l) ≡ true) (told_is u at) passes in
        all-In (suits u z) (left u xs) all w (Contains-In w (left u xs) (left_held u w xs there other))

    clash : (u w z : ℕ) → Contains xs u → Contains xs w → (u ≡ w → ⊥) → Contains (sets (tells u)) z → Contains (sets (tells w)) z → ⊥
    clash u w z at there other in_one in_other =
        apart u w z other (low u at) (low w there) (suits_of u w z at there (λ e. other (sym e)) in_one) (suits_of w u z there at other in_other)

    new_different : (us zs : List ℕ) → Distinct us → ((u : ℕ) → Contains us u → Contains xs u) → IsChoice zs (map sets (map tells us)) → Distinct zs
    new_different [] [] d within chosen = tt
    new_different [] (z ∷ zs) d within chosen = absurd chosen
    new_different (u ∷ us) [] d within chosen = absurd chosen
    new_different (u ∷ us) (z ∷ zs) d within chosen = (
      λ held. (
          let (y, at, in_set) = chosen_in sets zs (map tells us) z chosen.1 held in
          let (w, there, is) = Contains-map_cases tells us y at in
          clash u w z (within u (Contains-here u us)) (within w (Contains-later w u us there)) (λ e. d.0 (subst (Contains us) (sym e) there)) chosen.0 (subst (λ y. Contains (sets y) z) (sym is) in_set)),
      new_different us zs d.1 (λ v at. within v (Contains-later v u us at)) chosen.1,
    )

    new_below : (z y : ℕ) → Contains (sets y) z → z < m
    new_below z y in_set =
        let range =
        (count_from_range 0 m z (Contains-filter_cases (λ z. list_all (suits (first (told y)) z) (later (told y))) (count_from 0 m) z in_set).0).1 in
        omega (arith, range)

    some_of : (s : List ℕ) (y : ℕ) → Contains s y → 0 < length s
    some_of s y (j, l, e) = omega (arith, l)

    filled : (x : ℕ) → Contains xs x → 0 < length (sets (tells x))
    filled x at =
        let (z, below, all) =
        common x (replicate a (tells x)) (low x at) (length-replicate a (tells x)) (λ y there. subst (Contains (wide x)) (sym (in_replicate a (tells x) y there)) (in_wide x at)) in
        some_of (sets (tells x)) z (all (tells x) (among a (omega (arith, a_low))))
      where
        among : (k : ℕ) → 1 ≤ k → Contains (replicate k (tells x)) (tells x)
        among zero l = absurd (omega (arith, l))
        among (suc k) l = Contains-here (tells x) (replicate k (tells x))

    good : IsGood (colouring a p m).passive (map sets (map tells xs))
    good = record {
      count = length-map (map tells xs) sets ∙ (length-map xs tells ∙ is_config.count);
      filled = AllByRecursion-from_contains (λ s. 0 < length s) (map sets (map tells xs)) (λ s at.
          let (y, there, e) = Contains-map_cases sets (map tells xs) s at in
          let (x, here, e') = Contains-map_cases tells xs y there in
          subst (λ s. 0 < length s) e (subst (λ y. 0 < length (sets y)) e' (filled x here)));
      choice = λ zs chosen.
          let count : length zs ≡ p =
          length-AllZip IsIn zs (map sets (map tells xs)) chosen ∙ (length-map (map tells xs) sets ∙ (length-map xs tells ∙ is_config.count)) in
          let apart_are : Distinct zs = new_different xs zs different (λ u at. at) chosen in
          let below : AllByRecursion (λ z. z < m) zs =
          AllByRecursion-from_contains (λ z. z < m) zs (λ z at. let (y, there, in_set) = chosen_in sets zs (map tells xs) z chosen at in new_below z y in_set) in
          colours_there a p m (sorted zs) (length-sorted zs ∙ count)
          (rising_strictly (sorted zs) (sorted_rises zs) (Distinct-Rearranged (Rearranged-sorted zs) apart_are), AllByRecursion-Rearranged (λ z. z < m) (Rearranged-sorted zs) below);
    }

    tell : (ys : List ℕ) × IsChoice ys (map wide xs) × AllByRecursion (λ y. y < length lists) ys × IsGood (colouring a p m).passive (map sets ys)
    tell = (
      map tells xs,
      all_tell xs (λ u at. at),
      AllByRecursion-from_contains (λ y. y < length lists) (map tells xs) (λ y at. let (x, there, e) = Contains-map_cases tells xs y at in subst (λ y. y < length lists) e (tells_below x there)),
      good,
    )

  pub SolvableGiven-coloured : p ≤ n → SolvableGiven (colouring a p m) (colouring a p n) 1
  SolvableGiven-coloured enough = SolvableGiven-hop (colouring a p m) (colouring a p n) (length lists) sets wide (IsInput-colouring (colouring a p m) n (IsProblem-colouring a p m a_low a_high p_low p_high) enough) allowed tell
