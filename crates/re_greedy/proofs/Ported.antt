-- A proper colouring whose nodes number their edges: given the colouring it takes no rounds.
use Rattle.std.proofs.Common.{◌≡◌, ℕ, zero, suc, ◌+◌, ◌-◌, ◌*◌, ◌/◌, ◌≤◌, ◌<◌, List, [], ◌∷◌, filter, map, length, refl, sym, ◌∙◌, ap, subst, arith}
use Rattle.std.specs.Prelude.{Contains, replicate, true}
use Rattle.std.specs.List.{AllByRecursion, list_any}
use Rattle.std.proofs.lemmas.List.{length-map}
use Rattle.std.proofs.lemmas.Nat.{div-mul-add, mul-le}
use Rattle.re_labels.proofs.LawsOfRows.{multisets_law}
use Rattle.re_labels.proofs.Rearranging.{Rearranged-map, length-AllZip}
use Rattle.re_labels.proofs.Sorting.{IsConfig-sorted, Rearranged-sorted, count_from_rises, sorted_again}
use Rattle.re_labels.specs.Configs.{IsConfig, sorted}
use Rattle.re_labels.specs.Orders.{multisets}
use Rattle.re_labels.specs.Rows.{IsChoice}
use Rattle.re_local.proofs.DifferentLabels.{Distinct-Rearranged}
use Rattle.re_given.proofs.Colourings.{IsInput-colouring, filtered_constraint}
use Rattle.re_given.proofs.SlowGiven.{SolvableGiven-zero}
use Rattle.re_given.specs.Given.{SolvableGiven}
use Rattle.re_given.specs.Inputs.{exchanged}
use Rattle.re_given.specs.Unavoidable.{colouring}
use Rattle.re_greedy.proofs.Colours.{colour_around, colours_around}
use Rattle.re_greedy.proofs.Parts.{Distinct-is_distinct, is_distinct, is_distinct-Distinct}
use Rattle.re_labels.proofs.Before.{same_list-refl, same_list-same}
use Rattle.re_labels.proofs.Membership.{AllByRecursion-from_contains, Contains-count_from, Contains-filter, Contains-filter_cases, Contains-here, Contains-later, Contains-map_cases, Distinct, any_found, any_true, count_from_range, length-count_from}
use Rattle.re_labels.specs.Lists.{count_from, same_list}
use Rattle.re_labels.specs.Sets.{IsIn}
use Rattle.re_problem.specs.Problems.{IsProblem, Problem}
use Rattle.re_problem.specs.Steps.{IsUpper}
use Rattle.re_labels.specs.Constraints.{Has}

-- an active node has the a numbers from its colour times a on, one for each edge, and those of a passive node are of different colours
abbrev pub ported : ℕ → ℕ → ℕ → Problem
ported a p N = record {
  labels = N * a;
  active = record { degree = a; configs = filter (λ zs. list_any (λ x. same_list zs (count_from (x * a) a)) (count_from 0 N)) (multisets a 0 (N * a)) };
  passive = record { degree = p; configs = filter (λ zs. is_distinct (map (λ z. z / a) zs)) (multisets p 0 (N * a)) };
}

module _ (a p N : ℕ) (a_low : 2 ≤ a) (a_high : a ≤ 6) (p_low : 2 ≤ p) (p_high : p ≤ 6) where
  -- the colour of a number
  pub colour_of : (x z : ℕ) → Contains (count_from (x * a) a) z → z / a ≡ x
  colour_of x z at =
      let (low, high) = count_from_range (x * a) a z at in
      let port : z ≡ x * a + (z - x * a) = omega (arith, low) in
      subst (λ z. z / a ≡ x) (sym port) (div-mul-add x a (z - x * a) (omega (arith, low, high)))

  pub number_below : (x z : ℕ) → x < N → Contains (count_from (x * a) a) z → z < N * a
  number_below x z low at =
      let (from, to) = count_from_range (x * a) a z at in
      let room : suc x * a ≤ N * a = mul-le (suc x) a N a low (omega arith) in
      let next : suc x * a ≡ x * a + a = grind arith in
      omega (arith, to, room, next)

  pub IsProblem-ported : IsProblem (ported a p N)
  IsProblem-ported = record {
    active = filtered_constraint a (N * a) (λ zs. list_any (λ x. same_list zs (count_from (x * a) a)) (count_from 0 N)) a_low a_high;
    passive = filtered_constraint p (N * a) (λ zs. is_distinct (map (λ z. z / a) zs)) p_low p_high;
  }

  pub ported_active : (config : List ℕ) → Contains (ported a p N).active.configs config
      → IsConfig a (N * a) config × ((x : ℕ) × (x < N) × (config ≡ count_from (x * a) a))
  ported_active config held =
      let (listed, passes) = Contains-filter_cases (λ zs. list_any (λ x. same_list zs (count_from (x * a) a)) (count_from 0 N)) (multisets a 0 (N * a)) config held in
      let (x, at, same) = any_found (λ x. same_list config (count_from (x * a) a)) (count_from 0 N) passes in
      let range = (count_from_range 0 N x at).1 in
      (((multisets_law a (N * a)).1 config).0 listed, (x, omega (arith, range), same_list-same config (count_from (x * a) a) same))

  pub ported_passive : (config : List ℕ) → Contains (ported a p N).passive.configs config → IsConfig p (N * a) config × Distinct (map (λ z. z / a) config)
  ported_passive config held =
      let (listed, passes) = Contains-filter_cases (λ zs. is_distinct (map (λ z. z / a) zs)) (multisets p 0 (N * a)) config held in
      (((multisets_law p (N * a)).1 config).0 listed, is_distinct-Distinct (map (λ z. z / a) config) passes)

  pub ported_active_there : (x : ℕ) → x < N → Has (ported a p N).active (count_from (x * a) a)
  ported_active_there x low =
      let same : sorted (count_from (x * a) a) ≡ count_from (x * a) a = sorted_again (count_from (x * a) a) (count_from_rises (x * a) a) in
      Contains-filter (λ zs. list_any (λ x. same_list zs (count_from (x * a) a)) (count_from 0 N)) (multisets a 0 (N * a)) (sorted (count_from (x * a) a))
      (((multisets_law a (N * a)).1 (sorted (count_from (x * a) a))).1
      (IsConfig-sorted a (N * a) (count_from (x * a) a) (length-count_from (x * a) a) (AllByRecursion-from_contains (λ z. z < N * a) (count_from (x * a) a) (λ z at. number_below x z low at))))
      (any_true (λ x'. same_list (sorted (count_from (x * a) a)) (count_from (x' * a) a)) (count_from 0 N) x (Contains-count_from 0 N x (omega arith) (omega (arith, low)))
      (subst (λ zs. same_list zs (count_from (x * a) a) ≡ true) (sym same) (same_list-refl (count_from (x * a) a))))

  pub ported_passive_there : (zs : List ℕ) → length zs ≡ p → AllByRecursion (λ z. z < N * a) zs → Distinct (map (λ z. z / a) zs) → Has (ported a p N).passive zs
  ported_passive_there zs count below different =
      Contains-filter (λ zs. is_distinct (map (λ z. z / a) zs)) (multisets p 0 (N * a)) (sorted zs)
      (((multisets_law p (N * a)).1 (sorted zs)).1 (IsConfig-sorted p (N * a) zs count below))
      (Distinct-is_distinct (map (λ z. z / a) (sorted zs)) (Distinct-Rearranged (Rearranged-map (λ z. z / a) (Rearranged-sorted zs)) different))

  -- ---- no rounds
  abbrev numbers : ℕ → List ℕ
  numbers x = count_from (x * a) a

  some_of : (s : List ℕ) (y : ℕ) → Contains s y → 0 < length s
  some_of s y (j, l, e) = omega (arith, l)

  -- chosen numbers have the colours that they stand for
  colours_again : (xs zs : List ℕ) → IsChoice zs (map numbers xs) → map (λ z. z / a) zs ≡ xs
  colours_again [] [] chosen = refl
  colours_again [] (z ∷ zs) chosen = absurd chosen
  colours_again (x ∷ xs) [] chosen = absurd chosen
  colours_again (x ∷ xs) (z ∷ zs) chosen =
      ap (λ y. y ∷ map (λ z. z / a) zs) (colour_of x z chosen.0) ∙ ap (λ ys. x ∷ ys) (colours_again xs zs chosen.1)

  below_again : (xs zs : List ℕ) → AllByRecursion (λ x. x < N) xs → IsChoice zs (map numbers xs) → AllByRecursion (λ z. z < N * a) zs
  below_again [] [] below chosen = tt
  below_again [] (z ∷ zs) below chosen = absurd chosen
  below_again (x ∷ xs) [] below chosen = absurd chosen
  below_again (x ∷ xs) (z ∷ zs) below chosen = (number_below x z below.0 chosen.0, below_again xs zs below.1 chosen.1)

  each_number : (x : ℕ) (zs : List ℕ) → ((z : ℕ) → Contains zs z → Contains (numbers x) z) → IsChoice zs (replicate (length zs) (numbers x))
  each_number x [] each = tt
  each_number x (z ∷ zs) each = (each z (Contains-here z zs), each_number x zs (λ w at. each w (Contains-later w z zs at)))

  map_alike : (k x : ℕ) → map numbers (replicate k x) ≡ replicate k (numbers x)
  map_alike zero x = refl
  map_alike (suc k) x = ap (λ row. numbers x ∷ row) (map_alike k x)

  numbered : IsUpper (ported a p N) (exchanged (colouring a p N)) numbers
  numbered = record {
    active_degree = refl;
    passive_degree = refl;
    good = λ config held.
        let (config_is, different) = colours_around a p N config held in
        record {
          count = length-map config numbers ∙ config_is.count;
          filled = AllByRecursion-from_contains (λ s. 0 < length s) (map numbers config) (λ s at.
              let (x, there, e) = Contains-map_cases numbers config s at in
              subst (λ s. 0 < length s) e (some_of (numbers x) (x * a) (Contains-count_from (x * a) a (x * a) (omega arith) (omega (arith, a_low)))));
          choice = λ labels chosen.
              ported_passive_there labels (length-AllZip IsIn labels (map numbers config) chosen ∙ (length-map config numbers ∙ config_is.count))
              (below_again config labels config_is.below chosen) (subst Distinct (sym (colours_again config labels chosen)) different);
        };
    choice = λ config held.
        let (x, low, same) = colour_around a p N config (omega (arith, a_low)) held in
        let row : IsChoice (numbers x) (replicate (length (numbers x)) (numbers x)) = each_number x (numbers x) (λ z at. at) in
        let row' : IsChoice (numbers x) (map numbers (replicate a x)) =
        subst (IsChoice (numbers x)) (sym (map_alike a x)) (subst (λ k. IsChoice (numbers x) (replicate k (numbers x))) (length-count_from (x * a) a) row) in
        (numbers x, subst (λ c. IsChoice (numbers x) (map numbers c)) (sym same) row', ported_active_there x low);
  }

  pub SolvableGiven-ported : p ≤ N → SolvableGiven (ported a p N) (colouring a p N) 0
  SolvableGiven-ported enough = SolvableGiven-zero (ported a p N) (colouring a p N) (IsInput-colouring (ported a p N) N IsProblem-ported enough) (numbers, numbered)
