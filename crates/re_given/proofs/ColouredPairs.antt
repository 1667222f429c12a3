-- Proper colourings, seen from the edges between active nodes, are unavoidable where there are very many colours.
use Rattle.std.proofs.Common.{◌≡◌, ℕ, zero, suc, ◌+◌, ◌-◌, ◌*◌, ◌^◌, ◌≤◌, ◌<◌, Bool, true, eqb, inl, inr, List, [], ◌∷◌, filter, map, length, get_or, subst, refl, sym, ◌∙◌, ap, arith}
use Rattle.std.specs.Prelude.{◌||◌, Contains, replicate, ◌⊎◌}
use Rattle.std.specs.List.{AllByRecursion, AllZip, list_any}
use Rattle.std.proofs.lemmas.List.{get_or_default, length-map}
use Rattle.std.proofs.lemmas.List.Elements.{Contains-get_or}
use Rattle.std.proofs.lemmas.Nat.{pow_pos}
use Rattle.re_labels.proofs.Sorting.{sorted_again}
use Rattle.re_given.proofs.AvoidedInputs.{lower_bound_unavoidable}
use Rattle.re_given.proofs.ChainGiven.{exchanged_by-twice}
use Rattle.re_labels.proofs.Replicated.{alike_rise}
use Rattle.re_given.proofs.Colourings.{IsInput-colouring, colour_there, colours_there, pigeonhole}
use Rattle.re_given.specs.Given.{SolvableGiven}
use Rattle.re_given.specs.Inputs.{IsInput, exchanged}
use Rattle.re_given.specs.Unavoidable.{IsMet, IsUnavoidable, colouring}
use Rattle.re_labels.proofs.Membership.{AllByRecursion-contains, Contains-count_from, Contains-filter, Contains-filter_cases, Contains-here, Contains-later, Contains-map, any_found, any_true, count_from_range, length-count_from}
use Rattle.re_labels.proofs.Numbers.{IsLabelSet-count_from, IsLabelSet-filter, set_of-number}
use Rattle.re_labels.proofs.Tests.{eqb-same, eqb-true, or-left, or-right, or-true}
use Rattle.re_labels.specs.Lists.{count_from}
use Rattle.re_labels.specs.Sets.{IsLabelSet, number, set_of}
use Rattle.re_laws.specs.Chains.{IsLowerChain}
use Rattle.re_problem.specs.Problems.{IsProblem, Problem}
use Rattle.re_problem.specs.Steps.{Becomes}
use Rattle.re_problem.specs.Zero.{Zero}

module _ (a c n : ℕ) (some : 1 ≤ a) (many : 2 ^ n < c) (image : List ℕ → List ℕ)
    (each : (config : List ℕ) → Contains (exchanged (colouring a 2 c)).active.configs config → (length (image config) ≡ 2) × AllByRecursion (λ x. x < n) (image config)) where
  -- the image of the pair of two colours, the lower one first
  abbrev of_pair : ℕ → ℕ → List ℕ
  of_pair x y = image (x ∷ y ∷ [])

  pair_there : (x y : ℕ) → x < y → y < c → Contains (colouring a 2 c).passive.configs (x ∷ y ∷ [])
  pair_there x y l m = colours_there a 2 c (x ∷ y ∷ []) refl ((l, tt), (omega arith, (m, tt)))

  -- whether a colour becomes a label: beside a lower one, or beside a higher one
  abbrev is_beside : ℕ → ℕ → Bool
  is_beside z label =
      list_any (λ x. eqb (get_or (of_pair x z) 1 n) label) (count_from 0 z) || list_any (λ y. eqb (get_or (of_pair z y) 0 n) label) (count_from (suc z) (c - suc z))

  -- the labels that a colour becomes
  abbrev beside : ℕ → List ℕ
  beside z = filter (is_beside z) (count_from 0 n)

  beside_set : (z : ℕ) → IsLabelSet n (beside z)
  beside_set z = IsLabelSet-filter (is_beside z) n (count_from 0 n) (IsLabelSet-count_from 0 n n (omega arith))

  -- the labels of a pair's image are below n
  image_is : (x y : ℕ) → x < y → y < c → (length (of_pair x y) ≡ 2) × AllByRecursion (λ x. x < n) (of_pair x y)
  image_is x y l m = each (x ∷ y ∷ []) (pair_there x y l m)

  first_beside : (x y : ℕ) → x < y → y < c → Contains (beside x) (get_or (of_pair x y) 0 n)
  first_beside x y l m =
      let (count, below) = image_is x y l m in
      let label : ℕ = get_or (of_pair x y) 0 n in
      let low : label < n = AllByRecursion-contains (λ x. x < n) (of_pair x y) label below (Contains-get_or (of_pair x y) 0 n (omega (arith, count))) in
      Contains-filter (is_beside x) (count_from 0 n) label (Contains-count_from 0 n label (omega arith) (omega (arith, low)))
      (or-right (list_any (λ w. eqb (get_or (of_pair w x) 1 n) label) (count_from 0 x)) (list_any (λ y. eqb (get_or (of_pair x y) 0 n) label) (count_from (suc x) (c - suc x)))
      (any_true (λ y. eqb (get_or (of_pair x y) 0 n) label) (count_from (suc x) (c - suc x)) y (Contains-count_from (suc x) (c - suc x) y (omega (arith, l)) (omega (arith, l, m))) (eqb-same label)))

  second_beside : (x y : ℕ) → x < y → y < c → Contains (beside y) (get_or (of_pair x y) 1 n)
  second_beside x y l m =
      let (count, below) = image_is x y l m in
      let label : ℕ = get_or (of_pair x y) 1 n in
      let low : label < n = AllByRecursion-contains (λ x. x < n) (of_pair x y) label below (Contains-get_or (of_pair x y) 1 n (omega (arith, count))) in
      Contains-filter (is_beside y) (count_from 0 n) label (Contains-count_from 0 n label (omega arith) (omega (arith, low)))
      (or-left (list_any (λ w. eqb (get_or (of_pair w y) 1 n) label) (count_from 0 y)) (list_any (λ z. eqb (get_or (of_pair y z) 0 n) label) (count_from (suc y) (c - suc y)))
      (any_true (λ w. eqb (get_or (of_pair w y) 1 n) label) (count_from 0 y) x (Contains-count_from 0 y x (omega arith) (omega (arith, l))) (eqb-same label)))

  -- a colour becomes what is beside it
  becomes_of : (z label : ℕ) → z < c → Contains (beside z) label → Becomes (exchanged (colouring a 2 c)).active image z label
  becomes_of z label l held = go (or-true (list_any (λ x. eqb (get_or (of_pair x z) 1 n) label) (count_from 0 z)) (list_any (λ y. eqb (get_or (of_pair z y) 0 n) label) (count_from (suc z) (c - suc z))) (Contains-filter_cases (is_beside z) (count_from 0 n) label held).1)
    where
      go : (list_any (λ x. eqb (get_or (of_pair x z) 1 n) label) (count_from 0 z) ≡ true) ⊎ (list_any (λ y. eqb (get_or (of_pair z y) 0 n) label) (count_from (suc z) (c - suc z)) ≡ true) → Becomes (exchanged (colouring a 2 c)).active image z label
      go (inl e) =
          let (x, x_in, passes) = any_found (λ x. eqb (get_or (of_pair x z) 1 n) label) (count_from 0 z) e in
          let range = count_from_range 0 z x x_in in
          let low : x < z = omega (arith, range.1) in
          let count = (image_is x z low l).0 in
          (x ∷ z ∷ [], pair_there x z low l, (1, omega arith, omega (arith, count), refl, get_or_default (of_pair x z) 1 label n (omega (arith, count)) ∙ eqb-true (get_or (of_pair x z) 1 n) label passes))
      go (inr e) =
          let (y, y_in, passes) = any_found (λ y. eqb (get_or (of_pair z y) 0 n) label) (count_from (suc z) (c - suc z)) e in
          let range = count_from_range (suc z) (c - suc z) y y_in in
          let low : z < y = omega (arith, range.0) in
          let high : y < c = omega (arith, range.1, l) in
          let count = (image_is z y low high).0 in
          (z ∷ y ∷ [], pair_there z y low high, (0, omega arith, omega (arith, count), refl, get_or_default (of_pair z y) 0 label n (omega (arith, count)) ∙ eqb-true (get_or (of_pair z y) 0 n) label passes))

  -- two colours that become the same labels: both labels of their pair's image are beside the second one
  met_by : (x y : ℕ) → x < y → y < c → beside x ≡ beside y → IsMet (exchanged (colouring a 2 c)) image (of_pair x y)
  met_by x y l m same drawn count within = (
    replicate a y,
    subst (λ k. AllZip (Becomes (exchanged (colouring a 2 c)).active image) (replicate k y) drawn) count (all_become drawn within),
    rw (sorted_again (replicate a y) (alike_rise a y)) (colour_there a 2 c y some m),
  )
    where
      both : (v : ℕ) → Contains (of_pair x y) v → Contains (beside y) v
      both v (k, k_in, at) = at_place k k_in (get_or_default (of_pair x y) k n v k_in ∙ at)
        where
          at_place : (k : ℕ) → k < length (of_pair x y) → get_or (of_pair x y) k n ≡ v → Contains (beside y) v
          at_place zero k_in at = subst (λ (s : List ℕ). Contains s v) same (subst (Contains (beside x)) at (first_beside x y l m))
          at_place (suc zero) k_in at = subst (Contains (beside y)) at (second_beside x y l m)
          at_place (suc (suc k)) k_in at = absurd (let two = (image_is x y l m).0 in omega (arith, k_in, two))

      all_become : (drawn : List ℕ) → AllByRecursion (Contains (of_pair x y)) drawn → AllZip (Becomes (exchanged (colouring a 2 c)).active image) (replicate (length drawn) y) drawn
      all_become [] within = tt
      all_become (v ∷ drawn) within = (becomes_of y v m (both v within.0), all_become drawn within.1)

  abbrev places : List (List ℕ)
  places = map (set_of n) (count_from 0 (2 ^ n))

  beside_listed : (z : ℕ) → Contains places (beside z)
  beside_listed z =
      let (low, same) = set_of-number n (beside z) (beside_set z) in
      subst (Contains places) same (Contains-map (set_of n) (count_from 0 (2 ^ n)) (number (beside z)) (Contains-count_from 0 (2 ^ n) (number (beside z)) (omega arith) (omega (arith, low))))

  pub pairs_met : (config : List ℕ) × Contains (exchanged (colouring a 2 c)).active.configs config × IsMet (exchanged (colouring a 2 c)) image (image config)
  pairs_met = go (pigeonhole beside 1 c places (count_from 0 c) (IsLabelSet-count_from 0 c c (omega arith)) (λ z held. beside_listed z) enough)
    where
      enough : 1 * length places < length (count_from 0 c)
      enough =
          let count : length places ≡ 2 ^ n = length-map (count_from 0 (2 ^ n)) (set_of n) ∙ length-count_from 0 (2 ^ n) in
          omega (arith, count, length-count_from 0 c, many)

      go : (s : List ℕ) × (zs : List ℕ) × IsLabelSet c zs × (1 < length zs) × ((z : ℕ) → Contains zs z → beside z ≡ s) → (config : List ℕ) × Contains (exchanged (colouring a 2 c)).active.configs config × IsMet (exchanged (colouring a 2 c)) image (image config)
      go (s, [], set, more, same) = absurd (omega (arith, more))
      go (s, x ∷ [], set, more, same) = absurd (omega (arith, more))
      go (s, x ∷ y ∷ zs, set, more, same) =
          let l : x < y = set.0.0 in
          let m : y < c = set.1.1.0 in
          (x ∷ y ∷ [], pair_there x y l m, met_by x y l m (same x (Contains-here x (y ∷ zs)) ∙ sym (same y (Contains-later y x (y ∷ zs) (Contains-here y zs)))))

pub pairs_unavoidable : (a c n : ℕ) → 1 ≤ a → 2 ^ n < c → IsUnavoidable (exchanged (colouring a 2 c)) n
pairs_unavoidable a c n some many image each = pairs_met a c n some many image each

-- ---- a bound of an odd number of steps
pub lower_bound_pairs : (half : ℕ) {first last : Problem} {c : ℕ} → IsProblem first → first.passive.degree ≡ 2 → IsLowerChain first (suc (half + half)) last → (Zero last → ⊥) → 2 ^ last.labels < c
    → (T : ℕ) → T ≤ suc (half + half) → SolvableGiven first (colouring first.active.degree 2 c) T → ⊥
lower_bound_pairs half {first} {last} {c} is pairs steps not_zero many T l h =
    let input : Problem = colouring first.active.degree 2 c in
    let is_input : IsInput first input = subst (λ p. IsInput first (colouring first.active.degree p c)) pairs (IsInput-colouring first c is (omega (arith, pairs, two_colours last.labels))) in
    let unavoidable : IsUnavoidable (exchanged input) last.labels = pairs_unavoidable first.active.degree c last.labels (let low = is.active.least in omega arith) many in
    lower_bound_unavoidable is is_input steps not_zero (subst (λ i. IsUnavoidable (exchanged i) last.labels) (sym (exchanged_by-twice half input)) unavoidable) T l h
  where
    two_colours : (n : ℕ) → 1 ≤ 2 ^ n
    two_colours n = let low = pow_pos n in omega (arith, low)
