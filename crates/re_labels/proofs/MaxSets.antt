-- The sets of the maximal rows, and the allowed multisets of sets.
use Rattle.std.proofs.Common.{◌≡◌, ℕ, ◌<◌, ◌+◌, ◌-◌, ◌^◌, Bool, List, length, sym, subst, arith}
use Rattle.std.specs.Prelude.{Contains}
use Rattle.std.specs.List.{list_any}
use Rattle.std.proofs.lemmas.Nat.{pow_pos}
use Rattle.re_labels.proofs.LawsOfRows.{multisets_law}
use Rattle.re_labels.proofs.AllMultisets.{rising-multisets}
use Rattle.re_labels.proofs.Rows.{number_filled}
use Rattle.re_labels.specs.Configs.{IsConfig}
use Rattle.re_labels.specs.Orders.{multisets}
use Rattle.re_labels.specs.Rows.{all_sets, placed}
use Rattle.re_labels.proofs.Before.{IsBefore-trans, same_list-refl, same_list-same}
use Rattle.re_labels.proofs.Membership.{AllByRecursion-contains, Contains-In, Contains-count_from, Contains-filter, Contains-filter_cases, Contains-map, In, In-Contains, any_found, any_true, count_from_range}
use Rattle.re_labels.proofs.Numbers.{IsLabelSet-count_from, set_of-number}
use Rattle.re_labels.proofs.Rising.{rising-filter, rising-map}
use Rattle.re_labels.specs.Inverse.{number-set_of}
use Rattle.re_labels.specs.Lists.{IsBefore, IsRising, count_from, same_list}
use Rattle.re_labels.specs.Sets.{IsLabelSet, number, set_of}
use Rattle.re_labels.proofs.Goodness.{Has-has_config, IsAllowed-is_allowed, IsDominated-is_dominated, IsGood-is_good, has_config-Has, is_allowed-IsAllowed, is_dominated-IsDominated, is_good-IsGood}
use Rattle.re_labels.proofs.MaxRows.{max_rows-IsMaximal}
use Rattle.re_labels.specs.Constraints.{Constraint}
use Rattle.re_labels.specs.GoodRows.{IsAllowed, IsMaximal, allowed, is_allowed, max_rows, max_sets}
use Rattle.re_labels.specs.Laws.{AllowedLaw, MaxSetsLaw, TestLaw}

-- the first set has the lower number
abbrev pub IsLowerSet : List ℕ → List ℕ → Type 0
IsLowerSet s t = number s < number t

-- ---- the sets of the maximal rows
in_all_sets : (n : ℕ) (s : List ℕ) → IsLabelSet n s → 0 < length s → Contains (all_sets n) s
in_all_sets n s h filled =
    let b = set_of-number n s h in
    let low : 0 < number s = number_filled s filled in
    let high : number s < 2 ^ n = b.0 in
    subst (λ t. Contains (all_sets n) t) b.1
    (Contains-map (set_of n) (count_from 1 (2 ^ n - 1)) (number s) (Contains-count_from 1 (2 ^ n - 1) (number s) (omega arith) (omega arith)))

rising-all_sets : (n : ℕ) → IsRising IsLowerSet (all_sets n)
rising-all_sets n = rising-map (λ x y. x < y) IsLowerSet (set_of n) (count_from 1 (2 ^ n - 1))
    (λ x y i j low. let ex : number (set_of n x) ≡ x = number-set_of n x (in_range x i) in let ey : number (set_of n y) ≡ y = number-set_of n y (in_range y j) in omega (arith, low))
    (IsLabelSet-count_from 1 (2 ^ n - 1) (1 + (2 ^ n - 1)) (omega arith)).0
  where
    in_range : (x : ℕ) → In x (count_from 1 (2 ^ n - 1)) → x < 2 ^ n
    in_range x i =
        let (low, high) = count_from_range 1 (2 ^ n - 1) x (In-Contains x (count_from 1 (2 ^ n - 1)) i) in
        let p : 0 < 2 ^ n = pow_pos n in
        omega (arith, low, high)

pub lower_chain : (s t u : List ℕ) → IsLowerSet s t → IsLowerSet t u → IsLowerSet s u
lower_chain s t u h k = omega (arith, h, k)

module _ (K : Constraint) (n : ℕ) where
  abbrev sets : List (List ℕ)
  sets = max_sets K n

  pub rising-max_sets : IsRising IsLowerSet sets
  rising-max_sets = rising-filter IsLowerSet lower_chain (λ set. list_any (list_any (same_list set)) (max_rows K n)) (all_sets n) (rising-all_sets n)

  pub maximal : (row : List (List ℕ)) → Contains (max_rows K n) row → IsMaximal K n row
  maximal row held = max_rows-IsMaximal K n row (Contains-In row (max_rows K n) held)

  -- the sets of a maximal row are labels of the derived problem
  pub max_sets-row : (row : List (List ℕ)) → Contains (max_rows K n) row → (set : List ℕ) → Contains row set → Contains sets set
  max_sets-row row held set at =
      let is = AllByRecursion-contains (λ s. IsLabelSet n s × (0 < length s)) row set (maximal row held).is_row.sets at in
      Contains-filter (λ set. list_any (list_any (same_list set)) (max_rows K n)) (all_sets n) set (in_all_sets n set is.0 is.1)
      (any_true (list_any (same_list set)) (max_rows K n) row held (any_true (same_list set) row set at (same_list-refl set)))

  -- and they have no others
  pub max_sets-from : (set : List ℕ) → Contains sets set → (row : List (List ℕ)) × Contains (max_rows K n) row × Contains row set
  max_sets-from set held =
      let two = Contains-filter_cases (λ set. list_any (list_any (same_list set)) (max_rows K n)) (all_sets n) set held in
      let (row, at, some) = any_found (list_any (same_list set)) (max_rows K n) two.1 in
      let (s, there, same) = any_found (same_list set) row some in
      (row, at, subst (λ t. Contains row t) (sym (same_list-same set s same)) there)

pub max_sets_law : MaxSetsLaw
max_sets_law K n = (rising-max_sets K n, λ set. (max_sets-from K n set, λ found. max_sets-row K n found.0 found.1 set found.2))

pub allowed_law : AllowedLaw
allowed_law K sets d = (rising-filter IsBefore IsBefore-trans test (multisets d 0 (length sets)) (rising-multisets d 0 (length sets)), λ places. (of places, to places))
  where
    test : List ℕ → Bool
    test places = is_allowed K (placed sets places)

    of : (places : List ℕ) → Contains (allowed K sets d) places → IsConfig d (length sets) places × IsAllowed K (placed sets places)
    of places held =
        let two = Contains-filter_cases test (multisets d 0 (length sets)) places held in
        (((multisets_law d (length sets)).1 places).0 two.0, is_allowed-IsAllowed K (placed sets places) two.1)

    to : (places : List ℕ) → IsConfig d (length sets) places × IsAllowed K (placed sets places) → Contains (allowed K sets d) places
    to places (config, allow) = Contains-filter test (multisets d 0 (length sets)) places (((multisets_law d (length sets)).1 places).1 config) (IsAllowed-is_allowed K (placed sets places) allow)

pub test_law : TestLaw
test_law K labels row rows = (
  (has_config-Has K labels, Has-has_config K labels),
  (is_good-IsGood K row, IsGood-is_good K row),
  (is_allowed-IsAllowed K row, IsAllowed-is_allowed K row),
  (is_dominated-IsDominated rows row, IsDominated-is_dominated rows row),
)
