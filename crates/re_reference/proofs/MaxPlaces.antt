-- The sets of the maximal rows, and their places.
use Rattle.std.proofs.Common.{◌≡◌, ℕ, ◌<◌, ◌≤◌, ◌-◌, ◌^◌, true, false, cond, List, [], ◌∷◌, length, map, sym, ap, ◌∙◌, subst, arith, suc}
use Rattle.std.specs.List.{AllByRecursion, list_any}
use Rattle.std.proofs.Math.Pow.{pow_mono}
use Rattle.re_labels.proofs.Sorting.{sorted_again}
use Rattle.re_labels.specs.Configs.{sorted}
use Rattle.re_labels.specs.Rows.{all_sets}
use Rattle.re_labels.proofs.Membership.{AllByRecursion-contains, AllByRecursion-from_contains, AllByRecursion-weaker, length-count_from, length-filter_most, length-map', map-alike}
use Rattle.re_labels.specs.Lists.{count_from, place_of, same_list}
use Rattle.re_labels.specs.Sets.{IsLabelSet, set_of}
use Rattle.re_problem.proofs.DerivedProblem.{max_row_ascends}
use Rattle.re_problem.specs.Problems.{Problem}
use Rattle.re_labels.proofs.MaxSets.{max_sets-from, maximal}
use Rattle.re_labels.specs.Constraints.{Constraint}
use Rattle.re_labels.specs.GoodRows.{max_rows, max_sets}
use Rattle.re_reference.specs.Reading.{AreSets, occurring}
use Rattle.re_labels.specs.declared.TheConstants.{MAX_LABELS}

few_powers : (n : ℕ) → n ≤ 6 → 2 ^ n - 1 < 128
few_powers n h = let p : 2 ^ n ≤ 2 ^ 6 = pow_mono h in omega (arith, p)

pub sets_few : (K : Constraint) (n : ℕ) (sets : List (List ℕ)) → n ≤ 6 → sets ≡ max_sets K n → length sets < MAX_LABELS
sets_few K n sets h e =
    let shorter : length (max_sets K n) ≤ length (all_sets n) = length-filter_most (λ set. list_any (list_any (same_list set)) (max_rows K n)) (all_sets n) in
    let all : length (all_sets n) ≡ 2 ^ n - 1 = length-map' (set_of n) (count_from 1 (2 ^ n - 1)) ∙ length-count_from 1 (2 ^ n - 1) in
    let few = few_powers n h in
    subst (λ sets. length sets < MAX_LABELS) (sym e) (omega (arith, shorter, all, few))

pub sets_are : (K : Constraint) (n : ℕ) (sets : List (List ℕ)) → n ≤ 6 → sets ≡ max_sets K n → AreSets sets
sets_are K n sets h e = subst AreSets (sym e) (AllByRecursion-from_contains (λ s. IsLabelSet MAX_LABELS s × (0 < length s)) (max_sets K n) (λ set held.
    let (row, at, there) = max_sets-from K n set held in
    let is = AllByRecursion-contains (λ s. IsLabelSet n s × (0 < length s)) row set (maximal K n row at).is_row.sets there in
    ((is.0.0, AllByRecursion-weaker (λ x. x < n) (λ x. x < MAX_LABELS) (λ x l. omega (arith, l)) set is.0.1), is.1)))

-- the configurations of the maximal rows ascend as they stand
pub configs_are : (K : Constraint) (n : ℕ) (sets configs : List (List ℕ)) (rows : List (List (List ℕ))) → sets ≡ max_sets K n → rows ≡ max_rows K n
    → configs ≡ map (λ row. sorted (map (place_of sets) row)) rows → configs ≡ map (map (place_of (max_sets K n))) (max_rows K n)
configs_are K n sets configs rows e f c =
    c ∙ ap (map (λ row. sorted (map (place_of sets) row))) f ∙ ap (λ sets. map (λ row. sorted (map (place_of sets) row)) (max_rows K n)) e
    ∙ map-alike (λ row. sorted (map (place_of (max_sets K n)) row)) (map (place_of (max_sets K n))) (max_rows K n) (λ row held. sorted_again (map (place_of (max_sets K n)) row) (max_row_ascends K n row held))

place_of-most : (sets : List (List ℕ)) (set : List ℕ) → place_of sets set ≤ length sets
place_of-most [] set = omega arith
place_of-most (t ∷ sets) set = let more = place_of-most sets set in elim (same_list t set) as (λ b. cond b 0 (suc (place_of sets set)) ≤ suc (length sets)) [ true ↦ omega arith | false ↦ omega (arith, more) ]

pub places_low : (sets row : List (List ℕ)) (labels : List ℕ) → length sets < MAX_LABELS → labels ≡ map (place_of sets) row → AllByRecursion (λ x. x < MAX_LABELS) labels
places_low sets row labels h e = subst (AllByRecursion (λ x. x < MAX_LABELS)) (sym e) (go row)
  where
    go : (row : List (List ℕ)) → AllByRecursion (λ x. x < MAX_LABELS) (map (place_of sets) row)
    go [] = tt
    go (s ∷ row) = let most = place_of-most sets s in (omega (arith, most), go row)

-- the sets that are found are those of the maximal rows
pub sets_max : (K : Constraint) (m n : ℕ) (rows : List (List (List ℕ))) (given sets : List (List ℕ)) → m ≡ n → rows ≡ max_rows K n → given ≡ sets → sets ≡ occurring (all_sets m) rows → given ≡ max_sets K n
sets_max K m n rows given sets e r g s = g ∙ s ∙ ap (λ m. occurring (all_sets m) rows) e ∙ ap (occurring (all_sets n)) r

abbrev pub problem_of : ℕ → Constraint → Constraint → Problem
problem_of labels active passive = record { labels = labels; active = active; passive = passive }

pub same_problem : (m n : ℕ) (A' A P' P : Constraint) → m ≡ n → A' ≡ A → P' ≡ P → problem_of m A' P' ≡ problem_of n A P
same_problem m n A' A P' P e a p = λ i. problem_of (e i) (a i) (p i)
