-- How many labels derived problems have.
use Rattle.std.proofs.Common.{◌≡◌, ℕ, zero, suc, ◌+◌, ◌-◌, ◌^◌, ◌≤◌, List, length, filter, Bool, ◌∙◌, arith, zero-add}
use Rattle.std.specs.List.{list_any}
use Rattle.std.proofs.Math.Nat.{pow-le-pow_right}
use Rattle.std.proofs.lemmas.List.{length-map}
use Rattle.std.proofs.lemmas.List.Sums.{count_by-le-length, length-filter}
use Rattle.re_labels.specs.Rows.{all_sets}
use Rattle.re_classes.specs.FewRoundsLaws.{FewLabelsLaw}
use Rattle.re_layers.specs.Towers.{tower}
use Rattle.re_labels.proofs.Membership.{length-count_from}
use Rattle.re_labels.specs.Lists.{count_from, same_list}
use Rattle.re_labels.specs.Sets.{set_of}
use Rattle.re_problem.specs.Derived.{derived, derived_by}
use Rattle.re_problem.specs.Problems.{Problem}
use Rattle.re_labels.specs.GoodRows.{max_rows}

length-all_sets : (n : ℕ) → length (all_sets n) ≤ 2 ^ n
length-all_sets n =
    let count : length (all_sets n) ≡ 2 ^ n - 1 = length-map (count_from 1 (2 ^ n - 1)) (set_of n) ∙ length-count_from 1 (2 ^ n - 1) in
    omega (arith, count)

labels-derived : (problem : Problem) → (derived problem).labels ≤ 2 ^ problem.labels
labels-derived problem =
    let test : List ℕ → Bool = λ set. list_any (list_any (same_list set)) (max_rows problem.passive problem.labels) in
    let few : length (filter test (all_sets problem.labels)) ≤ length (all_sets problem.labels) =
    rw (length-filter test (all_sets problem.labels)) (count_by-le-length test (all_sets problem.labels)) in
    let all : length (all_sets problem.labels) ≤ 2 ^ problem.labels = length-all_sets problem.labels in
    omega (arith, few, all)

pub few_labels : FewLabelsLaw
few_labels problem zero h l = rw zero-add l
few_labels problem (suc k) h l =
    let before : (derived_by k problem).labels ≤ tower (k + h) = few_labels problem k h l in
    let here : (derived (derived_by k problem)).labels ≤ 2 ^ (derived_by k problem).labels = labels-derived (derived_by k problem) in
    let power : 2 ^ (derived_by k problem).labels ≤ 2 ^ tower (k + h) = pow-le-pow_right (omega arith) before in
    let next : suc k + h ≡ suc (k + h) = omega arith in
    rw next (omega (arith, here, power))
