-- What the lists and tests of configurations and rows mean.
use Rattle.std.specs.Prelude.{◌≡◌, ℕ, ◌<◌, ◌≤◌, ◌↔◌, IsTrue, List, Contains}
use Rattle.std.specs.declared.cmp.Ordering.TheVariants.{Less}
use Rattle.std.specs.List.{AllByRecursion}
use Rattle.re_labels.specs.Sets.{IsIn, IsLabelSet}
use Rattle.re_labels.specs.Lists.{IsBefore, IsRising, count_from}
use Rattle.re_labels.specs.Configs.{IsConfig, sorted, support_of}
use Rattle.re_labels.specs.Orders.{multisets, placements}
use Rattle.re_labels.specs.Rearranging.{Rearranged}
use Rattle.re_labels.specs.Rows.{Dominates, IsChoice, IsRow, all_rows, choices, dominates, row_cmp}

-- the ascending list of some numbers has them in another order, and two lists have one ascending list exactly where one is the
-- other in another order
abbrev pub SortedLaw : Type 0
SortedLaw = (xs ys : List ℕ) → Rearranged xs (sorted xs) × IsRising (λ x y. x ≤ y) (sorted xs) × ((sorted xs ≡ sorted ys) ↔ Rearranged xs ys)

-- the support of a configuration of labels below n is a set of labels below n, with exactly its labels
abbrev pub SupportLaw : Type 0
SupportLaw = (n : ℕ) (config : List ℕ) → (AllByRecursion (λ x. x < n) config → IsLabelSet n (support_of config)) × ((x : ℕ) → IsIn x (support_of config) ↔ Contains config x)

-- the multisets of d numbers below n are all listed, once and in lexicographic order
abbrev pub MultisetsLaw : Type 0
MultisetsLaw = (d n : ℕ) → IsRising IsBefore (multisets d 0 n) × ((config : List ℕ) → Contains (multisets d 0 n) config ↔ IsConfig d n config)

-- the placements are the orders of the places, once and in lexicographic order
abbrev pub PlacementsLaw : Type 0
PlacementsLaw = (n : ℕ) → IsRising IsBefore (placements n) × ((order : List ℕ) → Contains (placements n) order ↔ Rearranged (count_from 0 n) order)

-- the choices are all listed, and the test of domination is the fact
abbrev pub RowLaw : Type 0
RowLaw = (row other : List (List ℕ)) (labels : List ℕ) → (Contains (choices row) labels ↔ IsChoice labels row) × (IsTrue (dominates row other) ↔ Dominates row other)

-- the rows are all listed, once and in order
abbrev pub AllRowsLaw : Type 0
AllRowsLaw = (d n : ℕ) → IsRising (λ row other. row_cmp row other ≡ Less) (all_rows d n) × ((row : List (List ℕ)) → Contains (all_rows d n) row ↔ IsRow d n row)
