-- What the lists and tests of configurations and rows mean.
use Rattle.std.proofs.Common.{ℕ, ◌<◌, ◌+◌, List, sym, subst, arith}
use Rattle.std.specs.Prelude.{Contains}
use Rattle.re_labels.proofs.ChoicesOfRows.{IsChoice-choices, choices-IsChoice}
use Rattle.re_labels.proofs.AllMultisets.{In-multisets, In-multisets_from, all_rising_steps, rising-multisets}
use Rattle.re_labels.proofs.PlacementsRise.{rising-placements}
use Rattle.re_labels.proofs.Placing.{Dominates-dominates, In-orders, Rearranged-orders, dominates-Dominates}
use Rattle.re_labels.proofs.Rearranging.{Rearranged-sym}
use Rattle.re_labels.proofs.Rows.{all_rows_from, all_steps_rising, in_all_rows, rising-all_rows}
use Rattle.re_labels.proofs.Sorting.{Rearranged-sorted, sorted-Rearranged, sorted_rises}
use Rattle.re_labels.specs.Configs.{IsConfig}
use Rattle.re_labels.specs.ConfigurationLaws.{AllRowsLaw, MultisetsLaw, PlacementsLaw, RowLaw, SortedLaw}
use Rattle.re_labels.specs.Orders.{multisets, placements}
use Rattle.re_labels.specs.Rearranging.{Rearranged, chained}
use Rattle.re_labels.specs.Rows.{all_rows}
use Rattle.re_labels.proofs.Membership.{AllByRecursion-weaker, Contains-In, In-Contains, length-count_from}
use Rattle.re_labels.specs.Lists.{count_from}

pub sorted_law : SortedLaw
sorted_law xs ys = (
  Rearranged-sorted xs,
  sorted_rises xs,
  (
    λ e. chained (Rearranged-sorted xs) (subst (λ l. Rearranged l ys) (sym e) (Rearranged-sym (Rearranged-sorted ys))),
    sorted-Rearranged,
  ),
)

pub multisets_law : MultisetsLaw
multisets_law d n = (rising-multisets d 0 n, λ config. (of config, to config))
  where
    of : (config : List ℕ) → Contains (multisets d 0 n) config → IsConfig d n config
    of config held =
        let m = In-multisets_from d 0 n config (Contains-In config (multisets d 0 n) held) in
        record {
          count = m.count;
          below = AllByRecursion-weaker (λ x. x < 0 + n) (λ x. x < n) (λ x l. omega arith) config m.below;
          ascends = all_steps_rising 0 config m.steps;
        }

    to : (config : List ℕ) → IsConfig d n config → Contains (multisets d 0 n) config
    to config c = In-Contains config (multisets d 0 n) (In-multisets d 0 n config (record {
      count = c.count;
      steps = all_rising_steps config c.ascends;
      below = AllByRecursion-weaker (λ x. x < n) (λ x. x < 0 + n) (λ x l. omega arith) config c.below;
    }))

pub placements_law : PlacementsLaw
unfolding placements
placements_law n = (
  rising-placements n,
  λ order. (
    λ held. Rearranged-orders n (count_from 0 n) order (length-count_from 0 n) (Contains-In order (placements n) held),
    λ r. In-Contains order (placements n) (In-orders n (count_from 0 n) order (length-count_from 0 n) r),
  ),
)

pub row_law : RowLaw
row_law row other labels = ((IsChoice-choices row labels, choices-IsChoice row labels), (dominates-Dominates row other, Dominates-dominates row other))

pub all_rows_law : AllRowsLaw
all_rows_law d n = (rising-all_rows n d, λ row. (λ held. all_rows_from n d row (Contains-In row (all_rows d n) held), λ is. In-Contains row (all_rows d n) (in_all_rows n d row is)))
