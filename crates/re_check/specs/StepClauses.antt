-- The clauses of a lower and of an upper step but those of the degrees and of the rows.
use Rattle.std.specs.Prelude.{◌≡◌, ℕ, ◌<◌, ◌↔◌, List, length, map, Contains}
use Rattle.std.specs.List.{AllByRecursion, AllZip}
use Rattle.re_labels.specs.Lists.{IsRising, count_from}
use Rattle.re_labels.specs.Sets.{number}
use Rattle.re_labels.specs.Constraints.{Constraint, Has}
use Rattle.re_labels.specs.GoodRows.{IsAllowed, IsGood, allowed}
use Rattle.re_labels.specs.Rows.{placed}
use Rattle.re_problem.specs.Steps.{BecomesByRow, SetEntry, entry_sets, label_at, label_of, set_for}

-- the labels of the entries, in order
abbrev pub entry_labels : List SetEntry → List ℕ
entry_labels entries = map (λ (entry : SetEntry). entry.label) entries

-- ---- a lower step
-- the set occurs in some row
abbrev pub OccursInRows : List (List (List ℕ)) → List ℕ → Type 0
OccursInRows rows set = (row : List (List ℕ)) × Contains rows row × Contains row set

-- the entries have exactly the sets that occur in the rows, each once and ascending
pub record HasRowSets (rows : List (List (List ℕ))) (entries : List SetEntry) : Type 0 where
  pub ascends : IsRising (λ s t. number s < number t) (entry_sets entries)
  pub sets : (set : List ℕ) → Contains (entry_sets entries) set ↔ OccursInRows rows set

-- the image of each row is a configuration
abbrev pub KeepsRows : List (List (List ℕ)) → List SetEntry → Constraint → Type 0
KeepsRows rows entries to = (row : List (List ℕ)) → Contains rows row → Has to (map (label_of entries) row)

-- the image of each allowed multiset of the sets is a configuration
abbrev pub KeepsAllowed : List SetEntry → Constraint → Constraint → Type 0
KeepsAllowed entries from to =
    (places : List ℕ) → Contains (allowed from (entry_sets entries) from.degree) places → Has to (map (label_at entries) places)

-- ---- a lower step by rows
-- each image is a configuration
abbrev pub KeepsImages : List (List ℕ) → Constraint → Type 0
KeepsImages images to = (image : List ℕ) → Contains images image → Has to image

-- for each allowed multiset of the sets, each choice of a label that each of them becomes is a configuration
abbrev pub KeepsAllowedByRow : List (List ℕ) → List (List (List ℕ)) → List (List ℕ) → Constraint → Constraint → Type 0
KeepsAllowedByRow sets rows images from to =
    (places labels : List ℕ) → Contains (allowed from sets from.degree) places → AllZip (BecomesByRow rows images) (placed sets places) labels → Has to labels

-- ---- an upper step
-- the entries have exactly the labels of the next problem, each once and ascending, each with a nonempty set
pub record HasNextLabels (count : ℕ) (entries : List SetEntry) : Type 0 where
  pub labels : map (λ (entry : SetEntry). entry.label) entries ≡ count_from 0 count
  pub filled : AllByRecursion (λ s. 0 < length s) (entry_sets entries)

-- the sets of each configuration of the next problem are a good row
abbrev pub HasGoodImages : List SetEntry → Constraint → Constraint → Type 0
HasGoodImages entries next before = (config : List ℕ) → Contains next.configs config → IsGood before (map (set_for entries) config)

-- from the sets of each configuration of the next problem some choice is a configuration
abbrev pub HasAllowedImages : List SetEntry → Constraint → Constraint → Type 0
HasAllowedImages entries next before = (config : List ℕ) → Contains next.configs config → IsAllowed before (map (set_for entries) config)
