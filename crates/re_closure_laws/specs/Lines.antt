-- Closed lists of lines, and the problem of two of them. A line is a list of sets, in which the empty set may stand.
use Rattle.std.specs.Prelude.{◌≡◌, ℕ, ◌<◌, ◌≤◌, ◌↔◌, not, List, length, map, filter, Contains}
use Rattle.re_labels.specs.Lists.{count_from, place_of}
use Rattle.re_labels.specs.ListSets.{list_set}
use Rattle.re_labels.specs.Sets.{IsLabelSet, IsWithin, has, within}
use Rattle.re_labels.specs.Configs.{sorted}
use Rattle.re_labels.specs.Orders.{multisets, placements}
use Rattle.re_labels.specs.Rows.{Dominates, IsChoice, combined, in_order, placed, set_at}
use Rattle.re_labels.specs.Constraints.{Constraint, Has}
use Rattle.re_labels.specs.GoodRows.{IsDominated, is_dominated, max_sets}
use Rattle.re_labels.specs.Strength.{up_set}
use Rattle.re_problem.specs.Problems.{Problem}
use Rattle.re_problem.specs.Steps.{SetEntry}

-- lines of sets, and the set for which each label stands, in order
pub record Family : Type 0 where
  pub degree : ℕ
  pub lines : List (List (List ℕ))
  pub sets : List (List ℕ)

-- each combination of two lines of the list, or of one line twice, is dominated by a line of it
abbrev pub AreClosed : ℕ → List (List (List ℕ)) → Type 0
AreClosed d lines = (line other : List (List ℕ)) (order : List ℕ) (i : ℕ) → Contains lines line → Contains lines other
    → Contains (placements d) order → i < d → IsDominated lines (combined i line (placed other order))

-- a degree from 2 to 6, and as many sets in each line, each of them that of a label; different labels stand for different sets; and the
-- lines are closed
pub record IsFamily (family : Family) : Type 0 where
  pub least : 2 ≤ family.degree
  pub most : family.degree ≤ 6
  pub count : (line : List (List ℕ)) → Contains family.lines line → length line ≡ family.degree
  pub known : (line : List (List ℕ)) (set : List ℕ) → Contains family.lines line → Contains line set → Contains family.sets set
  pub apart : (x y : ℕ) → x < length family.sets → y < length family.sets
      → IsWithin (set_at family.sets x) (set_at family.sets y) → IsWithin (set_at family.sets y) (set_at family.sets x) → x ≡ y
  pub combinations : AreClosed family.degree family.lines

-- no line of the list dominates another
abbrev pub AreApart : List (List (List ℕ)) → Type 0
AreApart lines = (line other : List (List ℕ)) → Contains lines line → Contains lines other → Dominates line other → line ≡ other

-- both have the same labels, and where the one's set for a label lies within that for another, the other's hold each other the other way round
pub record AreOpposed (family other : Family) : Type 0 where
  pub count : length family.sets ≡ length other.sets
  pub within : (x y : ℕ) → x < length family.sets → y < length family.sets
      → IsWithin (set_at family.sets x) (set_at family.sets y) ↔ IsWithin (set_at other.sets y) (set_at other.sets x)

-- the multisets of labels whose sets a line dominates
abbrev pub below : Family → Constraint
below family = record {
  degree = family.degree;
  configs = filter (λ labels. is_dominated family.lines (placed family.sets labels)) (multisets family.degree 0 (length family.sets));
}

-- the lines, as multisets of labels
abbrev pub topmost : Family → Constraint
topmost family = record {
  degree = family.degree;
  configs = list_set (map (λ line. sorted (map (place_of family.sets) line)) family.lines);
}

-- the problem of two families: active are the lines of the one, passive is what lies below lines of the other
abbrev pub problem_of : Family → Family → Problem
problem_of active passive = record { labels = length passive.sets; active = topmost active; passive = below passive }

-- the labels whose sets lie within this set
abbrev pub labels_within : List (List ℕ) → List ℕ → List ℕ
labels_within sets set = filter (λ label. within (set_at sets label) set) (count_from 0 (length sets))

-- the row of a line: in place of each set the labels whose sets lie within it
abbrev pub row_within : List (List ℕ) → List (List ℕ) → List (List ℕ)
row_within sets line = in_order (length sets) (map (labels_within sets) line)

-- the entries of the step: the labels whose sets lie within the set for a label go to this label
abbrev pub entries_within : Family → List SetEntry
entries_within family = map (λ set. record { set = set; label = place_of (map (labels_within family.sets) family.sets) set }) (max_sets (below family) (length family.sets))

-- the entries of the step to a family: each set goes to the label that stands for it
abbrev pub entries_to : Problem → Family → List SetEntry
entries_to problem family = map (λ set. record { set = set; label = place_of family.sets set }) (max_sets problem.passive problem.labels)

-- the labels below n that aren't in the set
abbrev pub others : ℕ → List ℕ → List ℕ
others n set = filter (λ label. not (has set label)) (count_from 0 n)

-- the labels at least as strong as a label around passive nodes
abbrev pub up : Problem → ℕ → List ℕ
up problem x = up_set problem.passive x problem.labels

-- the families go with the problem: the passive one's sets are sets of its labels, and the active one's all other labels; a line dominates the up-sets of
-- each passive configuration, and one what they leave out for each active configuration; and each choice of labels from a passive line is passive
pub record AreAround (problem : Problem) (active passive : Family) : Type 0 where
  pub active_degree : active.degree ≡ problem.active.degree
  pub passive_degree : passive.degree ≡ problem.passive.degree
  pub sets : (set : List ℕ) → Contains passive.sets set → IsLabelSet problem.labels set
  pub opposite : active.sets ≡ map (others problem.labels) passive.sets
  pub ups : (config : List ℕ) → Contains problem.passive.configs config → IsDominated passive.lines (map (up problem) config)
  pub downs : (config : List ℕ) → Contains problem.active.configs config → IsDominated active.lines (map (λ x. others problem.labels (up problem x)) config)
  pub choices : (line : List (List ℕ)) (labels : List ℕ) → Contains passive.lines line → IsChoice labels line → Has problem.passive labels
