-- The closure of a problem: the lines that come from its configurations by combinations, and the families of those that no other dominates.
use Rattle.std.specs.Prelude.{◌≡◌, ℕ, ◌<◌, ◌⊎◌, ◌↔◌, List, map, Contains}
use Rattle.std.specs.List.{AllByRecursion}
use Rattle.re_labels.specs.Lists.{IsRising}
use Rattle.re_labels.specs.Sets.{IsIn, IsLabelSet, number, without_label}
use Rattle.re_labels.specs.Orders.{placements}
use Rattle.re_labels.specs.Rearranging.{Rearranged}
use Rattle.re_labels.specs.Rows.{combined, placed}
use Rattle.re_labels.specs.GoodRows.{IsDominated}
use Rattle.re_problem.specs.Problems.{Problem}
use Rattle.re_closure_laws.specs.Lines.{AreApart, Family, others, up}

-- the line is one of some lines, the combination of two such lines or of one twice, or such a line in another order
pub data IsGenerated (d : ℕ) (starts : List (List (List ℕ))) : List (List ℕ) → Type 0 where
  start : {line : List (List ℕ)} → Contains starts line → IsGenerated d starts line
  combine : {line other : List (List ℕ)} {order : List ℕ} {i : ℕ} → IsGenerated d starts line → IsGenerated d starts other
      → Contains (placements d) order → i < d → IsGenerated d starts (combined i line (placed other order))
  move : {line other : List (List ℕ)} → IsGenerated d starts line → Rearranged line other → IsGenerated d starts other

-- the lines are such ones, each such line is dominated by one of them, and none of them dominates another
pub record AreTopmost (d : ℕ) (starts lines : List (List (List ℕ))) : Type 0 where
  pub generated : (line : List (List ℕ)) → Contains lines line → IsGenerated d starts line
  pub dominate : (line : List (List ℕ)) → IsGenerated d starts line → IsDominated lines line
  pub apart : AreApart lines

-- the lines of the up-sets of the passive configurations
abbrev pub up_lines : Problem → List (List (List ℕ))
up_lines problem = map (map (up problem)) problem.passive.configs

-- the lines of what the up-sets of the active configurations leave out
abbrev pub down_lines : Problem → List (List (List ℕ))
down_lines problem = map (map (λ x. others problem.labels (up problem x))) problem.active.configs

-- the set stands in one of the lines
abbrev pub Occurs : List (List (List ℕ)) → List ℕ → Type 0
Occurs lines set = (line : List (List ℕ)) × Contains lines line × Contains line set

-- the families are the closure of the problem: their lines are the topmost ones of those that come from its configurations; the sets of the labels are, in
-- order, those that occur in the passive lines and what those leave out that occur in the active ones
pub record AreClosure (problem : Problem) (active passive : Family) : Type 0 where
  pub active_degree : active.degree ≡ problem.active.degree
  pub passive_degree : passive.degree ≡ problem.passive.degree
  pub active_lines : AreTopmost active.degree (down_lines problem) active.lines
  pub passive_lines : AreTopmost passive.degree (up_lines problem) passive.lines
  pub sets : (set : List ℕ) → Contains passive.sets set
      ↔ (Occurs passive.lines set ⊎ ((other : List ℕ) × Occurs active.lines other × (set ≡ others problem.labels other)))
  pub ascends : IsRising (λ s t. number s < number t) passive.sets
  pub opposite : active.sets ≡ map (others problem.labels) passive.sets

-- the line without a label, a mark that each of its sets may hold
abbrev pub unmarked : ℕ → List (List ℕ) → List (List ℕ)
unmarked mark line = map (λ set. without_label set mark) line

-- sets of labels below n, each of which holds the mark
abbrev pub IsMarked : ℕ → ℕ → List (List ℕ) → Type 0
IsMarked n mark line = AllByRecursion (λ set. IsLabelSet n set × IsIn mark set) line
