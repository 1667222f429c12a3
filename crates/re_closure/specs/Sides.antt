-- What is computed of the two families of a closure, and the chain that it makes.
use Rattle.std.specs.Prelude.{◌≡◌, ℕ, suc, ◌≤◌, Bool, true, List, [], ◌∷◌, ◌++◌, length, map, filter, if◌then◌else◌, slice_index_or}
use Rattle.std.specs.declared.cmp.Ordering.TheVariants.{Less}
use Rattle.re_labels.specs.Lists.{count_from}
use Rattle.re_labels.specs.Sets.{within}
use Rattle.re_labels.specs.Rows.{row_cmp, set_at}
use Rattle.re_labels.specs.declared.TheConstants.{MAX_ROWS}
use Rattle.re_labels.specs.Constraints.{Constraint}
use Rattle.re_labels.specs.GoodRows.{max_rows, max_sets}
use Rattle.re_problem.specs.NamedProblems.{NamedProblem, unnamed}
use Rattle.re_problem.specs.Problems.{Problem}
use Rattle.re_problem.specs.Steps.{SetEntry}
use Rattle.re_problem.specs.Steps.LowerMap.{by_set}
use Rattle.re_cert.specs.Bounds.{Bound, BoundStep, has_row_maps, last_problem}
use Rattle.re_cert.specs.declared.certificate.Kind.TheVariants.{Fixed}
use Rattle.re_step.specs.LabelNames.{label_names}
use Rattle.re_shaping.specs.RowForms.{step_by_rows}
use Rattle.re_closure_laws.specs.Lines.{Family, below, entries_to, entries_within, topmost}
use Rattle.re_closure.specs.declared.types.StepMap.{StepMap}

abbrev pub family_of : ℕ → List (List (List ℕ)) → List (List ℕ) → Family
family_of degree lines sets = record { degree = degree; lines = lines; sets = sets }

-- the labels whose sets hold this set
abbrev pub labels_around : List (List ℕ) → List ℕ → List ℕ
labels_around sets set = filter (λ label. within set (set_at sets label)) (count_from 0 (length sets))

-- ---- rows
abbrev pub IsRowBefore : List (List ℕ) → List (List ℕ) → Type 0
IsRowBefore row other = row_cmp row other ≡ Less

abbrev pub row_at : List (List (List ℕ)) → ℕ → List (List ℕ)
row_at rows place = slice_index_or rows place []

-- ---- problems and maps
-- the problem of two families, with the names of so many labels
abbrev pub named_of : Family → Family → NamedProblem
named_of active passive = record { names = label_names (length passive.sets); active = topmost active; passive = below passive }

-- each set goes to the label that a function gives it
abbrev pub entries_by : (List ℕ → ℕ) → List (List ℕ) → List SetEntry
entries_by label sets = map (λ set. record { set = set; label = label set }) sets

-- the maximal rows of a constraint of labels below n, and the entries of their sets, each with the label that a function gives it
pub record IsMapOf (constraint : Constraint) (n : ℕ) (label : List ℕ → ℕ) (m : StepMap) : Type 0 where
  pub rows : m.rows.items ≡ max_rows constraint n
  pub entries : m.entries.items ≡ entries_by label (max_sets constraint n)
  pub few : length m.rows.items ≤ MAX_ROWS

-- ---- the chain
-- the lower step to a problem with these rows and entries
abbrev pub step_to : NamedProblem → List (List (List ℕ)) → List SetEntry → BoundStep
step_to next rows entries = record { lower = true; next = next; rows = rows; map = by_set entries }

-- the step from a problem to that of two families that go with it
abbrev pub first_step : Problem → Family → Family → BoundStep
first_step problem active passive = step_to (named_of passive active) (max_rows problem.passive problem.labels) (entries_to problem passive)

-- the step from the problem of two families to that of the two the other way round
abbrev pub step_between : Family → Family → BoundStep
step_between active passive = step_to (named_of passive active) (max_rows (below passive) (length passive.sets)) (entries_within passive)

-- a step, or the same with its map by rows
abbrev pub in_form : Bool → BoundStep → BoundStep
in_form by_rows s = if by_rows then step_by_rows s else s

-- the fixed point that goes on from the chain by a step to the problem between, to the closure, and back to the problem behind the first of these steps; the maps of
-- the other two are by rows or by sets
abbrev pub bound_by : Bool → Bound → BoundStep → Family → Family → Bound
bound_by by_rows chain first active passive = record {
  kind = Fixed;
  back = suc (length chain.steps);
  first = chain.first;
  steps = chain.steps ++ first ∷ in_form by_rows (step_between passive active) ∷ in_form by_rows (step_between active passive) ∷ [];
  renaming = map (λ label. (label, label)) (count_from 0 (length active.sets));
}

-- the one by the steps to the closure of its last problem and back, with maps in the form of its own
abbrev pub closed_bound : Bound → Family → Family → Bound
closed_bound chain active passive =
    bound_by (has_row_maps chain.steps) chain (in_form (has_row_maps chain.steps) (first_step (unnamed (last_problem chain)) active passive)) active passive
