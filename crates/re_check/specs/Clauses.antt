-- The clauses of a step, and the first that fails.
use Rattle.std.specs.Prelude.{ℕ, ◌==◌, Bool, true, not, ◌&&◌, List, [], ◌∷◌, filter, find, length, map, if◌then◌else◌, Option}
use Rattle.std.specs.Cmp.Lexicographic.{pointwise}
use Rattle.std.specs.List.{list_all, list_any}
use Rattle.std.specs.Str.{bytes_eq}
use Rattle.re_labels.specs.Lists.{count_from, same_list}
use Rattle.re_labels.specs.Rows.{all_sets, choices, placed}
use Rattle.re_check.specs.RowEntries.{image_entries}
use Rattle.re_labels.specs.Constraints.{Constraint, has_config}
use Rattle.re_labels.specs.GoodRows.{allowed, is_allowed, is_good, max_rows}
use Rattle.re_problem.specs.NamedProblems.{NamedProblem}
use Rattle.re_problem.specs.Steps.LowerMap.{by_row, by_set}
use Rattle.re_problem.specs.Steps.{LowerMap, SetEntry, entry_sets, label_at, label_of, set_for}
use Rattle.re_cert.specs.Bounds.{BoundStep, entries_in, is_label}
use Rattle.re_check.specs.declared.clause.Clause.{Clause}
use Rattle.re_check.specs.declared.clause.Clause.TheVariants.{Back, End, L1, L2, L3, L4, L5, U1, U2, U3, U4}

-- the degrees of the next problem are those of the one before, exchanged
abbrev pub are_exchanged : NamedProblem → NamedProblem → Bool
are_exchanged before next = next.active.degree == before.passive.degree && next.passive.degree == before.active.degree

-- the rows are the maximal rows of the passive constraint, in order
abbrev pub are_maximal : NamedProblem → List (List (List ℕ)) → Bool
are_maximal before rows = pointwise (pointwise bytes_eq) rows (max_rows before.passive (length before.names))

-- the different sets of labels below n that occur in the rows, in order
abbrev pub sets_in : ℕ → List (List (List ℕ)) → List (List ℕ)
sets_in n rows = filter (λ set. list_any (list_any (same_list set)) rows) (all_sets n)

-- the entries have exactly the sets that occur in the rows, each once and ascending
abbrev pub have_row_sets : NamedProblem → List (List (List ℕ)) → List SetEntry → Bool
have_row_sets before rows entries = pointwise bytes_eq (entry_sets entries) (sets_in (length before.names) rows)

-- the image of each row is a configuration
abbrev pub keep_rows : Constraint → List (List (List ℕ)) → List SetEntry → Bool
keep_rows active rows entries = list_all (λ row. has_config active (map (label_of entries) row)) rows

-- the image of each multiset of the sets from which some choice is active before is a configuration
abbrev pub keep_allowed : Constraint → Constraint → List SetEntry → Bool
keep_allowed before passive entries = list_all (λ places. has_config passive (map (label_at entries) places)) (allowed before (entry_sets entries) before.degree)

-- ---- a map by rows
-- there are as many images as rows
abbrev pub are_as_many : List (List (List ℕ)) → List (List ℕ) → Bool
are_as_many rows images = length images == length rows

-- each image is a configuration
abbrev pub keep_images : Constraint → List (List ℕ) → Bool
keep_images active images = list_all (has_config active) images

-- the labels that the set becomes: those at its places in the images of the rows
abbrev pub labels_for : List (List (List ℕ)) → List (List ℕ) → List ℕ → List ℕ
labels_for rows images set = map (λ (entry : SetEntry). entry.label) (filter (λ (entry : SetEntry). same_list entry.set set) (image_entries rows images))

-- for each multiset of the sets of the rows from which some choice is active before, each choice of a label that each of them becomes is a configuration
abbrev pub keep_allowed_by_row : ℕ → Constraint → Constraint → List (List (List ℕ)) → List (List ℕ) → Bool
keep_allowed_by_row n before passive rows images =
    list_all (λ places. list_all (has_config passive) (choices (map (labels_for rows images) (placed (sets_in n rows) places)))) (allowed before (sets_in n rows) before.degree)

-- ---- the clauses of a map in either form
abbrev pub maps_sets : NamedProblem → List (List (List ℕ)) → LowerMap → Bool
maps_sets before rows (by_set entries) = have_row_sets before rows entries
maps_sets before rows (by_row images) = are_as_many rows images

abbrev pub maps_rows : Constraint → List (List (List ℕ)) → LowerMap → Bool
maps_rows active rows (by_set entries) = keep_rows active rows entries
maps_rows active rows (by_row images) = keep_images active images

abbrev pub maps_allowed : NamedProblem → Constraint → List (List (List ℕ)) → LowerMap → Bool
maps_allowed before passive rows (by_set entries) = keep_allowed before.active passive entries
maps_allowed before passive rows (by_row images) = keep_allowed_by_row (length before.names) before.active passive rows images

-- ---- upper steps
-- a set that isn't empty, of labels of the problem
abbrev pub is_filled : NamedProblem → List ℕ → Bool
is_filled problem set = not (length set == 0) && list_all (is_label problem) set

-- the entries have exactly the labels of the next problem, each once and ascending, each with a set of labels that isn't empty
abbrev pub have_labels : NamedProblem → NamedProblem → List SetEntry → Bool
have_labels before next entries = bytes_eq (map (λ (entry : SetEntry). entry.label) entries) (count_from 0 (length next.names)) && list_all (is_filled before) (entry_sets entries)

-- the sets of each active configuration are a good row of the passive constraint before
abbrev pub are_good : Constraint → Constraint → List SetEntry → Bool
are_good before active entries = list_all (λ config. is_good before (map (set_for entries) config)) active.configs

-- from the sets of each passive configuration some choice is active before
abbrev pub are_allowed : Constraint → Constraint → List SetEntry → Bool
are_allowed before passive entries = list_all (λ config. is_allowed before (map (set_for entries) config)) passive.configs

-- whether the step from this problem meets a clause, where it meets those before it; END and BACK ask nothing of a step
abbrev pub meets : NamedProblem → BoundStep → Clause → Bool
meets before s L1 = are_exchanged before s.next
meets before s L2 = are_maximal before s.rows
meets before s L3 = maps_sets before s.rows s.map
meets before s L4 = maps_rows s.next.active s.rows s.map
meets before s L5 = maps_allowed before s.next.passive s.rows s.map
meets before s U1 = are_exchanged before s.next
meets before s U2 = have_labels before s.next (entries_in s.map)
meets before s U3 = are_good before.passive s.next.active (entries_in s.map)
meets before s U4 = are_allowed before.active s.next.passive (entries_in s.map)
meets before s End = true
meets before s Back = true

-- the clauses of a step, in order
abbrev pub step_clauses : BoundStep → List Clause
step_clauses s = if s.lower then L1 ∷ L2 ∷ L3 ∷ L4 ∷ L5 ∷ [] else U1 ∷ U2 ∷ U3 ∷ U4 ∷ []

-- the first clause that the step from this problem doesn't meet, if any
abbrev pub step_fault : NamedProblem → BoundStep → Option Clause
step_fault before s = find (λ clause. not (meets before s clause)) (step_clauses s)
