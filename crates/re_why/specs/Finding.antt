-- What shows that a clause fails: the first thing that does, in a stated order.
use Rattle.std.specs.Prelude.{◌≡◌, ◌<◌, ℕ, suc, ◌-◌, ◌==◌, nat_lt, Bool, true, not, ◌&&◌, List, [], ◌∷◌, length, map, find, replicate, if◌then◌else◌, Option, None, Some, option_map, option_and_then, slice_index_or}
use Rattle.std.specs.List.{AllByRecursion, list_any}
use Rattle.std.specs.Option.{option_or}
use Rattle.std.specs.Ordering.{is_eq, is_lt, nat_cmp}
use Rattle.re_labels.specs.Lists.{same_list}
use Rattle.re_labels.specs.Sets.{has, number}
use Rattle.re_labels.specs.declared.TheConstants.{MAX_LABELS}
use Rattle.re_labels.specs.Configs.{sorted, support_of}
use Rattle.re_labels.specs.Rows.{row_cmp, set_at}
use Rattle.re_labels.specs.declared.TheConstants.{MAX_ROWS}
use Rattle.re_labels.specs.Constraints.{Constraint, has_config}
use Rattle.re_labels.specs.GoodRows.{is_good, max_rows}
use Rattle.re_boxes.specs.Grown.{added}
use Rattle.re_boxes.specs.Ordering.{is_row_before}
use Rattle.re_problem.specs.NamedProblems.{NamedProblem, unnamed}
use Rattle.re_problem.specs.Problems.{Problem}
use Rattle.re_problem.specs.Steps.{LowerMap, SetEntry, entry_sets, label_of, set_for}
use Rattle.re_problem.specs.Steps.LowerMap.{by_row, by_set}
use Rattle.re_problem.specs.Zero.{zero_place}
use Rattle.re_problem.specs.Verdicts.{first_label, first_not_allowed, first_not_good, renaming_verdict}
use Rattle.re_problem.specs.declared.verdict.MapVerdict.{MapVerdict}
use Rattle.re_problem.specs.declared.verdict.MapVerdict.TheVariants.{Yes}
use Rattle.re_cert.specs.Bounds.{Bound, BoundStep, entries_in, is_lower, last_problem, problem_at}
use Rattle.re_cert.specs.declared.certificate.Kind.{Kind}
use Rattle.re_check.specs.LabelsOver.{labels_over}
use Rattle.re_check.specs.RowEntries.{image_entries, row_entries}
use Rattle.re_check.specs.declared.clause.Clause.{Clause}
use Rattle.re_check.specs.declared.clause.Clause.TheVariants.{L1, L2, L3, L4, L5, U1, U2, U3, U4, End, Back}
use Rattle.re_check.specs.Verdicts.{bound_fault, fault_at}
use Rattle.re_check.specs.Clauses.{step_fault}
use Rattle.re_check.specs.declared.verdict.ClauseFault.{ClauseFault}
use Rattle.re_why.specs.BadChoice.{first_bad}
use Rattle.re_why.specs.declared.finding.Refutation.{Refutation}
use Rattle.re_why.specs.declared.witness.Witness.{Witness}
use Rattle.re_why.specs.declared.witness.Witness.TheVariants.{Degrees, BadRow, Extends, RowOrder, ManyRows, MissingRow, SetOrder, MissingSet, ForeignSet, ImageCount, LostRow, LostChoice, LabelOrder, MissingLabel, EmptySet, BadSets, ShutSets, Fit, NoActive, NoFit, PairOrder, MissingPair, Renaming}

-- ---- the first in a list
-- the first that the elements give, with their places counted from here on
abbrev pub first_from : {X W : Type 0} → (ℕ → X → Option W) → ℕ → List X → Option W
first_from give k [] = None
first_from give k (x ∷ xs) = option_or (give k x) (first_from give (suc k) xs)

-- the first that the elements give
abbrev pub first_some : {X W : Type 0} → (X → Option W) → List X → Option W
first_some give [] = None
first_some give (x ∷ xs) = option_or (give x) (first_some give xs)

-- the place, counted from here on, of the first element that isn't before the one behind it
abbrev pub first_unordered : {X : Type 0} → (X → X → Bool) → ℕ → List X → Option ℕ
first_unordered before k [] = None
first_unordered before k (x ∷ []) = None
first_unordered before k (x ∷ y ∷ xs) = if before x y then first_unordered before (suc k) (y ∷ xs) else Some k

-- ---- L2: the rows
abbrev pub bad_row : Constraint → ℕ → List (List ℕ) → Option Witness
bad_row passive k row = option_map (BadRow k) (first_bad passive row)

-- whether the label isn't in the set at the place, and the row is good with it there
abbrev pub can_add : Constraint → List (List ℕ) → ℕ → ℕ → Bool
can_add passive row place label = not (has (set_at row place) label) && is_good passive (added place label row)

abbrev pub extended_at : Constraint → ℕ → ℕ → List (List ℕ) → ℕ → List ℕ → Option Witness
extended_at passive n k row place set = option_map (Extends k place) (first_label (can_add passive row place) n)

abbrev pub extended : Constraint → ℕ → ℕ → List (List ℕ) → Option Witness
extended passive n k row = first_from (extended_at passive n k row) 0 row

abbrev pub is_listed : List (List (List ℕ)) → List (List ℕ) → Bool
is_listed rows row = list_any (λ other. is_eq (row_cmp row other)) rows

-- that there are too many maximal rows, or the first that isn't there
abbrev pub missing_row : Constraint → ℕ → List (List (List ℕ)) → Option Witness
missing_row passive n rows =
    if nat_lt MAX_ROWS (length (max_rows passive n)) then Some ManyRows
    else option_map MissingRow (find (λ row. not (is_listed rows row)) (max_rows passive n))

-- the first row that isn't good, the first to which a label can be added, the first that isn't before the next one, a row that is missing
abbrev pub row_witness : Constraint → ℕ → List (List (List ℕ)) → Option Witness
row_witness passive n rows =
    option_or (first_from (bad_row passive) 0 rows)
    (option_or (first_from (extended passive n) 0 rows)
    (option_or (option_map RowOrder (first_unordered is_row_before 0 rows))
    (missing_row passive n rows)))

-- ---- L3: the sets of the entries
abbrev pub sets_ascend : SetEntry → SetEntry → Bool
sets_ascend entry next = is_lt (nat_cmp (number entry.set) (number next.set))

abbrev pub has_set : List SetEntry → List ℕ → Bool
has_set entries set = list_any (same_list set) (entry_sets entries)

abbrev pub occurs_in : List (List (List ℕ)) → List ℕ → Bool
occurs_in rows set = list_any (list_any (same_list set)) rows

-- the first set of the rows that no entry has
abbrev pub missing_set : List (List (List ℕ)) → List SetEntry → Option (List ℕ)
missing_set rows entries = first_some (find (λ set. not (has_set entries set))) rows

abbrev pub is_foreign : List (List (List ℕ)) → SetEntry → Bool
is_foreign rows entry = not (occurs_in rows entry.set)

-- the first set of an entry that is in no row
abbrev pub foreign_set : List (List (List ℕ)) → List SetEntry → Option (List ℕ)
foreign_set rows entries = option_map (λ (entry : SetEntry). entry.set) (find (is_foreign rows) entries)

abbrev pub ordered_witness : List (List (List ℕ)) → List SetEntry → Option Witness
ordered_witness rows entries = option_or (option_map MissingSet (missing_set rows entries)) (option_map ForeignSet (foreign_set rows entries))

abbrev pub by_set_witness : List (List (List ℕ)) → List SetEntry → Option Witness
by_set_witness rows entries = option_or (option_map SetOrder (first_unordered sets_ascend 0 entries)) (ordered_witness rows entries)

abbrev pub set_witness : List (List (List ℕ)) → LowerMap → Option Witness
set_witness rows (by_set entries) = by_set_witness rows entries
set_witness rows (by_row images) = Some ImageCount

-- ---- L4: the images of the rows
abbrev pub is_held : Constraint → List ℕ → Bool
is_held constraint config = list_any (λ other. same_list other config) constraint.configs

-- the row with its image, where that is no configuration
abbrev pub lost : Constraint → ℕ → List ℕ → Option Witness
lost active k image = if is_held active image then None else Some (LostRow k image)

abbrev pub lost_row : Constraint → List SetEntry → ℕ → List (List ℕ) → Option Witness
lost_row active entries k row = lost active k (sorted (map (label_of entries) row))

abbrev pub image_witness : Constraint → List (List (List ℕ)) → LowerMap → Option Witness
image_witness active rows (by_set entries) = first_from (lost_row active entries) 0 rows
image_witness active rows (by_row images) = first_from (λ k image. lost active k (sorted image)) 0 images

-- ---- L5: the images of what can be chosen
-- the sets with the labels that they become
abbrev pub map_entries : List (List (List ℕ)) → LowerMap → List SetEntry
map_entries rows (by_set entries) = entries
map_entries rows (by_row images) = image_entries rows images

-- labels that configurations may have
abbrev pub AreBelow : LowerMap → Type 0
AreBelow (by_set entries) = AllByRecursion (λ (entry : SetEntry). entry.label < MAX_LABELS) entries
AreBelow (by_row images) = AllByRecursion (AllByRecursion (λ label. label < MAX_LABELS)) images

abbrev pub entry_becomes : ℕ → ℕ → SetEntry → Bool
entry_becomes label image entry = has entry.set label && entry.label == image

-- the first set that holds the label and becomes the image
abbrev pub set_becoming : List SetEntry → ℕ → ℕ → Option (List ℕ)
set_becoming entries label image = option_map (λ (entry : SetEntry). entry.set) (find (entry_becomes label image) entries)

-- the first such set in the rows
abbrev pub rows_becoming : List (List (List ℕ)) → List (List ℕ) → ℕ → ℕ → Option (List ℕ)
rows_becoming [] images label image = None
rows_becoming (row ∷ rows) [] label image = None
rows_becoming (row ∷ rows) (first ∷ images) label image = option_or (set_becoming (row_entries row first) label image) (rows_becoming rows images label image)

-- the first set that holds the label and becomes the image
abbrev pub becoming : List (List (List ℕ)) → LowerMap → ℕ → ℕ → Option (List ℕ)
becoming rows (by_set entries) label image = set_becoming entries label image
becoming rows (by_row images) label image = rows_becoming rows images label image

abbrev pub set_or_none : Option (List ℕ) → List ℕ
set_or_none None = []
set_or_none (Some set) = set

-- such sets for the labels and their images
abbrev pub sets_becoming : List (List (List ℕ)) → LowerMap → List ℕ → List ℕ → List (List ℕ)
sets_becoming rows m [] images = []
sets_becoming rows m (label ∷ labels) [] = []
sets_becoming rows m (label ∷ labels) (image ∷ images) = set_or_none (becoming rows m label image) ∷ sets_becoming rows m labels images

-- the configuration with sets from which it can be chosen and labels that they become, where some such labels are no configuration
abbrev pub lost_choice : List (List (List ℕ)) → LowerMap → Constraint → List ℕ → Option Witness
lost_choice rows m passive config = option_map (λ labels. LostChoice config (sets_becoming rows m config labels) labels) (first_bad passive (map (labels_over (map_entries rows m)) config))

abbrev pub lost_witness : Constraint → Constraint → List (List (List ℕ)) → LowerMap → Option Witness
lost_witness before passive rows m = first_some (lost_choice rows m passive) before.configs

-- ---- upper steps
abbrev pub labels_ascend : SetEntry → SetEntry → Bool
labels_ascend entry next = nat_lt entry.label next.label

abbrev pub is_empty : SetEntry → Bool
is_empty entry = length entry.set == 0

-- whether some entry has the label
abbrev pub names_label : List SetEntry → ℕ → Bool
names_label entries label = list_any (λ (entry : SetEntry). entry.label == label) entries

abbrev pub empty_set : List SetEntry → Option ℕ
empty_set entries = option_map (λ (entry : SetEntry). entry.label) (find is_empty entries)

-- the first entry whose label isn't below the next one, the first label that no entry has, the first with an empty set
abbrev pub label_witness : ℕ → List SetEntry → Option Witness
label_witness n entries =
    option_or (option_map LabelOrder (first_unordered labels_ascend 0 entries))
    (option_or (option_map MissingLabel (first_label (λ label. not (names_label entries label)) n))
    (option_map EmptySet (empty_set entries)))

-- the first configuration whose sets are no good row, with the first choice that shows it
abbrev pub bad_sets : Constraint → List SetEntry → List ℕ → Option Witness
bad_sets passive entries config = option_map (BadSets config (map (set_for entries) config)) (first_bad passive (map (set_for entries) config))

abbrev pub bad_witness : Constraint → Constraint → List SetEntry → Option Witness
bad_witness passive active entries = option_and_then (bad_sets passive entries) (first_not_good (entry_sets entries) active passive)

-- the first configuration from whose sets none can be chosen
abbrev pub shut_witness : Constraint → Constraint → List SetEntry → Option Witness
shut_witness before passive entries = option_map (λ config. ShutSets config (map (set_for entries) config)) (first_not_allowed (entry_sets entries) passive before)

-- ---- what shows that a step fails a clause
abbrev pub step_witness : NamedProblem → BoundStep → Clause → Option Witness
step_witness before s L1 = Some (Degrees s.next.active.degree s.next.passive.degree)
step_witness before s L2 = row_witness before.passive (length before.names) s.rows
step_witness before s L3 = set_witness s.rows s.map
step_witness before s L4 = image_witness s.next.active s.rows s.map
step_witness before s L5 = lost_witness before.active s.next.passive s.rows s.map
step_witness before s U1 = Some (Degrees s.next.active.degree s.next.passive.degree)
step_witness before s U2 = label_witness (length s.next.names) (entries_in s.map)
step_witness before s U3 = bad_witness before.passive s.next.active (entries_in s.map)
step_witness before s U4 = shut_witness before.active s.next.passive (entries_in s.map)
step_witness before s clause = None

-- ---- the end
abbrev pub fit_at : Constraint → ℕ → Witness
fit_at active place = Fit (slice_index_or active.configs place [])

abbrev pub fit_witness : Problem → Option Witness
fit_witness last = option_map (fit_at last.active) (zero_place last)

-- labels of the configuration that are no passive configuration
abbrev pub no_fit : Constraint → List ℕ → Option Witness
no_fit passive config = option_map (NoFit config) (first_bad passive (replicate passive.degree (support_of config)))

abbrev pub no_fit_of : Constraint → List (List ℕ) → Option Witness
no_fit_of passive [] = Some NoActive
no_fit_of passive (config ∷ configs) = no_fit passive config

abbrev pub no_fit_witness : Problem → Option Witness
no_fit_witness last = no_fit_of last.passive last.active.configs

abbrev pub end_witness : Kind → NamedProblem → Option Witness
end_witness kind last = if is_lower kind then fit_witness (unnamed last) else no_fit_witness (unnamed last)

abbrev pub firsts : List (ℕ × ℕ) → List ℕ
firsts pairs = map (λ (pair : ℕ × ℕ). pair.0) pairs

abbrev pub seconds : List (ℕ × ℕ) → List ℕ
seconds pairs = map (λ (pair : ℕ × ℕ). pair.1) pairs

abbrev pub pairs_ascend : ℕ × ℕ → ℕ × ℕ → Bool
pairs_ascend pair next = nat_lt pair.0 next.0

-- whether some pair has this first label
abbrev pub names_first : List (ℕ × ℕ) → ℕ → Bool
names_first pairs label = list_any (λ (pair : ℕ × ℕ). pair.0 == label) pairs

abbrev pub renaming_witness : MapVerdict → Option Witness
renaming_witness Yes = None
renaming_witness verdict = Some (Renaming verdict)

-- the first pair whose first label isn't below the next one, the first label that no pair has, the first violation of the renaming
abbrev pub ordered_back_witness : NamedProblem → NamedProblem → List (ℕ × ℕ) → Option Witness
ordered_back_witness last target pairs =
    option_or (option_map MissingPair (first_label (λ label. not (names_first pairs label)) (length last.names)))
    (renaming_witness (renaming_verdict (unnamed last) (unnamed target) (seconds pairs)))

abbrev pub back_witness : NamedProblem → NamedProblem → List (ℕ × ℕ) → Option Witness
back_witness last target pairs = option_or (option_map PairOrder (first_unordered pairs_ascend 0 pairs)) (ordered_back_witness last target pairs)

-- ---- a certificate
abbrev pub refuted : ℕ → Clause → Witness → Refutation
refuted step clause witness = record { step = step; clause = clause; witness = witness }

-- the first clause that the step of this number fails, with what shows it
abbrev pub step_refutation : NamedProblem → ℕ → BoundStep → Option Refutation
step_refutation before number s = option_and_then (λ clause. option_map (refuted number clause) (step_witness before s clause)) (step_fault before s)

-- the first step from this problem that fails a clause, numbered from here on
abbrev pub steps_refutation : NamedProblem → ℕ → List BoundStep → Option Refutation
steps_refutation before number [] = None
steps_refutation before number (s ∷ steps) = option_or (step_refutation before number s) (steps_refutation s.next (suc number) steps)

-- what shows that the first clause that fails does: at a step, or behind them
abbrev pub refutation_at : Bound → ℕ → Clause → Option Refutation
refutation_at bound number End = option_map (refuted number End) (end_witness bound.kind (last_problem bound))
refutation_at bound number Back = option_map (refuted number Back) (back_witness (last_problem bound) (problem_at bound bound.back) bound.renaming)
refutation_at bound number clause = steps_refutation bound.first 1 bound.steps

abbrev pub refutation_for : Bound → Option ClauseFault → Option Refutation
refutation_for bound None = None
refutation_for bound (Some fault) = refutation_at bound fault.step fault.clause

abbrev pub bound_refutation : Bound → Option Refutation
bound_refutation bound = refutation_for bound (bound_fault bound)

-- the fault that a refutation names
abbrev pub fault_named : Refutation → ClauseFault
fault_named r = fault_at r.step r.clause
