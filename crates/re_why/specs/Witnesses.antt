-- What it means that a witness shows that a clause fails: a plain fact against it.
use Rattle.std.specs.Prelude.{◌≡◌, ◌<◌, ◌+◌, ℕ, suc, true, false, List, [], ◌∷◌, length, map, take, Contains, slice_index_or, ◌⊎◌}
use Rattle.std.specs.List.{AllByRecursion, AllZip}
use Rattle.std.specs.declared.cmp.Ordering.TheVariants.{Less}
use Rattle.re_labels.specs.Sets.{IsIn, number}
use Rattle.re_labels.specs.declared.TheConstants.{MAX_LABELS}
use Rattle.re_labels.specs.declared.sides.Side.TheVariants as side
use Rattle.re_labels.specs.Configs.{image_at, sorted}
use Rattle.re_labels.specs.Rows.{IsChoice, IsRow, row_cmp, set_at}
use Rattle.re_labels.specs.declared.TheConstants.{MAX_ROWS}
use Rattle.re_labels.specs.Constraints.{Constraint, Has}
use Rattle.re_labels.specs.GoodRows.{IsAllowed, IsGood, IsMaximal, max_rows}
use Rattle.re_boxes.specs.Grown.{added}
use Rattle.re_problem.specs.NamedProblems.{IsNamedProblem, NamedProblem, unnamed}
use Rattle.re_problem.specs.Problems.{Problem}
use Rattle.re_problem.specs.Steps.{BecomesByRow, LowerMap, SetEntry, entry_sets, label_of, set_for}
use Rattle.re_problem.specs.Steps.LowerMap.{by_row, by_set}
use Rattle.re_problem.specs.Zero.{ShowsZero, Zero}
use Rattle.re_problem.specs.Verdicts.{renaming_verdict}
use Rattle.re_problem.specs.declared.verdict.MapVerdict.{MapVerdict}
use Rattle.re_problem.specs.declared.verdict.MapVerdict.TheVariants as verdict
use Rattle.re_cert.specs.Bounds.{Bound, BoundStep, entries_in, is_fixed, is_lower, last_problem, problem_at}
use Rattle.re_cert.specs.declared.certificate.Kind.{Kind}
use Rattle.re_check.specs.StepClauses.{OccursInRows, entry_labels}
use Rattle.re_check.specs.Clauses.{step_clauses}
use Rattle.re_check.specs.declared.clause.Clause.{Clause}
use Rattle.re_check.specs.declared.clause.Clause.TheVariants.{L1, L2, L3, L4, L5, U1, U2, U3, U4, End, Back}
use Rattle.re_why.specs.Finding.{firsts, seconds}
use Rattle.re_why.specs.declared.witness.Witness.{Witness}
use Rattle.re_why.specs.declared.witness.Witness.TheVariants.{Degrees, BadRow, Extends, RowOrder, ManyRows, MissingRow, SetOrder, MissingSet, ForeignSet, ImageCount, LostRow, LostChoice, LabelOrder, MissingLabel, EmptySet, BadSets, ShutSets, Fit, NoActive, NoFit, PairOrder, MissingPair, Renaming}

-- the element stands at this place
abbrev pub IsAt : {X : Type 0} → List X → ℕ → X → Type 0
IsAt xs k x = (k < length xs) × (slice_index_or xs k x ≡ x)

-- ---- lower steps
-- L1, U1: the degrees of the next problem, which are not those of the one before, exchanged
abbrev pub AreOtherDegrees : NamedProblem → NamedProblem → Witness → Type 0
AreOtherDegrees before next (Degrees active passive) =
    (active ≡ next.active.degree) × (passive ≡ next.passive.degree) × ((active ≡ before.passive.degree) × (passive ≡ before.active.degree) → ⊥)
AreOtherDegrees before next witness = ⊥

-- L2: a row that isn't good, or to which a label can be added, or that isn't before the next one; too many maximal rows, or one that isn't there
abbrev pub ShowsRows : Constraint → ℕ → List (List (List ℕ)) → Witness → Type 0
ShowsRows passive n rows (BadRow k labels) = (row : List (List ℕ)) × IsAt rows k row × IsChoice labels row × (Has passive labels → ⊥)
ShowsRows passive n rows (Extends k i x) = (row : List (List ℕ)) × IsAt rows k row × (i < length row) × (x < n) × (IsIn x (set_at row i) → ⊥) × IsGood passive (added i x row)
ShowsRows passive n rows (RowOrder k) = (row other : List (List ℕ)) × IsAt rows k row × IsAt rows (k + 1) other × (row_cmp row other ≡ Less → ⊥)
ShowsRows passive n rows ManyRows = MAX_ROWS < length (max_rows passive n)
ShowsRows passive n rows (MissingRow row) = IsMaximal passive n row × (Contains rows row → ⊥)
ShowsRows passive n rows witness = ⊥

-- L3: entries whose sets don't ascend, a set of the rows that no entry has, or one of an entry that is in no row; another number of images
abbrev pub ShowsSets : List (List (List ℕ)) → LowerMap → Witness → Type 0
ShowsSets rows (by_set entries) (SetOrder k) = (entry next : SetEntry) × IsAt entries k entry × IsAt entries (k + 1) next × (number entry.set < number next.set → ⊥)
ShowsSets rows (by_set entries) (MissingSet set) = OccursInRows rows set × (Contains (entry_sets entries) set → ⊥)
ShowsSets rows (by_set entries) (ForeignSet set) = Contains (entry_sets entries) set × (OccursInRows rows set → ⊥)
ShowsSets rows (by_row images) ImageCount = length rows ≡ length images → ⊥
ShowsSets rows m witness = ⊥

-- L4: a row with its image, which is no configuration
abbrev pub ShowsImage : Constraint → List (List (List ℕ)) → LowerMap → Witness → Type 0
ShowsImage active rows (by_set entries) (LostRow k image) = (row : List (List ℕ)) × IsAt rows k row × (image ≡ sorted (map (label_of entries) row)) × (Contains active.configs image → ⊥)
ShowsImage active rows (by_row images) (LostRow k image) = (labels : List ℕ) × IsAt images k labels × (image ≡ sorted labels) × (Contains active.configs image → ⊥)
ShowsImage active rows m witness = ⊥

-- the set becomes the label
abbrev pub Becomes : List (List (List ℕ)) → LowerMap → List ℕ → ℕ → Type 0
Becomes rows (by_set entries) set label = Contains entries (record { set = set; label = label })
Becomes rows (by_row images) set label = BecomesByRow rows images set label

-- L5: an active configuration, sets from which it can be chosen, and labels that these become, which are no configuration
abbrev pub ShowsChoice : Constraint → Constraint → List (List (List ℕ)) → LowerMap → Witness → Type 0
ShowsChoice before passive rows m (LostChoice config sets labels) =
    Contains before.configs config × IsChoice config sets × AllZip (Becomes rows m) sets labels × (Has passive labels → ⊥)
ShowsChoice before passive rows m witness = ⊥

-- ---- upper steps
-- U2: entries whose labels don't ascend, a label that no entry has, or an entry with an empty set
abbrev pub ShowsLabels : ℕ → List SetEntry → Witness → Type 0
ShowsLabels n entries (LabelOrder k) = (entry next : SetEntry) × IsAt entries k entry × IsAt entries (k + 1) next × (entry.label < next.label → ⊥)
ShowsLabels n entries (MissingLabel label) = (label < n) × (Contains (entry_labels entries) label → ⊥)
ShowsLabels n entries (EmptySet label) = Contains entries (record { set = []; label = label })
ShowsLabels n entries witness = ⊥

-- U3: an active configuration of the next problem, its sets, and a choice from them that is no passive configuration
abbrev pub ShowsBad : Constraint → Constraint → List SetEntry → Witness → Type 0
ShowsBad passive active entries (BadSets config sets labels) = Contains active.configs config × (sets ≡ map (set_for entries) config) × IsChoice labels sets × (Has passive labels → ⊥)
ShowsBad passive active entries witness = ⊥

-- U4: a passive configuration of the next problem, and its sets, from which no active configuration can be chosen
abbrev pub ShowsShut : Constraint → Constraint → List SetEntry → Witness → Type 0
ShowsShut before passive entries (ShutSets config sets) = Contains passive.configs config × (sets ≡ map (set_for entries) config) × (IsAllowed before sets → ⊥)
ShowsShut before passive entries witness = ⊥

-- the witness shows that the step from this problem fails the clause
abbrev pub ShowsStep : NamedProblem → BoundStep → Clause → Witness → Type 0
ShowsStep before s L1 witness = AreOtherDegrees before s.next witness
ShowsStep before s L2 witness = ShowsRows before.passive (length before.names) s.rows witness
ShowsStep before s L3 witness = ShowsSets s.rows s.map witness
ShowsStep before s L4 witness = ShowsImage s.next.active s.rows s.map witness
ShowsStep before s L5 witness = ShowsChoice before.active s.next.passive s.rows s.map witness
ShowsStep before s U1 witness = AreOtherDegrees before s.next witness
ShowsStep before s U2 witness = ShowsLabels (length s.next.names) (entries_in s.map) witness
ShowsStep before s U3 witness = ShowsBad before.passive s.next.active (entries_in s.map) witness
ShowsStep before s U4 witness = ShowsShut before.active s.next.passive (entries_in s.map) witness
ShowsStep before s clause witness = ⊥

-- ---- the end
-- END: a fit in a lower bound or a fixed point, and none in an upper bound, with labels of the first active configuration that are no passive one
abbrev pub ShowsEnd : Kind → Problem → Witness → Type 0
ShowsEnd kind last (Fit config) = (is_lower kind ≡ true) × Contains last.active.configs config × ShowsZero last.passive config
ShowsEnd kind last NoActive = (is_lower kind ≡ false) × (last.active.configs ≡ [])
ShowsEnd kind last (NoFit config labels) =
    (is_lower kind ≡ false) × (Zero last → ⊥) × IsAt last.active.configs 0 config × (length labels ≡ last.passive.degree) × AllByRecursion (Contains config) labels × (Has last.passive labels → ⊥)
ShowsEnd kind last witness = ⊥

-- why images of the labels of a problem don't make it another one under other labels: other degrees; a label with the image of a lower one; a configuration
-- whose image isn't one of the other problem; or fewer configurations than the other problem has
abbrev pub ShowsRenaming : Problem → Problem → List ℕ → MapVerdict → Type 0
ShowsRenaming from to images verdict.Yes = ⊥
ShowsRenaming from to images verdict.Degrees = (to.active.degree ≡ from.active.degree) × (to.passive.degree ≡ from.passive.degree) → ⊥
ShowsRenaming from to images (verdict.Empty label) = ⊥
ShowsRenaming from to images (verdict.Twice label) = (label < length images) × Contains (take label images) (image_at images label)
ShowsRenaming from to images (verdict.Active config) = Contains from.active.configs config × (Has to.active (map (image_at images) config) → ⊥)
ShowsRenaming from to images (verdict.Passive config) = Contains from.passive.configs config × (Has to.passive (map (image_at images) config) → ⊥)
ShowsRenaming from to images (verdict.Count side.Active) = length from.active.configs < length to.active.configs
ShowsRenaming from to images (verdict.Count side.Passive) = length from.passive.configs < length to.passive.configs

-- BACK: pairs whose first labels don't ascend, a label that no pair has, or the first violation of the renaming
abbrev pub ShowsBack : NamedProblem → NamedProblem → List (ℕ × ℕ) → Witness → Type 0
ShowsBack last target pairs (PairOrder k) = (pair next : ℕ × ℕ) × IsAt pairs k pair × IsAt pairs (k + 1) next × (pair.0 < next.0 → ⊥)
ShowsBack last target pairs (MissingPair label) = (label < length last.names) × (Contains (firsts pairs) label → ⊥)
ShowsBack last target pairs (Renaming verdict) = (renaming_verdict (unnamed last) (unnamed target) (seconds pairs) ≡ verdict) × ShowsRenaming (unnamed last) (unnamed target) (seconds pairs) verdict
ShowsBack last target pairs witness = ⊥

-- ---- a certificate
-- the rows of a step are rows, and its next problem a problem
pub record IsSoundStep (s : BoundStep) : Type 0 where
  pub rows : AllByRecursion (λ row. IsRow (length row) MAX_LABELS row) s.rows
  pub next : IsNamedProblem s.next

-- the witness shows that the clause, one of the step's, fails at the step of this number, where steps from this problem are numbered from here on
abbrev pub ShowsInSteps : NamedProblem → ℕ → List BoundStep → ℕ → Clause → Witness → Type 0
ShowsInSteps before from [] number clause witness = ⊥
ShowsInSteps before from (s ∷ steps) number clause witness = ((number ≡ from) × Contains (step_clauses s) clause × ShowsStep before s clause witness) ⊎ ShowsInSteps s.next (suc from) steps number clause witness

-- the witness shows that the clause fails at the step of this number, or behind the steps
abbrev pub IsShown : Bound → ℕ → Clause → Witness → Type 0
IsShown bound number End witness = (number ≡ length bound.steps) × ShowsEnd bound.kind (unnamed (last_problem bound)) witness
IsShown bound number Back witness = (number ≡ length bound.steps) × (is_fixed bound.kind ≡ true) × ShowsBack (last_problem bound) (problem_at bound bound.back) bound.renaming witness
IsShown bound number clause witness = ShowsInSteps bound.first 1 bound.steps number clause witness
