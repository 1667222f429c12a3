-- Where a clause fails, something is found, and it shows that the clause fails.
use Rattle.std.specs.Prelude.{◌≡◌, ◌<◌, ◌≤◌, ℕ, true, false, List, length, map, Contains, Option, None, Some}
use Rattle.std.specs.List.{AllByRecursion}
use Rattle.re_labels.specs.Rows.{IsChoice, IsRow}
use Rattle.re_labels.specs.declared.TheConstants.{MAX_ROWS}
use Rattle.re_labels.specs.declared.TheConstants.{MAX_LABELS}
use Rattle.re_labels.specs.Constraints.{Constraint, Has, IsConstraint}
use Rattle.re_labels.specs.GoodRows.{max_rows}
use Rattle.re_problem.specs.NamedProblems.{IsNamedProblem, NamedProblem, unnamed}
use Rattle.re_problem.specs.Steps.{LowerMap, SetEntry}
use Rattle.re_problem.specs.Steps.LowerMap.{by_row, by_set}
use Rattle.re_cert.specs.Bounds.{Bound, is_bound, next_problems}
use Rattle.re_check.specs.Verdicts.{bound_fault, ends_well, goes_back}
use Rattle.re_check.specs.declared.clause.Clause.{Clause}
use Rattle.re_why.specs.declared.witness.Witness.{Witness}
use Rattle.re_cert.specs.declared.certificate.Kind.{Kind}
use Rattle.re_check.specs.LabelsOver.{labels_over}
use Rattle.re_check.specs.StepClauses.{HasAllowedImages, HasGoodImages, HasNextLabels, HasRowSets, KeepsImages, KeepsRows}
use Rattle.re_why.specs.Finding.{back_witness, bad_witness, end_witness, image_witness, label_witness, lost_witness, map_entries, row_witness, set_witness, shut_witness}
use Rattle.re_why.specs.Witnesses.{AreOtherDegrees, IsShown, ShowsBack, ShowsBad, ShowsChoice, ShowsEnd, ShowsImage, ShowsLabels, ShowsRows, ShowsSets, ShowsShut}

-- there is one, and it is so
abbrev pub Gives : {W : Type 0} → Option W → (W → Type 0) → Type 0
Gives None P = ⊥
Gives (Some w) P = P w

-- L2
abbrev pub RowWitnessLaw : Type 0
RowWitnessLaw = (passive : Constraint) (n : ℕ) (rows : List (List (List ℕ))) → ((row : List (List ℕ)) → Contains rows row → IsRow passive.degree n row)
    → (rows ≡ max_rows passive n → ⊥) → Gives (row_witness passive n rows) (ShowsRows passive n rows)

-- L3, L4, L5
abbrev pub HasSets : List (List (List ℕ)) → LowerMap → Type 0
HasSets rows (by_set entries) = HasRowSets rows entries
HasSets rows (by_row images) = length rows ≡ length images

abbrev pub HoldsRows : Constraint → List (List (List ℕ)) → LowerMap → Type 0
HoldsRows active rows (by_set entries) = KeepsRows rows entries active
HoldsRows active rows (by_row images) = KeepsImages images active

-- each choice of labels over the labels of an active configuration is a configuration
abbrev pub HoldsChoices : Constraint → Constraint → List (List (List ℕ)) → LowerMap → Type 0
HoldsChoices before passive rows m = (config labels : List ℕ) → Contains before.configs config → IsChoice labels (map (labels_over (map_entries rows m)) config) → Has passive labels

abbrev pub MapWitnessLaw : Type 0
MapWitnessLaw = (before active passive : Constraint) (rows : List (List (List ℕ))) (m : LowerMap) →
    ((HasSets rows m → ⊥) → Gives (set_witness rows m) (ShowsSets rows m))
    × ((HoldsRows active rows m → ⊥) → Gives (image_witness active rows m) (ShowsImage active rows m))
    × ((HoldsChoices before passive rows m → ⊥) → Gives (lost_witness before passive rows m) (ShowsChoice before passive rows m))

-- U2, U3, U4
abbrev pub LabelWitnessLaw : Type 0
LabelWitnessLaw = (n : ℕ) (entries : List SetEntry) → AllByRecursion (λ (entry : SetEntry). entry.label < n) entries
    → (HasNextLabels n entries → ⊥) → Gives (label_witness n entries) (ShowsLabels n entries)

abbrev pub UpperWitnessLaw : Type 0
UpperWitnessLaw = (n : ℕ) (before next : Constraint) (entries : List SetEntry) → IsConstraint n next → next.degree ≡ before.degree → HasNextLabels n entries →
    ((HasGoodImages entries next before → ⊥) → Gives (bad_witness before next entries) (ShowsBad before next entries))
    × ((HasAllowedImages entries next before → ⊥) → Gives (shut_witness before next entries) (ShowsShut before next entries))

-- END, BACK
abbrev pub EndWitnessLaw : Type 0
EndWitnessLaw = (kind : Kind) (last : NamedProblem) → ends_well kind last ≡ false → Gives (end_witness kind last) (ShowsEnd kind (unnamed last))

abbrev pub BackWitnessLaw : Type 0
BackWitnessLaw = (last target : NamedProblem) (pairs : List (ℕ × ℕ)) → AllByRecursion (λ (pair : ℕ × ℕ). pair.0 < length last.names) pairs
    → goes_back last target pairs ≡ false → Gives (back_witness last target pairs) (ShowsBack last target pairs)

-- ---- the other way round: what is shown refutes its clause, whatever the other clauses say
-- L1, U1
abbrev pub DegreesRefuteLaw : Type 0
DegreesRefuteLaw = (before next : NamedProblem) (witness : Witness) → AreOtherDegrees before next witness
    → (next.active.degree ≡ before.passive.degree) × (next.passive.degree ≡ before.active.degree) → ⊥

-- L2
abbrev pub RowsRefuteLaw : Type 0
RowsRefuteLaw = (passive : Constraint) (n : ℕ) (rows : List (List (List ℕ))) (witness : Witness) → ShowsRows passive n rows witness
    → rows ≡ max_rows passive n → length rows ≤ MAX_ROWS → ⊥

-- L3, L4, L5
abbrev pub MapRefutesLaw : Type 0
MapRefutesLaw = (before active passive : Constraint) (rows : List (List (List ℕ))) (m : LowerMap) (witness : Witness) →
    (ShowsSets rows m witness → HasSets rows m → ⊥)
    × (ShowsImage active rows m witness → HoldsRows active rows m → ⊥)
    × (ShowsChoice before passive rows m witness → HoldsChoices before passive rows m → ⊥)

-- U2, U3, U4
abbrev pub UpperRefutesLaw : Type 0
UpperRefutesLaw = (n : ℕ) (before next : Constraint) (entries : List SetEntry) (witness : Witness) →
    (ShowsLabels n entries witness → HasNextLabels n entries → ⊥)
    × (ShowsBad before next entries witness → HasGoodImages entries next before → ⊥)
    × (ShowsShut before next entries witness → HasAllowedImages entries next before → ⊥)

-- END, BACK
abbrev pub EndRefutesLaw : Type 0
EndRefutesLaw = (kind : Kind) (last target : NamedProblem) (pairs : List (ℕ × ℕ)) (witness : Witness) →
    (ShowsEnd kind (unnamed last) witness → ends_well kind last ≡ true → ⊥)
    × (ShowsBack last target pairs witness → goes_back last target pairs ≡ true → ⊥)

-- whatever shows that a clause of a certificate fails refutes it
abbrev pub RefutesLaw : Type 0
RefutesLaw = (bound : Bound) (number : ℕ) (clause : Clause) (witness : Witness) → is_bound bound ≡ true → IsNamedProblem bound.first → AllByRecursion IsNamedProblem (next_problems bound.steps)
    → IsShown bound number clause witness → bound_fault bound ≡ None → ⊥
