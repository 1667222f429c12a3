-- The text of a certificate, as it is printed, and what reading it gives.
use Rattle.std.specs.Prelude.{◌≡◌, ℕ, Bool, true, false, List, [], ◌∷◌, ◌++◌, codes, flat_map, length, if◌then◌else◌, None}
use Rattle.std.specs.List.{AllByRecursion}
use Rattle.re_labels.specs.Sets.{IsLabelSet}
use Rattle.re_labels.specs.declared.TheConstants.{MAX_LABELS}
use Rattle.re_labels.specs.Rows.{IsRow}
use Rattle.re_texts.specs.CanonicalLines.{IsWithinLimits}
use Rattle.re_problem.specs.CanonicalTexts.{canonical}
use Rattle.re_problem.specs.NamedProblems.{IsNamedProblem, NamedProblem}
use Rattle.re_problem.specs.Steps.LowerMap.{by_row, by_set}
use Rattle.re_problem.specs.Steps.{LowerMap, SetEntry}
use Rattle.re_texts.specs.SetTexts.{rows_text}
use Rattle.re_cert.specs.Bounds.{Bound, BoundStep, entries_in, has_row_maps, is_bound, is_fixed, last_problem, problem_at, step_fits, steps_fit}
use Rattle.re_cert.specs.declared.certificate.Kind.{Kind}
use Rattle.re_cert.specs.CertificateTexts.{certificate_fault, certificate_of, text_lines}
use Rattle.re_texts.specs.CertificateLines.{entry_text, header_text, image_text, pair_text}

-- ---- the text
-- the rows of a step, one a line
abbrev pub rows_section : Bool → List (List ℕ) → List (List (List ℕ)) → List ℕ
rows_section lower before rows = if lower then codes "== rows\n" ++ rows_text before rows else []

-- the entries of a map, one a line
abbrev pub entries_text : Bool → List (List ℕ) → List (List ℕ) → List SetEntry → List ℕ
entries_text lower before next entries = flat_map (λ entry. entry_text lower before next entry ++ codes "\n") entries

-- the images of the rows, one a line
abbrev pub images_text : List (List ℕ) → List (List ℕ) → List ℕ
images_text next images = flat_map (λ image. image_text next image ++ codes "\n") images

-- a map, by sets or by rows
abbrev pub map_text : Bool → List (List ℕ) → List (List ℕ) → LowerMap → List ℕ
map_text lower before next (by_set entries) = entries_text lower before next entries
map_text lower before next (by_row images) = images_text next images

-- a step: the problem to which it leads, its rows where it is a lower step, and its map
abbrev pub step_text : NamedProblem → BoundStep → List ℕ
step_text before s =
    codes "== step\n" ++ canonical s.next ++ rows_section s.lower before.names s.rows ++ codes "== map\n" ++ map_text s.lower before.names s.next.names s.map

-- the steps, each from the problem to which the one before it leads
abbrev pub steps_text : NamedProblem → List BoundStep → List ℕ
steps_text before [] = []
steps_text before (s ∷ steps) = step_text before s ++ steps_text s.next steps

-- the pairs of a renaming, one a line
abbrev pub pairs_text : List (List ℕ) → List (List ℕ) → List (ℕ × ℕ) → List ℕ
pairs_text last target pairs = flat_map (λ pair. pair_text last target pair ++ codes "\n") pairs

-- the way back of a fixed point, from its last problem
abbrev pub back_section : Bound → List ℕ
back_section bound =
    if is_fixed bound.kind then codes "== back\n" ++ pairs_text (last_problem bound).names (problem_at bound bound.back).names bound.renaming else []

-- the text of a certificate: its header, of version 2 where some step has a map by rows, its first problem, its steps, the way back of a fixed point, and the end
abbrev pub certificate_text : Bound → List ℕ
certificate_text bound =
    header_text (has_row_maps bound.steps) bound.kind bound.back ++ codes "\n" ++ canonical bound.first ++ steps_text bound.first bound.steps ++ back_section bound ++ codes "== end\n"

-- ---- what reading it gives
-- a problem of a certificate: no longer than problems are
abbrev pub IsHeld : NamedProblem → Type 0
IsHeld problem = IsNamedProblem problem × IsWithinLimits problem

-- a row of sets of labels, of whatever degree
abbrev pub IsAnyRow : List (List ℕ) → Type 0
IsAnyRow row = IsRow (length row) MAX_LABELS row

-- an entry with a set of labels
abbrev pub IsLabelled : SetEntry → Type 0
IsLabelled entry = IsLabelSet MAX_LABELS entry.set

-- a step of a certificate: of a problem, rows and sets of labels; an upper step has no rows
pub record IsHeldStep (s : BoundStep) : Type 0 where
  pub next : IsHeld s.next
  pub rows : AllByRecursion IsAnyRow s.rows
  pub upper : s.lower ≡ false → s.rows ≡ []
  pub sets : AllByRecursion IsLabelled (entries_in s.map)

-- what a certificate holds: problems, and steps that make a bound
pub record IsCertificate (bound : Bound) : Type 0 where
  pub fits : is_bound bound ≡ true
  pub first : IsHeld bound.first
  pub steps : AllByRecursion IsHeldStep bound.steps

-- the text of a certificate has no fault, and is read as the certificate
abbrev pub CertificateTextLaw : Type 0
CertificateTextLaw = (bound : Bound) → IsCertificate bound
    → (certificate_fault (text_lines (certificate_text bound)) ≡ None) × (certificate_of (text_lines (certificate_text bound)) ≡ bound)

-- ---- parts of the printing
-- the step fits the problem before it, in a bound of some kind
abbrev pub FitBehind : NamedProblem → BoundStep → Type 0
FitBehind before s = (kind : Kind) × (step_fits kind before s ≡ true)

-- and so for each of the steps
abbrev pub StepsFitBehind : NamedProblem → List BoundStep → Type 0
StepsFitBehind before steps = (kind : Kind) × (steps_fit kind before steps ≡ true)
