-- The lines that the printed text of a certificate has, and what reading them gives.
use Rattle.std.specs.Prelude.{◌≡◌, ◌≢◌, ℕ, ◌≤◌, ◌<◌, Bool, true, false, List, ◌++◌, codes, length, map, if◌then◌else◌, is_some, None, Some}
use Rattle.std.specs.Fmt.{decimal}
use Rattle.std.specs.List.{AllByRecursion}
use Rattle.re_labels.specs.Names.{IsNames}
use Rattle.re_labels.specs.Sets.{IsLabelSet}
use Rattle.re_labels.specs.Rows.{IsRow}
use Rattle.re_problem.specs.Bytes.{bad_byte, is_empty_line}
use Rattle.re_problem.specs.Items.{ItemText}
use Rattle.re_problem.specs.CanonicalTexts.{spaced}
use Rattle.re_problem.specs.NamedProblems.{NamedProblem}
use Rattle.re_problem.specs.ProblemTexts.{line_items}
use Rattle.re_problem.specs.Steps.{SetEntry}
use Rattle.re_texts.specs.SetTexts.{named_text, row_text, set_text}
use Rattle.re_cert.specs.Bounds.{is_fixed}
use Rattle.re_cert.specs.Entries.{entry_on, image_on, label_items, labels_on, row_on}
use Rattle.re_problem.specs.Pairs.{ItemPair, pair_on}
use Rattle.re_cert.specs.SectionLines.{heading_of, section_named, section_of}
use Rattle.re_problem.specs.SectionLines.{is_section}
use Rattle.re_cert.specs.declared.certificate.Kind.{Kind}
use Rattle.re_cert.specs.declared.certificate.Kind.TheVariants.{Lower, Upper, Fixed}
use Rattle.re_cert.specs.declared.certificate.TheConstants.{MAX_STEPS}

-- ---- lines
-- an entry of a map: in a lower step the set before the label, in an upper step behind it
abbrev pub entry_text : Bool → List (List ℕ) → List (List ℕ) → SetEntry → List ℕ
entry_text lower before next entry =
    if lower then set_text before entry.set ++ codes " " ++ named_text next entry.label else named_text next entry.label ++ codes " " ++ set_text before entry.set

-- a pair of a renaming: the label of the last problem, and that of the problem to which it goes back
abbrev pub pair_text : List (List ℕ) → List (List ℕ) → ℕ × ℕ → List ℕ
pair_text last target pair = named_text last pair.0 ++ codes " " ++ named_text target pair.1

-- the image of a row: its labels, with one space between
abbrev pub image_text : List (List ℕ) → List ℕ → List ℕ
image_text next image = spaced (map (named_text next) image)

-- the header, of version 2 where maps are by rows
abbrev pub header_text : Bool → Kind → ℕ → List ℕ
header_text false Lower back = codes "== certificate 1 lower"
header_text false Upper back = codes "== certificate 1 upper"
header_text false Fixed back = codes "== certificate 1 fixed " ++ decimal back
header_text true Lower back = codes "== certificate 2 lower"
header_text true Upper back = codes "== certificate 2 upper"
header_text true Fixed back = codes "== certificate 2 fixed " ++ decimal back

-- ---- what reading them gives
-- a line without a line feed
abbrev pub IsOneLine : List ℕ → Type 0
IsOneLine line = AllByRecursion (λ b. b ≢ 10) line

-- a line of a section that is read: neither empty nor a section line, of allowed bytes
pub record IsRead (line : List ℕ) : Type 0 where
  pub one : IsOneLine line
  pub filled : is_empty_line line ≡ false
  pub inner : is_section line ≡ false
  pub allowed : bad_byte line ≡ None

-- the line of a row is read as this row
abbrev pub RowLineLaw : Type 0
RowLineLaw = (before : NamedProblem) (row : List (List ℕ)) → IsNames before.names → 2 ≤ before.passive.degree → before.passive.degree ≤ 6
    → IsRow before.passive.degree (length before.names) row
    → IsRead (row_text before.names row) × (is_some (line_items (row_text before.names row)) ≡ true) × (row_on before (row_text before.names row) ≡ Some row)

-- the two items of an entry's line are its set and its label, which is no group
pub record IsEntryRead (before next : List (List ℕ)) (entry : SetEntry) (set label : ItemText) : Type 0 where
  pub single : label.group ≡ false
  pub entry_is : entry_on before next set label ≡ Some entry

-- of the items of an entry's line the set stands on the left in a lower step, and on the right in an upper step
abbrev pub AreEntryRead : Bool → List (List ℕ) → List (List ℕ) → SetEntry → ItemPair → Type 0
AreEntryRead true before next entry pair = IsEntryRead before next entry pair.left pair.right
AreEntryRead false before next entry pair = IsEntryRead before next entry pair.right pair.left

-- the line of an entry is read as this entry
abbrev pub EntryLineLaw : Type 0
EntryLineLaw = (lower : Bool) (before next : List (List ℕ)) (entry : SetEntry) → IsNames before → IsNames next
    → IsLabelSet (length before) entry.set → entry.label < length next
    → IsRead (entry_text lower before next entry)
    × ((pair : ItemPair) × (pair_on (entry_text lower before next entry) ≡ Some pair)
    × AreEntryRead lower before next entry pair)

-- the line of an image is read as this image
abbrev pub ImageLineLaw : Type 0
ImageLineLaw = (before next : NamedProblem) (image : List ℕ) → IsNames next.names → 2 ≤ before.passive.degree → before.passive.degree ≤ 6
    → length image ≡ before.passive.degree → AllByRecursion (λ label. label < length next.names) image
    → IsRead (image_text next.names image)
    × ((items : List ItemText) × (label_items (image_text next.names image) ≡ Some items) × (image_on before next items ≡ Some image))

-- the line of a pair is read as this pair
abbrev pub PairLineLaw : Type 0
PairLineLaw = (last target : List (List ℕ)) (labels : ℕ × ℕ) → IsNames last → IsNames target → labels.0 < length last → labels.1 < length target
    → IsRead (pair_text last target labels)
    × ((pair : ItemPair) × (pair_on (pair_text last target labels) ≡ Some pair) × (pair.left.group ≡ false) × (pair.right.group ≡ false)
    × (labels_on last target pair ≡ Some labels))

-- the header is read as its kind and version, with the number of the problem to which a fixed point goes back
abbrev pub HeaderLineLaw : Type 0
HeaderLineLaw = (by_row : Bool) (kind : Kind) (back : ℕ) → back < MAX_STEPS → (is_fixed kind ≡ false → back ≡ 0)
    → IsOneLine (header_text by_row kind back) × (is_empty_line (header_text by_row kind back) ≡ false)
    × (heading_of (header_text by_row kind back) ≡ Some (record { kind = kind; back = back; by_row = by_row }))

-- the section lines are read as the sections that they name
abbrev pub SectionLineLaw : Type 0
SectionLineLaw = (section_of (codes "== step") ≡ section_named (codes "step")) × (section_of (codes "== rows") ≡ section_named (codes "rows"))
    × (section_of (codes "== map") ≡ section_named (codes "map")) × (section_of (codes "== back") ≡ section_named (codes "back"))
    × (section_of (codes "== end") ≡ section_named (codes "end"))
