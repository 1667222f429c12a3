-- What a line brings, test by test.
use Rattle.std.proofs.Common.{◌≡◌, ℕ, ◌+◌, Bool, true, false, cond, List, [], ◌∷◌, ◌++◌, length, refl, sym, ap, ◌∙◌, subst, Option, Some}
use Rattle.std.specs.Prelude.{Result, Ok, Err}
use Rattle.re_problem.specs.Bytes.{bad_byte, is_empty_line}
use Rattle.re_problem.specs.NamedProblems.{NamedProblem}
use Rattle.re_problem.specs.ProblemTexts.{byte_fault, end_fault, fault_at, fault_or, problem_of}
use Rattle.re_problem.specs.TextReading.{IsFed, Reads}
use Rattle.re_problem.specs.declared.fault.InputFault.TheVariants.{BadItem, BadSection}
use Rattle.re_problem.specs.declared.fault.TextFault.{TextFault}
use Rattle.re_problem.specs.declared.text_reader.TextReader.{TextReader}
use Rattle.re_texts.specs.Entries.{has_group}
use Rattle.re_problem.specs.Pairs.{ItemPair, pair_on}
use Rattle.re_texts.specs.MapTexts.{State, from_begins, judged, judged_from, judged_map, takes_entry, takes_image, judged_start, judged_to, map_begins, takes_items, to_begins}
use Rattle.re_texts.specs.MapTexts.State.{Start, InFrom, InTo, InMap}
use Rattle.re_texts.specs.Reading.{Holds, IsAt}
use Rattle.re_texts.specs.declared.reading.Place.{Place}
use Rattle.re_texts.specs.declared.reading.Place.TheVariants as place
use Rattle.re_texts.specs.SectionLines.{section_of}
use Rattle.re_problem.specs.SectionLines.{is_section}
use Rattle.re_texts.specs.declared.entries.MapKind.{MapKind}
use Rattle.re_texts.specs.declared.sections.Section.{Section}
use Rattle.re_texts.specs.declared.sections.Section.TheVariants.{From, To, Map, Other}

-- ---- before the first section line
pub start-section : (byte number : ℕ) (line : List ℕ) (section : Section) → is_empty_line line ≡ false → section ≡ section_of line → judged_start byte number line ≡ from_begins (byte + length line + 1) number section
start-section byte number line section filled is = λ i. cond (filled i) (Ok Start) (from_begins (byte + length line + 1) number (sym is i))

-- ---- in a problem text
pub from-line : (byte number text_byte text_line : ℕ) (text : List (List ℕ)) (line : List ℕ) → is_section line ≡ false
    → judged_from byte number text_byte text_line text line ≡ fault_or (fault_at text_byte text_line text line) (Ok (InFrom text_byte text_line (text ++ line ∷ [])))
from-line byte number text_byte text_line text line plain = ap (λ t. cond t (fault_or (end_fault text_line text) (to_begins (problem_of text) (byte + length line + 1) number (section_of line)))
    (fault_or (fault_at text_byte text_line text line) (Ok (InFrom text_byte text_line (text ++ line ∷ []))))) plain

pub from-section : (byte number text_byte text_line : ℕ) (text : List (List ℕ)) (line : List ℕ) → is_section line ≡ true
    → judged_from byte number text_byte text_line text line ≡ fault_or (end_fault text_line text) (to_begins (problem_of text) (byte + length line + 1) number (section_of line))
from-section byte number text_byte text_line text line marked = ap (λ t. cond t (fault_or (end_fault text_line text) (to_begins (problem_of text) (byte + length line + 1) number (section_of line)))
    (fault_or (fault_at text_byte text_line text line) (Ok (InFrom text_byte text_line (text ++ line ∷ []))))) marked

pub to-line : (number : ℕ) (from : NamedProblem) (text_byte text_line : ℕ) (text : List (List ℕ)) (line : List ℕ) → is_section line ≡ false
    → judged_to number from text_byte text_line text line ≡ fault_or (fault_at text_byte text_line text line) (Ok (InTo from text_byte text_line (text ++ line ∷ [])))
to-line number from text_byte text_line text line plain = ap (λ t. cond t (fault_or (end_fault text_line text) (map_begins from (problem_of text) number (section_of line)))
    (fault_or (fault_at text_byte text_line text line) (Ok (InTo from text_byte text_line (text ++ line ∷ []))))) plain

pub to-section : (number : ℕ) (from : NamedProblem) (text_byte text_line : ℕ) (text : List (List ℕ)) (line : List ℕ) → is_section line ≡ true
    → judged_to number from text_byte text_line text line ≡ fault_or (end_fault text_line text) (map_begins from (problem_of text) number (section_of line))
to-section number from text_byte text_line text line marked = ap (λ t. cond t (fault_or (end_fault text_line text) (map_begins from (problem_of text) number (section_of line)))
    (fault_or (fault_at text_byte text_line text line) (Ok (InTo from text_byte text_line (text ++ line ∷ []))))) marked

-- another section
pub not-to : (problem : NamedProblem) (next number : ℕ) (section : Section) → (section ≡ To → ⊥) → to_begins problem next number section ≡ Err (BadSection number)
not-to problem next number From apart = refl
not-to problem next number To apart = absurd (apart refl)
not-to problem next number Map apart = refl
not-to problem next number Other apart = refl

pub not-map : (from to : NamedProblem) (number : ℕ) (section : Section) → (section ≡ Map → ⊥) → map_begins from to number section ≡ Err (BadSection number)
not-map from to number From apart = refl
not-map from to number To apart = refl
not-map from to number Map apart = absurd (apart refl)
not-map from to number Other apart = refl

-- ---- in the map
pub map-empty : (kind : MapKind) (byte number : ℕ) (from to : NamedProblem) (images : List (List ℕ)) (line : List ℕ) → is_section line ≡ false → is_empty_line line ≡ true → judged_map kind byte number from to images line ≡ Ok (InMap from to images)
map-empty kind byte number from to images line plain empty = λ i. cond (plain i) (Err (BadSection number)) (cond (empty i) (Ok (InMap from to images)) (fault_or (byte_fault byte (bad_byte line)) (takes_items kind from to images number (pair_on line))))

pub map-filled : (kind : MapKind) (byte number : ℕ) (from to : NamedProblem) (images : List (List ℕ)) (line : List ℕ) (bad : Option ℕ) → is_section line ≡ false → is_empty_line line ≡ false → bad ≡ bad_byte line
    → judged_map kind byte number from to images line ≡ fault_or (byte_fault byte bad) (takes_items kind from to images number (pair_on line))
map-filled kind byte number from to images line bad plain filled is = λ i. cond (plain i) (Err (BadSection number)) (cond (filled i) (Ok (InMap from to images)) (fault_or (byte_fault byte (sym is i)) (takes_items kind from to images number (pair_on line))))

pub items-taken : (kind : MapKind) (from to : NamedProblem) (images : List (List ℕ)) (number : ℕ) (pair : ItemPair) (items : Option ItemPair) → items ≡ Some pair → has_group kind pair ≡ false
    → takes_items kind from to images number items ≡ takes_entry kind from to images number pair
items-taken kind from to images number pair items e labels = ap (takes_items kind from to images number) e ∙ ap (λ t. cond t (Err (BadItem number)) (takes_entry kind from to images number pair)) labels

pub items-grouped : (kind : MapKind) (from to : NamedProblem) (images : List (List ℕ)) (number : ℕ) (pair : ItemPair) (items : Option ItemPair) → items ≡ Some pair → has_group kind pair ≡ true
    → takes_items kind from to images number items ≡ Err (BadItem number)
items-grouped kind from to images number pair items e groups = ap (takes_items kind from to images number) e ∙ ap (λ t. cond t (Err (BadItem number)) (takes_entry kind from to images number pair)) groups

pub taken : (from to : NamedProblem) (images : List (List ℕ)) (number : ℕ) (image : List ℕ) (next : Bool) (found : Option (List ℕ)) → next ≡ true → found ≡ Some image
    → takes_image from to images number next found ≡ Ok (InMap from to (images ++ image ∷ []))
taken from to images number image next found e f = λ i. takes_image from to images number (e i) (f i)

-- ---- by what is held
module _ (kind : MapKind) (byte number : ℕ) (line : List ℕ) (next : ℕ) (result : Result Place TextFault) where
  pub in-from : (reader : TextReader) → ((b n : ℕ) (text : List (List ℕ)) → Reads reader b n text byte → Holds (judged_from byte number b n text line) next result)
      → (s : State) → IsAt (place.From reader) s byte → Holds (judged kind byte number s line) next result
  in-from reader given Start at = absurd at
  in-from reader given (InFrom b n text) at = given b n text at
  in-from reader given (InTo from b n text) at = absurd at
  in-from reader given (InMap from to images) at = absurd at

  pub in-to : (from : NamedProblem) (reader : TextReader) → ((b n : ℕ) (text : List (List ℕ)) → Reads reader b n text byte → Holds (judged_to number from b n text line) next result)
      → (s : State) → IsAt (place.To from reader) s byte → Holds (judged kind byte number s line) next result
  in-to from reader given Start at = absurd at
  in-to from reader given (InFrom b n text) at = absurd at
  in-to from reader given (InTo problem b n text) at = subst (λ p. Holds (judged_to number p b n text line) next result) at.0 (given b n text at.1)
  in-to from reader given (InMap problem to images) at = absurd at

pub from-reads : (reader : TextReader) (byte : ℕ) → (s : State) × IsAt (place.From reader) s byte → (b : ℕ) × (n : ℕ) × (text : List (List ℕ)) × Reads reader b n text byte
from-reads reader byte (Start, at) = absurd at
from-reads reader byte (InFrom b n text, at) = (b, n, text, at)
from-reads reader byte (InTo from b n text, at) = absurd at
from-reads reader byte (InMap from to images, at) = absurd at

pub to-reads : (from : NamedProblem) (reader : TextReader) (byte : ℕ) → (s : State) × IsAt (place.To from reader) s byte → (b : ℕ) × (n : ℕ) × (text : List (List ℕ)) × Reads reader b n text byte
to-reads from reader byte (Start, at) = absurd at
to-reads from reader byte (InFrom b n text, at) = absurd at
to-reads from reader byte (InTo problem b n text, at) = (b, n, text, at.1)
to-reads from reader byte (InMap problem to images, at) = absurd at
