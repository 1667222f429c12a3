-- The images of a map that a text writes fit its problems.
use Rattle.re_labels.proofs.Membership.{all-push}
use Rattle.std.proofs.Common.{◌≡◌, ℕ, ◌<◌, ◌+◌, Bool, true, false, cond, eqb, List, [], ◌∷◌, ◌++◌, length, map, refl, sym, ap, ◌∙◌, subst, Option, Some, None}
use Rattle.std.specs.Prelude.{Result, Ok, Err}
use Rattle.std.specs.List.{AllByRecursion}
use Rattle.std.specs.Option.{option_map}
use Rattle.re_problem.specs.Bytes.{bad_byte, is_empty_line}
use Rattle.re_problem.specs.Items.{ItemText}
use Rattle.re_labels.proofs.Tests.{eqb-true}
use Rattle.re_labels.specs.Sets.{IsLabelSet}
use Rattle.re_problem.specs.NamedProblems.{NamedProblem}
use Rattle.re_problem.specs.ProblemTexts.{byte_fault, end_fault, fault_at, fault_or, lines_of, problem_of}
use Rattle.re_problem.specs.declared.fault.InputFault.{InputFault}
use Rattle.re_problem.specs.declared.fault.InputFault.TheVariants.{BadItem, BadSection, BadEntry}
use Rattle.re_problem.proofs.KnownLabels.{known_set, label_known}
use Rattle.re_texts.specs.Entries.{has_group, image_on, is_next, source, target}
use Rattle.re_problem.specs.Pairs.{ItemPair, label_held, pair_on}
use Rattle.re_texts.specs.MapTexts.{MapText, State, and_behind, behind, ended, from_begins, judged, map_begins, map_text, takes_entry, takes_image, takes_items, to_begins}
use Rattle.re_texts.specs.MapTexts.State.{Start, InFrom, InTo, InMap}
use Rattle.re_texts.specs.SectionLines.{section_of}
use Rattle.re_problem.specs.SectionLines.{is_section}
use Rattle.re_texts.specs.declared.entries.MapKind.{MapKind}
use Rattle.re_texts.specs.declared.entries.MapKind.TheVariants.{Labels, Sets}
use Rattle.re_texts.specs.declared.sections.Section.{Section}
use Rattle.re_texts.specs.declared.sections.Section.TheVariants.{From, To, Map, Other}

-- the image is one known label, or a set of known labels
abbrev pub ImageFits : MapKind → ℕ → List ℕ → Type 0
ImageFits Labels n image = (x : ℕ) × (x < n) × (image ≡ x ∷ [])
ImageFits Sets n image = IsLabelSet n image

abbrev Fits : MapKind → State → Type 0
Fits kind (InMap from to images) = AllByRecursion (ImageFits kind (length (target kind from to).names)) images
Fits kind s = Unit {0}

image_fits : (kind : MapKind) (names : List (List ℕ)) (item : ItemText) (image : List ℕ) → image_on kind names item ≡ Some image → ImageFits kind (length names) image
image_fits Sets names item image e = known_set names item.names image e
image_fits Labels names item image e = go (label_held names item) refl e
  where
    go : (label : Option ℕ) → label_held names item ≡ label → option_map (λ label. label ∷ []) label ≡ Some image → (x : ℕ) × (x < length names) × (image ≡ x ∷ [])
    go None h e = cc
    go (Some label) h e = (label, label_known names item label h, (let same : image ≡ label ∷ [] = cc in same))

-- a state that fits, where the result is one
abbrev FitsIn : MapKind → Result State InputFault → Type 0
FitsIn kind (Ok s) = Fits kind s
FitsIn kind (Err fault) = Unit {0}

or_fits : (kind : MapKind) (fault : Option InputFault) (result : Result State InputFault) → FitsIn kind result → FitsIn kind (fault_or fault result)
or_fits kind None result fits = fits
or_fits kind (Some fault) result fits = tt

if_fits : (kind : MapKind) (test : Bool) (one other : Result State InputFault) → FitsIn kind one → FitsIn kind other → FitsIn kind (cond test one other)
if_fits kind true one other f g = f
if_fits kind false one other f g = g

from_fits : (kind : MapKind) (next number : ℕ) (section : Section) → FitsIn kind (from_begins next number section)
from_fits kind next number From = tt
from_fits kind next number To = tt
from_fits kind next number Map = tt
from_fits kind next number Other = tt

to_fits : (kind : MapKind) (from : NamedProblem) (next number : ℕ) (section : Section) → FitsIn kind (to_begins from next number section)
to_fits kind from next number From = tt
to_fits kind from next number To = tt
to_fits kind from next number Map = tt
to_fits kind from next number Other = tt

map_fits : (kind : MapKind) (from to : NamedProblem) (number : ℕ) (section : Section) → FitsIn kind (map_begins from to number section)
map_fits kind from to number From = tt
map_fits kind from to number To = tt
map_fits kind from to number Map = tt
map_fits kind from to number Other = tt

taken_fits : (kind : MapKind) (from to : NamedProblem) (images : List (List ℕ)) (number : ℕ) (next : Bool) (item : ItemText) (image : Option (List ℕ)) → image_on kind (target kind from to).names item ≡ image
    → AllByRecursion (ImageFits kind (length (target kind from to).names)) images → FitsIn kind (takes_image from to images number next image)
taken_fits kind from to images number false item image is fits = tt
taken_fits kind from to images number true item None is fits = tt
taken_fits kind from to images number true item (Some image) is fits = all-push (ImageFits kind (length (target kind from to).names)) images image fits (image_fits kind (target kind from to).names item image is)

items_fit : (kind : MapKind) (from to : NamedProblem) (images : List (List ℕ)) (number : ℕ) (pair : Option ItemPair) → AllByRecursion (ImageFits kind (length (target kind from to).names)) images
    → FitsIn kind (takes_items kind from to images number pair)
items_fit kind from to images number None fits = tt
items_fit kind from to images number (Some pair) fits =
    if_fits kind (has_group kind pair) (Err (BadItem number)) (takes_entry kind from to images number pair) tt
    (taken_fits kind from to images number (is_next (label_held (source kind from to).names pair.left) (length images)) pair.right (image_on kind (target kind from to).names pair.right) refl fits)

judged_fits : (kind : MapKind) (byte number : ℕ) (s : State) (line : List ℕ) → Fits kind s → FitsIn kind (judged kind byte number s line)
judged_fits kind byte number Start line fits = if_fits kind (is_empty_line line) (Ok Start) (from_begins (byte + length line + 1) number (section_of line)) tt (from_fits kind (byte + length line + 1) number (section_of line))
judged_fits kind byte number (InFrom text_byte text_line text) line fits =
    if_fits kind (is_section line) (fault_or (end_fault text_line text) (to_begins (problem_of text) (byte + length line + 1) number (section_of line)))
    (fault_or (fault_at text_byte text_line text line) (Ok (InFrom text_byte text_line (text ++ line ∷ []))))
    (or_fits kind (end_fault text_line text) (to_begins (problem_of text) (byte + length line + 1) number (section_of line)) (to_fits kind (problem_of text) (byte + length line + 1) number (section_of line)))
    (or_fits kind (fault_at text_byte text_line text line) (Ok (InFrom text_byte text_line (text ++ line ∷ []))) tt)
judged_fits kind byte number (InTo from text_byte text_line text) line fits =
    if_fits kind (is_section line) (fault_or (end_fault text_line text) (map_begins from (problem_of text) number (section_of line)))
    (fault_or (fault_at text_byte text_line text line) (Ok (InTo from text_byte text_line (text ++ line ∷ []))))
    (or_fits kind (end_fault text_line text) (map_begins from (problem_of text) number (section_of line)) (map_fits kind from (problem_of text) number (section_of line)))
    (or_fits kind (fault_at text_byte text_line text line) (Ok (InTo from text_byte text_line (text ++ line ∷ []))) tt)
judged_fits kind byte number (InMap from to images) line fits =
    if_fits kind (is_section line) (Err (BadSection number))
    (cond (is_empty_line line) (Ok (InMap from to images)) (fault_or (byte_fault byte (bad_byte line)) (takes_items kind from to images number (pair_on line)))) tt
    (if_fits kind (is_empty_line line) (Ok (InMap from to images)) (fault_or (byte_fault byte (bad_byte line)) (takes_items kind from to images number (pair_on line))) fits
    (or_fits kind (byte_fault byte (bad_byte line)) (takes_items kind from to images number (pair_on line)) (items_fit kind from to images number (pair_on line) fits)))

-- what a text writes
pub record TextFits (kind : MapKind) (text : MapText) : Type 0 where
  pub count : length text.images ≡ length (source kind text.from text.to).names
  pub images : AllByRecursion (ImageFits kind (length (target kind text.from text.to).names)) text.images

ended_fits : (kind : MapKind) (number : ℕ) (s : State) (text : MapText) → Fits kind s → ended kind number s ≡ Ok text → TextFits kind text
ended_fits kind number Start text fits e = cc
ended_fits kind number (InFrom b n lines) text fits e = cc
ended_fits kind number (InTo from b n lines) text fits e = cc
ended_fits kind number (InMap from to images) text fits e = by_test (eqb (length images) (length (source kind from to).names)) refl
  where
    here : MapText
    here = record { from = from; to = to; images = images }

    by_test : (t : Bool) → eqb (length images) (length (source kind from to).names) ≡ t → TextFits kind text
    by_test true t =
        let some : Ok (record { from = from; to = to; images = images }) ≡ Ok text = sym (ap (λ b. cond b (Ok (record { from = from; to = to; images = images })) (Err (BadEntry number))) t) ∙ e in
        let same : record { from = from; to = to; images = images } ≡ text = cc in
        subst (TextFits kind) same (record { count = eqb-true (length images) (length (source kind from to).names) t; images = fits })
    by_test false t = let none : Err (BadEntry number) ≡ Ok text = sym (ap (λ b. cond b (Ok (record { from = from; to = to; images = images })) (Err (BadEntry number))) t) ∙ e in cc

behind_fits : (kind : MapKind) (byte number : ℕ) (s : State) (lines : List (List ℕ)) (text : MapText) → Fits kind s → behind kind byte number s lines ≡ Ok text → TextFits kind text
behind_fits kind byte number s [] text fits e = ended_fits kind number s text fits e
behind_fits kind byte number s (line ∷ lines) text fits e = go (judged kind byte number s line) (judged_fits kind byte number s line fits) e (λ t f h. behind_fits kind (byte + length line + 1) (number + 1) t lines text f h)
  where
    go : (result : Result State InputFault) → FitsIn kind result → and_behind result (λ t. behind kind (byte + length line + 1) (number + 1) t lines) ≡ Ok text
        → ((t : State) → Fits kind t → behind kind (byte + length line + 1) (number + 1) t lines ≡ Ok text → TextFits kind text) → TextFits kind text
    go (Ok t) f e rest = rest t f e
    go (Err fault) f e rest = cc

pub text_fits : (kind : MapKind) (bytes : List ℕ) (text : MapText) → map_text kind bytes ≡ Ok text → TextFits kind text
text_fits kind bytes text e = behind_fits kind 0 1 Start (lines_of bytes) text tt e

pub labels_fit : (n : ℕ) (images : List ℕ) → AllByRecursion (ImageFits Labels n) (map (λ x. x ∷ []) images) → AllByRecursion (λ image. image < n) images
labels_fit n [] fits = tt
labels_fit n (x ∷ images) fits = (let f = fits.0 in let same : x ≡ f.0 = cc (f.2) in subst (λ y. y < n) (sym same) f.1, labels_fit n images fits.1)

pub all_single : (n : ℕ) (images : List (List ℕ)) → AllByRecursion (ImageFits Labels n) images → AllByRecursion (λ set. length set ≡ 1) images
all_single n [] fits = tt
all_single n (image ∷ images) fits = (let f = fits.0 in ap length f.2, all_single n images fits.1)
