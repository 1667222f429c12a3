-- Lines behind a certificate: section lines, the side of node 0, and lines of three numbers.
use Rattle.std.specs.Prelude.{ℕ, Bool, not, ◌&&◌, ◌||◌, List, [], ◌∷◌, drop, take, position, if◌then◌else◌, Option, None, Some, codes}
use Rattle.std.specs.Char.{is_ascii_alphanumeric}
use Rattle.std.specs.Str.{bytes_eq}
use Rattle.re_problem.specs.Bytes.{is_blank, is_empty_line}
use Rattle.re_problem.specs.Numerals.{number_of}
use Rattle.re_labels.specs.declared.sides.Side.{Side}
use Rattle.re_labels.specs.declared.sides.Side.TheVariants.{Active, Passive}
use Rattle.re_problem.specs.SectionLines.{is_section, section_name, words_of}
use Rattle.re_net.specs.declared.lines.Section.{Section}
use Rattle.re_net.specs.declared.lines.Section.TheVariants.{Tree, Deliveries, Other}
use Rattle.std.specs.Option.{option_map_or}

-- ---- section lines
abbrev pub section_named : List ℕ → Section
section_named name =
    if bytes_eq name (codes "tree") then Tree
    else if bytes_eq name (codes "deliveries") then Deliveries
    else Other

-- the section that the line begins: `== tree` or `== deliveries`
unfoldable pub section_of : List ℕ → Section
section_of line = if is_section line then option_map_or section_named (section_name line) Other else Other

-- whether the line is `== deliveries` with optional blanks behind it
abbrev pub is_deliveries : List ℕ → Bool
is_deliveries line = bytes_eq (take 13 line) (codes "== deliveries") && is_empty_line (drop 13 line)

-- ---- lines of the tree and of the deliveries
-- a letter, a digit or a blank
abbrev pub is_plain : ℕ → Bool
is_plain b = is_ascii_alphanumeric b || is_blank b

-- the place of the first byte that is none of these
abbrev pub strange_byte : List ℕ → Option ℕ
strange_byte line = position (λ b. not (is_plain b)) line

abbrev pub side_named : List ℕ → Option Side
side_named word =
    if bytes_eq word (codes "active") then Some Active
    else if bytes_eq word (codes "passive") then Some Passive
    else None

abbrev pub side_in : List (List ℕ) → Option Side
side_in (word ∷ []) = side_named word
side_in words = None

-- the side that a line names by its one word
abbrev pub root_on : List ℕ → Option Side
root_on line = side_in (words_of line)

abbrev pub three : Option ℕ → Option ℕ → Option ℕ → Option (ℕ × ℕ × ℕ)
three (Some a) (Some b) (Some c) = Some (a, b, c)
three a b c = None

abbrev pub three_in : List (List ℕ) → Option (ℕ × ℕ × ℕ)
three_in (a ∷ b ∷ c ∷ []) = three (number_of a) (number_of b) (number_of c)
three_in words = None

-- the three numbers on a line of three numbers
abbrev pub three_on : List ℕ → Option (ℕ × ℕ × ℕ)
three_on line = three_in (words_of line)
