-- The sections of the text of a table.
use Rattle.std.specs.Prelude.{ℕ, nat_le, List, [], ◌∷◌, if◌then◌else◌, Option, None, Some, codes}
use Rattle.std.specs.Str.{bytes_eq}
use Rattle.re_problem.specs.Numerals.{number_of}
use Rattle.re_problem.specs.SectionLines.{is_section, words_of}
use Rattle.re_table_texts.specs.declared.TheConstants.{MAX_RADIUS}
use Rattle.re_table_texts.specs.declared.sections.Section.{Section}
use Rattle.re_table_texts.specs.declared.sections.Section.TheVariants.{Next, Other, Problem, Table}

-- a radius is a number from 0 to the most there may be
abbrev pub section_with : Option ℕ → Section
section_with None = Other
section_with (Some radius) = if nat_le radius MAX_RADIUS then Table radius else Other

abbrev pub radius_section : List ℕ → Section
radius_section word = section_with (number_of word)

-- the section of this name, which these words follow
abbrev pub section_named : List ℕ → List (List ℕ) → Section
section_named name [] = if bytes_eq name (codes "problem") then Problem else if bytes_eq name (codes "next") then Next else Other
section_named name (word ∷ []) = if bytes_eq name (codes "table") then radius_section word else Other
section_named name more = Other

abbrev pub section_in : List (List ℕ) → Section
section_in (mark ∷ name ∷ more) = if bytes_eq mark (codes "==") then section_named name more else Other
section_in words = Other

-- the section that the line begins: `== problem`, `== next` or `== table T`
unfoldable pub section_of : List ℕ → Section
section_of line = if is_section line then section_in (words_of line) else Other
