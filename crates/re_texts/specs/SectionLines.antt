-- The sections of the input of a map.
use Rattle.std.specs.Prelude.{ℕ, List, if◌then◌else◌, codes}
use Rattle.std.specs.Str.{bytes_eq}
use Rattle.re_problem.specs.SectionLines.{is_section, section_name}
use Rattle.re_texts.specs.declared.sections.Section.{Section}
use Rattle.re_texts.specs.declared.sections.Section.TheVariants.{From, To, Map, Other}
use Rattle.std.specs.Option.{option_map_or}

abbrev pub section_named : List ℕ → Section
section_named name =
    if bytes_eq name (codes "from") then From
    else if bytes_eq name (codes "to") then To
    else if bytes_eq name (codes "map") then Map
    else Other

-- the section that the line begins: `== from` and so on
unfoldable pub section_of : List ℕ → Section
section_of line = if is_section line then option_map_or section_named (section_name line) Other else Other
