-- One line more.
use Rattle.std.proofs.Common.{◌≡◌, ◌+◌, ◌∷◌, ◌++◌, ◌∙◌, [], ℕ, List, Bool, true, false, Result, Ok, Err, ap}
use Rattle.std.specs.Prelude.{if◌then◌else◌}
use Rattle.re_cover.specs.Graphs.{PortGraph}
use Rattle.re_cover.specs.declared.ends.GraphEnd.{GraphEnd}
use Rattle.re_problem.specs.Bytes.{is_empty_line}
use Rattle.re_labels.specs.declared.sides.Degrees.{Degrees}
use Rattle.re_problem.specs.declared.fault.InputFault.TheVariants.{BadSection}
use Rattle.re_problem.specs.SectionLines.{is_section, words_of}
use Rattle.re_graph_words.specs.GraphLines.{and_then, graph_from, line_from}
use Rattle.re_graph_words.specs.Reading.{IsRefused, LineRefuses}
use Rattle.re_graph_words.specs.declared.faults.GraphFault.{GraphFault}
use Rattle.re_graph_words.specs.declared.faults.GraphFault.TheVariants.{Text}
use Rattle.re_graph_words.specs.declared.faults.ReadFault.{ReadFault}
use Rattle.re_graph_words.specs.declared.faults.ReadFault.TheVariants.{Bad, NoMemory}

-- ---- lines
abbrev graph-of : Degrees → ℕ → List (List GraphEnd) → List (List ℕ) → Bool → Bool → Result (List GraphEnd) GraphFault → Result PortGraph GraphFault
graph-of degrees number passive lines empty section ends =
    if empty then graph_from degrees (number + 1) passive lines
    else if section then Err (Text (BadSection number))
    else and_then ends (λ ends. graph_from degrees (number + 1) (passive ++ ends ∷ []) lines)

line-is : (degrees : Degrees) (number : ℕ) (passive : List (List GraphEnd)) (rest : List (List ℕ)) (line : List ℕ) (lines : List (List ℕ))
    → rest ≡ line ∷ lines → graph_from degrees number passive rest ≡ graph-of degrees number passive lines (is_empty_line line) (is_section line) (line_from degrees number passive [] (words_of line))
line-is degrees number passive rest line lines is = ap (graph_from degrees number passive) is

pub line-empty : (degrees : Degrees) (number : ℕ) (passive : List (List GraphEnd)) (rest : List (List ℕ)) (line : List ℕ) (lines : List (List ℕ))
    → rest ≡ line ∷ lines → is_empty_line line ≡ true → graph_from degrees number passive rest ≡ graph_from degrees (number + 1) passive lines
line-empty degrees number passive rest line lines is empty =
    line-is degrees number passive rest line lines is ∙ ap (λ b. graph-of degrees number passive lines b (is_section line) (line_from degrees number passive [] (words_of line))) empty

-- a line that isn't empty
full-is : (degrees : Degrees) (number : ℕ) (passive : List (List GraphEnd)) (rest : List (List ℕ)) (line : List ℕ) (lines : List (List ℕ)) (section : Bool)
    → rest ≡ line ∷ lines → is_empty_line line ≡ false → is_section line ≡ section
    → graph_from degrees number passive rest ≡ graph-of degrees number passive lines false section (line_from degrees number passive [] (words_of line))
full-is degrees number passive rest line lines section is full s =
    line-is degrees number passive rest line lines is
    ∙ ap (λ b. graph-of degrees number passive lines b (is_section line) (line_from degrees number passive [] (words_of line))) full
    ∙ ap (λ b. graph-of degrees number passive lines false b (line_from degrees number passive [] (words_of line))) s

pub line-section : (degrees : Degrees) (number : ℕ) (passive : List (List GraphEnd)) (rest : List (List ℕ)) (line : List ℕ) (lines : List (List ℕ))
    → rest ≡ line ∷ lines → is_empty_line line ≡ false → is_section line ≡ true → graph_from degrees number passive rest ≡ Err (Text (BadSection number))
line-section degrees number passive rest line lines is full section = full-is degrees number passive rest line lines true is full section

pub line-fault : (degrees : Degrees) (number : ℕ) (passive : List (List GraphEnd)) (rest : List (List ℕ)) (line : List ℕ) (lines : List (List ℕ)) (fault : GraphFault)
    → rest ≡ line ∷ lines → is_empty_line line ≡ false → is_section line ≡ false → line_from degrees number passive [] (words_of line) ≡ Err fault → graph_from degrees number passive rest ≡ Err fault
line-fault degrees number passive rest line lines fault is full plain wrong =
    full-is degrees number passive rest line lines false is full plain ∙ ap (graph-of degrees number passive lines false false) wrong

pub line-on : (degrees : Degrees) (number : ℕ) (passive : List (List GraphEnd)) (rest : List (List ℕ)) (line : List ℕ) (lines : List (List ℕ)) (ends : List GraphEnd)
    → rest ≡ line ∷ lines → is_empty_line line ≡ false → is_section line ≡ false → line_from degrees number passive [] (words_of line) ≡ Ok ends
    → graph_from degrees number passive rest ≡ graph_from degrees (number + 1) (passive ++ ends ∷ []) lines
line-on degrees number passive rest line lines ends is full plain right =
    full-is degrees number passive rest line lines false is full plain ∙ ap (graph-of degrees number passive lines false false) right

-- ---- the loop over lines
pub line-refused : (wanted : Result PortGraph GraphFault) (degrees : Degrees) (number : ℕ) (line : List ℕ) (passive : List (List GraphEnd)) (lines : List (List ℕ)) (fault : ReadFault)
    → wanted ≡ graph_from degrees number passive (line ∷ lines) → LineRefuses degrees number line passive fault → IsRefused wanted fault
line-refused wanted degrees number line passive lines (Bad fault) is refuses = is ∙ refuses lines
line-refused wanted degrees number line passive lines NoMemory is refuses = tt
