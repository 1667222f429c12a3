-- One line of labels more.
use Rattle.std.proofs.Common.{◌≡◌, ◌+◌, ◌∷◌, ◌++◌, ◌∙◌, [], ℕ, List, Bool, true, false, Result, Ok, Err, ap, length}
use Rattle.std.specs.Prelude.{◌==◌, if◌then◌else◌}
use Rattle.re_cert.specs.Entries.{label_items}
use Rattle.re_problem.specs.Bytes.{is_empty_line}
use Rattle.re_problem.specs.NamedProblems.{NamedProblem}
use Rattle.re_problem.specs.declared.fault.InputFault.TheVariants.{BadEntry, BadSection}
use Rattle.re_problem.specs.SectionLines.{is_section}
use Rattle.re_graph_words.specs.GivenInputs.{labels_from, node_labels}
use Rattle.re_graph_words.specs.GivenReading.{LabelsRefuse}
use Rattle.re_graph_words.specs.GraphLines.{and_then}
use Rattle.re_graph_words.specs.Reading.{IsRefused}
use Rattle.re_graph_words.specs.declared.faults.GraphFault.{GraphFault}
use Rattle.re_graph_words.specs.declared.faults.GraphFault.TheVariants.{Text}
use Rattle.re_graph_words.specs.declared.faults.ReadFault.{ReadFault}
use Rattle.re_graph_words.specs.declared.faults.ReadFault.TheVariants.{Bad, NoMemory}

module _ (input : NamedProblem) (nodes number : ℕ) (read : List (List ℕ)) (line : List ℕ) (lines : List (List ℕ)) where
  abbrev labels-of : Bool → Bool → Bool → Result (List ℕ) GraphFault → Result (List (List ℕ)) GraphFault
  labels-of empty section full labels =
      if empty then labels_from input nodes (number + 1) read lines
      else if section then Err (Text (BadSection number))
      else if full then Err (Text (BadEntry number))
      else and_then labels (λ labels. labels_from input nodes (number + 1) (read ++ labels ∷ []) lines)

  abbrev here : Result (List ℕ) GraphFault
  here = node_labels input number (label_items line)

  pub labels-empty : is_empty_line line ≡ true → labels_from input nodes number read (line ∷ lines) ≡ labels_from input nodes (number + 1) read lines
  labels-empty empty = ap (λ b. labels-of b (is_section line) (length read == nodes) here) empty

  -- a line that isn't empty
  full-is : (section : Bool) → is_empty_line line ≡ false → is_section line ≡ section → labels_from input nodes number read (line ∷ lines) ≡ labels-of false section (length read == nodes) here
  full-is section some s = ap (λ b. labels-of b (is_section line) (length read == nodes) here) some ∙ ap (λ b. labels-of false b (length read == nodes) here) s

  pub labels-section : is_empty_line line ≡ false → is_section line ≡ true → labels_from input nodes number read (line ∷ lines) ≡ Err (Text (BadSection number))
  labels-section some section = full-is true some section

  pub labels-past : is_empty_line line ≡ false → is_section line ≡ false → (length read == nodes) ≡ true → labels_from input nodes number read (line ∷ lines) ≡ Err (Text (BadEntry number))
  labels-past some plain past = full-is false some plain ∙ ap (λ b. labels-of false false b here) past

  pub labels-fault : (fault : GraphFault) → is_empty_line line ≡ false → is_section line ≡ false → (length read == nodes) ≡ false → here ≡ Err fault → labels_from input nodes number read (line ∷ lines) ≡ Err fault
  labels-fault fault some plain room wrong = full-is false some plain ∙ ap (λ b. labels-of false false b here) room ∙ ap (labels-of false false false) wrong

  pub labels-on : (labels : List ℕ) → is_empty_line line ≡ false → is_section line ≡ false → (length read == nodes) ≡ false → here ≡ Ok labels
      → labels_from input nodes number read (line ∷ lines) ≡ labels_from input nodes (number + 1) (read ++ labels ∷ []) lines
  labels-on labels some plain room right = full-is false some plain ∙ ap (λ b. labels-of false false b here) room ∙ ap (labels-of false false false) right

-- ---- the loop over lines
pub labels-refused : (wanted : Result (List (List ℕ)) GraphFault) (input : NamedProblem) (nodes number : ℕ) (line : List ℕ) (read lines : List (List ℕ)) (fault : ReadFault)
    → wanted ≡ labels_from input nodes number read (line ∷ lines) → LabelsRefuse input nodes number line read fault → IsRefused wanted fault
labels-refused wanted input nodes number line read lines (Bad fault) is refuses = is ∙ refuses lines
labels-refused wanted input nodes number line read lines NoMemory is refuses = tt
