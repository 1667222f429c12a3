-- What the reading of the text of a graph gives.
use Rattle.std.specs.Prelude.{◌≡◌, ◌+◌, ◌∷◌, ℕ, List, Result, Ok, Err}
use Rattle.re_cover.specs.declared.ends.GraphEnd.{GraphEnd}
use Rattle.re_labels.specs.declared.sides.Degrees.{Degrees}
use Rattle.re_problem.specs.declared.fault.TextFault.{TextFault}
use Rattle.re_problem.specs.declared.fault.TextFault.TheVariants as text_fault
use Rattle.re_graph_words.specs.GraphLines.{graph_from}
use Rattle.re_graph_words.specs.declared.faults.GraphFault.{GraphFault}
use Rattle.re_graph_words.specs.declared.faults.GraphFault.TheVariants.{Text}
use Rattle.re_graph_words.specs.declared.faults.ReadFault.{ReadFault}
use Rattle.re_graph_words.specs.declared.faults.ReadFault.TheVariants.{Bad, NoMemory}
use Rattle.re_graph_words.specs.declared.texts.GraphText.{GraphText}

-- it is refused with this fault of the text, or since memory ended
abbrev pub IsRefused : {X : Type 0} → Result X GraphFault → ReadFault → Type 0
IsRefused wanted (Bad fault) = wanted ≡ Err fault
IsRefused wanted NoMemory = Unit {0}

-- what is wanted is given, or the reading is refused
abbrev pub LinesGive : {X : Type 0} → Result X GraphFault → Result X ReadFault → Type 0
LinesGive wanted (Ok x) = wanted ≡ Ok x
LinesGive wanted (Err fault) = IsRefused wanted fault

-- one line more, behind lines with these passive nodes: what it makes of them, whatever lines come, or its fault
abbrev pub LineRefuses : Degrees → ℕ → List ℕ → List (List GraphEnd) → ReadFault → Type 0
LineRefuses degrees number line old (Bad fault) = (lines : List (List ℕ)) → graph_from degrees number old (line ∷ lines) ≡ Err fault
LineRefuses degrees number line old NoMemory = Unit {0}

abbrev pub AddsLine : Degrees → ℕ → List ℕ → List (List GraphEnd) → List (List GraphEnd) → Result (Unit {0}) ReadFault → Type 0
AddsLine degrees number line old new (Ok u) = (lines : List (List ℕ)) → graph_from degrees number old (line ∷ lines) ≡ graph_from degrees (number + 1) new lines
AddsLine degrees number line old new (Err fault) = LineRefuses degrees number line old fault

-- a problem and a graph are given, and the graph has its degrees
pub record IsGiven (wanted : Result GraphText GraphFault) (text : GraphText) : Type 0 where
  pub wanted_is : wanted ≡ Ok text
  pub active : text.graph.active_degree ≡ text.problem.active.degree
  pub passive : text.graph.passive_degree ≡ text.problem.passive.degree

abbrev pub GraphGives : Result GraphText GraphFault → Result GraphText ReadFault → Type 0
GraphGives wanted (Ok text) = IsGiven wanted text
GraphGives wanted (Err fault) = IsRefused wanted fault

-- what a text gives whose problem's text has this fault
abbrev pub TextRefuses : TextFault → ReadFault → Type 0
TextRefuses (text_fault.Bad fault) given = given ≡ Bad (Text fault)
TextRefuses text_fault.NoMemory given = given ≡ NoMemory
