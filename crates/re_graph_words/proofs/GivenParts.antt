-- The text of a graph with a solution of an input problem, by its parts.
use Rattle.std.proofs.Common.{◌≡◌, ◌+◌, ◌-◌, ◌∙◌, ℕ, List, [], false, Bool, Option, None, Some, Result, Ok, Err, ap, length, option_map, subst, sym}
use Rattle.std.specs.Prelude.{codes, if◌then◌else◌}
use Rattle.re_settings.specs.GivenTexts.{GivenGives, GivenRefuses, given_fault, given_input, given_problem}
use Rattle.re_settings.specs.declared.texts.GivenTexts.{GivenTexts}
use Rattle.re_problem.specs.ProblemTexts.{lines_of}
use Rattle.re_problem.specs.declared.fault.InputFault.{InputFault}
use Rattle.re_problem.specs.declared.fault.InputFault.TheVariants.{EarlyEnd}
use Rattle.re_problem.specs.declared.fault.TextFault.{TextFault}
use Rattle.re_problem.specs.declared.fault.TextFault.TheVariants as text_fault
use Rattle.re_chains.specs.TwoTexts.{IsCut, at_line, front_text, has_line, lines_behind, lines_to}
use Rattle.re_chains.specs.declared.cutting.Cut.{Cut}
use Rattle.re_graph_words.specs.GivenInputs.{Labelled, given_for, given_graph, graph_behind, labelled_by, labelled_for, labelled_input, labels_from}
use Rattle.re_graph_words.specs.GivenReading.{BeforeLine, GivenGraphGives, LabelledGives, labelled_with}
use Rattle.re_graph_words.specs.GraphInputs.{or_text_fault}
use Rattle.re_graph_words.specs.GraphLines.{and_then}
use Rattle.re_graph_words.specs.Reading.{IsRefused, TextRefuses}
use Rattle.re_graph_words.specs.declared.faults.GraphFault.{GraphFault}
use Rattle.re_graph_words.specs.declared.faults.GraphFault.TheVariants.{Text}
use Rattle.re_graph_words.specs.declared.faults.ReadFault.{ReadFault}
use Rattle.re_graph_words.specs.declared.faults.ReadFault.TheVariants.{Bad, NoMemory}
use Rattle.re_graph_words.specs.declared.given_texts.GivenGraph.{GivenGraph}
use Rattle.re_graph_words.specs.declared.given_texts.LabelledGraph.{LabelledGraph}

-- ---- the graph
abbrev graph-by : Bool → List ℕ → Result GivenGraph GraphFault
graph-by has bytes =
    if has then given_for (front_text (codes "graph") bytes) (length (lines_to (codes "graph") bytes) + 1) (lines_behind (codes "graph") bytes) else or_text_fault (given_fault bytes) (Err (Text EarlyEnd))

pub no-graph-line : (bytes : List ℕ) → has_line (codes "graph") bytes ≡ false → given_graph bytes ≡ or_text_fault (given_fault bytes) (Err (Text EarlyEnd))
unfolding given_graph
no-graph-line bytes none = ap (λ b. graph-by b bytes) none

pub graph-line : (bytes : List ℕ) (cut : Cut) → IsCut (codes "graph") bytes cut → given_graph bytes ≡ given_for cut.front.now cut.number (lines_of cut.behind.now)
unfolding given_graph
graph-line bytes cut is =
    ap (λ b. graph-by b bytes) is.has
    ∙ ap (λ front. given_for front (length (lines_to (codes "graph") bytes) + 1) (lines_behind (codes "graph") bytes)) (sym is.front)
    ∙ ap (λ number. given_for cut.front.now number (lines_behind (codes "graph") bytes)) (sym is.number) ∙ ap (given_for cut.front.now cut.number) (sym is.behind)

-- without the line
pub no-graph-read : (bytes : List ℕ) → has_line (codes "graph") bytes ≡ false → given_fault bytes ≡ None → given_graph bytes ≡ Err (Text EarlyEnd)
no-graph-read bytes none right = no-graph-line bytes none ∙ ap (λ f. or_text_fault f (Err (Text EarlyEnd))) right

pub no-graph-wrong : (bytes : List ℕ) (fault : TextFault) (given : ReadFault) → has_line (codes "graph") bytes ≡ false → GivenRefuses bytes fault → TextRefuses fault given → IsRefused (given_graph bytes) given
no-graph-wrong bytes (text_fault.Bad fault) given none wrong e =
    subst (IsRefused (given_graph bytes)) (sym e) (no-graph-line bytes none ∙ ap (λ f. or_text_fault f (Err (Text EarlyEnd))) wrong)
no-graph-wrong bytes text_fault.NoMemory given none wrong e = subst (IsRefused (given_graph bytes)) (sym e) tt

-- with it
module _ (front : List ℕ) (number : ℕ) (lines : List (List ℕ)) where
  abbrev given-by : Option InputFault → Result GivenGraph GraphFault
  given-by fault = or_text_fault (option_map (at_line (number - 1)) fault) (graph_behind (record { problem = given_problem front; input = given_input front }) number lines)

  pub front-wrong : (fault : TextFault) (read given : ReadFault) → GivenRefuses front fault → TextRefuses fault read → BeforeLine (number - 1) read given → IsRefused (given_for front number lines) given
  front-wrong (text_fault.Bad fault) read given wrong e before = subst (IsRefused (given_for front number lines)) (sym (subst (λ r. BeforeLine (number - 1) r given) e before)) (ap given-by wrong)
  front-wrong text_fault.NoMemory read given wrong e before = subst (IsRefused (given_for front number lines)) (sym (subst (λ r. BeforeLine (number - 1) r given) e before)) tt

  pub front-right : (texts : GivenTexts) (r : Result GivenGraph ReadFault) → GivenGives front (Ok texts) → GivenGraphGives (graph_behind texts number lines) r → GivenGraphGives (given_for front number lines) r
  front-right texts r read gives =
      subst (λ wanted. GivenGraphGives wanted r)
      (ap (λ p. graph_behind (record { problem = p; input = texts.input }) number lines) read.1 ∙ ap (λ i. graph_behind (record { problem = given_problem front; input = i }) number lines) read.2 ∙ sym (ap given-by read.0)) gives

-- ---- the labels
abbrev labels-by : Bool → List ℕ → Result Labelled GraphFault
labels-by has bytes =
    if has then labelled_by (given_graph (front_text (codes "labels") bytes)) (length (lines_to (codes "labels") bytes) + 1) (lines_behind (codes "labels") bytes)
    else and_then (given_graph bytes) (λ given. Err (Text EarlyEnd))

pub no-labels-line : (bytes : List ℕ) → has_line (codes "labels") bytes ≡ false → labelled_input bytes ≡ and_then (given_graph bytes) (λ given. Err (Text EarlyEnd))
unfolding labelled_input
no-labels-line bytes none = ap (λ b. labels-by b bytes) none

pub labels-line : (bytes : List ℕ) (cut : Cut) → IsCut (codes "labels") bytes cut → labelled_input bytes ≡ labelled_by (given_graph cut.front.now) cut.number (lines_of cut.behind.now)
unfolding labelled_input
labels-line bytes cut is =
    ap (λ b. labels-by b bytes) is.has
    ∙ ap (λ front. labelled_by (given_graph front) (length (lines_to (codes "labels") bytes) + 1) (lines_behind (codes "labels") bytes)) (sym is.front)
    ∙ ap (λ number. labelled_by (given_graph cut.front.now) number (lines_behind (codes "labels") bytes)) (sym is.number) ∙ ap (labelled_by (given_graph cut.front.now) cut.number) (sym is.behind)

-- without the line
pub no-labels-read : (bytes : List ℕ) (given : GivenGraph) → has_line (codes "labels") bytes ≡ false → given_graph bytes ≡ Ok given → labelled_input bytes ≡ Err (Text EarlyEnd)
no-labels-read bytes given none read = no-labels-line bytes none ∙ ap (λ g. let r : Result Labelled GraphFault = and_then g (λ given. Err (Text EarlyEnd)) in r) read

pub no-labels-wrong : (bytes : List ℕ) (fault : ReadFault) → has_line (codes "labels") bytes ≡ false → IsRefused (given_graph bytes) fault → IsRefused (labelled_input bytes) fault
no-labels-wrong bytes (Bad fault) none wrong = no-labels-line bytes none ∙ ap (λ g. let r : Result Labelled GraphFault = and_then g (λ given. Err (Text EarlyEnd)) in r) wrong
no-labels-wrong bytes NoMemory none wrong = tt

-- with it
pub labelled-wrong : (bytes : List ℕ) (cut : Cut) (fault given : ReadFault) → IsCut (codes "labels") bytes cut → IsRefused (given_graph cut.front.now) fault → BeforeLine (cut.number - 1) fault given → IsRefused (labelled_input bytes) given
labelled-wrong bytes cut (Bad fault) given is wrong before =
    subst (IsRefused (labelled_input bytes)) (sym before) (labels-line bytes cut is ∙ ap (λ g. labelled_by g cut.number (lines_of cut.behind.now)) wrong)
labelled-wrong bytes cut NoMemory given is wrong before = subst (IsRefused (labelled_input bytes)) (sym before) tt

pub labelled-as : (bytes : List ℕ) (cut : Cut) (given : GivenGraph) (r : Result LabelledGraph ReadFault) → IsCut (codes "labels") bytes cut → given_graph cut.front.now ≡ Ok given
    → LabelledGives (labelled_for given cut.number (lines_of cut.behind.now)) r → LabelledGives (labelled_input bytes) r
labelled-as bytes cut given r is read gives =
    subst (λ wanted. LabelledGives wanted r) (sym (labels-line bytes cut is ∙ ap (λ g. labelled_by g cut.number (lines_of cut.behind.now)) read)) gives

-- the labels of lines
pub lines-right : (given : GivenGraph) (number : ℕ) (lines labels : List (List ℕ)) → labels_from given.input given.graph.nodes number [] lines ≡ Ok labels → labelled_for given number lines ≡ Ok (record { given = given; labels = labels })
lines-right given number lines labels read = ap (λ r. let q : Result Labelled GraphFault = and_then r (λ labels. Ok (record { given = given; labels = labels })) in q) read

pub lines-wrong : (given : GivenGraph) (number : ℕ) (lines : List (List ℕ)) (fault : ReadFault) → IsRefused (labels_from given.input given.graph.nodes number [] lines) fault → IsRefused (labelled_for given number lines) fault
lines-wrong given number lines (Bad fault) wrong = ap (λ r. let q : Result Labelled GraphFault = and_then r (λ labels. Ok (record { given = given; labels = labels })) in q) wrong
lines-wrong given number lines NoMemory wrong = tt
