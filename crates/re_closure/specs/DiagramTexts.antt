-- Texts with a diagram: the text of a chain, a line `== diagram`, and behind it lines of two labels of the chain's last problem, the lower one first.
use Rattle.std.specs.Prelude.{◌≡◌, ℕ, ◌+◌, ◌<◌, Bool, ◌||◌, List, [], ◌∷◌, ◌++◌, codes, flat_map, is_none, length, option_map, if◌then◌else◌, Option, None, Some, Result, Ok, Err}
use Rattle.std.specs.List.{AllByRecursion}
use Rattle.re_cert.specs.Bounds.{Bound, last_problem}
use Rattle.re_chains.specs.ChainTexts.{chain_fault, text_chain}
use Rattle.re_problem.specs.Bytes.{bad_byte, is_empty_line}
use Rattle.re_problem.specs.ProblemTexts.{byte_fault, bytes_of, fault_if, or_else}
use Rattle.re_problem.specs.declared.fault.InputFault.{InputFault}
use Rattle.re_problem.specs.declared.fault.InputFault.TheVariants.{BadEntry, BadItem, BadSection}
use Rattle.re_problem.specs.declared.fault.TextFault.{TextFault}
use Rattle.re_problem.specs.declared.fault.TextFault.TheVariants.{Bad, NoMemory}
use Rattle.re_problem.specs.Pairs.{ItemPair, label_held, pair_on}
use Rattle.re_problem.specs.SectionLines.{is_section}
use Rattle.re_chains.specs.TwoTexts.{at_line, front_text, has_line, lines_behind, lines_to}
use Rattle.re_closure.specs.declared.reading.DiagramText.{DiagramText}

abbrev pub has_diagram : List ℕ → Bool
has_diagram bytes = has_line (codes "diagram") bytes

-- ---- a line
-- the edge of two labels, where both are known
abbrev pub edge_between : Option ℕ → Option ℕ → Option (ℕ × ℕ)
edge_between (Some low) (Some high) = Some (low, high)
edge_between low high = None

abbrev pub edge_held : List (List ℕ) → ItemPair → Option (ℕ × ℕ)
edge_held names pair = edge_between (label_held names pair.left) (label_held names pair.right)

-- the fault of a line that isn't empty: it isn't of two labels without power, or one of them isn't known
abbrev pub pair_fault : List (List ℕ) → ℕ → Option ItemPair → Option InputFault
pair_fault names number None = Some (BadItem number)
pair_fault names number (Some pair) =
    if pair.left.group || pair.right.group then Some (BadItem number) else fault_if (is_none (edge_held names pair)) (BadEntry number)

-- the first fault of a line that stands at this byte and has this number; no section line is expected
abbrev pub edge_fault : List (List ℕ) → ℕ → ℕ → List ℕ → Option InputFault
edge_fault names byte number line =
    if is_section line then Some (BadSection number)
    else if is_empty_line line then None
    else or_else (byte_fault byte (bad_byte line)) (pair_fault names number (pair_on line))

abbrev pub one_edge : Option (ℕ × ℕ) → List (ℕ × ℕ)
one_edge None = []
one_edge (Some edge) = edge ∷ []

abbrev pub pair_edges : List (List ℕ) → Option ItemPair → List (ℕ × ℕ)
pair_edges names None = []
pair_edges names (Some pair) = one_edge (edge_held names pair)

-- the edge that a line writes; an empty one writes none
abbrev pub edges_on : List (List ℕ) → List ℕ → List (ℕ × ℕ)
edges_on names line = if is_empty_line line then [] else pair_edges names (pair_on line)

-- ---- all lines
-- their first fault, where the first line stands at this byte and has this number
abbrev pub edges_fault : List (List ℕ) → ℕ → ℕ → List (List ℕ) → Option InputFault
edges_fault names byte number [] = None
edges_fault names byte number (line ∷ lines) = or_else (edge_fault names byte number line) (edges_fault names (byte + length line + 1) (number + 1) lines)

-- the edges that they write, where they have none
abbrev pub edges_of : List (List ℕ) → List (List ℕ) → List (ℕ × ℕ)
edges_of names lines = flat_map (edges_on names) lines

-- ---- texts
-- the chain in front of the line
abbrev pub front_chain : List ℕ → Bound
front_chain bytes = text_chain (front_text (codes "diagram") bytes)

-- the first fault of a text that has the line: that of the chain's text, or that of the edges
abbrev pub diagram_fault : List ℕ → Option InputFault
diagram_fault bytes =
    or_else (option_map (at_line (length (lines_to (codes "diagram") bytes))) (chain_fault (front_text (codes "diagram") bytes)))
    (edges_fault (last_problem (front_chain bytes)).names (bytes_of (lines_to (codes "diagram") bytes)) (length (lines_to (codes "diagram") bytes) + 1) (lines_behind (codes "diagram") bytes))

-- the edges of a text without a fault
abbrev pub diagram_edges : List ℕ → List (ℕ × ℕ)
diagram_edges bytes = edges_of (last_problem (front_chain bytes)).names (lines_behind (codes "diagram") bytes)

-- ---- reading
-- edges between labels below n
abbrev pub AreEdges : ℕ → List (ℕ × ℕ) → Type 0
AreEdges n edges = AllByRecursion (λ (edge : ℕ × ℕ). (edge.0 < n) × (edge.1 < n)) edges

-- what a line gives: its edge, if it has one, exactly where it has no fault, and else the fault
abbrev pub EdgeGives : List (List ℕ) → ℕ → ℕ → List ℕ → Result (Option (ℕ × ℕ)) InputFault → Type 0
EdgeGives names byte number line (Ok edge) = (edge_fault names byte number line ≡ None) × (edges_on names line ≡ one_edge edge) × AreEdges (length names) (one_edge edge)
EdgeGives names byte number line (Err fault) = edge_fault names byte number line ≡ Some fault

-- what it does to the edges of the lines before it
abbrev pub LineRefuses : List (List ℕ) → ℕ → ℕ → List ℕ → TextFault → Type 0
LineRefuses names byte number line (Bad fault) = edge_fault names byte number line ≡ Some fault
LineRefuses names byte number line NoMemory = Unit {0}

abbrev pub TakesLine : List (List ℕ) → ℕ → ℕ → List ℕ → List (ℕ × ℕ) → List (ℕ × ℕ) → Result (Unit {0}) TextFault → Type 0
TakesLine names byte number line old new (Ok u) =
    (edge_fault names byte number line ≡ None) × (new ≡ old ++ edges_on names line) × AreEdges (length names) (edges_on names line)
TakesLine names byte number line old new (Err fault) = LineRefuses names byte number line fault

abbrev pub EdgesRefuse : List (List ℕ) → ℕ → ℕ → List (List ℕ) → TextFault → Type 0
EdgesRefuse names byte number lines (Bad fault) = edges_fault names byte number lines ≡ Some fault
EdgesRefuse names byte number lines NoMemory = Unit {0}

-- lines without a fault, and their edges
abbrev pub AreEdgesOf : List (List ℕ) → ℕ → ℕ → List (List ℕ) → List (ℕ × ℕ) → Type 0
AreEdgesOf names byte number lines edges = (edges_fault names byte number lines ≡ None) × (edges ≡ edges_of names lines) × AreEdges (length names) edges

-- what a text with the line gives: its chain and edges between labels of its last problem exactly where it has no fault, and else the first one
abbrev pub TextRefuses : List ℕ → TextFault → Type 0
TextRefuses bytes (Bad fault) = diagram_fault bytes ≡ Some fault
TextRefuses bytes NoMemory = Unit {0}

abbrev pub TextGives : List ℕ → Result DiagramText TextFault → Type 0
TextGives bytes (Ok text) =
    (diagram_fault bytes ≡ None) × (text.chain ≡ front_chain bytes) × (text.edges.items ≡ diagram_edges bytes) × AreEdges (length (last_problem text.chain).names) text.edges.items
TextGives bytes (Err fault) = TextRefuses bytes fault
