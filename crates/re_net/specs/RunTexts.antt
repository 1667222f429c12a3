-- Inputs of `run`, line by line: the text of a certificate, a tree, and deliveries.
use Rattle.std.specs.Prelude.{ℕ, ◌+◌, ◌==◌, Bool, true, false, ◌||◌, List, [], ◌∷◌, ◌++◌, length, if◌then◌else◌, Option, None, Some, Result, Ok, Err}
use Rattle.re_io.specs.LineReading.{LineText, line_bytes}
use Rattle.re_problem.specs.Bytes.{is_empty_line}
use Rattle.re_labels.specs.declared.sides.Side.{Side}
use Rattle.re_problem.specs.NamedProblems.{degrees_of}
use Rattle.re_problem.specs.ProblemTexts.{byte_fault, fault_or}
use Rattle.re_problem.specs.declared.fault.InputFault.{InputFault}
use Rattle.re_problem.specs.declared.fault.InputFault.TheVariants.{BadEntry, BadItem, BadSection, EarlyEnd, TooManyNodes}
use Rattle.re_cert.specs.Bounds.{Bound}
use Rattle.re_cert.specs.CertificateTexts.{Brought, State as CertificateState, has_ended, judged as judged_certificate, start, text_lines}
use Rattle.re_net.specs.FiniteTrees.{FiniteTree, node_count, with_join}
use Rattle.re_net.specs.declared.joins.Join.{Join}
use Rattle.re_net.specs.declared.messages.Message.{Message}
use Rattle.re_net.specs.declared.trees.TheConstants.{MAX_NODES}
use Rattle.re_problem.specs.SectionLines.{is_section}
use Rattle.re_net.specs.RunLines.{is_deliveries, root_on, section_of, strange_byte, three_on}
use Rattle.re_net.specs.TreeTests.{can_join, can_send, is_numbered}
use Rattle.re_net.specs.declared.lines.Section.{Section}
use Rattle.re_net.specs.declared.lines.Section.TheVariants.{Tree, Deliveries}
use Rattle.re_net.specs.declared.reading.Delivery.{Delivery}

-- what was read behind some lines: lines of the certificate; the certificate to its `== end`; `== tree`; the tree so far; the tree, and
-- the deliveries so far
pub data State : Type 0 where
  InCertificate : CertificateState → State
  BehindEnd : Bound → State
  AtRoot : Bound → State
  InTree : Bound → FiniteTree → State
  InDeliveries : Bound → FiniteTree → List Delivery → State

-- ---- the certificate
abbrev pub reached : CertificateState → State
reached s = if has_ended s.phase then BehindEnd s.bound else InCertificate s

abbrev pub goes_on : Result Brought InputFault → Result State InputFault
goes_on (Ok brought) = Ok (reached brought.state)
goes_on (Err fault) = Err fault

-- a line of the certificate: as a finished one of a certificate's text
abbrev pub takes_certificate : CertificateState → List ℕ → Result State InputFault
takes_certificate s text = goes_on (judged_certificate s (record { text = text; ended = true }))

-- behind the certificate `== tree` is due
abbrev pub tree_begins : Bound → ℕ → Section → Result State InputFault
tree_begins bound number Tree = Ok (AtRoot bound)
tree_begins bound number section = Err (BadSection number)

-- ---- the tree
-- the side of node 0
abbrev pub takes_root : Bound → ℕ → Option Side → Result State InputFault
takes_root bound number None = Err (BadItem number)
takes_root bound number (Some side) = Ok (InTree bound (record { degrees = degrees_of bound.first; root = side; joins = [] }))

-- the tree can't end before its node 0
abbrev pub root_lacks : ℕ → Section → Result State InputFault
root_lacks number Deliveries = Err (BadItem number)
root_lacks number section = Err (BadSection number)

-- one node more, where it may be joined and the tree isn't full
abbrev pub joins : Bound → FiniteTree → ℕ → Join → Result State InputFault
joins bound tree number join =
    if can_join tree join then if node_count tree == MAX_NODES then Err (TooManyNodes number) else Ok (InTree bound (with_join tree join))
    else Err (BadEntry number)

-- the node to which one is joined, the port there, and the new node's own port
abbrev pub takes_join : Bound → FiniteTree → ℕ → Option (ℕ × ℕ × ℕ) → Result State InputFault
takes_join bound tree number None = Err (BadItem number)
takes_join bound tree number (Some three) = joins bound tree number (record { to = three.0; port = three.1; own = three.2 })

-- behind the tree, which must be numbered, `== deliveries` is due
abbrev pub tree_ends : Bound → FiniteTree → ℕ → Section → Result State InputFault
tree_ends bound tree number Deliveries = if is_numbered tree then Ok (InDeliveries bound tree []) else Err (BadEntry number)
tree_ends bound tree number section = Err (BadSection number)

-- ---- deliveries
-- a message of the tree, with a number below that of the steps
abbrev pub delivers : Bound → FiniteTree → List Delivery → ℕ → Message → Result State InputFault
delivers bound tree deliveries number message =
    if can_send tree (length bound.steps) message then Ok (InDeliveries bound tree (deliveries ++ record { message = message; line = number } ∷ []))
    else Err (BadEntry number)

-- a node, its port, and the number of its message
abbrev pub takes_delivery : Bound → FiniteTree → List Delivery → ℕ → Option (ℕ × ℕ × ℕ) → Result State InputFault
takes_delivery bound tree deliveries number None = Err (BadItem number)
takes_delivery bound tree deliveries number (Some three) = delivers bound tree deliveries number (record { from = three.0; port = three.1; number = three.2 })

-- ---- a line that stands at this byte and has this number, behind the lines before it
-- a line of the tree or of the deliveries that is no section line: nothing where it is empty, else judged by its bytes first
abbrev pub in_section : ℕ → State → List ℕ → Result State InputFault → Result State InputFault
in_section byte s text result = if is_empty_line text then Ok s else fault_or (byte_fault byte (strange_byte text)) result

abbrev pub judged_in : ℕ → ℕ → State → List ℕ → Result State InputFault
judged_in byte number (InCertificate s) text = takes_certificate s text
judged_in byte number (BehindEnd bound) text = if is_empty_line text then Ok (BehindEnd bound) else tree_begins bound number (section_of text)
judged_in byte number (AtRoot bound) text =
    if is_section text then root_lacks number (section_of text) else in_section byte (AtRoot bound) text (takes_root bound number (root_on text))
judged_in byte number (InTree bound tree) text =
    if is_section text then tree_ends bound tree number (section_of text) else in_section byte (InTree bound tree) text (takes_join bound tree number (three_on text))
judged_in byte number (InDeliveries bound tree deliveries) text =
    if is_section text then Err (BadSection number)
    else in_section byte (InDeliveries bound tree deliveries) text (takes_delivery bound tree deliveries number (three_on text))

abbrev pub in_deliveries : State → Bool
in_deliveries (InDeliveries bound tree deliveries) = true
in_deliveries s = false

-- an unfinished line is judged where it is `== deliveries`, and among the deliveries; another one brings nothing
abbrev pub judged : ℕ → ℕ → State → LineText → Result State InputFault
judged byte number s line = if line.ended || is_deliveries line.text || in_deliveries s then judged_in byte number s line.text else Ok s

-- ---- texts
-- what a text writes: what its certificate states, the tree, and the deliveries in order
pub record RunText : Type 0 where
  pub bound : Bound
  pub tree : FiniteTree
  pub deliveries : List Delivery

abbrev pub ended : State → Result RunText InputFault
ended (InDeliveries bound tree deliveries) = Ok (record { bound = bound; tree = tree; deliveries = deliveries })
ended s = Err EarlyEnd

abbrev pub and_behind : Result State InputFault → (State → Result RunText InputFault) → Result RunText InputFault
and_behind (Ok s) then_state = then_state s
and_behind (Err fault) then_state = Err fault

-- what the lines write behind this state, or their first fault; the first of them stands at this byte and has this number
abbrev pub behind : ℕ → ℕ → State → List LineText → Result RunText InputFault
behind byte number s [] = ended s
behind byte number s (line ∷ lines) = and_behind (judged byte number s line) (λ t. behind (byte + length (line_bytes line)) (number + 1) t lines)

-- what a text writes, or its first fault
abbrev pub run_text : List ℕ → Result RunText InputFault
run_text text = behind 0 1 (InCertificate start) (text_lines text)
