-- The faults of the texts of parts: part by part, and what may be answered to them.
use Rattle.std.proofs.Common.{◌≡◌, ℕ, zero, suc, ◌+◌, ◌-◌, Bool, true, false, List, codes, refl, sym, ap, ◌∙◌, subst, arith, Option, None, Some, Result, Ok, Err}
use Rattle.std.specs.Option.{option_map}
use Rattle.re_cert.specs.CertificateTexts.{certificate_fault, text_lines}
use Rattle.re_chains.specs.TwoTexts.{has_line, two_fault}
use Rattle.re_frame.specs.Outcomes.{Outcome, limit_of}
use Rattle.re_frame.specs.Runs.{MaySay}
use Rattle.re_frame.specs.TextFaults.{fault_outcome, fault_status}
use Rattle.re_graph_words.specs.Faults.{graph_fault_outcome}
use Rattle.re_graph_words.specs.GivenInputs.{labelled_input}
use Rattle.re_graph_words.specs.GraphInputs.{graph_input}
use Rattle.re_graph_words.specs.SolveWords.{IsSolved, outcome_by, read_labelled_outcome, read_outcome, solve_outcome}
use Rattle.re_graph_words.specs.declared.faults.GraphFault.{GraphFault}
use Rattle.re_graph_words.specs.declared.faults.GraphFault.TheVariants as graph
use Rattle.re_judging.specs.GreedyParts.{seen_from, turns_from}
use Rattle.re_judging.specs.Joints.{behind_joint, first_part, joint_at}
use Rattle.re_judging.specs.Judging.{in_part, refused_status}
use Rattle.re_judging.specs.LabelLines.{and_then, multisets_on}
use Rattle.re_judging.specs.PartFaults.{fault_behind, fault_by, flexible_fault, graph_fault, graph_refusal, greedy_fault, length_fault, or_next, part_fault, parts_fault, read_fault, too_many}
use Rattle.re_judging.specs.PartVerdicts.{kind_of}
use Rattle.re_judging.specs.Turns.{Turns}
use Rattle.re_judging.specs.declared.types.PartKind.{PartKind}
use Rattle.re_judging.specs.declared.types.PartKind.TheVariants.{Certificate, Flexible, Given, Graph, Greedy, Length}
use Rattle.re_labels.specs.declared.sides.Side.{Side}
use Rattle.re_problem.specs.NamedProblems.{NamedProblem}
use Rattle.re_problem.specs.declared.fault.InputFault.{InputFault}
use Rattle.re_problem.specs.declared.fault.InputFault.TheVariants as input

-- ---- part by part
-- the first part has a fault
pub fault_here : (more number : ℕ) (bytes : List ℕ) (refusal : Outcome) → option_map (in_part number) (part_fault (first_part bytes)) ≡ Some refusal → parts_fault more number bytes ≡ Some refusal
fault_here zero number bytes refusal here = ap (λ fault. or_next fault (too_many (joint_at bytes))) here
fault_here (suc more) number bytes refusal here = ap (λ fault. or_next fault (fault_behind (parts_fault more (suc number)) (joint_at bytes) bytes)) here

-- it has none, and is the last one
pub fault_nowhere : (more number : ℕ) (bytes : List ℕ) → option_map (in_part number) (part_fault (first_part bytes)) ≡ None → joint_at bytes ≡ None → parts_fault more number bytes ≡ None
fault_nowhere zero number bytes here last = ap (λ fault. or_next fault (too_many (joint_at bytes))) here ∙ ap too_many last
fault_nowhere (suc more) number bytes here last =
    ap (λ fault. or_next fault (fault_behind (parts_fault more (suc number)) (joint_at bytes) bytes)) here ∙ ap (λ at. fault_behind (parts_fault more (suc number)) at bytes) last

-- it has none, and no part may be left behind it
pub fault_of_many : (more number at : ℕ) (bytes : List ℕ) → more ≡ 0 → option_map (in_part number) (part_fault (first_part bytes)) ≡ None → joint_at bytes ≡ Some at
    → parts_fault more number bytes ≡ Some (limit_of 16 (codes "parts"))
fault_of_many zero number at bytes none here more = ap (λ fault. or_next fault (too_many (joint_at bytes))) here ∙ ap too_many more
fault_of_many (suc left) number at bytes none here more = absurd (omega (arith, none))

-- it has none, and others stand behind it
pub fault_later : (more number at : ℕ) (bytes : List ℕ) → (more ≡ 0 → ⊥) → option_map (in_part number) (part_fault (first_part bytes)) ≡ None → joint_at bytes ≡ Some at
    → parts_fault more number bytes ≡ parts_fault (more - 1) (number + 1) (behind_joint at bytes)
fault_later zero number at bytes some here joint = absurd (some refl)
fault_later (suc more) number at bytes some here joint =
    let fewer : more ≡ suc more - 1 = omega arith in
    let next : suc number ≡ number + 1 = omega arith in
    ap (λ fault. or_next fault (fault_behind (parts_fault more (suc number)) (joint_at bytes) bytes)) here
    ∙ ap (λ at. fault_behind (parts_fault more (suc number)) at bytes) joint
    ∙ ap (λ m. parts_fault m (suc number) (behind_joint at bytes)) fewer
    ∙ ap (λ n. parts_fault (suc more - 1) n (behind_joint at bytes)) next

-- ---- lines of multisets behind a side
then_fault : {X Y : Type 0} (read : Result X InputFault) (value : X → Y) → read_fault (and_then read (λ x. Ok (value x))) ≡ read_fault read
then_fault (Ok x) value = refl
then_fault (Err fault) value = refl

pub turns_fault : (problem : NamedProblem) (number : ℕ) (lines : List (List ℕ)) (side : Side)
    → read_fault (turns_from problem number lines side) ≡ read_fault (multisets_on problem.names (seen_from side problem).passive.degree number lines)
turns_fault problem number lines side =
    then_fault (multisets_on problem.names (seen_from side problem).passive.degree number lines) (λ multisets. let turns : Turns = record { side = side; multisets = multisets } in turns)

-- ---- graphs: what `solve` answers to a text with a fault
pub plain_refused : (bytes : List ℕ) (fault : GraphFault) (outcome : Outcome) → has_line (codes "given") bytes ≡ false → graph_input bytes ≡ Err fault → IsSolved bytes outcome
    → Some outcome ≡ graph_refusal (graph_input bytes)
unfolding solve_outcome
plain_refused bytes fault outcome alone is solved =
    ap Some (solved.answer ∙ ap (λ given. outcome_by given bytes) alone ∙ ap read_outcome is) ∙ sym (ap graph_refusal is)

pub labelled_refused : (bytes : List ℕ) (fault : GraphFault) (outcome : Outcome) → has_line (codes "given") bytes ≡ true → labelled_input bytes ≡ Err fault → IsSolved bytes outcome
    → Some outcome ≡ graph_refusal (labelled_input bytes)
unfolding solve_outcome
labelled_refused bytes fault outcome given is solved =
    ap Some (solved.answer ∙ ap (λ given. outcome_by given bytes) given ∙ ap read_labelled_outcome is) ∙ sym (ap graph_refusal is)

-- ---- no fault at all
pub none_first : (one next : Option Outcome) → or_next one next ≡ None → (one ≡ None) × (next ≡ None)
none_first None next e = (refl, e)
none_first (Some outcome) next e = absurd cc

pub none_in_part : (number : ℕ) (fault : Option Outcome) → option_map (in_part number) fault ≡ None → fault ≡ None
none_in_part number None e = refl
none_in_part number (Some outcome) e = absurd cc

pub none_many : (at : Option ℕ) → too_many at ≡ None → at ≡ None
none_many None e = refl
none_many (Some at) e = absurd cc

-- ---- what may be answered: no part is refused with No
abbrev pub Says : Option Outcome → Type 0
Says None = Unit {0}
Says (Some outcome) = MaySay outcome.status false

abbrev SaysInPart : Option Outcome → Type 0
SaysInPart None = Unit {0}
SaysInPart (Some outcome) = MaySay (refused_status outcome.status) false

fault_says : (fault : InputFault) → MaySay (refused_status (fault_status fault)) false
fault_says (input.BadByte at) = tt
fault_says (input.BadItem line) = tt
fault_says (input.WrongDegree line) = tt
fault_says (input.MissingBlock line) = tt
fault_says (input.ExtraBlock line) = tt
fault_says (input.DegreeOutOfRange degree) = tt
fault_says (input.TooManyLabels line) = tt
fault_says (input.TooManyConfigurations line) = tt
fault_says (input.BadSection line) = tt
fault_says (input.BadEntry line) = tt
fault_says (input.BadBack line) = tt
fault_says (input.TooManySteps line) = tt
fault_says (input.TooManyRows line) = tt
fault_says (input.TooManyViews line) = tt
fault_says (input.TooManyNodes line) = tt
fault_says input.EarlyEnd = tt

read_says : (fault : Option InputFault) → SaysInPart (option_map fault_outcome fault)
read_says None = tt
read_says (Some fault) = fault_says fault

graph_fault_says : (fault : GraphFault) → MaySay (refused_status (graph_fault_outcome fault).status) false
graph_fault_says (graph.Text fault) = fault_says fault
graph_fault_says (graph.NotEnds line) = tt
graph_fault_says (graph.NoSuchEnd line) = tt
graph_fault_says (graph.EndTwice line) = tt
graph_fault_says (graph.EndMissing line) = tt
graph_fault_says (graph.TooManyNodes line) = tt

graph_says : {X : Type 0} (read : Result X GraphFault) → SaysInPart (graph_refusal read)
graph_says (Ok x) = tt
graph_says (Err fault) = graph_fault_says fault

graph_part_says : (given : Bool) (bytes : List ℕ) → SaysInPart (graph_fault given bytes)
graph_part_says true bytes = graph_says (labelled_input bytes)
graph_part_says false bytes = graph_says (graph_input bytes)

kind_says : (kind : PartKind) (bytes : List ℕ) → SaysInPart (fault_by kind bytes)
kind_says Certificate bytes = read_says (certificate_fault (text_lines bytes))
kind_says Given bytes = read_says (two_fault (codes "given") bytes)
kind_says Graph bytes = graph_part_says (has_line (codes "given") bytes) bytes
kind_says Length bytes = read_says (length_fault bytes)
kind_says Flexible bytes = read_says (flexible_fault bytes)
kind_says Greedy bytes = read_says (greedy_fault bytes)

part_says : (number : ℕ) (fault : Option Outcome) → SaysInPart fault → Says (option_map (in_part number) fault)
part_says number None says = tt
part_says number (Some outcome) says = says

first_says : (one next : Option Outcome) → Says one → Says next → Says (or_next one next)
first_says None next one_says says = says
first_says (Some outcome) next one_says says = one_says

many_says : (at : Option ℕ) → Says (too_many at)
many_says None = tt
many_says (Some at) = tt

behind_says : (rest : List ℕ → Option Outcome) → ((bytes : List ℕ) → Says (rest bytes)) → (at : Option ℕ) (bytes : List ℕ) → Says (fault_behind rest at bytes)
behind_says rest says None bytes = tt
behind_says rest says (Some at) bytes = says (behind_joint at bytes)

pub parts_say : (more number : ℕ) (bytes : List ℕ) → Says (parts_fault more number bytes)
parts_say zero number bytes =
    first_says (option_map (in_part number) (part_fault (first_part bytes))) (too_many (joint_at bytes)) (part_says number (part_fault (first_part bytes)) (kind_says (kind_of (first_part bytes)) (first_part bytes)))
    (many_says (joint_at bytes))
parts_say (suc more) number bytes =
    first_says (option_map (in_part number) (part_fault (first_part bytes))) (fault_behind (parts_fault more (suc number)) (joint_at bytes) bytes)
    (part_says number (part_fault (first_part bytes)) (kind_says (kind_of (first_part bytes)) (first_part bytes))) (behind_says (parts_fault more (suc number)) (parts_say more (suc number)) (joint_at bytes) bytes)
