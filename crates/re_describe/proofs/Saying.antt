-- What the words may say.
use Rattle.std.proofs.Common.{ℕ, Bool, true, false, codes, List, Option, Some, None, Result, Ok, Err, refl, sym, subst}
use Rattle.re_cert.specs.Bounds.{Bound}
use Rattle.re_chains.specs.ChainTexts.{chain_fault}
use Rattle.re_chains.specs.TwoTexts.{back_problem, front_bound, has_line, two_fault}
use Rattle.re_cover.specs.Graphs.{PortGraph}
use Rattle.re_settings.specs.InputProblems.{input_fault}
use Rattle.re_settings.specs.declared.inputs.InputFault.{InputFault as NoInput}
use Rattle.re_frame.proofs.Said.{fault_says, says_as}
use Rattle.re_frame.specs.Outcomes.{Outcome}
use Rattle.re_frame.specs.Runs.{MaySay}
use Rattle.re_frame.specs.declared.status.Status.{Status}
use Rattle.re_frame.specs.declared.status.Status.TheVariants.{BadInput, BadWords, Done, Limit, No, NoMemory, ReadFault, WriteFault}
use Rattle.re_settings.proofs.Saying.{given_says}
use Rattle.re_settings.specs.InputFaults.{or_input_fault}
use Rattle.re_settings.specs.declared.bound_words.BoundWord.TheVariants.{Given}
use Rattle.re_graph.specs.Judging.{labels_fault}
use Rattle.re_graph.specs.Solving.{solution_walk}
use Rattle.re_graph.specs.declared.judging.LabelsFault.{LabelsFault}
use Rattle.re_graph_words.specs.Faults.{graph_fault_outcome}
use Rattle.re_graph_words.specs.GivenInputs.{Labelled, labelled_input}
use Rattle.re_graph_words.specs.GivenSolutions.{given_none_line, or_labels_fault}
use Rattle.re_graph_words.specs.GraphInputs.{graph_input}
use Rattle.re_graph_words.specs.Solutions.{solution_outcome, walked_with}
use Rattle.re_graph_words.specs.SolveWords.{none_line}
use Rattle.re_graph_words.specs.declared.faults.GraphFault.{GraphFault}
use Rattle.re_graph_words.specs.declared.faults.GraphFault.TheVariants.{EndMissing, EndTwice, NoSuchEnd, NotEnds, Text, TooManyNodes}
use Rattle.re_graph_words.specs.declared.solving.TheConstants.{MAX_TRIES}
use Rattle.re_graph_words.specs.declared.texts.GraphText.{GraphText}
use Rattle.re_judging.proofs.FaultLaws.{Says, parts_say}
use Rattle.re_judging.proofs.JudgedTexts.{judging_says}
use Rattle.re_judging.specs.PartFaults.{parts_fault}
use Rattle.re_judging.specs.declared.types.Judged.{Judged}
use Rattle.re_judging.specs.declared.types.Judged.TheVariants.{Holds, Refused}
use Rattle.re_problem.specs.NamedProblems.{NamedProblem, unnamed}
use Rattle.re_problem.specs.declared.fault.InputFault.{InputFault}
use Rattle.re_walks.specs.Walking.{Walk, cut, found, nowhere}
use Rattle.re_describe.specs.ClassReports.{is_evidence}
use Rattle.re_describe.specs.DescribeWords.{GroupsBy, GroupsText, IsSame, MayDescribe, OrFault, OrGraphFault, OrOutcome, ReportsBy, ReportsGraph, ReportsHeld, ReportsJudged, ReportsJudgement, ReportsLabelled, ReportsSolved, ReportsText, ReportsTold, is_judged, is_no, may_refuse, told_no, withheld}
use Rattle.re_describe.specs.GivenReports.{is_done, judged}
use Rattle.re_describe.specs.declared.words.DescribeWord.{DescribeWord}
use Rattle.re_describe.specs.declared.words.DescribeWord.TheVariants.{Groups, Report}
use Rattle.re_describe.specs.declared.words.ReportForm.{ReportForm}

-- ---- a text with a fault, and one without
or_fault : (fault : Option InputFault) (IsGiven : Type 0) (outcome : Outcome) (refuses : Bool) → (IsGiven → MaySay outcome.status refuses) → OrFault fault IsGiven outcome → MaySay outcome.status refuses
or_fault (Some fault) IsGiven outcome refuses says may = subst (λ (o : Outcome). MaySay o.status refuses) (sym may) (fault_says fault refuses)
or_fault None IsGiven outcome refuses says may = says may

-- ---- a bound given an input problem
judged_says : (judges : Bool) (form : ReportForm) (input : NamedProblem) (bound : Bound) (outcome : Outcome) → ReportsJudged judges form input bound outcome → MaySay outcome.status true
judged_says true form input bound outcome may = subst (λ status. MaySay status true) (sym may.status) tt
judged_says false form input bound outcome may = says_as outcome (judged input bound) may (given_says Given input bound)

-- ---- a graph
fault_of_graph : (fault : GraphFault) → MaySay (graph_fault_outcome fault).status true
fault_of_graph (Text fault) = fault_says fault true
fault_of_graph (NotEnds line) = tt
fault_of_graph (NoSuchEnd line) = tt
fault_of_graph (EndTwice line) = tt
fault_of_graph (EndMissing line) = tt
fault_of_graph (TooManyNodes line) = tt

withheld_walk : (line : List ℕ) (problem : NamedProblem) (graph : PortGraph) (w : Walk) → MaySay (withheld (walked_with line problem graph w)).status true
withheld_walk line problem graph (found labels) = refl
withheld_walk line problem graph nowhere = refl
withheld_walk line problem graph cut = tt

withheld_solution : (line : List ℕ) (problem : NamedProblem) (graph : PortGraph) → MaySay (withheld (solution_outcome line problem graph)).status true
withheld_solution line problem graph = withheld_walk line problem graph (solution_walk (unnamed problem) graph MAX_TRIES)

solved_says : (no : Bool) (form : ReportForm) (text : GraphText) (outcome : Outcome) → ReportsSolved no form text (solution_outcome none_line text.problem text.graph) outcome → MaySay outcome.status true
solved_says true form text outcome may = subst (λ status. MaySay status true) (sym may.status) tt
solved_says false form text outcome may = says_as outcome _ may (withheld_solution none_line text.problem text.graph)

graph_says : (form : ReportForm) (read : Result GraphText GraphFault) (outcome : Outcome) → ReportsGraph form read outcome → MaySay outcome.status true
graph_says form (Ok text) outcome may = solved_says (is_no (solution_outcome none_line text.problem text.graph).status) form text outcome may
graph_says form (Err fault) outcome may = says_as outcome _ may (fault_of_graph fault)

withheld_labels : (fault : Option LabelsFault) (outcome : Outcome) → MaySay (withheld outcome).status true → MaySay (withheld (or_labels_fault fault outcome)).status true
withheld_labels (Some fault) outcome says = refl
withheld_labels None outcome says = says

withheld_input : (input : NamedProblem) (fault : Option NoInput) (outcome : Outcome) → MaySay (withheld outcome).status true → MaySay (withheld (or_input_fault input fault outcome)).status true
withheld_input input (Some fault) outcome says = refl
withheld_input input None outcome says = says

told_says : (no : Bool) (form : ReportForm) (labelled : Labelled) (outcome : Outcome) → ReportsTold no form labelled outcome → MaySay outcome.status true
told_says true form labelled outcome may = subst (λ status. MaySay status true) (sym may.status) tt
told_says false form labelled outcome may =
    says_as outcome _ may (withheld_input labelled.given.input (input_fault labelled.given.problem labelled.given.input) _
    (withheld_labels (labels_fault (unnamed labelled.given.input) labelled.given.graph labelled.labels) _ (withheld_solution given_none_line labelled.given.problem labelled.given.graph)))

labelled_says : (form : ReportForm) (read : Result Labelled GraphFault) (outcome : Outcome) → ReportsLabelled form read outcome → MaySay outcome.status true
labelled_says form (Ok labelled) outcome may = told_says (told_no labelled) form labelled outcome may
labelled_says form (Err fault) outcome may = says_as outcome _ may (fault_of_graph fault)

-- ---- the words
reports_say : (graph given : Bool) (form : ReportForm) (bytes : List ℕ) (outcome : Outcome) → ReportsBy graph given form bytes outcome → MaySay outcome.status true
reports_say true true form bytes outcome may = labelled_says form (labelled_input bytes) outcome may
reports_say true false form bytes outcome may = graph_says form (graph_input bytes) outcome may
reports_say false true form bytes outcome may =
    or_fault (two_fault (codes "given") bytes) _ outcome true
    (judged_says (is_judged (input_fault (front_bound (codes "given") bytes).first (back_problem (codes "given") bytes)) (judged (back_problem (codes "given") bytes) (front_bound (codes "given") bytes)).status)
    form (back_problem (codes "given") bytes) (front_bound (codes "given") bytes) outcome) may
reports_say false false form bytes outcome may = or_fault (chain_fault bytes) _ outcome true (λ report. subst (λ status. MaySay status true) (sym report.status) tt) may

-- ---- evidence
held_says : (first : Judged) (form : ReportForm) (bytes : List ℕ) (told outcome : Outcome) → ReportsHeld form bytes told first outcome → MaySay outcome.status true
held_says (Holds part) form bytes told outcome report = subst (λ status. MaySay status true) (sym report.status) tt
held_says (Refused output) form bytes told outcome none = absurd none

judgement_says : (judged : Bool) (form : ReportForm) (bytes : List ℕ) (told : Outcome) (first : Judged) (outcome : Outcome) → MaySay told.status true
    → ReportsJudgement judged form bytes told first outcome → MaySay outcome.status true
judgement_says true form bytes told first outcome says held = held_says first form bytes told outcome held
judgement_says false form bytes told first outcome says is = says_as outcome _ is says

text_says : (evidence : Bool) (form : ReportForm) (bytes : List ℕ) (outcome : Outcome) → ReportsText evidence form bytes outcome → MaySay outcome.status true
text_says true form bytes outcome reports =
    judgement_says (is_done reports.told.status) form bytes reports.told reports.may.first outcome (judging_says bytes reports.told reports.may) reports.reports
text_says false form bytes outcome may = reports_say (has_line (codes "graph") bytes) (has_line (codes "given") bytes) form bytes outcome may

same_says : (IsText : List ℕ → Type 0) (outcome : Outcome) → IsSame IsText outcome → MaySay outcome.status false
same_says IsText outcome same = subst (λ status. MaySay status false) (sym same.status) tt

fault_never_no : (fault : GraphFault) → MaySay (graph_fault_outcome fault).status false
fault_never_no (Text fault) = fault_says fault false
fault_never_no (NotEnds line) = tt
fault_never_no (NoSuchEnd line) = tt
fault_never_no (EndTwice line) = tt
fault_never_no (EndMissing line) = tt
fault_never_no (TooManyNodes line) = tt

or_graph_fault : {X : Type 0} (read : Result X GraphFault) (IsText : List ℕ → Type 0) (outcome : Outcome) → OrGraphFault read (IsSame IsText outcome) outcome → MaySay outcome.status false
or_graph_fault (Err fault) IsText outcome says = subst (λ (o : Outcome). MaySay o.status false) (sym says) (fault_never_no fault)
or_graph_fault (Ok read) IsText outcome same = same_says IsText outcome same

groups_say : (graph given : Bool) (bytes : List ℕ) (outcome : Outcome) → GroupsBy graph given bytes outcome → MaySay outcome.status false
groups_say true true bytes outcome may = or_graph_fault (labelled_input bytes) _ outcome may
groups_say true false bytes outcome may = or_graph_fault (graph_input bytes) _ outcome may
groups_say false true bytes outcome may = or_fault (two_fault (codes "given") bytes) _ outcome false (same_says _ outcome) may
groups_say false false bytes outcome may = or_fault (chain_fault bytes) _ outcome false (same_says _ outcome) may

evidence_says : (fault : Option Outcome) (IsText : List ℕ → Type 0) (outcome : Outcome) → Says fault → OrOutcome fault (IsSame IsText outcome) outcome → MaySay outcome.status false
evidence_says (Some refusal) IsText outcome says is = subst (λ (o : Outcome). MaySay o.status false) (sym is) says
evidence_says None IsText outcome says same = same_says IsText outcome same

groups_text_says : (evidence : Bool) (bytes : List ℕ) (outcome : Outcome) → GroupsText evidence bytes outcome → MaySay outcome.status false
groups_text_says true bytes outcome may = evidence_says (parts_fault 15 1 bytes) _ outcome (parts_say 15 1 bytes) may
groups_text_says false bytes outcome may = groups_say (has_line (codes "graph") bytes) (has_line (codes "given") bytes) bytes outcome may

pub describe_says : (word : DescribeWord) (bytes : List ℕ) (outcome : Outcome) → MayDescribe word bytes outcome → MaySay outcome.status (may_refuse word)
unfolding MayDescribe
describe_says (Report form) bytes outcome may = text_says (is_evidence bytes) form bytes outcome may
describe_says Groups bytes outcome may = groups_text_says (is_evidence bytes) bytes outcome may
