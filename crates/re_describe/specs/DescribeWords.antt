-- The words `describe` and `condense`, and what they may answer.
use Rattle.std.specs.Prelude.{◌≡◌, ◌≤◌, ℕ, Bool, true, false, ◌&&◌, List, [], ◌∷◌, ◌++◌, codes, length, if◌then◌else◌, Option, Some, None, Result, Ok, Err}
use Rattle.std.specs.Str.{bytes_eq}
use Rattle.re_cert.specs.Bounds.{Bound}
use Rattle.re_chains.specs.ChainTexts.{chain_fault, is_certificate_text, text_bound}
use Rattle.re_chains.specs.TwoTexts.{back_problem, front_bound, has_line, two_fault}
use Rattle.re_cover.specs.Graphs.{PortGraph}
use Rattle.re_settings.specs.InputProblems.{input_fault}
use Rattle.re_settings.specs.declared.inputs.InputFault.{InputFault as NoInput}
use Rattle.re_frame.specs.Outcomes.{Outcome}
use Rattle.re_frame.specs.TextFaults.{fault_outcome}
use Rattle.re_frame.specs.declared.status.Status.{Status}
use Rattle.re_frame.specs.declared.status.Status.TheVariants.{Done, No}
use Rattle.re_graph_words.specs.Faults.{graph_fault_outcome}
use Rattle.re_given.specs.Given.{SolvableGiven}
use Rattle.re_graph.specs.Judging.{labels_fault}
use Rattle.re_graph.specs.declared.judging.LabelsFault.{LabelsFault}
use Rattle.re_graph_words.specs.GivenInputs.{Labelled, labelled_input}
use Rattle.re_graph_words.specs.GivenSolutions.{labelled_outcome}
use Rattle.re_graph_words.specs.GraphInputs.{graph_input}
use Rattle.re_graph_words.specs.Solutions.{solution_outcome}
use Rattle.re_graph_words.specs.SolveWords.{none_line}
use Rattle.re_graph_words.specs.declared.faults.GraphFault.{GraphFault}
use Rattle.re_graph_words.specs.declared.texts.GraphText.{GraphText}
use Rattle.re_io.specs.declared.read.TheConstants.{MAX_BYTES}
use Rattle.re_laws.specs.Algorithms.{Solvable}
use Rattle.re_problem.specs.NamedProblems.{NamedProblem, unnamed}
use Rattle.re_problem.specs.declared.fault.InputFault.{InputFault}
use Rattle.re_judging.specs.Judging.{MayJudge}
use Rattle.re_judging.specs.PartFaults.{parts_fault}
use Rattle.re_judging.specs.declared.types.Judged.{Judged}
use Rattle.re_judging.specs.declared.types.Judged.TheVariants.{Holds, Refused}
use Rattle.re_describe.specs.ClassReports.{IsClassMarkdown, is_evidence}
use Rattle.re_describe.specs.GivenReports.{IsGivenMarkdown, is_done, judged}
use Rattle.re_describe.specs.GraphReports.{AreParts}
use Rattle.re_describe.specs.GroupTexts.{WritesBoth, WritesEvidence, WritesGraph, WritesLabelled, WritesSame}
use Rattle.re_describe.specs.LabelledReports.{AreLabelledParts}
use Rattle.re_describe.specs.Latex.{latex_of}
use Rattle.re_describe.specs.Pictures.{picture}
use Rattle.re_describe.specs.Reports.{IsMarkdown}
use Rattle.re_describe.specs.declared.words.DescribeWord.{DescribeWord}
use Rattle.re_describe.specs.declared.words.DescribeWord.TheVariants.{Groups, Report}
use Rattle.re_describe.specs.declared.words.ReportForm.{ReportForm}
use Rattle.re_describe.specs.declared.words.ReportForm.TheVariants.{Latex, Markdown}

-- ---- words
-- the word that these words are
unfoldable pub describe_word_of : List (List ℕ) → Option DescribeWord
describe_word_of (word ∷ []) =
    if bytes_eq (codes "describe") word then Some (Report Markdown)
    else if bytes_eq (codes "condense") word then Some Groups
    else None
describe_word_of (word ∷ form ∷ []) = if bytes_eq (codes "describe") word && bytes_eq (codes "latex") form then Some (Report Latex) else None
describe_word_of words = None

-- the lines of help
unfoldable pub describe_help : List ℕ
describe_help = codes "describe, describe latex: reads a certificate or a problem, or one with a line == given and an input problem or == graph and a graph, or evidence, gives a report on it in Markdown, or in LaTeX\ncondense: reads what describe reads, gives the same with its configurations in groups\n"

-- whether it may answer No
abbrev pub may_refuse : DescribeWord → Bool
may_refuse (Report form) = true
may_refuse Groups = false

-- ---- reports in their form
-- a text in Markdown, written in this form
abbrev pub written : ReportForm → List ℕ → List ℕ
written Markdown markdown = markdown
written Latex markdown = latex_of markdown

-- the outcome is Done, with a report in this form that is such a text in Markdown
pub record IsReport (form : ReportForm) (IsSaid : List ℕ → Type 0) (outcome : Outcome) : Type 0 where
  pub status : outcome.status ≡ Done
  pub markdown : List ℕ
  pub report : IsSaid markdown
  pub text : outcome.text ≡ written form markdown

-- the line of the first fault of the text, or such an outcome
abbrev pub OrFault : Option InputFault → Type 0 → Outcome → Type 0
OrFault (Some fault) IsGiven outcome = outcome ≡ fault_outcome fault
OrFault None IsGiven outcome = IsGiven

-- the same of a text with a graph
abbrev pub OrGraphFault : {X : Type 0} → Result X GraphFault → Type 0 → Outcome → Type 0
OrGraphFault (Err fault) IsGiven outcome = outcome ≡ graph_fault_outcome fault
OrGraphFault (Ok read) IsGiven outcome = IsGiven

-- ---- a bound given an input problem: a report where `given` accepts or refuses it, and else what `given` answers
-- whether it judges the bound: the other problem is an input problem, and the tries suffice
abbrev pub is_judged : Option NoInput → Status → Bool
is_judged (Some fault) status = false
is_judged None Done = true
is_judged None No = true
is_judged None status = false

abbrev pub ReportsJudged : Bool → ReportForm → NamedProblem → Bound → Outcome → Type 0
ReportsJudged true form input bound outcome = IsReport form (IsGivenMarkdown input bound) outcome
ReportsJudged false form input bound outcome = outcome ≡ judged input bound

abbrev pub ReportsGiven : ReportForm → NamedProblem → Bound → Outcome → Type 0
ReportsGiven form input bound outcome = ReportsJudged (is_judged (input_fault bound.first input) (judged input bound).status) form input bound outcome

-- ---- a problem and a graph: a report where `solve` says that there is no solution
abbrev pub is_no : Status → Bool
is_no No = true
is_no status = false

-- else what `solve` answers; a solution shows nothing of rounds, so with it comes No
abbrev pub withheld_status : Status → Status
withheld_status Done = No
withheld_status status = status

abbrev pub withheld : Outcome → Outcome
withheld solved = record { status = withheld_status solved.status; text = solved.text }

-- the report in this form, in LaTeX with a picture of the graph
abbrev pub drawing : ReportForm → PortGraph → List ℕ
drawing Markdown graph = []
drawing Latex graph = picture graph

abbrev pub drawn : ReportForm → PortGraph → List ℕ → List ℕ → List ℕ
drawn form graph front back = written form front ++ (drawing form graph ++ written form back)

-- the outcome is Done, with such a report, and no number of rounds solves the problem
pub record IsGraphReport (form : ReportForm) (problem : NamedProblem) (graph : PortGraph) (outcome : Outcome) : Type 0 where
  pub status : outcome.status ≡ Done
  pub front : List ℕ
  pub back : List ℕ
  pub parts : AreParts problem graph front back
  pub text : outcome.text ≡ drawn form graph front back
  pub never : (T : ℕ) → Solvable (unnamed problem) T → ⊥

abbrev pub ReportsSolved : Bool → ReportForm → GraphText → Outcome → Outcome → Type 0
ReportsSolved true form text solved outcome = IsGraphReport form text.problem text.graph outcome
ReportsSolved false form text solved outcome = outcome ≡ withheld solved

abbrev pub ReportsGraph : ReportForm → Result GraphText GraphFault → Outcome → Type 0
ReportsGraph form (Ok text) outcome =
    ReportsSolved (is_no (solution_outcome none_line text.problem text.graph).status) form text (solution_outcome none_line text.problem text.graph) outcome
ReportsGraph form (Err fault) outcome = outcome ≡ graph_fault_outcome fault

-- ---- the same where an input problem and a solution of it on the graph are given
-- the outcome is Done, with such a report, and no number of rounds solves the problem given the input problem
pub record IsLabelledReport (form : ReportForm) (labelled : Labelled) (outcome : Outcome) : Type 0 where
  pub status : outcome.status ≡ Done
  pub front : List ℕ
  pub back : List ℕ
  pub parts : AreLabelledParts labelled front back
  pub text : outcome.text ≡ drawn form labelled.given.graph front back
  pub never : (T : ℕ) → SolvableGiven (unnamed labelled.given.problem) (unnamed labelled.given.input) T → ⊥

-- whether it is said that there is no solution: the other problem is an input problem, and the labels are a solution of it
abbrev pub is_given_no : Option NoInput → Option LabelsFault → Status → Bool
is_given_no None None status = is_no status
is_given_no fault labels status = false

abbrev pub told_no : Labelled → Bool
told_no labelled =
    is_given_no (input_fault labelled.given.problem labelled.given.input) (labels_fault (unnamed labelled.given.input) labelled.given.graph labelled.labels) (labelled_outcome labelled).status

abbrev pub ReportsTold : Bool → ReportForm → Labelled → Outcome → Type 0
ReportsTold true form labelled outcome = IsLabelledReport form labelled outcome
ReportsTold false form labelled outcome = outcome ≡ withheld (labelled_outcome labelled)

abbrev pub ReportsLabelled : ReportForm → Result Labelled GraphFault → Outcome → Type 0
ReportsLabelled form (Ok labelled) outcome = ReportsTold (told_no labelled) form labelled outcome
ReportsLabelled form (Err fault) outcome = outcome ≡ graph_fault_outcome fault

-- ---- evidence: a report where `judge` takes it, and else what `judge` answers
-- where this came of its first part, which holds then
abbrev pub ReportsHeld : ReportForm → List ℕ → Outcome → Judged → Outcome → Type 0
ReportsHeld form bytes told (Holds part) outcome = IsReport form (IsClassMarkdown bytes part.problem told) outcome
ReportsHeld form bytes told (Refused output) outcome = ⊥

abbrev pub ReportsJudgement : Bool → ReportForm → List ℕ → Outcome → Judged → Outcome → Type 0
ReportsJudgement true form bytes told first outcome = ReportsHeld form bytes told first outcome
ReportsJudgement false form bytes told first outcome = outcome ≡ told

-- of what `judge` may answer, with the first part as it was judged for that
pub record ReportsEvidence (form : ReportForm) (bytes : List ℕ) (outcome : Outcome) : Type 0 where
  pub told : Outcome
  pub may : MayJudge bytes told
  pub reports : ReportsJudgement (is_done told.status) form bytes told may.first outcome

-- ---- groups
-- the outcome is Done, with such a text
pub record IsSame (IsText : List ℕ → Type 0) (outcome : Outcome) : Type 0 where
  pub status : outcome.status ≡ Done
  pub same : IsText outcome.text

-- ---- what the words may give to a text, whether it has a line `== graph`, and one `== given`, and whether it is evidence
abbrev pub ReportsBy : Bool → Bool → ReportForm → List ℕ → Outcome → Type 0
ReportsBy true true form bytes outcome = ReportsLabelled form (labelled_input bytes) outcome
ReportsBy true false form bytes outcome = ReportsGraph form (graph_input bytes) outcome
ReportsBy false true form bytes outcome =
    OrFault (two_fault (codes "given") bytes) (ReportsGiven form (back_problem (codes "given") bytes) (front_bound (codes "given") bytes) outcome) outcome
ReportsBy false false form bytes outcome = OrFault (chain_fault bytes) (IsReport form (IsMarkdown (text_bound bytes)) outcome) outcome

abbrev pub ReportsText : Bool → ReportForm → List ℕ → Outcome → Type 0
ReportsText true form bytes outcome = ReportsEvidence form bytes outcome
ReportsText false form bytes outcome = ReportsBy (has_line (codes "graph") bytes) (has_line (codes "given") bytes) form bytes outcome

abbrev pub GroupsBy : Bool → Bool → List ℕ → Outcome → Type 0
GroupsBy true true bytes outcome = OrGraphFault (labelled_input bytes) (IsSame (WritesLabelled bytes) outcome) outcome
GroupsBy true false bytes outcome = OrGraphFault (graph_input bytes) (IsSame (WritesGraph bytes) outcome) outcome
GroupsBy false true bytes outcome =
    OrFault (two_fault (codes "given") bytes) (IsSame (WritesBoth bytes (front_bound (codes "given") bytes) (back_problem (codes "given") bytes)) outcome) outcome
GroupsBy false false bytes outcome = OrFault (chain_fault bytes) (IsSame (WritesSame bytes (text_bound bytes)) outcome) outcome

-- what is answered to a text of evidence: the fault of its first part that has one, or the same in groups
abbrev pub OrOutcome : Option Outcome → Type 0 → Outcome → Type 0
OrOutcome (Some refusal) IsGiven outcome = outcome ≡ refusal
OrOutcome None IsGiven outcome = IsGiven

abbrev pub GroupsText : Bool → List ℕ → Outcome → Type 0
GroupsText true bytes outcome = OrOutcome (parts_fault 15 1 bytes) (IsSame (WritesEvidence bytes) outcome) outcome
GroupsText false bytes outcome = GroupsBy (has_line (codes "graph") bytes) (has_line (codes "given") bytes) bytes outcome

unfoldable pub MayDescribe : DescribeWord → List ℕ → Outcome → Type 0
MayDescribe (Report form) bytes outcome = ReportsText (is_evidence bytes) form bytes outcome
MayDescribe Groups bytes outcome = GroupsText (is_evidence bytes) bytes outcome
