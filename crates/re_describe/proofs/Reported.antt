-- What the answers of `solve` to a graph mean where it says that there is no solution.
use Rattle.std.proofs.Common.{◌≡◌, ℕ, Bool, true, false, List, Option, Some, None, Result, Ok, refl, sym, ap, ◌∙◌, subst}
use Rattle.re_cover.specs.Graphs.{PortGraph}
use Rattle.re_settings.specs.InputProblems.{input_fault}
use Rattle.re_settings.specs.declared.inputs.InputFault.{InputFault as NoInput}
use Rattle.re_frame.specs.Outcomes.{Outcome, outcome_of, refused}
use Rattle.re_frame.specs.declared.output.Output.{Output}
use Rattle.re_frame.specs.declared.status.Status.{Status}
use Rattle.re_frame.specs.declared.status.Status.TheVariants.{BadInput, BadWords, Done, Limit, No, NoMemory, ReadFault, WriteFault}
use Rattle.re_given.specs.Given.{SolvableGiven}
use Rattle.re_settings.specs.InputFaults.{or_input_fault}
use Rattle.re_graph.specs.Judging.{labels_fault}
use Rattle.re_graph.specs.Solving.{solution_walk}
use Rattle.re_graph.specs.declared.judging.LabelsFault.{LabelsFault}
use Rattle.re_graph_words.specs.GivenInputs.{Labelled}
use Rattle.re_graph_words.specs.GivenSolutions.{given_none_line, labelled_outcome, or_labels_fault}
use Rattle.re_graph_words.specs.Solutions.{walked_with}
use Rattle.re_graph_words.specs.SolveWords.{ReadLabelledMeans, ReadMeans, read_labelled_outcome}
use Rattle.re_graph_words.specs.declared.faults.GraphFault.{GraphFault}
use Rattle.re_graph_words.specs.declared.solving.TheConstants.{MAX_TRIES}
use Rattle.re_graph_words.specs.declared.texts.GraphText.{GraphText}
use Rattle.re_judging.proofs.JudgedTexts.{refusal}
use Rattle.re_judging.specs.Joints.{first_part}
use Rattle.re_judging.specs.Judging.{IsJudgedFirst, in_part}
use Rattle.re_judging.specs.PartVerdicts.{IsPart}
use Rattle.re_judging.specs.declared.types.Judged.{Judged}
use Rattle.re_judging.specs.declared.types.Judged.TheVariants.{Refused}
use Rattle.re_laws.specs.Algorithms.{Solvable}
use Rattle.re_problem.specs.NamedProblems.{NamedProblem, unnamed}
use Rattle.re_walks.specs.Walking.{Walk, cut, found, nowhere}
use Rattle.re_describe.specs.DescribeWords.{ReportsEvidence, ReportsHeld, ReportsJudgement, is_given_no, is_no, told_no}
use Rattle.re_describe.specs.declared.words.ReportForm.{ReportForm}
use Rattle.re_describe.specs.GivenReports.{is_done}

-- ---- a problem and a graph
status_no : (status : Status) → is_no status ≡ true → status ≡ No
status_no Done says = absurd (let bad : false ≡ true = says in cc)
status_no No says = refl
status_no BadWords says = absurd (let bad : false ≡ true = says in cc)
status_no BadInput says = absurd (let bad : false ≡ true = says in cc)
status_no Limit says = absurd (let bad : false ≡ true = says in cc)
status_no ReadFault says = absurd (let bad : false ≡ true = says in cc)
status_no WriteFault says = absurd (let bad : false ≡ true = says in cc)
status_no NoMemory says = absurd (let bad : false ≡ true = says in cc)

pub never_solved : (input : Result GraphText GraphFault) (text : GraphText) (told : Outcome) → input ≡ Ok text → ReadMeans input told → is_no told.status ≡ true → (T : ℕ) → Solvable (unnamed text.problem) T → ⊥
never_solved input text told is means says = let known : ReadMeans (Ok text) told = subst (λ r. ReadMeans r told) is means in known.never (status_no told.status says)

-- ---- the same where an input problem and labels are given
no_walk : (line : List ℕ) (problem : NamedProblem) (graph : PortGraph) (walk : Walk) → is_no (walked_with line problem graph walk).status ≡ true → walked_with line problem graph walk ≡ refused line
no_walk line problem graph (found labels) says = absurd (let bad : false ≡ true = says in cc)
no_walk line problem graph nowhere says = refl
no_walk line problem graph cut says = absurd (let bad : false ≡ true = says in cc)

given_no : (input : NamedProblem) (fault : Option NoInput) (labels : Option LabelsFault) (line : List ℕ) (problem : NamedProblem) (graph : PortGraph) (walk : Walk)
    → is_given_no fault labels (or_input_fault input fault (or_labels_fault labels (walked_with line problem graph walk))).status ≡ true
    → or_input_fault input fault (or_labels_fault labels (walked_with line problem graph walk)) ≡ refused line
given_no input None None line problem graph walk says = no_walk line problem graph walk says
given_no input None (Some fault) line problem graph walk says = absurd (let bad : false ≡ true = says in cc)
given_no input (Some fault) labels line problem graph walk says = absurd (let bad : false ≡ true = says in cc)

told_refused : (labelled : Labelled) → told_no labelled ≡ true → labelled_outcome labelled ≡ refused given_none_line
told_refused labelled says =
    given_no labelled.given.input (input_fault labelled.given.problem labelled.given.input) (labels_fault (unnamed labelled.given.input) labelled.given.graph labelled.labels) given_none_line
    labelled.given.problem labelled.given.graph (solution_walk (unnamed labelled.given.problem) labelled.given.graph MAX_TRIES) says

pub never_given : (input : Result Labelled GraphFault) (labelled : Labelled) (told : Outcome) → input ≡ Ok labelled → told ≡ read_labelled_outcome input → ReadLabelledMeans input told → told_no labelled ≡ true
    → (T : ℕ) → SolvableGiven (unnamed labelled.given.problem) (unnamed labelled.given.input) T → ⊥
never_given input labelled told is answer means says =
    let known : ReadLabelledMeans (Ok labelled) told = subst (λ r. ReadLabelledMeans r told) is means in known.never (answer ∙ ap read_labelled_outcome is ∙ told_refused labelled says)

-- ---- evidence
done_status : (status : Status) → is_done status ≡ true → status ≡ Done
done_status Done says = refl
done_status No says = absurd (let bad : false ≡ true = says in cc)
done_status BadWords says = absurd (let bad : false ≡ true = says in cc)
done_status BadInput says = absurd (let bad : false ≡ true = says in cc)
done_status Limit says = absurd (let bad : false ≡ true = says in cc)
done_status ReadFault says = absurd (let bad : false ≡ true = says in cc)
done_status WriteFault says = absurd (let bad : false ≡ true = says in cc)
done_status NoMemory says = absurd (let bad : false ≡ true = says in cc)

-- where `judge` answers Done the first part isn't refused
pub first_holds : (bytes : List ℕ) (first : Judged) (output : Output) (told : Outcome) → first ≡ Refused output → IsJudgedFirst bytes first told → is_done told.status ≡ true → ⊥
first_holds bytes first output told is answer done =
    let refuses : told ≡ in_part 1 (outcome_of output) = subst (λ judged. IsJudgedFirst bytes judged told) is answer in
    refusal 1 (outcome_of output) told refuses (done_status told.status done)

-- the report where it is Done, and what `judge` answers else
pub reports_held : (form : ReportForm) (bytes part : List ℕ) (first : Judged) (told outcome : Outcome) (done : Bool) → part ≡ first_part bytes → IsPart part first → IsJudgedFirst bytes first told
    → done ≡ is_done told.status → done ≡ true → ReportsHeld form bytes told first outcome → ReportsEvidence form bytes outcome
reports_held form bytes part first told outcome done part_is is answer same is_done_so held = record {
  told = told;
  may = record { first = first; judged = subst (λ p. IsPart p first) part_is is; answer = answer };
  reports = subst (λ b. ReportsJudgement b form bytes told first outcome) (sym is_done_so ∙ same) held;
}

pub reports_told : (form : ReportForm) (bytes part : List ℕ) (first : Judged) (told : Outcome) (done : Bool) → part ≡ first_part bytes → IsPart part first → IsJudgedFirst bytes first told
    → done ≡ is_done told.status → done ≡ false → ReportsEvidence form bytes told
reports_told form bytes part first told done part_is is answer same isnt = record {
  told = told;
  may = record { first = first; judged = subst (λ p. IsPart p first) part_is is; answer = answer };
  reports = subst (λ b. ReportsJudgement b form bytes told first told) (sym isnt ∙ same) refl;
}
