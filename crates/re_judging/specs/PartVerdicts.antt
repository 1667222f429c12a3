-- What parts of evidence say of their problems, each as the word says that judges such texts.
use Rattle.std.specs.Prelude.{◌≡◌, ◌≢◌, ℕ, ◌+◌, Bool, true, false, List, [], ◌∷◌, ◌++◌, codes, length, if◌then◌else◌, Option, None, Some, Result, Ok, Err}
use Rattle.std.specs.Fmt.{decimal}
use Rattle.re_cert.specs.Bounds.{Bound}
use Rattle.re_cert.specs.CertificateTexts.{certificate_fault, certificate_of, text_lines}
use Rattle.re_cert.specs.declared.certificate.Kind.{Kind}
use Rattle.re_cert.specs.declared.certificate.Kind.TheVariants as kind
use Rattle.re_chains.specs.TwoTexts.{back_problem, front_bound, front_chain, front_text, has_line, lines_behind, lines_to, problem_fault, problem_lines, two_fault}
use Rattle.re_check.specs.Verdicts.{verdict_of}
use Rattle.re_check.specs.declared.verdict.Verdict.{Verdict}
use Rattle.re_check.specs.declared.verdict.Verdict.TheVariants.{Accepted, Refused as Fails}
use Rattle.re_evidence.specs.Colours.{IsNamedColouring}
use Rattle.re_judging.specs.GreedyParts.{IsGreedyPart, chain_front_fault}
use Rattle.re_judging.specs.LabelLines.{one_set}
use Rattle.re_judging.specs.PartAnswers.{IsRefusedWith, PartMeans, Says}
use Rattle.re_judging.specs.declared.types.Fact.{Fact}
use Rattle.re_judging.specs.declared.types.Fact.TheVariants as says
use Rattle.re_judging.specs.declared.types.Judged.{Judged}
use Rattle.re_judging.specs.declared.types.Judged.TheVariants.{Holds, Refused}
use Rattle.re_judging.specs.declared.types.PartKind.{PartKind}
use Rattle.re_judging.specs.declared.types.PartKind.TheVariants.{Certificate, Flexible, Given, Graph, Greedy, Length}
use Rattle.re_flexible.specs.Lengths.{IsFlexibility, IsFlexibleSet}
use Rattle.re_flexible.specs.declared.levels.Flexibility.{Flexibility}
use Rattle.re_flexible.specs.declared.levels.Flexibility.TheVariants as flexibility
use Rattle.re_frame.specs.Check.{verdict_outcome}
use Rattle.re_frame.specs.Outcomes.{Outcome, outcome_of, refused}
use Rattle.re_frame.specs.TextFaults.{fault_outcome}
use Rattle.re_frame.specs.declared.status.Status.TheVariants.{Done}
use Rattle.re_settings.specs.Verdicts.{given_outcome}
use Rattle.re_settings.specs.declared.bound_words.BoundWord.TheVariants as word
use Rattle.re_graph_words.specs.GivenInputs.{Labelled, labelled_input}
use Rattle.re_graph_words.specs.GivenSolutions.{given_none_line}
use Rattle.re_graph_words.specs.GraphInputs.{graph_input}
use Rattle.re_graph_words.specs.SolveWords.{none_line, solve_outcome}
use Rattle.re_graph_words.specs.declared.faults.GraphFault.{GraphFault}
use Rattle.re_graph_words.specs.declared.texts.GraphText.{GraphText}
use Rattle.re_labels.specs.declared.sides.Side.{Side}
use Rattle.re_problem.specs.NamedProblems.{NamedProblem, unnamed}
use Rattle.re_problem.specs.Numerals.{number_of}
use Rattle.re_problem.specs.ProblemTexts.{lines_of, problem_of}
use Rattle.re_problem.specs.declared.fault.InputFault.{InputFault}
use Rattle.re_problem.specs.declared.fault.InputFault.TheVariants.{BadEntry}

-- ---- certificates
-- what a bound that is accepted says
abbrev pub bound_fact : Kind → ℕ → Fact
bound_fact kind.Lower steps = says.MoreThan steps
bound_fact kind.Upper steps = says.AtMost steps
bound_fact kind.Fixed steps = says.FixedPoint

abbrev pub IsChecked : Verdict → NamedProblem → Judged → Type 0
IsChecked (Accepted kind steps) first judged = Says first (bound_fact kind steps) judged
IsChecked (Fails step clause) first judged = IsRefusedWith (verdict_outcome (Fails step clause)) judged

abbrev pub IsCertificate : Option InputFault → Bound → Judged → Type 0
IsCertificate (Some fault) bound judged = IsRefusedWith (fault_outcome fault) judged
IsCertificate None bound judged = IsChecked (verdict_of bound) bound.first judged

-- ---- bounds given an input problem
-- an upper bound says something of the problem where the input problem is a proper colouring with few colours, with the names that `input` gives it
abbrev pub IsUpperFact : NamedProblem → NamedProblem → Fact → Type 0
IsUpperFact problem input (says.FewColours side) = IsNamedColouring side problem input
IsUpperFact problem input says.Nothing = (side : Side) → IsNamedColouring side problem input → ⊥
IsUpperFact problem input other = ⊥

-- what a bound says that holds given an input problem: what isn't solvable given it isn't without
abbrev pub IsGivenFact : Kind → ℕ → NamedProblem → NamedProblem → Fact → Type 0
IsGivenFact kind.Lower steps problem input fact = fact ≡ says.MoreThan steps
IsGivenFact kind.Upper steps problem input fact = IsUpperFact problem input fact
IsGivenFact kind.Fixed steps problem input fact = fact ≡ says.Never

abbrev pub IsGivenBy : Outcome → NamedProblem → Bound → Judged → Type 0
IsGivenBy outcome input bound (Holds part) =
    (outcome.status ≡ Done) × (part.problem ≡ bound.first) × IsGivenFact bound.kind (length bound.steps) bound.first input part.fact
IsGivenBy outcome input bound (Refused output) = (outcome.status ≢ Done) × (outcome_of output ≡ outcome)

abbrev pub IsGiven : Option InputFault → NamedProblem → Bound → Judged → Type 0
IsGiven (Some fault) input bound judged = IsRefusedWith (fault_outcome fault) judged
IsGiven None input bound judged = IsGivenBy (given_outcome word.Given input bound) input bound judged

-- ---- graphs without a solution
-- where `solve` answers this line there is none
abbrev pub IsOnGraph : List ℕ → Outcome → NamedProblem → Judged → Type 0
IsOnGraph line outcome problem (Holds part) = (outcome ≡ refused line) × (part.problem ≡ problem) × (part.fact ≡ says.Never)
IsOnGraph line outcome problem (Refused output) = (outcome ≢ refused line) × (outcome_of output ≡ outcome)

abbrev pub IsPlainGraph : Result GraphText GraphFault → Outcome → Judged → Type 0
IsPlainGraph (Ok text) outcome judged = IsOnGraph none_line outcome text.problem judged
IsPlainGraph (Err fault) outcome judged = IsRefusedWith outcome judged

abbrev pub IsLabelledGraph : Result Labelled GraphFault → Outcome → Judged → Type 0
IsLabelledGraph (Ok labelled) outcome judged = IsOnGraph given_none_line outcome labelled.given.problem judged
IsLabelledGraph (Err fault) outcome judged = IsRefusedWith outcome judged

abbrev pub IsGraphBy : Bool → List ℕ → Judged → Type 0
IsGraphBy true bytes judged = IsLabelledGraph (labelled_input bytes) (solve_outcome bytes) judged
IsGraphBy false bytes judged = IsPlainGraph (graph_input bytes) (solve_outcome bytes) judged

-- ---- levels of labels
-- the number of the one line behind a line `==` and this name
abbrev pub number_in : List (List ℕ) → Option ℕ
number_in [] = None
number_in (line ∷ []) = number_of line
number_in (line ∷ other ∷ lines) = None

-- how many levels there are, where they have an end
abbrev pub levels_of : Flexibility → Option ℕ
levels_of (flexibility.Flexible set) = None
levels_of (flexibility.Length k) = Some k
levels_of flexibility.NoSolution = Some 0

abbrev pub levels_fact : Flexibility → Fact
levels_fact (flexibility.Flexible set) = says.Flexible
levels_fact (flexibility.Length k) = says.Length k
levels_fact flexibility.NoSolution = says.NoSolution

-- the line where there aren't so many
abbrev pub levels_line : Option ℕ → List ℕ
levels_line None = codes "no: a set of labels is flexible\n"
levels_line (Some k) = codes "no: length " ++ (decimal k ++ codes "\n")

abbrev pub IsLevelled : ℕ → Flexibility → NamedProblem → Judged → Type 0
IsLevelled number flexibility problem (Holds part) = (levels_of flexibility ≡ Some number) × (part.problem ≡ problem) × (part.fact ≡ levels_fact flexibility)
IsLevelled number flexibility problem (Refused output) = (levels_of flexibility ≢ Some number) × (outcome_of output ≡ refused (levels_line (levels_of flexibility)))

-- the problem has so many levels, where a number stands there
abbrev pub IsLengthOf : Option ℕ → ℕ → NamedProblem → Judged → Type 0
IsLengthOf None line problem judged = IsRefusedWith (fault_outcome (BadEntry line)) judged
IsLengthOf (Some number) line problem judged = (flexibility : Flexibility) × IsFlexibility (unnamed problem) flexibility × IsLevelled number flexibility problem judged

-- the problem in front of the line
abbrev pub front_fault : List ℕ → List ℕ → Option InputFault
front_fault name bytes = problem_fault 0 1 (lines_of (front_text name bytes))

abbrev pub front_problem : List ℕ → List ℕ → NamedProblem
front_problem name bytes = problem_of (problem_lines (lines_of (front_text name bytes)))

abbrev pub IsLength : Option InputFault → List ℕ → Judged → Type 0
IsLength (Some fault) bytes judged = IsRefusedWith (fault_outcome fault) judged
IsLength None bytes judged =
    IsLengthOf (number_in (lines_behind (codes "length") bytes)) (length (lines_to (codes "length") bytes) + 1) (front_problem (codes "length") bytes) judged

-- ---- flexible sets
-- the line where a set isn't flexible
abbrev pub not_flexible : Outcome
not_flexible = refused (codes "no: not flexible\n")

abbrev pub IsFlexibleBy : List ℕ → NamedProblem → Judged → Type 0
IsFlexibleBy set problem (Holds part) = IsFlexibleSet (unnamed problem) set × (part.problem ≡ problem) × (part.fact ≡ says.Flexible)
IsFlexibleBy set problem (Refused output) = (IsFlexibleSet (unnamed problem) set → ⊥) × (outcome_of output ≡ not_flexible)

abbrev pub IsSetBy : Result (List ℕ) InputFault → NamedProblem → Judged → Type 0
IsSetBy (Err fault) problem judged = IsRefusedWith (fault_outcome fault) judged
IsSetBy (Ok set) problem judged = IsFlexibleBy set problem judged

abbrev pub IsFlexiblePart : Option InputFault → List ℕ → Judged → Type 0
IsFlexiblePart (Some fault) bytes judged = IsRefusedWith (fault_outcome fault) judged
IsFlexiblePart None bytes judged =
    IsSetBy (one_set (front_problem (codes "flexible") bytes).names (length (lines_to (codes "flexible") bytes) + 1) (lines_behind (codes "flexible") bytes))
    (front_problem (codes "flexible") bytes) judged

-- ---- all of them
-- what a text holds, by its lines `==` with a name
abbrev pub kind_of : List ℕ → PartKind
kind_of bytes =
    if has_line (codes "graph") bytes then Graph
    else if has_line (codes "length") bytes then Length
    else if has_line (codes "flexible") bytes then Flexible
    else if has_line (codes "greedy") bytes then Greedy
    else if has_line (codes "given") bytes then Given
    else Certificate

abbrev pub IsPartBy : PartKind → List ℕ → Judged → Type 0
IsPartBy Certificate bytes judged = IsCertificate (certificate_fault (text_lines bytes)) (certificate_of (text_lines bytes)) judged
IsPartBy Given bytes judged = IsGiven (two_fault (codes "given") bytes) (back_problem (codes "given") bytes) (front_bound (codes "given") bytes) judged
IsPartBy Graph bytes judged = IsGraphBy (has_line (codes "given") bytes) bytes judged
IsPartBy Length bytes judged = IsLength (front_fault (codes "length") bytes) bytes judged
IsPartBy Flexible bytes judged = IsFlexiblePart (front_fault (codes "flexible") bytes) bytes judged
IsPartBy Greedy bytes judged = IsGreedyPart (chain_front_fault bytes) (front_chain (codes "greedy") bytes) bytes judged

-- what comes of a part of evidence
pub record IsPart (bytes : List ℕ) (judged : Judged) : Type 0 where
  pub answer : IsPartBy (kind_of bytes) bytes judged
  pub means : PartMeans judged
