-- The text of a part tells its problem.
use Rattle.std.proofs.Common.{◌≡◌, ℕ, Bool, true, false, List, sym, ◌∙◌, Option, None, Some, Result, Ok, Err}
use Rattle.std.specs.Prelude.{codes}
use Rattle.re_cert.specs.Bounds.{Bound}
use Rattle.re_cert.specs.CertificateTexts.{certificate_fault, certificate_of, text_lines}
use Rattle.re_chains.specs.OverChains.{steps_refusal}
use Rattle.re_chains.specs.TwoTexts.{back_problem, front_bound, front_chain, has_line, two_fault}
use Rattle.re_check.specs.Verdicts.{verdict_of}
use Rattle.re_check.specs.declared.verdict.Verdict.{Verdict}
use Rattle.re_check.specs.declared.verdict.Verdict.TheVariants.{Accepted, Refused as Fails}
use Rattle.re_frame.specs.Outcomes.{Outcome}
use Rattle.re_graph_words.specs.GivenInputs.{Labelled, labelled_input}
use Rattle.re_graph_words.specs.GraphInputs.{graph_input}
use Rattle.re_graph_words.specs.SolveWords.{solve_outcome}
use Rattle.re_graph_words.specs.declared.faults.GraphFault.{GraphFault}
use Rattle.re_graph_words.specs.declared.texts.GraphText.{GraphText}
use Rattle.re_judging.specs.GreedyParts.{IsFewBy, IsGreedyPart, IsSoundBy, IsTurnedBy, IsUpperBy, chain_front_fault, is_upper_chain}
use Rattle.re_judging.specs.PartVerdicts.{IsCertificate, IsChecked, IsFlexiblePart, IsGiven, IsGraphBy, IsLabelledGraph, IsLength, IsLengthOf, IsPart, IsPartBy, IsPlainGraph, IsSetBy, front_fault, front_problem, kind_of}
use Rattle.re_judging.specs.Turns.{Turns}
use Rattle.re_judging.specs.declared.types.Judged.{Judged}
use Rattle.re_judging.specs.declared.types.Judged.TheVariants.{Holds}
use Rattle.re_judging.specs.declared.types.Part.{Part}
use Rattle.re_judging.specs.declared.types.PartKind.{PartKind}
use Rattle.re_judging.specs.declared.types.PartKind.TheVariants.{Certificate, Flexible, Given, Graph, Greedy, Length}
use Rattle.re_problem.specs.NamedProblems.{NamedProblem}
use Rattle.re_problem.specs.declared.fault.InputFault.{InputFault}

-- two parts of which this holds are of one problem
abbrev pub IsSameFor : (Judged → Type 0) → Type 0
IsSameFor holds = (part other : Part) → holds (Holds part) → holds (Holds other) → part.problem ≡ other.problem

-- ---- certificates, alone and given an input problem
checked : (verdict : Verdict) (first : NamedProblem) → IsSameFor (IsChecked verdict first)
checked (Accepted kind steps) first part other a b = a.0 ∙ sym b.0
checked (Fails step clause) first part other a b = absurd a

certificate : (fault : Option InputFault) (bound : Bound) → IsSameFor (IsCertificate fault bound)
certificate (Some fault) bound part other a b = absurd a
certificate None bound part other a b = checked (verdict_of bound) bound.first part other a b

given : (fault : Option InputFault) (input : NamedProblem) (bound : Bound) → IsSameFor (IsGiven fault input bound)
given (Some fault) input bound part other a b = absurd a
given None input bound part other a b = a.1 ∙ sym b.1

-- ---- graphs
plain : (text : Result GraphText GraphFault) (outcome : Outcome) → IsSameFor (IsPlainGraph text outcome)
plain (Ok text) outcome part other a b = a.1 ∙ sym b.1
plain (Err fault) outcome part other a b = absurd a

labelled : (text : Result Labelled GraphFault) (outcome : Outcome) → IsSameFor (IsLabelledGraph text outcome)
labelled (Ok text) outcome part other a b = a.1 ∙ sym b.1
labelled (Err fault) outcome part other a b = absurd a

graph : (has : Bool) (bytes : List ℕ) → IsSameFor (IsGraphBy has bytes)
graph true bytes part other a b = labelled (labelled_input bytes) (solve_outcome bytes) part other a b
graph false bytes part other a b = plain (graph_input bytes) (solve_outcome bytes) part other a b

-- ---- levels and flexible sets
levels : (number : Option ℕ) (line : ℕ) (problem : NamedProblem) → IsSameFor (IsLengthOf number line problem)
levels None line problem part other a b = absurd a
levels (Some number) line problem part other (one, is, a) (two, also, b) = a.1 ∙ sym b.1

long : (fault : Option InputFault) (bytes : List ℕ) → IsSameFor (IsLength fault bytes)
long (Some fault) bytes part other a b = absurd a
long None bytes part other a b = levels _ _ (front_problem (codes "length") bytes) part other a b

set : (read : Result (List ℕ) InputFault) (problem : NamedProblem) → IsSameFor (IsSetBy read problem)
set (Err fault) problem part other a b = absurd a
set (Ok labels) problem part other a b = a.1 ∙ sym b.1

flexible : (fault : Option InputFault) (bytes : List ℕ) → IsSameFor (IsFlexiblePart fault bytes)
flexible (Some fault) bytes part other a b = absurd a
flexible None bytes part other a b = set _ (front_problem (codes "flexible") bytes) part other a b

-- ---- greedy problems
few : (many : Bool) (turns : Turns) (chain : Bound) → IsSameFor (IsFewBy many turns chain)
few true turns chain part other a b = absurd a
few false turns chain part other a b = a.1 ∙ sym b.1

upper : (is : Bool) (turns : Turns) (chain : Bound) → IsSameFor (IsUpperBy is turns chain)
upper false turns chain part other a b = absurd a
upper true turns chain part other a b = few _ turns chain part other a b

sound : (verdict : Option Verdict) (turns : Turns) (chain : Bound) → IsSameFor (IsSoundBy verdict turns chain)
sound (Some verdict) turns chain part other a b = absurd a
sound None turns chain part other a b = upper (is_upper_chain chain) turns chain part other a b

turned : (turns : Result Turns InputFault) (chain : Bound) → IsSameFor (IsTurnedBy turns chain)
turned (Err fault) chain part other a b = absurd a
turned (Ok turns) chain part other a b = sound (steps_refusal chain) turns chain part other a b

greedy : (fault : Option InputFault) (chain : Bound) (bytes : List ℕ) → IsSameFor (IsGreedyPart fault chain bytes)
greedy (Some fault) chain bytes part other a b = absurd a
greedy None chain bytes part other a b = turned _ chain part other a b

-- ---- all of them
by_kind : (kind : PartKind) (bytes : List ℕ) → IsSameFor (IsPartBy kind bytes)
by_kind Certificate bytes part other a b = certificate (certificate_fault (text_lines bytes)) (certificate_of (text_lines bytes)) part other a b
by_kind Given bytes part other a b = given (two_fault (codes "given") bytes) (back_problem (codes "given") bytes) (front_bound (codes "given") bytes) part other a b
by_kind Graph bytes part other a b = graph (has_line (codes "given") bytes) bytes part other a b
by_kind Length bytes part other a b = long (front_fault (codes "length") bytes) bytes part other a b
by_kind Flexible bytes part other a b = flexible (front_fault (codes "flexible") bytes) bytes part other a b
by_kind Greedy bytes part other a b = greedy (chain_front_fault bytes) (front_chain (codes "greedy") bytes) bytes part other a b

-- two parts of one text are of one problem
pub part_problem : (bytes : List ℕ) → IsSameFor (IsPart bytes)
part_problem bytes part other a b = by_kind (kind_of bytes) bytes part other a.answer b.answer
