-- What parts of evidence say of their problems is true.
use Rattle.std.proofs.Common.{◌≡◌, ℕ, List, length, refl, sym, ap, ◌∙◌, slice_index_or, subst, arith, Option, None, Some, Result, Ok}
use Rattle.re_cert.specs.Bounds.{Bound}
use Rattle.re_cert.specs.declared.certificate.Kind.{Kind}
use Rattle.re_cert.specs.declared.certificate.Kind.TheVariants as kind
use Rattle.re_check.specs.Verdicts.{Means, bound_fault, verdict_of, verdict_with}
use Rattle.re_check.specs.declared.verdict.ClauseFault.{ClauseFault}
use Rattle.re_check.specs.declared.verdict.Verdict.TheVariants.{Accepted}
use Rattle.re_evidence.proofs.FewColours.{few_enough, named_colouring}
use Rattle.re_evidence.specs.Colours.{few_colours}
use Rattle.re_judging.specs.Facts.{FactHolds}
use Rattle.re_judging.specs.PartVerdicts.{IsGivenFact, IsUpperFact, bound_fact}
use Rattle.re_judging.specs.declared.types.Fact.{Fact}
use Rattle.re_judging.specs.declared.types.Fact.TheVariants.{AtMost, FewColours, FixedPoint, Flexible, Length, MoreThan, Never, NoSolution, Nothing}
use Rattle.re_settings.specs.InputProblems.{IsJudged, input_fault}
use Rattle.re_settings.specs.declared.inputs.InputFault.{InputFault}
use Rattle.re_settings.specs.declared.inputs.InputFault.TheVariants.{Degrees, Empty, OneSide}
use Rattle.re_frame.specs.Outcomes.{Outcome, refused}
use Rattle.re_frame.specs.declared.status.Status.TheVariants.{Done}
use Rattle.re_given.proofs.Ungiven.{SolvableGiven-ungiven}
use Rattle.re_given.specs.Given.{SolvableGiven}
use Rattle.re_given.specs.Inputs.{IsInput}
use Rattle.re_given_bounds.proofs.ClassMeaning.{above_log}
use Rattle.re_bounds.specs.GivenBounds.{IsOver, MeansGiven}
use Rattle.re_settings.specs.InputFaults.{fault_line, or_input_fault}
use Rattle.re_graph.specs.Judging.{labels_fault}
use Rattle.re_graph_words.specs.GivenInputs.{Labelled}
use Rattle.re_graph_words.specs.GivenSolutions.{GivenMeans, given_none_line, or_labels_fault}
use Rattle.re_graph_words.specs.Solutions.{solution_outcome}
use Rattle.re_graph_words.specs.SolveWords.{AnswerMeans, ReadLabelledMeans, ReadMeans, read_labelled_outcome}
use Rattle.re_graph_words.specs.declared.faults.GraphFault.{GraphFault}
use Rattle.re_graph_words.specs.declared.texts.GraphText.{GraphText}
use Rattle.re_laws.specs.Algorithms.{Solvable}
use Rattle.re_problem.specs.NamedProblems.{NamedProblem, unnamed}
use Rattle.re_problem.specs.Problems.{IsProblem, Problem}

-- ---- certificates
steps_told : (k kind : Kind) (n steps : ℕ) (fault : Option ClauseFault) → verdict_with k n fault ≡ Accepted kind steps → steps ≡ n
steps_told k kind n steps None e = cc
steps_told k kind n steps (Some fault) e = absurd cc

pub bound_true : (bound : Bound) (kind : Kind) (steps : ℕ) → IsOver bound → verdict_of bound ≡ Accepted kind steps → Means (Accepted kind steps) (unnamed bound.first)
    → FactHolds (bound_fact kind steps) (unnamed bound.first)
bound_true bound kind.Lower steps over accepted means = means
bound_true bound kind.Upper steps over accepted means = means
bound_true bound kind.Fixed steps over accepted means =
    let count : steps ≡ length bound.steps = steps_told bound.kind kind.Fixed (length bound.steps) steps (bound_fault bound) accepted in
    (means, above_log bound over (accepted ∙ ap (λ n. Accepted kind.Fixed n) count))

-- ---- given an input problem
-- what isn't solvable given it isn't without
without : (problem input : Problem) (T : ℕ) → IsInput problem input → (SolvableGiven problem input T → ⊥) → Solvable problem T → ⊥
without problem input T is none solvable = none (SolvableGiven-ungiven problem input T is solvable)

upper_true : (problem input : NamedProblem) (k : ℕ) (fact : Fact) → IsProblem (unnamed problem) → SolvableGiven (unnamed problem) (unnamed input) k → IsUpperFact problem input fact
    → FactHolds fact (unnamed problem)
upper_true problem input k (FewColours side) is solvable named =
    few_enough problem input side (few_colours side problem.active.degree problem.passive.degree) k refl (named_colouring problem input side is named) solvable
upper_true problem input k Nothing is solvable other = tt
upper_true problem input k (MoreThan j) is solvable none = absurd none
upper_true problem input k (AtMost j) is solvable none = absurd none
upper_true problem input k Never is solvable none = absurd none
upper_true problem input k FixedPoint is solvable none = absurd none
upper_true problem input k Flexible is solvable none = absurd none
upper_true problem input k (Length j) is solvable none = absurd none
upper_true problem input k NoSolution is solvable none = absurd none

pub given_true : (kind : Kind) (steps : ℕ) (problem input : NamedProblem) (fact : Fact) → IsProblem (unnamed problem) → IsInput (unnamed problem) (unnamed input)
    → MeansGiven kind steps (unnamed problem) (unnamed input) → IsGivenFact kind steps problem input fact → FactHolds fact (unnamed problem)
given_true kind.Lower steps problem input fact is is_input means e =
    subst (λ f. FactHolds f (unnamed problem)) (sym e) (λ T few. without (unnamed problem) (unnamed input) T is_input (means T few))
given_true kind.Upper steps problem input fact is is_input means upper = upper_true problem input steps fact is means upper
given_true kind.Fixed steps problem input fact is is_input means e =
    subst (λ f. FactHolds f (unnamed problem)) (sym e) (λ T. without (unnamed problem) (unnamed input) T is_input (means T))

-- where the answer is Done there is no fault of the input problem
pub done_input : (problem input : NamedProblem) (fault : Option InputFault) (rest : Outcome) → IsJudged problem input fault → (or_input_fault input fault rest).status ≡ Done
    → IsInput (unnamed problem) (unnamed input)
done_input problem input None rest judged done = judged
done_input problem input (Some fault) rest judged done = absurd cc

-- ---- graphs without a solution
-- the letters of the lines at one place
letters_apart : ◌≡◌ {A = ℕ} 116 32 → ⊥
letters_apart e = omega (arith, e)

input_line_apart : (input : NamedProblem) (fault : InputFault) → fault_line input fault ≡ given_none_line → ⊥
input_line_apart input Degrees e = letters_apart (ap (λ t. slice_index_or t 6 0) e)
input_line_apart input Empty e = letters_apart (ap (λ t. slice_index_or t 6 0) e)
input_line_apart input (OneSide label) e = letters_apart (ap (λ t. slice_index_or t 6 0) e)

pub plain_never : (wanted : Result GraphText GraphFault) (text : GraphText) (outcome : Outcome) (line : List ℕ) → wanted ≡ Ok text → ReadMeans wanted outcome → outcome ≡ refused line
    → (T : ℕ) → Solvable (unnamed text.problem) T → ⊥
plain_never wanted text outcome line is means none =
    let known : AnswerMeans text.problem text.graph outcome = subst (λ w. ReadMeans w outcome) is means in
    known.never (ap (λ (o : Outcome). o.status) none)

-- where that line is the answer the input problem is one
labelled_input_is : (labelled : Labelled) (outcome : Outcome) (fault : Option InputFault) → IsJudged labelled.given.problem labelled.given.input fault → (rest : Outcome)
    → outcome ≡ or_input_fault labelled.given.input fault rest → outcome ≡ refused given_none_line → IsInput (unnamed labelled.given.problem) (unnamed labelled.given.input)
labelled_input_is labelled outcome None judged rest is none = judged
labelled_input_is labelled outcome (Some fault) judged rest is none = absurd (input_line_apart labelled.given.input fault (ap (λ (o : Outcome). o.text) (sym is ∙ none)))

pub labelled_never : (wanted : Result Labelled GraphFault) (labelled : Labelled) (outcome : Outcome) (fault : Option InputFault) → wanted ≡ Ok labelled → ReadLabelledMeans wanted outcome
    → outcome ≡ read_labelled_outcome wanted → fault ≡ input_fault labelled.given.problem labelled.given.input → IsJudged labelled.given.problem labelled.given.input fault
    → outcome ≡ refused given_none_line → (T : ℕ) → Solvable (unnamed labelled.given.problem) T → ⊥
labelled_never wanted labelled outcome fault is means answer same judged none T =
    let known : GivenMeans labelled outcome = subst (λ w. ReadLabelledMeans w outcome) is means in
    let rest = or_labels_fault (labels_fault (unnamed labelled.given.input) labelled.given.graph labelled.labels) (solution_outcome given_none_line labelled.given.problem labelled.given.graph) in
    let input : IsInput (unnamed labelled.given.problem) (unnamed labelled.given.input) =
    labelled_input_is labelled outcome fault judged rest
    (answer ∙ ap read_labelled_outcome is ∙ ap (λ f. or_input_fault labelled.given.input f rest) (sym same)) none in
    without (unnamed labelled.given.problem) (unnamed labelled.given.input) T input (known.never none T)
