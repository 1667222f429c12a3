-- What answers mean where an input problem is given.
use Rattle.std.proofs.Common.{◌≡◌, ◌≢◌, ◌++◌, ◌∙◌, ℕ, List, Option, None, Some, ap, arith, codes, refl, slice_index_or, sym, subst}
use Rattle.re_cover.specs.GivenGraphs.{NoSolutionGivenLaw}
use Rattle.re_cover.specs.Graphs.{IsGraphOf, IsSolution}
use Rattle.re_settings.specs.InputProblems.{IsJudged as IsInputJudged, input_fault}
use Rattle.re_settings.specs.declared.inputs.InputFault.{InputFault as Fault}
use Rattle.re_settings.specs.declared.inputs.InputFault.TheVariants.{Degrees, Empty, OneSide}
use Rattle.re_frame.specs.Outcomes.{Outcome, refused}
use Rattle.re_frame.specs.declared.status.Status.TheVariants.{Done, Limit, No}
use Rattle.re_given.specs.Inputs.{IsInput}
use Rattle.re_settings.specs.InputFaults.{fault_line, or_input_fault}
use Rattle.re_graph.proofs.Answering.{none-answer, some-answer}
use Rattle.re_graph.specs.Judging.{IsJudged, labels_fault}
use Rattle.re_graph.specs.Solving.{labels_of, solution_walk}
use Rattle.re_graph.specs.declared.judging.LabelsFault.{LabelsFault}
use Rattle.re_graph.specs.declared.judging.LabelsFault.TheVariants.{Active, Passive}
use Rattle.re_problem.specs.NamedProblems.{NamedProblem, unnamed}
use Rattle.re_problem.specs.Problems.{IsProblem}
use Rattle.re_walks.specs.Walking.{Walk, cut, found, nowhere}
use Rattle.re_graph_words.specs.GivenInputs.{Labelled}
use Rattle.re_graph_words.specs.GivenSolutions.{GivenMeans, given_none_line, labelled_outcome, labels_line, or_labels_fault}
use Rattle.re_graph_words.specs.Solutions.{solution_outcome, walked_with}
use Rattle.re_graph_words.specs.declared.solving.TheConstants.{MAX_TRIES}

-- ---- the other lines
apart : (a b : ℕ) → a ≡ b → a ≡ 116 → b ≡ 32 → ⊥
apart a b e f g = omega (arith, e, f, g)

input-other : (input : NamedProblem) (fault : Fault) → fault_line input fault ≢ given_none_line
input-other input Degrees e = apart _ _ (ap (λ t. slice_index_or t 6 0) e) refl refl
input-other input Empty e = apart _ _ (ap (λ t. slice_index_or t 6 0) e) refl refl
input-other input (OneSide label) e = apart _ _ (ap (λ t. slice_index_or t 6 0) e) refl refl

labels-other : (fault : LabelsFault) → labels_line fault ≢ given_none_line
labels-other (Active node) e = apart _ _ (ap (λ t. slice_index_or t 6 0) e) refl refl
labels-other (Passive node) e = apart _ _ (ap (λ t. slice_index_or t 6 0) e) refl refl

module _ (law : NoSolutionGivenLaw) (labelled : Labelled) (outcome : Outcome) where
  -- a line of another fault
  other : (line : List ℕ) → line ≢ given_none_line → outcome ≡ refused line → GivenMeans labelled outcome
  other line ne e =
      let status = ap (λ (o : Outcome). o.status) e in
      let not-it : outcome ≡ refused given_none_line → ⊥ = λ is. ne (ap (λ (o : Outcome). o.text) (sym e ∙ is)) in
      record {
        yes = λ done. absurd (let wrong : No ≡ Done = sym status ∙ done in cc);
        given = λ is. absurd (not-it is);
        none = λ is. absurd (not-it is);
        never = λ is. absurd (not-it is);
      }

  module _ (is : IsProblem (unnamed labelled.given.problem)) (of : IsGraphOf (unnamed labelled.given.problem) labelled.given.graph) (input : IsInput (unnamed labelled.given.problem) (unnamed labelled.given.input))
      (solution : IsSolution (unnamed labelled.given.input) labelled.given.graph labelled.labels) where
    walked : (w : Walk) → solution_walk (unnamed labelled.given.problem) labelled.given.graph MAX_TRIES ≡ w → outcome ≡ walked_with given_none_line labelled.given.problem labelled.given.graph w → GivenMeans labelled outcome
    walked (found labels) came e =
        let status = ap (λ (o : Outcome). o.status) e in
        let not-it : outcome ≡ refused given_none_line → ⊥ = λ is. absurd (let wrong : Done ≡ No = sym status ∙ ap (λ (o : Outcome). o.status) is in cc) in
        record {
          yes = λ done. record {
            labels = labels_of labelled.given.problem.active.degree labelled.given.graph.nodes labels;
            solution = some-answer (unnamed labelled.given.problem) labelled.given.graph MAX_TRIES labels is of came;
            printed = ap (λ (o : Outcome). o.text) e;
          };
          given = λ is. absurd (not-it is);
          none = λ is. absurd (not-it is);
          never = λ is. absurd (not-it is);
        }
    walked nowhere came e =
        let status = ap (λ (o : Outcome). o.status) e in
        let none = none-answer (unnamed labelled.given.problem) labelled.given.graph MAX_TRIES is of came in
        record {
          yes = λ done. absurd (let wrong : No ≡ Done = sym status ∙ done in cc);
          given = λ it. solution;
          none = λ it. none;
          never = λ it T. law (unnamed labelled.given.problem) (unnamed labelled.given.input) labelled.given.graph labelled.labels T of input solution none;
        }
    walked cut came e =
        let status = ap (λ (o : Outcome). o.status) e in
        let not-it : outcome ≡ refused given_none_line → ⊥ = λ is. absurd (let wrong : Limit ≡ No = sym status ∙ ap (λ (o : Outcome). o.status) is in cc) in
        record {
          yes = λ done. absurd (let wrong : Limit ≡ Done = sym status ∙ done in cc);
          given = λ is. absurd (not-it is);
          none = λ is. absurd (not-it is);
          never = λ is. absurd (not-it is);
        }

  pub given-meant : IsProblem (unnamed labelled.given.problem) → IsGraphOf (unnamed labelled.given.problem) labelled.given.graph
      → IsInputJudged labelled.given.problem labelled.given.input (input_fault labelled.given.problem labelled.given.input)
      → IsJudged (unnamed labelled.given.input) labelled.given.graph labelled.labels (labels_fault (unnamed labelled.given.input) labelled.given.graph labelled.labels)
      → outcome ≡ labelled_outcome labelled → GivenMeans labelled outcome
  given-meant is of =
      by (input_fault labelled.given.problem labelled.given.input) (labels_fault (unnamed labelled.given.input) labelled.given.graph labelled.labels)
    where
      by : (fault : Option Fault) (wrong : Option LabelsFault) → IsInputJudged labelled.given.problem labelled.given.input fault → IsJudged (unnamed labelled.given.input) labelled.given.graph labelled.labels wrong
          → outcome ≡ or_input_fault labelled.given.input fault (or_labels_fault wrong (solution_outcome given_none_line labelled.given.problem labelled.given.graph)) → GivenMeans labelled outcome
      by (Some fault) wrong judged solved e = other (fault_line labelled.given.input fault) (input-other labelled.given.input fault) e
      by None (Some fault) judged solved e = other (labels_line fault) (labels-other fault) e
      by None None judged solved e = walked is of judged solved (solution_walk (unnamed labelled.given.problem) labelled.given.graph MAX_TRIES) refl e
