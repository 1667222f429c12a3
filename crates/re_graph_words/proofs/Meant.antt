-- What answers mean.
use Rattle.std.proofs.Common.{◌≡◌, ◌∙◌, ℕ, List, None, Some, ap, refl, sym}
use Rattle.re_cover.specs.Graphs.{IsGraphOf, PortGraph}
use Rattle.re_frame.specs.Outcomes.{Outcome}
use Rattle.re_frame.specs.declared.status.Status.TheVariants.{Done, Limit, No}
use Rattle.re_graph.proofs.Answering.{none-answer, none-means, some-answer}
use Rattle.re_graph.specs.Solving.{IsAnswer, labels_of, solution_walk}
use Rattle.re_laws.specs.Algorithms.{Solvable}
use Rattle.re_problem.specs.NamedProblems.{NamedProblem, unnamed}
use Rattle.re_problem.specs.Problems.{IsProblem}
use Rattle.re_walks.specs.Walking.{Walk, cut, found, nowhere}
use Rattle.re_graph_words.specs.SolveWords.{AnswerMeans, none_line}
use Rattle.re_graph_words.specs.Solutions.{solution_outcome, walked_with}
use Rattle.re_graph_words.specs.declared.solving.TheConstants.{MAX_TRIES}

means-found : (problem : NamedProblem) (graph : PortGraph) (outcome : Outcome) (labels : List ℕ) → outcome ≡ walked_with none_line problem graph (found labels) → IsAnswer (unnamed problem) graph (Some labels)
    → AnswerMeans problem graph outcome
means-found problem graph outcome labels e solution =
    let status = ap (λ (o : Outcome). o.status) e in
    record {
      yes = λ done. record {
        labels = labels_of problem.active.degree graph.nodes labels;
        solution = solution;
        printed = ap (λ (o : Outcome). o.text) e;
      };
      none = λ no. absurd (let wrong : Done ≡ No = sym status ∙ no in cc);
      never = λ no. absurd (let wrong : Done ≡ No = sym status ∙ no in cc);
    }

means-none : (problem : NamedProblem) (graph : PortGraph) (outcome : Outcome) → outcome ≡ walked_with none_line problem graph nowhere → IsAnswer (unnamed problem) graph None
    → ((T : ℕ) → Solvable (unnamed problem) T → ⊥) → AnswerMeans problem graph outcome
means-none problem graph outcome e none never =
    let status = ap (λ (o : Outcome). o.status) e in
    record {
      yes = λ done. absurd (let wrong : No ≡ Done = sym status ∙ done in cc);
      none = λ no. none;
      never = λ no. never;
    }

means-cut : (problem : NamedProblem) (graph : PortGraph) (outcome : Outcome) → outcome ≡ walked_with none_line problem graph cut → AnswerMeans problem graph outcome
means-cut problem graph outcome e =
    let status = ap (λ (o : Outcome). o.status) e in
    record {
      yes = λ done. absurd (let wrong : Limit ≡ Done = sym status ∙ done in cc);
      none = λ no. absurd (let wrong : Limit ≡ No = sym status ∙ no in cc);
      never = λ no. absurd (let wrong : Limit ≡ No = sym status ∙ no in cc);
    }

-- what the first solution, or none, means
pub meant : (problem : NamedProblem) (graph : PortGraph) → IsProblem (unnamed problem) → IsGraphOf (unnamed problem) graph → (outcome : Outcome) → outcome ≡ solution_outcome none_line problem graph
    → AnswerMeans problem graph outcome
meant problem graph is of outcome e = by (solution_walk (unnamed problem) graph MAX_TRIES) refl e
  where
    by : (w : Walk) → solution_walk (unnamed problem) graph MAX_TRIES ≡ w → outcome ≡ walked_with none_line problem graph w → AnswerMeans problem graph outcome
    by (found labels) came e = means-found problem graph outcome labels e (some-answer (unnamed problem) graph MAX_TRIES labels is of came)
    by nowhere came e =
        let none = none-answer (unnamed problem) graph MAX_TRIES is of came in
        means-none problem graph outcome e none (none-means (unnamed problem) graph of none)
    by cut came e = means-cut problem graph outcome e
