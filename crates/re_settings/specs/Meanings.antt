-- What the answers of `fit` and `given` mean for algorithms.
use Rattle.std.specs.Prelude.{◌≡◌, ℕ, List, codes, length, None, Some}
use Rattle.re_cert.specs.Bounds.{Bound, last_problem}
use Rattle.re_cert.specs.declared.certificate.Kind.TheVariants.{Lower}
use Rattle.re_chains.specs.OverChains.{steps_refusal}
use Rattle.re_settings.specs.InputProblems.{input_fault}
use Rattle.re_settings.specs.Laws.{IsFitting}
use Rattle.re_frame.specs.Outcomes.{Outcome, done, refused}
use Rattle.re_frame.specs.declared.status.Status.TheVariants.{Done, No}
use Rattle.re_given.specs.Given.{SolvableGiven}
use Rattle.re_bounds.specs.GivenBounds.{IsOver, IsValidGiven, MeansGiven}
use Rattle.re_problem.specs.NamedProblems.{IsNamedProblem, NamedProblem, unnamed}
use Rattle.re_chains.specs.TwoTexts.{back_problem, front_bound}
use Rattle.re_settings.specs.Verdicts.{bound_outcome, given_outcome, kept_steps}
use Rattle.re_settings.specs.Walks.{fit_text, input_at}
use Rattle.re_settings.specs.declared.bound_words.BoundWord.{BoundWord}
use Rattle.re_settings.specs.declared.bound_words.BoundWord.TheVariants.{Fit, Given}

-- the lines show a set of labels of the last problem for each input label, by which an upper step leads to the exchanged input problem
pub record ShowsFit (input : NamedProblem) (bound : Bound) (outcome : Outcome) : Type 0 where
  pub sets : List (List ℕ)
  pub fits : IsFitting (unnamed (last_problem bound)) (input_at input (length bound.steps)) sets
  pub lines : outcome ≡ done (fit_text (last_problem bound) input sets)

-- `fit`: Done, where the last problem is solvable in 0 rounds given the input problem, exchanged as often as there are steps, and the lines show it;
-- `no`, where it isn't
pub record FitMeans (input : NamedProblem) (bound : Bound) (outcome : Outcome) : Type 0 where
  pub yes : outcome.status ≡ Done → SolvableGiven (unnamed (last_problem bound)) (input_at input (length bound.steps)) 0
  pub shown : outcome.status ≡ Done → ShowsFit input bound outcome
  pub no : outcome ≡ refused (codes "no\n") → SolvableGiven (unnamed (last_problem bound)) (input_at input (length bound.steps)) 0 → ⊥

-- `given`: Done, where the bound holds of its first problem given the input problem; a refusal, where the bound isn't valid given it; and behind that
-- the lower bound with the steps that are kept holds
pub record VerdictMeans (input : NamedProblem) (bound : Bound) (outcome : Outcome) : Type 0 where
  pub holds : outcome.status ≡ Done → MeansGiven bound.kind (length bound.steps) (unnamed bound.first) (unnamed input)
  pub fails : outcome.status ≡ No → input_fault bound.first input ≡ None → IsValidGiven bound (unnamed input) → ⊥
  pub kept : outcome.status ≡ No → bound.kind ≡ Lower → input_fault bound.first input ≡ None → steps_refusal bound ≡ None → (steps : ℕ) → kept_steps input bound (length bound.steps) ≡ Some steps
      → MeansGiven Lower steps (unnamed bound.first) (unnamed input)

-- what an answer to a bound and an input problem means
abbrev pub AnswerMeans : BoundWord → NamedProblem → Bound → Outcome → Type 0
AnswerMeans Fit input bound outcome = FitMeans input bound outcome
AnswerMeans Given input bound outcome = VerdictMeans input bound outcome

-- this holds of whatever the word answers to a bound over problems
abbrev pub AnswerLaw : Type 0
AnswerLaw = (word : BoundWord) (input : NamedProblem) (bound : Bound) → IsNamedProblem input → IsOver bound → AnswerMeans word input bound (given_outcome word input bound)

-- the answer to a text, and what it means of the bound and the input problem that the text writes
pub record IsJudged (word : BoundWord) (bytes : List ℕ) (outcome : Outcome) : Type 0 where
  pub answer : outcome ≡ bound_outcome word bytes
  pub means : AnswerMeans word (back_problem (codes "given") bytes) (front_bound (codes "given") bytes) outcome
