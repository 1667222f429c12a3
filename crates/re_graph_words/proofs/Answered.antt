-- The answers to texts with and without a line `== given`.
use Rattle.std.proofs.Common.{◌≡◌, ℕ, List, true, false, ap, codes, sym, subst, ◌∙◌, IfOk, Result, Ok, Err}
use Rattle.re_frame.specs.Outcomes.{Outcome}
use Rattle.re_chains.specs.TwoTexts.{has_line}
use Rattle.re_graph_words.specs.GivenInputs.{labelled_input}
use Rattle.re_graph_words.specs.GraphInputs.{graph_input}
use Rattle.re_graph_words.specs.GraphWords.{MayCoverBy}
use Rattle.re_graph_words.specs.SolveWords.{IsSolved, MeansBy, ReadLabelledMeans, ReadMeans, outcome_by, read_labelled_outcome, read_outcome, solve_outcome}

pub solved-given : (bytes : List ℕ) (outcome : Outcome) → has_line (codes "given") bytes ≡ true → outcome ≡ read_labelled_outcome (labelled_input bytes) → ReadLabelledMeans (labelled_input bytes) outcome → IsSolved bytes outcome
unfolding solve_outcome
solved-given bytes outcome has e means = record { answer = e ∙ sym (ap (λ b. outcome_by b bytes) has); means = subst (λ b. MeansBy b bytes outcome) (sym has) means }

pub solved-alone : (bytes : List ℕ) (outcome : Outcome) → has_line (codes "given") bytes ≡ false → outcome ≡ read_outcome (graph_input bytes) → ReadMeans (graph_input bytes) outcome → IsSolved bytes outcome
unfolding solve_outcome
solved-alone bytes outcome none e means = record { answer = e ∙ sym (ap (λ b. outcome_by b bytes) none); means = subst (λ b. MeansBy b bytes outcome) (sym none) means }

-- ---- two facts of a result
pub both-ok : {A E : Type 0} (r : Result A E) (P Q R : A → Type 0) → ((a : A) → P a → Q a → R a) → IfOk r P → IfOk r Q → IfOk r R
both-ok (Ok a) P Q R f p q = f a p q
both-ok (Err e) P Q R f p q = tt
