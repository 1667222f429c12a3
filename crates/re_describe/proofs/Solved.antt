-- What `solve` answers to a text, where it has an input problem and where it has none.
use Rattle.std.proofs.Common.{◌≡◌, ℕ, true, false, codes, List, ap, ◌∙◌, subst}
use Rattle.re_chains.specs.TwoTexts.{has_line}
use Rattle.re_frame.specs.Outcomes.{Outcome}
use Rattle.re_graph_words.specs.GivenInputs.{labelled_input}
use Rattle.re_graph_words.specs.GraphInputs.{graph_input}
use Rattle.re_graph_words.specs.GraphWords.{MayGive}
use Rattle.re_graph_words.specs.SolveWords.{MeansBy, ReadLabelledMeans, ReadMeans, outcome_by, read_labelled_outcome, read_outcome, solve_outcome}
use Rattle.re_graph_words.specs.declared.words.GraphWord.TheVariants.{Solve}

pub alone_answer : (bytes : List ℕ) (outcome : Outcome) → has_line (codes "given") bytes ≡ false → MayGive Solve bytes outcome → outcome ≡ read_outcome (graph_input bytes)
unfolding MayGive solve_outcome
alone_answer bytes outcome none may = may.answer ∙ ap (λ given. outcome_by given bytes) none

pub alone_means : (bytes : List ℕ) (outcome : Outcome) → has_line (codes "given") bytes ≡ false → MayGive Solve bytes outcome → ReadMeans (graph_input bytes) outcome
unfolding MayGive
alone_means bytes outcome none may = subst (λ given. MeansBy given bytes outcome) none may.means

pub given_answer : (bytes : List ℕ) (outcome : Outcome) → has_line (codes "given") bytes ≡ true → MayGive Solve bytes outcome → outcome ≡ read_labelled_outcome (labelled_input bytes)
unfolding MayGive solve_outcome
given_answer bytes outcome has may = may.answer ∙ ap (λ given. outcome_by given bytes) has

pub given_means : (bytes : List ℕ) (outcome : Outcome) → has_line (codes "given") bytes ≡ true → MayGive Solve bytes outcome → ReadLabelledMeans (labelled_input bytes) outcome
unfolding MayGive
given_means bytes outcome has may = subst (λ given. MeansBy given bytes outcome) has may.means
