-- What an answer Done of `greedy` means.
use Rattle.std.proofs.Common.{◌≡◌, ℕ, Option, Some, None, ap, sym, ◌∙◌}
use Rattle.re_cert.specs.Bounds.{last_problem}
use Rattle.re_chains.proofs.WordsGiven.{fault_not_done}
use Rattle.re_chains.specs.ChainTexts.{chain_fault, text_chain}
use Rattle.re_classes.specs.Classes.{IsBelowLogStar}
use Rattle.re_classes.specs.Laws.{IsSolvableColoured}
use Rattle.re_forest_words.proofs.BehindSteps.{shown}
use Rattle.re_forest_words.specs.GreedyAnswers.{GreedyMeansLaw, MayGiveGreedy, MayGiveRead, showing_outcome}
use Rattle.re_forest_words.specs.Showings.{IsShowing}
use Rattle.re_forest_words.specs.declared.showing.Showing.{Showing}
use Rattle.re_forest_words.specs.declared.showing.Showing.TheVariants.{NotGreedy, Shown, Unknown}
use Rattle.re_frame.specs.Outcomes.{Outcome}
use Rattle.re_frame.specs.declared.status.Status.TheVariants.{Done}
use Rattle.re_problem.specs.NamedProblems.{NamedProblem, unnamed}
use Rattle.re_problem.specs.Problems.{IsProblem, Problem}
use Rattle.re_problem.specs.declared.fault.InputFault.{InputFault}

by_showing : (problem : Problem) (most : ℕ) (showing : Showing) → IsProblem problem → IsShowing problem most showing → (showing_outcome showing).status ≡ Done → IsSolvableColoured problem × IsBelowLogStar problem
by_showing problem most (Shown by) is showing finished = shown problem most by is showing
by_showing problem most NotGreedy is showing finished = absurd (cc)
by_showing problem most Unknown is showing finished = absurd (cc)

read_means : (most : ℕ) (fault : Option InputFault) (problem : NamedProblem) (outcome : Outcome) → MayGiveRead most fault problem outcome → outcome.status ≡ Done
    → IsSolvableColoured (unnamed problem) × IsBelowLogStar (unnamed problem)
read_means most (Some fault) problem outcome may finished = absurd (fault_not_done fault (sym (ap (λ (o : Outcome). o.status) may) ∙ finished))
read_means most None problem outcome may finished =
    by_showing (unnamed problem) most may.showing may.problem_is may.is (sym (ap (λ (o : Outcome). o.status) may.text) ∙ finished)

pub greedy_means : GreedyMeansLaw
unfolding MayGiveGreedy
greedy_means most bytes outcome may finished = read_means most (chain_fault bytes) (last_problem (text_chain bytes)) outcome may finished
