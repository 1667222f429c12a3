-- What is counted, and what it means for algorithms.
use Rattle.std.proofs.Common.{◌≡◌, ℕ, suc, ◌+◌, ◌<◌, List, ◌⊎◌, inl, inr, sym, subst, arith, Option, None, Some}
use Rattle.std.specs.Prelude.{option_map}
use Rattle.re_settings.proofs.Told.{fit_walk_law}
use Rattle.re_settings.specs.Laws.{TellsGiven}
use Rattle.re_given.proofs.ChainGiven.{SolvableGiven-rounds}
use Rattle.re_given.proofs.RelativeGiven.{IsInput-derived_by}
use Rattle.re_given.specs.Given.{ZeroGiven}
use Rattle.re_given.specs.Inputs.{IsInput, exchanged_by}
use Rattle.re_labels.proofs.Tests.{below-cases}
use Rattle.re_laws.proofs.ChainRounds.{Solvable-rounds}
use Rattle.re_problem.proofs.DerivedProblem.{IsProblem-derived_by}
use Rattle.re_problem.specs.Derived.{derived_by}
use Rattle.re_problem.specs.NamedProblems.{NamedProblem, unnamed}
use Rattle.re_problem.specs.Problems.{IsProblem, Problem}
use Rattle.re_walks.specs.Walking.{found, nowhere}
use Rattle.re_given_words.specs.Counting.{AllFew, CountMeans, IsBeside, IsCounted, IsToldAhead, MayTell, Solves, Tells, walk_after}
use Rattle.re_given_words.specs.declared.counting.Counted.{Counted}
use Rattle.re_given_words.specs.declared.counting.Counted.TheVariants.{Exactly, MoreThan, Passed, Stopped, Tried}
use Rattle.re_given_words.specs.declared.counting.Told.TheVariants.{Enough, Few}
use Rattle.re_settings.specs.declared.fitting.TheConstants.{MAX_TRIES}

-- ---- the problems on the way
-- the input problem, where it is this one
pub beside_input : (problem : Problem) (o : Option NamedProblem) (input : NamedProblem) → o ≡ Some input → IsBeside problem (option_map unnamed o) → IsInput problem (unnamed input)
beside_input problem o input is beside = subst (λ o. IsBeside problem (option_map unnamed o)) is beside

-- one number of rounds more
pub few_next : (problem : Problem) (input : Option Problem) (rounds : ℕ) → AllFew problem input rounds → Tells problem input rounds Few → AllFew problem input (rounds + 1)
few_next problem input rounds before here j l = go (below-cases j rounds l)
  where
    go : (j < rounds) ⊎ (j ≡ rounds) → Tells problem input j Few
    go (inl less) = before j less
    go (inr same) = subst (λ k. Tells problem input k Few) (sym same) here

pub few_suc : (problem : Problem) (input : Option Problem) (rounds : ℕ) → AllFew problem input rounds → Tells problem input rounds Few → AllFew problem input (suc rounds)
few_suc problem input rounds before here = let more : rounds + 1 ≡ suc rounds = omega arith in subst (AllFew problem input) more (few_next problem input rounds before here)

-- ---- what it means
module _ (problem : Problem) (is : IsProblem problem) where
  tells_given : (input : Problem) (rounds : ℕ) → IsInput problem input → TellsGiven (derived_by rounds problem) (exchanged_by rounds input) (walk_after problem input rounds)
  tells_given input rounds is_input = fit_walk_law (derived_by rounds problem) (exchanged_by rounds input) MAX_TRIES (IsProblem-derived_by rounds problem is) (IsInput-derived_by rounds problem input is_input)

  zero_found : (input : Problem) (rounds : ℕ) → IsInput problem input → (labels : List ℕ) → walk_after problem input rounds ≡ found labels → ZeroGiven (derived_by rounds problem) (exchanged_by rounds input)
  zero_found input rounds is_input labels e = (_, (subst (TellsGiven (derived_by rounds problem) (exchanged_by rounds input)) e (tells_given input rounds is_input)).upper)

  zero_nowhere : (input : Problem) (rounds : ℕ) → IsInput problem input → walk_after problem input rounds ≡ nowhere → ZeroGiven (derived_by rounds problem) (exchanged_by rounds input) → ⊥
  zero_nowhere input rounds is_input e = subst (TellsGiven (derived_by rounds problem) (exchanged_by rounds input)) e (tells_given input rounds is_input)

  enough : (input : Option Problem) (rounds : ℕ) → IsBeside problem input → Tells problem input rounds Enough → Solves problem input rounds
  enough None rounds beside zero_there = (Solvable-rounds problem rounds is).1 zero_there
  enough (Some input) rounds beside (labels, walked) = (SolvableGiven-rounds problem input rounds is beside).1 (zero_found input rounds beside labels walked)

  too_few : (input : Option Problem) (rounds : ℕ) → IsBeside problem input → Tells problem input rounds Few → Solves problem input rounds → ⊥
  too_few None rounds beside none solvable = none ((Solvable-rounds problem rounds is).0 solvable)
  too_few (Some input) rounds beside walked solvable = zero_nowhere input rounds beside walked ((SolvableGiven-rounds problem input rounds is beside).0 solvable)

  all_too_few : (input : Option Problem) (rounds : ℕ) → IsBeside problem input → AllFew problem input rounds → (T : ℕ) → T < rounds → Solves problem input T → ⊥
  all_too_few input rounds beside few T l solvable = too_few input T beside (few T l) solvable

  pub count_means : (input : Option Problem) (most : ℕ) (counted : Counted) → IsBeside problem input → IsCounted problem input most counted → CountMeans problem input counted
  count_means input most (Exactly rounds) beside (l, there, few, passed) = (enough input rounds beside there, all_too_few input rounds beside few)
  count_means input most (MoreThan rounds) beside (l, few, passed) = λ T low. all_too_few input (suc rounds) beside few T (omega arith)
  count_means input most (Passed rounds limit) beside (l, at, few, passed) = λ T low. all_too_few input (suc rounds) beside few T (omega arith)
  count_means input most (Tried rounds) beside (l, untold, few, passed) = all_too_few input rounds beside few
  count_means input most (Stopped rounds steps passed) beside counts = absurd counts

  -- what is told ahead
  ahead_means : (most : ℕ) (counted : Counted) → IsToldAhead problem most counted → CountMeans problem None counted
  ahead_means most (Exactly rounds) told = (enough None rounds tt told.1, all_too_few None rounds tt told.2)
  ahead_means most (MoreThan rounds) told = λ T low. all_too_few None (suc rounds) tt told.1 T (omega arith)
  ahead_means most (Passed rounds limit) told = absurd told
  ahead_means most (Tried rounds) told = absurd told
  ahead_means most (Stopped rounds steps limit) told = λ T low. all_too_few None (suc rounds) tt told.1 T (omega arith)

  pub told_means : (input : Option Problem) (most : ℕ) (counted : Counted) → IsBeside problem input → MayTell problem input most counted → CountMeans problem input counted
  told_means input most counted beside (inl counts) = count_means input most counted beside counts
  told_means None most counted beside (inr told) = ahead_means most counted told
  told_means (Some input) most counted beside (inr told) = absurd told
