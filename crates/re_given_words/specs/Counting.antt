-- The word `rounds`: in how many rounds a problem is solvable, alone or given an input problem.
use Rattle.std.specs.Prelude.{◌≡◌, ℕ, zero, suc, ◌<◌, ◌≤◌, ◌⊎◌, List, ◌++◌, codes, Option, None, Some, option_map}
use Rattle.std.specs.Fmt.{decimal}
use Rattle.re_settings.specs.Fits.{fit_walk}
use Rattle.re_frame.specs.Outcomes.{Outcome, done, limit}
use Rattle.re_limits.specs.StepLimits.{limit_line}
use Rattle.re_given.specs.Given.{SolvableGiven}
use Rattle.re_given.specs.Inputs.{IsInput, exchanged_by}
use Rattle.re_laws.specs.Algorithms.{Solvable}
use Rattle.re_problem.specs.Derived.{derived_by}
use Rattle.re_problem.specs.NamedProblems.{NamedProblem, unnamed}
use Rattle.re_problem.specs.Problems.{Problem}
use Rattle.re_problem.specs.Zero.{Zero}
use Rattle.re_search.specs.Laws.{NonePassed}
use Rattle.re_step.specs.Derivations.{step_limit}
use Rattle.re_step.specs.declared.derivation.StepLimit.{StepLimit}
use Rattle.re_walks.specs.Walking.{Walk, cut, found, nowhere}
use Rattle.re_settings.specs.declared.fitting.TheConstants.{MAX_TRIES}
use Rattle.re_given_words.specs.declared.counting.Counted.{Counted}
use Rattle.re_given_words.specs.declared.counting.Counted.TheVariants.{Exactly, MoreThan, Passed, Stopped, Tried}
use Rattle.re_given_words.specs.declared.counting.Told.{Told}
use Rattle.re_given_words.specs.declared.counting.Told.TheVariants.{Enough, Few, Untold}

-- ---- what is told of a number of rounds
-- the walk for sets for the derived problem, given the input problem exchanged as often
abbrev pub walk_after : Problem → Problem → ℕ → Walk
walk_after problem input rounds = fit_walk (derived_by rounds problem) (exchanged_by rounds input) MAX_TRIES

-- so many rounds are told to be enough, or too few, or it can't be told: alone by whether the derived problem is solvable without
-- communication, and given an input problem by the walk
abbrev pub Tells : Problem → Option Problem → ℕ → Told → Type 0
Tells problem None rounds Enough = Zero (derived_by rounds problem)
Tells problem None rounds Few = Zero (derived_by rounds problem) → ⊥
Tells problem None rounds Untold = ⊥
Tells problem (Some input) rounds Enough = (labels : List ℕ) × (walk_after problem input rounds ≡ found labels)
Tells problem (Some input) rounds Few = walk_after problem input rounds ≡ nowhere
Tells problem (Some input) rounds Untold = walk_after problem input rounds ≡ cut

-- all fewer rounds are told to be too few
abbrev pub AllFew : Problem → Option Problem → ℕ → Type 0
AllFew problem input rounds = (j : ℕ) → j < rounds → Tells problem input j Few

-- ---- what is counted
-- the least rounds that are enough; or that all up to the most are too few; or, behind rounds that are too few, the first step that passes a
-- limit, or the first rounds of which it can't be told; no step before passes a limit
abbrev pub IsCounted : Problem → Option Problem → ℕ → Counted → Type 0
IsCounted problem input most (Exactly rounds) = (rounds ≤ most) × Tells problem input rounds Enough × AllFew problem input rounds × NonePassed problem rounds
IsCounted problem input most (MoreThan rounds) = (rounds ≡ most) × AllFew problem input (suc rounds) × NonePassed problem rounds
IsCounted problem input most (Passed rounds passed) =
    (rounds < most) × (step_limit (derived_by rounds problem) ≡ Some passed) × AllFew problem input (suc rounds) × NonePassed problem rounds
IsCounted problem input most (Tried rounds) = (rounds ≤ most) × Tells problem input rounds Untold × AllFew problem input rounds × NonePassed problem rounds
IsCounted problem input most (Stopped rounds steps passed) = ⊥

-- ---- what is told ahead of a step that passes a limit
-- the problem that is derived as often is this one, where the step behind it passes a limit
abbrev pub IsLast : Problem → Problem → Counted → Type 0
IsLast problem current (Exactly rounds) = Unit {0}
IsLast problem current (MoreThan rounds) = Unit {0}
IsLast problem current (Passed rounds passed) = current ≡ derived_by rounds problem
IsLast problem current (Tried rounds) = Unit {0}
IsLast problem current (Stopped rounds steps passed) = Unit {0}

-- a step before so many rounds passes this limit, and none before it passes one
abbrev pub IsPassed : Problem → ℕ → StepLimit → ℕ → Type 0
IsPassed problem steps passed rounds = (steps < rounds) × (step_limit (derived_by steps problem) ≡ Some passed) × NonePassed problem steps

-- the least rounds that are enough; or that all up to the most are too few; or that all up to fewer are
abbrev pub IsToldAhead : Problem → ℕ → Counted → Type 0
IsToldAhead problem most (Exactly rounds) = (rounds ≤ most) × Tells problem None rounds Enough × AllFew problem None rounds × (steps : ℕ) × (passed : StepLimit) × IsPassed problem steps passed rounds
IsToldAhead problem most (MoreThan rounds) = (rounds ≡ most) × AllFew problem None (suc rounds) × (steps : ℕ) × (passed : StepLimit) × IsPassed problem steps passed rounds
IsToldAhead problem most (Passed rounds passed) = ⊥
IsToldAhead problem most (Tried rounds) = ⊥
IsToldAhead problem most (Stopped rounds steps passed) = (rounds < most) × AllFew problem None (suc rounds) × IsPassed problem steps passed (suc rounds)

-- the same alone
abbrev pub IsAhead : Problem → Option Problem → ℕ → Counted → Type 0
IsAhead problem None most counted = IsToldAhead problem most counted
IsAhead problem (Some input) most counted = ⊥

-- as it is counted, or, alone, told ahead of a step that passes a limit
abbrev pub MayTell : Problem → Option Problem → ℕ → Counted → Type 0
MayTell problem input most counted = IsCounted problem input most counted ⊎ IsAhead problem input most counted

-- ---- what it means for algorithms
-- so many rounds solve the problem, alone or given the input problem
abbrev pub Solves : Problem → Option Problem → ℕ → Type 0
Solves problem None T = Solvable problem T
Solves problem (Some input) T = SolvableGiven problem input T

-- exactly so many rounds solve it; or none up to that number; or, where the tries don't suffice, none below it
abbrev pub CountMeans : Problem → Option Problem → Counted → Type 0
CountMeans problem input (Exactly rounds) = Solves problem input rounds × ((T : ℕ) → T < rounds → Solves problem input T → ⊥)
CountMeans problem input (MoreThan rounds) = (T : ℕ) → T ≤ rounds → Solves problem input T → ⊥
CountMeans problem input (Passed rounds passed) = (T : ℕ) → T ≤ rounds → Solves problem input T → ⊥
CountMeans problem input (Tried rounds) = (T : ℕ) → T < rounds → Solves problem input T → ⊥
CountMeans problem input (Stopped rounds steps passed) = (T : ℕ) → T ≤ rounds → Solves problem input T → ⊥

-- the input problem, where there is one, is one of the problem
abbrev pub IsBeside : Problem → Option Problem → Type 0
IsBeside problem None = Unit {0}
IsBeside problem (Some input) = IsInput problem input

-- the step that passes a limit is one of as many as a certificate may have
abbrev pub IsLow : Counted → Type 0
IsLow (Exactly rounds) = Unit {0}
IsLow (MoreThan rounds) = Unit {0}
IsLow (Passed rounds passed) = rounds < 64
IsLow (Tried rounds) = Unit {0}
IsLow (Stopped rounds steps passed) = steps < 64

-- ---- lines
-- that the tries don't suffice, behind what is known
abbrev pub tried_line : ℕ → List ℕ
tried_line zero = codes "limit: more than 1000000 tries\n"
tried_line (suc rounds) = codes "more than " ++ decimal rounds ++ codes ", then: limit: more than 1000000 tries\n"

abbrev pub counted_outcome : Counted → Outcome
counted_outcome (Exactly rounds) = done (codes "exactly " ++ decimal rounds ++ codes "\n")
counted_outcome (MoreThan rounds) = done (codes "more than " ++ decimal rounds ++ codes "\n")
counted_outcome (Passed rounds passed) = limit (codes "more than " ++ decimal rounds ++ codes ", then: " ++ limit_line (suc rounds) passed)
counted_outcome (Tried rounds) = limit (tried_line rounds)
counted_outcome (Stopped rounds steps passed) = limit (codes "more than " ++ decimal rounds ++ codes ", then: " ++ limit_line (suc steps) passed)

-- the line of what is counted
pub record IsCountedLine (problem : NamedProblem) (input : Option NamedProblem) (most : ℕ) (outcome : Outcome) : Type 0 where
  pub counted : Counted
  pub line : outcome ≡ counted_outcome counted
  pub told : MayTell (unnamed problem) (option_map unnamed input) most counted
  pub means : CountMeans (unnamed problem) (option_map unnamed input) counted
