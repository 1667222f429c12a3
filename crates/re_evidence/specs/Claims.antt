-- What a claim on the number of rounds means for algorithms, with port numbers alone or where a solution of an input problem is given.
use Rattle.std.specs.Prelude.{ℕ, suc, ◌==◌, ◌<◌, ◌≤◌, Bool, true, false, if◌then◌else◌}
use Rattle.re_settings.specs.Settings.{SolvableIn}
use Rattle.re_settings.specs.declared.setting.Setting.{Setting}
use Rattle.re_settings.specs.declared.setting.Setting.TheVariants.{Alone, Given}
use Rattle.re_problem.specs.NamedProblems.{NamedProblem}
use Rattle.re_problem.specs.Problems.{Problem}
use Rattle.re_evidence.specs.declared.types.Claim.{Claim}
use Rattle.re_evidence.specs.declared.types.Claim.TheVariants.{AtMost, Between, Exactly, MoreThan, Never}

-- what a claim says of a problem in a setting: an algorithm of so many rounds solves it, and none of fewer rounds does; none of any number of rounds does; none
-- of so many or fewer rounds does; one of so many rounds does; or the last two
abbrev pub HoldsIn : Setting → Claim → Problem → Type 0
HoldsIn setting (Exactly k) problem = SolvableIn setting problem k × ((T : ℕ) → T < k → SolvableIn setting problem T → ⊥)
HoldsIn setting Never problem = (T : ℕ) → SolvableIn setting problem T → ⊥
HoldsIn setting (MoreThan k) problem = (T : ℕ) → T ≤ k → SolvableIn setting problem T → ⊥
HoldsIn setting (AtMost m) problem = SolvableIn setting problem m
HoldsIn setting (Between k m) problem = ((T : ℕ) → T ≤ k → SolvableIn setting problem T → ⊥) × SolvableIn setting problem m

-- with port numbers alone
abbrev pub Holds : Claim → Problem → Type 0
Holds claim problem = HoldsIn Alone claim problem

-- given an input problem
abbrev pub HoldsGiven : Claim → Problem → NamedProblem → Type 0
HoldsGiven claim problem input = HoldsIn (Given input) claim problem

-- more than the first number of rounds and at most the second: exactly the second, where it is the next one
abbrev pub within : ℕ → ℕ → Claim
within more most = if most == suc more then Exactly most else Between more most

-- whether a claim leaves no question
abbrev pub is_final : Claim → Bool
is_final (Exactly k) = true
is_final Never = true
is_final claim = false
