-- Bounds that go on from a chain, and that are taken in a setting.
use Rattle.std.specs.Prelude.{◌≡◌, ◌≤◌, ℕ, true, List, ◌++◌, length}
use Rattle.re_cert.specs.Bounds.{Bound, BoundStep, is_bound}
use Rattle.re_cert.specs.declared.certificate.Kind.{Kind}
use Rattle.re_chains.specs.Chains.{IsOverProblems}
use Rattle.re_shaping.specs.Extensions.{AreSmall, GoesOn}
use Rattle.re_problem.specs.NamedProblems.{IsNamedProblem, NamedProblem, unnamed}
use Rattle.re_settings.specs.Settings.{MeansIn}
use Rattle.re_settings.specs.Taken.{IsTaken}
use Rattle.re_settings.specs.declared.setting.Setting.{Setting}
use Rattle.re_settings.specs.declared.setting.Setting.TheVariants.{Alone, Given}

-- a bound of this kind goes on from the chain given the input problem: its parts make a bound over problems; it has the same first problem and, behind the
-- chain's steps, at most so many more, each to a problem of at most so many labels; `given` accepts it, and what that says of algorithms holds of the chain's
-- first problem
pub record GoesOnGiven (input : NamedProblem) (kind : Kind) (most labels : ℕ) (chain bound : Bound) : Type 0 where
  pub fits : is_bound bound ≡ true
  pub problems : IsOverProblems bound
  pub of_kind : bound.kind ≡ kind
  pub first : bound.first ≡ chain.first
  pub more : List BoundStep
  pub steps : bound.steps ≡ chain.steps ++ more
  pub few : length more ≤ most
  pub small : AreSmall labels more
  pub accepted : IsTaken input bound
  pub means : MeansIn (Given input) kind (length bound.steps) (unnamed chain.first)

-- a bound over problems that `given` accepts goes on from itself
abbrev pub TakenLaw : Type 0
TakenLaw = (input : NamedProblem) (bound : Bound) (most labels : ℕ) → IsNamedProblem input → is_bound bound ≡ true → IsOverProblems bound → IsTaken input bound
    → GoesOnGiven input bound.kind most labels bound bound

-- a bound of this kind goes on from the chain with at most so many more steps, each to a problem of at most so many labels, and is taken
abbrev pub GoesOnIn : Setting → Kind → ℕ → ℕ → Bound → Bound → Type 0
GoesOnIn Alone kind most labels chain bound = GoesOn kind most labels chain bound
GoesOnIn (Given input) kind most labels chain bound = GoesOnGiven input kind most labels chain bound
