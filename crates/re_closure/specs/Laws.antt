-- What the chain decides.
use Rattle.std.specs.Prelude.{◌≡◌, ◌⊎◌, ℕ, List}
use Rattle.re_problem.specs.NamedProblems.{unnamed}
use Rattle.re_problem.specs.Problems.{IsProblem}
use Rattle.re_cert.specs.Bounds.{Bound, last_problem}
use Rattle.re_closure.specs.declared.types.ClosureLimit.{ClosureLimit}
use Rattle.re_closure.specs.declared.types.ClosureLimit.TheVariants.{Combinations, Configurations, Labels, Rows, Steps}
use Rattle.re_frame.specs.Outcomes.{Outcome, limit}
use Rattle.re_closure.specs.ClosureWords.{IsClosureLine, IsRaisedLine, MayFind, MayFindRaised, limit_line}
use Rattle.re_closure.specs.Diagrams.{raised}
use Rattle.re_settings.specs.declared.setting.Setting.TheVariants.{Alone}

-- a limit of the way to the closure: of the lines that come together, or of the combinations that are looked at
abbrev pub IsOnWay : ClosureLimit → Type 0
IsOnWay Rows = Unit {0}
IsOnWay Combinations = Unit {0}
IsOnWay (Labels count) = ⊥
IsOnWay Configurations = ⊥
IsOnWay Steps = ⊥

-- the line of such a limit
abbrev pub IsWayLine : Outcome → Type 0
IsWayLine outcome = (passed : ClosureLimit) × IsOnWay passed × (outcome ≡ limit (limit_line passed))

-- the chain decides what the word gives, but for the limits of the way to the closure
abbrev pub OneOutcomeLaw : Type 0
OneOutcomeLaw = (chain : Bound) (one two : Outcome) → IsProblem (unnamed (last_problem chain)) → MayFind (IsClosureLine chain) Alone chain one → MayFind (IsClosureLine chain) Alone chain two → (one ≡ two) ⊎ (IsWayLine one ⊎ IsWayLine two)

-- with a diagram too
abbrev pub OneRaisedOutcomeLaw : Type 0
OneRaisedOutcomeLaw = (edges : List (ℕ × ℕ)) (chain : Bound) (one two : Outcome) → IsProblem (unnamed (raised edges (last_problem chain)))
    → MayFindRaised (IsRaisedLine edges chain) edges chain one → MayFindRaised (IsRaisedLine edges chain) edges chain two → (one ≡ two) ⊎ (IsWayLine one ⊎ IsWayLine two)
