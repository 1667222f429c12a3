-- What a claim and a class say of a problem on finite forests, whose nodes all have unique identifiers.
use Rattle.std.specs.Prelude.{ℕ, ◌+◌, ◌<◌, ◌≤◌, ◌==◌, ◌&&◌, if◌then◌else◌, None, Option, Some}
use Rattle.re_forests.specs.Classes.{HasNoSolution, IsAboveLinear, IsAboveLogOnForests, IsAboveLogStarOnForests, IsBelowLinear, IsBelowLogOnForests, IsBelowLogStarOnForests, IsConstantOnForests}
use Rattle.re_forests.specs.OnForests.{SolvableOnForests}
use Rattle.re_forests.specs.ToViews.{IsBeyondForests}
use Rattle.re_problem.specs.Problems.{Problem}
use Rattle.re_evidence.specs.declared.types.Claim.{Claim}
use Rattle.re_evidence.specs.declared.types.Claim.TheVariants.{AtMost, Between, Exactly, MoreThan, Never}
use Rattle.re_evidence.specs.declared.types.Class.{Class}
use Rattle.re_evidence.specs.declared.types.Class.TheVariants as class
use Rattle.re_evidence.specs.declared.types.Least.{Least}
use Rattle.re_evidence.specs.declared.types.Least.TheVariants as least
use Rattle.re_evidence.specs.declared.types.Most.{Most}
use Rattle.re_evidence.specs.declared.types.Most.TheVariants as most
use Rattle.re_evidence.specs.declared.types.Order.{Order}
use Rattle.re_evidence.specs.declared.types.Order.TheVariants as order

-- some local algorithm of so many rounds solves the problem on forests, however many identifiers there are
abbrev pub SolvableOnAny : Problem → ℕ → Type 0
SolvableOnAny problem k = (N : ℕ) → SolvableOnForests problem N k

-- what a claim on rounds with port numbers alone says on forests, where one round more may be needed, and one fewer may be enough
abbrev pub HoldsOnForests : Claim → Problem → Type 0
HoldsOnForests (Exactly k) problem = SolvableOnAny problem (k + 1) × ((T : ℕ) → T + 1 < k → IsBeyondForests problem T)
HoldsOnForests Never problem = (T : ℕ) → IsBeyondForests problem T
HoldsOnForests (MoreThan k) problem = (T : ℕ) → T + 1 ≤ k → IsBeyondForests problem T
HoldsOnForests (AtMost m) problem = SolvableOnAny problem (m + 1)
HoldsOnForests (Between k m) problem = ((T : ℕ) → T + 1 ≤ k → IsBeyondForests problem T) × SolvableOnAny problem (m + 1)

-- what a bound below says, what one above says, and what an order says: both
abbrev pub LeastOnForests : Least → Problem → Type 0
LeastOnForests (least.MoreThan k) problem = HoldsOnForests (MoreThan k) problem
LeastOnForests least.LogStar problem = IsAboveLogStarOnForests problem
LeastOnForests least.Log problem = IsAboveLogOnForests problem

abbrev pub MostOnForests : Most → Problem → Type 0
MostOnForests most.LogStar problem = IsBelowLogStarOnForests problem
MostOnForests most.Log problem = IsBelowLogOnForests problem

abbrev pub OrderOnForests : Order → Problem → Type 0
OrderOnForests order.LogStar problem = IsAboveLogStarOnForests problem × IsBelowLogStarOnForests problem
OrderOnForests order.Log problem = IsAboveLogOnForests problem × IsBelowLogOnForests problem
OrderOnForests order.Linear problem = IsAboveLinear problem × IsBelowLinear problem

-- a bound above, where there is one
abbrev pub MayBeBelow : Option Most → Problem → Type 0
MayBeBelow None problem = Unit {0}
MayBeBelow (Some most) problem = MostOnForests most problem

-- what a class says of a problem
abbrev pub ClassOnForests : Class → Problem → Type 0
ClassOnForests class.NoSolution problem = HasNoSolution problem
ClassOnForests (class.Constant claim) problem = IsConstantOnForests problem × HoldsOnForests claim problem
ClassOnForests (class.Order order) problem = OrderOnForests order problem
ClassOnForests (class.Bounds least most) problem = LeastOnForests least problem × MayBeBelow most problem
ClassOnForests (class.AtMost most) problem = MostOnForests most problem

-- what a flexible set tells: on paths at most the order of log* N, and else that of log N
abbrev pub most_of : Problem → Most
most_of problem = if problem.active.degree == 2 && problem.passive.degree == 2 then most.LogStar else most.Log
