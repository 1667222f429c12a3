-- What a claim means where active nodes have unique identifiers, and which class a problem has.
use Rattle.std.specs.Prelude.{ℕ, ◌<◌, ◌≤◌, None, Option, Some}
use Rattle.re_classes.specs.Classes.{IsAboveLog, IsAboveLogStar, IsBelowLogStar, IsConstantLocal, IsMoreThanConstant, IsOrderLogStar}
use Rattle.re_local.specs.LocalAlgorithms.{SolvableLocal}
use Rattle.re_problem.specs.Problems.{Problem}
use Rattle.re_local.specs.SeparatingLaws.{IsBeyondLocal}
use Rattle.re_evidence.specs.declared.types.Claim.{Claim}
use Rattle.re_evidence.specs.declared.types.Claim.TheVariants.{AtMost, Between, Exactly, MoreThan, Never}
use Rattle.re_evidence.specs.declared.types.Class.{Class}
use Rattle.re_evidence.specs.declared.types.Class.TheVariants as class
use Rattle.re_evidence.specs.declared.types.Least.{Least}
use Rattle.re_evidence.specs.declared.types.Least.TheVariants as least
use Rattle.re_evidence.specs.declared.types.Most.{Most}
use Rattle.re_evidence.specs.declared.types.Most.TheVariants as most
use Rattle.re_evidence.specs.declared.types.Order.{Order}
use Rattle.re_evidence.specs.declared.types.Order.TheVariants as order

-- some local algorithm of so many rounds solves the problem, however many identifiers there are
abbrev pub SolvableByAny : Problem → ℕ → Type 0
SolvableByAny problem k = (N : ℕ) → SolvableLocal problem N k

-- what a claim says of local algorithms: so many rounds are enough for each number of identifiers, and fewer aren't from some number on; no number is; as
-- many or fewer aren't; so many are; or the last two
abbrev pub HoldsLocal : Claim → Problem → Type 0
HoldsLocal (Exactly k) problem = SolvableByAny problem k × ((T : ℕ) → T < k → IsBeyondLocal problem T)
HoldsLocal Never problem = (T : ℕ) → IsBeyondLocal problem T
HoldsLocal (MoreThan k) problem = (T : ℕ) → T ≤ k → IsBeyondLocal problem T
HoldsLocal (AtMost m) problem = SolvableByAny problem m
HoldsLocal (Between k m) problem = ((T : ℕ) → T ≤ k → IsBeyondLocal problem T) × SolvableByAny problem m

-- what an order says of local algorithms, as far as it is known of them: that of N is shown on finite forests alone
abbrev pub OrderHolds : Order → Problem → Type 0
OrderHolds order.LogStar problem = IsOrderLogStar problem
OrderHolds order.Log problem = IsAboveLog problem
OrderHolds order.Linear problem = IsAboveLogStar problem × IsMoreThanConstant problem

-- what a bound below says of them
abbrev pub LeastHolds : Least → Problem → Type 0
LeastHolds (least.MoreThan k) problem = HoldsLocal (MoreThan k) problem
LeastHolds least.LogStar problem = IsAboveLogStar problem
LeastHolds least.Log problem = IsAboveLog problem

-- what a bound above says of them: that of log N is shown on finite forests alone
abbrev pub MostHolds : Most → Problem → Type 0
MostHolds most.LogStar problem = IsBelowLogStar problem
MostHolds most.Log problem = Unit {0}

-- what a class says of them
abbrev pub ClassHolds : Class → Problem → Type 0
ClassHolds class.NoSolution problem = IsAboveLogStar problem × IsMoreThanConstant problem
ClassHolds (class.Constant claim) problem = IsConstantLocal problem × HoldsLocal claim problem
ClassHolds (class.Order order) problem = OrderHolds order problem
ClassHolds (class.Bounds least most) problem = LeastHolds least problem
ClassHolds (class.AtMost most) problem = MostHolds most problem

-- the class where a bound below is known, and maybe one above
abbrev pub bounded_class : Least → Option Most → Class
bounded_class (least.MoreThan k) above = class.Bounds (least.MoreThan k) above
bounded_class least.LogStar None = class.Bounds least.LogStar None
bounded_class least.LogStar (Some most.LogStar) = class.Order order.LogStar
bounded_class least.LogStar (Some most.Log) = class.Bounds least.LogStar (Some most.Log)
bounded_class least.Log None = class.Bounds least.Log None
bounded_class least.Log (Some most) = class.Order order.Log
