-- What is known of a problem, said of local algorithms.
use Rattle.std.proofs.Common.{ℕ, None}
use Rattle.re_classes.proofs.Decided.{order_log_star}
use Rattle.re_classes.specs.Classes.{IsOrderLogStar}
use Rattle.re_evidence.specs.Claims.{Holds}
use Rattle.re_evidence.specs.Classes.{ClassHolds, HoldsLocal, LeastHolds, SolvableByAny, bounded_class}
use Rattle.re_evidence.specs.Colours.{IsSolvableGivenFew, colours_of, few_colours}
use Rattle.re_evidence.specs.declared.types.Claim.{Claim}
use Rattle.re_evidence.specs.declared.types.Claim.TheVariants.{AtMost, Between, Exactly, MoreThan, Never}
use Rattle.re_evidence.specs.declared.types.Class.TheVariants as class
use Rattle.re_evidence.specs.declared.types.Least.{Least}
use Rattle.re_evidence.specs.declared.types.Least.TheVariants as least
use Rattle.re_given.specs.Given.{SolvableGiven}
use Rattle.re_given_bounds.proofs.EdgeClasses.{order_edge_coloured}
use Rattle.re_labels.specs.declared.sides.Side.{Side}
use Rattle.re_labels.specs.declared.sides.Side.TheVariants.{Active, Passive}
use Rattle.re_laws.specs.Algorithms.{Solvable}
use Rattle.re_local.specs.SeparatingLaws.{IsBeyondLocal}
use Rattle.re_classes.proofs.BeyondLocal.{beyond_local}
use Rattle.re_classes.proofs.PortNumbered.{SolvableLocal-unnoticed}
use Rattle.re_problem.specs.NamedProblems.{NamedProblem, unnamed}
use Rattle.re_problem.specs.Problems.{IsProblem, Problem}

-- ---- constantly many rounds
module _ (problem : Problem) (is : IsProblem problem) where
  by_any : (k : ℕ) → Solvable problem k → SolvableByAny problem k
  by_any k solvable N = SolvableLocal-unnoticed problem N k solvable

  beyond : (T : ℕ) → (Solvable problem T → ⊥) → IsBeyondLocal problem T
  beyond T none = (beyond_local problem T is).1 none

  -- a claim holds of local algorithms
  pub claim_local : (claim : Claim) → Holds claim problem → HoldsLocal claim problem
  claim_local (Exactly k) (solvable, fewer) = (by_any k solvable, λ T few. beyond T (fewer T few))
  claim_local Never none = λ T. beyond T (none T)
  claim_local (MoreThan k) none = λ T few. beyond T (none T few)
  claim_local (AtMost m) solvable = by_any m solvable
  claim_local (Between k m) (none, solvable) = ((λ T few. beyond T (none T few)), by_any m solvable)

  -- an upper bound is constant
  pub constant_class : (claim : Claim) (k : ℕ) → Solvable problem k → Holds claim problem → ClassHolds (class.Constant claim) problem
  constant_class claim k solvable holds = ((k, by_any k solvable), claim_local claim holds)

-- ---- given a proper colouring with few colours
-- given few colours of either side
pub few_order : (side : Side) (problem : Problem) → IsProblem problem → ((T : ℕ) → Solvable problem T → ⊥) → IsSolvableGivenFew side problem → IsOrderLogStar problem
few_order Active problem is never solvable = order_log_star problem is never solvable
few_order Passive problem is never solvable = order_edge_coloured problem is never solvable

-- ---- bounds
-- two bounds without one above say what the one below says
pub least_class : (problem : Problem) (least : Least) → LeastHolds least problem → ClassHolds (bounded_class least None) problem
least_class problem (least.MoreThan k) holds = holds
least_class problem least.LogStar holds = holds
least_class problem least.Log holds = holds
