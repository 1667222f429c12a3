-- What is known of a problem, said of finite forests.
use Rattle.std.proofs.Common.{◌≡◌, ℕ, zero, suc, ◌+◌, ◌*◌, ◌<◌, Bool, true, false, List, Contains, refl, arith, Option, None, Some}
use Rattle.std.specs.Prelude.{◌==◌, ◌&&◌, if◌then◌else◌}
use Rattle.std.proofs.lemmas.Bool.{eqb-true}
use Rattle.re_classes.proofs.Decided.{constant}
use Rattle.re_evidence.specs.Claims.{Holds}
use Rattle.re_evidence.specs.Classes.{ClassHolds, HoldsLocal, LeastHolds, bounded_class}
use Rattle.re_evidence.specs.OnForests.{ClassOnForests, HoldsOnForests, LeastOnForests, MayBeBelow, MostOnForests, SolvableOnAny, most_of}
use Rattle.re_evidence.specs.declared.types.Claim.{Claim}
use Rattle.re_evidence.specs.declared.types.Claim.TheVariants.{AtMost, Between, Exactly, MoreThan, Never}
use Rattle.re_evidence.specs.declared.types.Class.TheVariants as class
use Rattle.re_evidence.specs.declared.types.Least.{Least}
use Rattle.re_evidence.specs.declared.types.Least.TheVariants as least
use Rattle.re_evidence.specs.declared.types.Most.{Most}
use Rattle.re_evidence.specs.declared.types.Most.TheVariants as most
use Rattle.re_flexible.specs.Lengths.{HasLevels, IsFlexibility, IsFlexibleSet}
use Rattle.re_flexible.specs.declared.levels.Flexibility.TheVariants.{Length}
use Rattle.re_forests.proofs.ApartForests.{apart}
use Rattle.re_forests.proofs.BoundsAbove.{below_linear, below_log, on_paths}
use Rattle.re_forests.proofs.BoundsBelow.{above as above_forests, above_linear, constant_forests}
use Rattle.re_forests.proofs.Consequences.{fewer_on_forests, link}
use Rattle.re_forests.proofs.PortsOnForests.{ports_on_forests}
use Rattle.re_forests.proofs.WeakerForests.{weaker}
use Rattle.re_forests.specs.Classes.{IsAboveLinear, IsAboveLogOnForests, IsBelowLinear}
use Rattle.re_forests.specs.ToViews.{IsBeyondForests}
use Rattle.re_forests.specs.Trimmed.{HasTwoLevels, IsFlexibleWithin, IsTrimmed}
use Rattle.re_gap.specs.Laws.{NotFlexibleLaw}
use Rattle.re_laws.specs.Algorithms.{Solvable}
use Rattle.re_local.specs.SeparatingLaws.{IsBeyondLocal}
use Rattle.re_problem.specs.Problems.{IsProblem, Problem}

-- ---- claims and classes
module _ (problem : Problem) (is : IsProblem problem) where
  beyond : (T : ℕ) → IsBeyondLocal problem (T + 1) → IsBeyondForests problem T
  beyond T (N, none) = (
    (1 + problem.active.degree) * N,
    λ more many solvable. none N (omega arith) (link problem N T is (fewer_on_forests problem ((1 + problem.active.degree) * N) more T many solvable)),
  )

  on_any : (k : ℕ) → Solvable problem k → SolvableOnAny problem (k + 1)
  on_any k solvable = λ N. ports_on_forests problem is k N solvable

  -- a claim says so on forests
  pub claim_on_forests : (claim : Claim) → Holds claim problem → HoldsLocal claim problem → HoldsOnForests claim problem
  claim_on_forests (Exactly k) (solvable, fewer) (any, none) = (on_any k solvable, λ T few. beyond T (none (T + 1) few))
  claim_on_forests Never holds none = λ T. beyond T (none (T + 1))
  claim_on_forests (MoreThan k) holds none = λ T few. beyond T (none (T + 1) few)
  claim_on_forests (AtMost m) solvable local = on_any m solvable
  claim_on_forests (Between k m) (never, solvable) (none, any) = ((λ T few. beyond T (none (T + 1) few)), on_any m solvable)

  pub constant_on_forests : (claim : Claim) → Holds claim problem → ClassHolds (class.Constant claim) problem → ClassOnForests (class.Constant claim) problem
  constant_on_forests claim holds (local, holds_local) = ((constant_forests problem is).1 ((constant problem is).0 local), claim_on_forests claim holds holds_local)

  -- two bounds say what their class says
  pub bounded : (least : Least) (above : Option Most) → LeastOnForests least problem → MayBeBelow above problem → ClassOnForests (bounded_class least above) problem
  bounded (least.MoreThan k) above low high = (low, high)
  bounded least.LogStar None low high = (low, high)
  bounded least.LogStar (Some most.LogStar) low high = (low, high)
  bounded least.LogStar (Some most.Log) low high = (low, high)
  bounded least.Log None low high = (low, high)
  bounded least.Log (Some most.LogStar) low high = (low, (weaker problem).1 high)
  bounded least.Log (Some most.Log) low high = (low, high)

  -- what a flexible set shows
  pub flexible_below : (set : List ℕ) → IsFlexibleSet problem set → MostOnForests (most_of problem) problem
  flexible_below set (l, flexible) = go (problem.active.degree == 2) refl (problem.passive.degree == 2) refl
    where
      go : (x : Bool) → (problem.active.degree == 2) ≡ x → (y : Bool) → (problem.passive.degree == 2) ≡ y → MostOnForests (if x && y then most.LogStar else most.Log) problem
      go true two true two' = (on_paths problem is (eqb-true problem.active.degree 2 two) (eqb-true problem.passive.degree 2 two')).0 set l flexible
      go true two false none = below_log problem set l is flexible
      go false none true two = below_log problem set l is flexible
      go false none false none' = below_log problem set l is flexible

  -- a bound below of local algorithms is one on forests, but for a number of rounds
  pub least_on_forests : (least : Least) → LeastHolds least problem → LeastOnForests least problem
  least_on_forests (least.MoreThan k) none = λ T few. beyond T (none (T + 1) few)
  least_on_forests least.LogStar low = (above_forests problem is).0 low
  least_on_forests least.Log low = (above_forests problem is).1 low

-- ---- one level of labels
-- the first of two levels, and the second
abbrev level_of : List ℕ → List ℕ → ℕ → List ℕ
level_of lower upper zero = lower
level_of lower upper (suc i) = upper

two_levels : (problem : Problem) → HasTwoLevels problem → HasLevels problem 2
two_levels problem two = (level_of two.lower two.upper, record { some = some; trimmed = trimmed; flexible = flexible })
  where
    some : (i : ℕ) → i < 2 → (x : ℕ) × Contains (level_of two.lower two.upper i) x
    some zero few = (two.flexible.some.0, two.flexible.part two.flexible.some.0 two.flexible.some.1)
    some (suc i) few = two.flexible.some

    trimmed : (i : ℕ) → i < 2 → IsTrimmed problem (level_of two.lower two.upper i)
    trimmed zero few = two.lower_trimmed
    trimmed (suc i) few = two.upper_trimmed

    flexible : (i : ℕ) → suc i < 2 → (l : ℕ) × IsFlexibleWithin problem (level_of two.lower two.upper (suc i)) (level_of two.lower two.upper i) l
    flexible zero few = (two.l, two.flexible)
    flexible (suc i) few = absurd (omega (arith, few))

-- it takes the order of N
pub linear : (problem : Problem) → IsProblem problem → IsFlexibility problem (Length 1) → IsAboveLinear problem × IsBelowLinear problem
linear problem is (least, length, none) =
    let (level, levels) = length.levels in
    let (x, first) = levels.some 0 (omega arith) in
    (above_linear problem is (λ two. length.greatest (two_levels problem two)), below_linear problem (level 0) x is (levels.trimmed 0 (omega arith)) first)

-- ---- flexible sets
-- where no set is flexible the order of log N is a bound below on finite forests, and no number of rounds is enough with port numbers alone
module _ (gap : NotFlexibleLaw) (problem : Problem) (k : ℕ) (is : IsProblem problem) (length : IsFlexibility problem (Length k)) where
  pub above_not_flexible : IsAboveLogOnForests problem
  above_not_flexible = gap problem is (λ (set, l, flexible). length.2 set (l, flexible))

  pub never_not_flexible : Holds Never problem
  never_not_flexible = λ S solvable. (apart problem).1 ((weaker problem).0 ((constant_forests problem is).1 (S, solvable))) above_not_flexible
