-- What is known of a problem on finite forests, and what its levels of labels tell.
use Rattle.std.proofs.Common.{◌≡◌, ℕ, Bool, List, refl, sym, ap, subst, eq-eqb, Option, None, Some}
use Rattle.std.specs.Prelude.{IfSome, IsSome, ◌==◌, if◌then◌else◌}
use Rattle.re_classes.proofs.Decided.{above_log_star}
use Rattle.re_classes.specs.Classes.{IsAboveLogStar, IsMoreThanConstant}
use Rattle.re_flexible.specs.Lengths.{IsFlexibility}
use Rattle.re_flexible.specs.declared.levels.Flexibility.{Flexibility}
use Rattle.re_flexible.specs.declared.levels.Flexibility.TheVariants.{Length, NoSolution}
use Rattle.re_flexible.specs.declared.levels.Flexibility.TheVariants as flexibility
use Rattle.re_forests.proofs.BoundsAbove.{below as below_forests, never as no_solution}
use Rattle.re_forests.proofs.BoundsBelow.{above as above_forests}
use Rattle.re_forests.proofs.InViews.{never as nothing_left}
use Rattle.re_gap.specs.Laws.{AboveLogOnViewsLaw, NotFlexibleLaw}
use Rattle.re_labels.proofs.Tests.{eqb-apart}
use Rattle.re_problem.specs.NamedProblems.{NamedProblem, unnamed}
use Rattle.re_problem.specs.Problems.{IsProblem, Problem}
use Rattle.re_settle.proofs.Counts.{never_counts, zero_claimed}
use Rattle.re_settle.proofs.Known.{flexible_known}
use Rattle.re_evidence.proofs.Forests.{bounded, claim_on_forests, constant_on_forests, flexible_below, least_on_forests, linear}
use Rattle.re_evidence.proofs.Local.{claim_local}
use Rattle.re_settle.proofs.Local.{fixed_found, nothing_further}
use Rattle.re_evidence.specs.Claims.{Holds, within}
use Rattle.re_evidence.specs.Classes.{ClassHolds, LeastHolds, MostHolds, bounded_class}
use Rattle.re_settle.specs.Classes.{above_with, class_of, least_of, never_class}
use Rattle.re_evidence.specs.OnForests.{ClassOnForests, MayBeBelow, MostOnForests, most_of}
use Rattle.re_settle.specs.Levels.{above_of, further_ahead, length_of}
use Rattle.re_settle.specs.Ways.{IsFound, IsFoundFurther, IsSettled}
use Rattle.re_settle.specs.declared.types.Classified.{Classified}
use Rattle.re_settle.specs.declared.types.Further.{Further}
use Rattle.re_settle.specs.declared.types.Further.TheVariants as further
use Rattle.re_evidence.specs.declared.types.Claim.TheVariants.{Exactly, MoreThan, Never}
use Rattle.re_evidence.specs.declared.types.Class.TheVariants as class
use Rattle.re_evidence.specs.declared.types.Least.{Least}
use Rattle.re_evidence.specs.declared.types.Least.TheVariants as least
use Rattle.re_evidence.specs.declared.types.Most.{Most}
use Rattle.re_evidence.specs.declared.types.Most.TheVariants as most
use Rattle.re_settle.specs.declared.types.Settled.{Settled}
use Rattle.re_settle.specs.declared.types.Settled.TheVariants as settled
use Rattle.re_settle.specs.declared.types.Way.{Way}
use Rattle.re_settle.specs.declared.types.Way.TheVariants.{Flexible}

-- what levels tell besides
abbrev linear_ahead : Further
linear_ahead = further.Linear

abbrev nothing_ahead : Further
nothing_ahead = further.Nothing

-- ---- what is found
-- what no number of rounds solves with port numbers alone
never_local : (problem : NamedProblem) → IsProblem (unnamed problem) → Holds Never (unnamed problem) → IsAboveLogStar (unnamed problem) × IsMoreThanConstant (unnamed problem)
never_local problem is never = (above_log_star (unnamed problem) is never, claim_local (unnamed problem) is Never never)

unsolvable_found : (times : ℕ) (problem : NamedProblem) → IsProblem (unnamed problem) → IsFlexibility (unnamed problem) NoSolution → IsFound times problem settled.Unsolvable
unsolvable_found times problem is none =
    let never : Holds Never (unnamed problem) = λ T. nothing_left (unnamed problem) T is none in
    record {
      shown = none;
      holds = never;
      class = never_local problem is never;
      counted = never_counts problem is never;
      fixed = λ shows. refl;
      closed = λ steps few within shows. refl;
    }

-- one level alone
linear_further : (times : ℕ) (problem : NamedProblem) → IsProblem (unnamed problem) → IsFound times problem (settled.Never Flexible) → IsFlexibility (unnamed problem) (Length 1)
    → IsFoundFurther times problem (settled.Never Flexible) further.Linear
linear_further times problem is found one = record { shown = one; class = never_local problem is found.holds; above = tt }

-- two bounds without one above say what the one below says
least_back : (problem : Problem) (least : Least) → ClassHolds (bounded_class least None) problem → LeastHolds least problem
least_back problem (least.MoreThan k) holds = holds
least_back problem least.LogStar holds = holds
least_back problem least.Log holds = holds

-- what no number of rounds solves
never_class_on_forests : (times : ℕ) (problem : NamedProblem) (way : Way) (further : Further) (above : Option Most) → IsProblem (unnamed problem)
    → IsFoundFurther times problem (settled.Never way) further → MayBeBelow above (unnamed problem) → ClassOnForests (never_class way further above) (unnamed problem)
never_class_on_forests times problem way further.Nothing above is found high =
    bounded (unnamed problem) is (least_of way) above (least_on_forests (unnamed problem) is (least_of way) (least_back (unnamed problem) (least_of way) found.class)) high
never_class_on_forests times problem way further.Linear above is found high = linear (unnamed problem) is found.shown
never_class_on_forests times problem way (further.FewColours coloured) above is found high =
    ((above_forests (unnamed problem) is).0 found.class.0, below_forests (unnamed problem) is found.class.1)
never_class_on_forests times problem way further.Greedy above is found high =
    ((above_forests (unnamed problem) is).0 found.class.0, below_forests (unnamed problem) is found.class.1)
never_class_on_forests times problem way (further.FixedPoint later) above is found high =
    bounded (unnamed problem) is least.Log above ((above_forests (unnamed problem) is).1 found.class) high

-- the bound above that is found, or else the one that is known
above_on_forests : (problem : Problem) (further : Further) (above : Option Most) → IsProblem problem → IfSome (above_with further None) (λ (most : Most). MostHolds most problem)
    → MayBeBelow above problem → MayBeBelow (above_with further above) problem
above_on_forests problem further.Nothing above is found high = high
above_on_forests problem further.Linear above is found high = high
above_on_forests problem (further.FewColours coloured) above is found high = below_forests problem is found
above_on_forests problem further.Greedy above is found high = below_forests problem is found
above_on_forests problem (further.FixedPoint later) above is found high = high

-- the class on forests
class_on_forests : (times : ℕ) (problem : NamedProblem) (settled : Settled) (further : Further) (above : Option Most) → IsProblem (unnamed problem) → IsFound times problem settled
    → IsFoundFurther times problem settled further → MayBeBelow above (unnamed problem) → ClassOnForests (class_of settled further above) (unnamed problem)
class_on_forests times problem settled.Unsolvable further above is found besides high = no_solution (unnamed problem) is found.shown
class_on_forests times problem (settled.Exactly shown) further above is found besides high = constant_on_forests (unnamed problem) is (Exactly shown.rounds) found.holds found.class
class_on_forests times problem (settled.Never way) further above is found besides high = never_class_on_forests times problem way further above is besides high
class_on_forests times problem (settled.Within more None) further above is found besides high =
    bounded (unnamed problem) is (least.MoreThan more.rounds) (above_with further above) (claim_on_forests (unnamed problem) is (MoreThan more.rounds) found.holds found.class)
    (above_on_forests (unnamed problem) further above is besides.above high)
class_on_forests times problem (settled.Within more (Some most)) further above is found besides high =
    constant_on_forests (unnamed problem) is (within more.rounds most.rounds) found.holds found.class

-- ---- what is known
pub unsolvable_settled : (times : ℕ) (problem : NamedProblem) → IsProblem (unnamed problem) → IsFlexibility (unnamed problem) NoSolution
    → IsSettled times problem (record { settled = settled.Unsolvable; further = further.Nothing; above = None; length = None })
unsolvable_settled times problem is none =
    let found : IsFound times problem settled.Unsolvable = unsolvable_found times problem is none in
    let besides = nothing_further times problem settled.Unsolvable found in
    record {
      found = found;
      besides = besides;
      forests = class_on_forests times problem settled.Unsolvable further.Nothing None is found besides tt;
      flexibility = NoSolution;
      decided = none;
      ahead = refl;
      further_ahead = refl;
      above = refl;
      length = refl;
      at_once = zero_claimed problem settled.Unsolvable found.holds;
    }

-- where no set is flexible
module _ (gap : NotFlexibleLaw) (views : AboveLogOnViewsLaw) (times : ℕ) (problem : NamedProblem) (count : ℕ) (is : IsProblem (unnamed problem)) (counted : IsFlexibility (unnamed problem) (Length count)) where
  not_flexible_found : IsFound times problem (settled.Never Flexible)
  not_flexible_found = fixed_found times problem Flexible is (flexible_known gap views times problem count is counted)

  levelled_with : (more : Further) (length : Option ℕ) → IsFoundFurther times problem (settled.Never Flexible) more → more ≡ (if count == 1 then linear_ahead else nothing_ahead)
      → length ≡ length_of (unnamed problem) (Length count) → IsSettled times problem (record { settled = settled.Never Flexible; further = more; above = None; length = length })
  levelled_with more length besides ahead length_is = record {
    found = not_flexible_found;
    besides = besides;
    forests = class_on_forests times problem (settled.Never Flexible) more None is not_flexible_found besides tt;
    flexibility = Length count;
    decided = counted;
    ahead = refl;
    further_ahead = ahead;
    above = refl;
    length = length_is;
    at_once = zero_claimed problem (settled.Never Flexible) not_flexible_found.holds;
  }

  pub one_level_settled : (length : Option ℕ) → count ≡ 1 → length ≡ length_of (unnamed problem) (Length count)
      → IsSettled times problem (record { settled = settled.Never Flexible; further = further.Linear; above = None; length = length })
  one_level_settled length one length_is =
      levelled_with further.Linear length (linear_further times problem is not_flexible_found (subst (λ k. IsFlexibility (unnamed problem) (Length k)) one counted))
      (ap (λ (b : Bool). if b then linear_ahead else nothing_ahead) (sym (eq-eqb count 1 one))) length_is

  pub levels_settled : (length : Option ℕ) → (count ≡ 1 → ⊥) → length ≡ length_of (unnamed problem) (Length count)
      → IsSettled times problem (record { settled = settled.Never Flexible; further = further.Nothing; above = None; length = length })
  levels_settled length more length_is =
      levelled_with further.Nothing length (nothing_further times problem (settled.Never Flexible) not_flexible_found)
      (ap (λ (b : Bool). if b then linear_ahead else nothing_ahead) (sym (eqb-apart count 1 more))) length_is

pub flexible_settled : (times : ℕ) (problem : NamedProblem) (settled : Settled) (further : Further) (most : Most) (set : List ℕ) → IsProblem (unnamed problem)
    → IsFlexibility (unnamed problem) (flexibility.Flexible set) → IsFound times problem settled → IsFoundFurther times problem settled further → most ≡ most_of (unnamed problem)
    → IsSettled times problem (record { settled = settled; further = further; above = Some most; length = None })
flexible_settled times problem settled further most set is flexible found besides most_is =
    let high : MostOnForests most (unnamed problem) = subst (λ m. MostOnForests m (unnamed problem)) (sym most_is) (flexible_below (unnamed problem) is set flexible.flexible) in
    record {
      found = found;
      besides = besides;
      forests = class_on_forests times problem settled further (Some most) is found besides high;
      flexibility = flexibility.Flexible set;
      decided = flexible;
      ahead = tt;
      further_ahead = tt;
      above = ap Some most_is;
      length = refl;
      at_once = zero_claimed problem settled found.holds;
    }

-- ---- more of the class
abbrev none_above : Option Most
none_above = None

-- a bound above is that of a flexible set
above_holds : (problem : Problem) (above : Option Most) (decided : Flexibility) → IsProblem problem → IsFlexibility problem decided → above ≡ above_of problem decided → MayBeBelow above problem
above_holds problem above (flexibility.Flexible set) is flexible e = subst (λ (a : Option Most). MayBeBelow a problem) (sym e) (flexible_below problem is set flexible.flexible)
above_holds problem above (Length count) is levels e = subst (λ (a : Option Most). MayBeBelow a problem) (sym e) tt
above_holds problem above NoSolution is none e = subst (λ (a : Option Most). MayBeBelow a problem) (sym e) tt

-- where there is one, levels tell nothing more of the class
open_ahead : (problem : Problem) (above : Option Most) (decided : Flexibility) (more : Further) → IsSome above → above ≡ above_of problem decided
    → IfSome (further_ahead decided) (λ ahead. more ≡ ahead)
open_ahead problem above (flexibility.Flexible set) more some e = tt
open_ahead problem above (Length count) more some e = absurd (let wrong : IsSome none_above = subst IsSome e some in cc)
open_ahead problem above NoSolution more some e = absurd (let wrong : IsSome none_above = subst IsSome e some in cc)

-- more of the class of a problem with a flexible set
pub further_settled : (times : ℕ) (problem : NamedProblem) (classified : Classified) (more : Further) → IsProblem (unnamed problem) → IsSettled times problem classified → IsSome classified.above
    → IsFoundFurther times problem classified.settled more
    → IsSettled times problem (record { settled = classified.settled; further = more; above = classified.above; length = classified.length })
further_settled times problem classified more is known some besides =
    let high : MayBeBelow classified.above (unnamed problem) = above_holds (unnamed problem) classified.above known.flexibility is known.decided known.above in
    record {
      found = known.found;
      besides = besides;
      forests = class_on_forests times problem classified.settled more classified.above is known.found besides high;
      flexibility = known.flexibility;
      decided = known.decided;
      ahead = known.ahead;
      further_ahead = open_ahead (unnamed problem) classified.above known.flexibility more some known.above;
      above = known.above;
      length = known.length;
      at_once = known.at_once;
    }
