-- What parts of evidence say of a problem, and what follows from them together.
use Rattle.std.specs.Prelude.{◌≡◌, ℕ, ◌==◌, nat_lt, Bool, true, false, ◌||◌, IfSome, if◌then◌else◌, List, Option, None, Some, option_map}
use Rattle.re_classes.specs.Classes.{IsAboveLog}
use Rattle.re_evidence.specs.Claims.{Holds, within}
use Rattle.re_evidence.specs.Classes.{ClassHolds, bounded_class}
use Rattle.re_evidence.specs.Colours.{IsSolvableGivenFew}
use Rattle.re_evidence.specs.OnForests.{ClassOnForests, most_of}
use Rattle.re_evidence.specs.declared.types.Claim.{Claim}
use Rattle.re_evidence.specs.declared.types.Claim.TheVariants as claim
use Rattle.re_evidence.specs.declared.types.Class.{Class}
use Rattle.re_evidence.specs.declared.types.Class.TheVariants as class
use Rattle.re_judging.specs.declared.types.Fact.{Fact}
use Rattle.re_judging.specs.declared.types.Fact.TheVariants.{AtMost, FewColours, FixedPoint, Flexible, Length, MoreThan, Never, NoSolution, Nothing}
use Rattle.re_judging.specs.declared.types.Known.{Known}
use Rattle.re_evidence.specs.declared.types.Least.{Least}
use Rattle.re_evidence.specs.declared.types.Least.TheVariants as least
use Rattle.re_evidence.specs.declared.types.Most.{Most}
use Rattle.re_evidence.specs.declared.types.Most.TheVariants as most
use Rattle.re_evidence.specs.declared.types.Order.TheVariants as order
use Rattle.re_flexible.specs.Lengths.{IsFlexibility, IsFlexibleSet}
use Rattle.re_flexible.specs.declared.levels.Flexibility.TheVariants as flexibility
use Rattle.re_labels.specs.declared.sides.Side.{Side}
use Rattle.re_problem.specs.Problems.{IsProblem, Problem}

-- ---- what they say
-- some set of labels is flexible
abbrev pub HasFlexibleSet : Problem → Type 0
HasFlexibleSet problem = (set : List ℕ) × IsFlexibleSet problem set

-- what a fact says of a problem
abbrev pub FactHolds : Fact → Problem → Type 0
FactHolds (MoreThan k) problem = Holds (claim.MoreThan k) problem
FactHolds (AtMost m) problem = Holds (claim.AtMost m) problem
FactHolds Never problem = Holds claim.Never problem
FactHolds FixedPoint problem = Holds claim.Never problem × IsAboveLog problem
FactHolds (FewColours side) problem = IsSolvableGivenFew side problem
FactHolds Flexible problem = HasFlexibleSet problem
FactHolds (Length k) problem = IsFlexibility problem (flexibility.Length k)
FactHolds NoSolution problem = IsFlexibility problem flexibility.NoSolution
FactHolds Nothing problem = Unit {0}

-- what facts together say of it
pub record KnownHolds (known : Known) (problem : Problem) : Type 0 where
  pub more : IfSome known.more (λ k. Holds (claim.MoreThan k) problem)
  pub most : IfSome known.most (λ m. Holds (claim.AtMost m) problem)
  pub never : known.never ≡ true → Holds claim.Never problem
  pub log : known.log ≡ true → IsAboveLog problem
  pub few : IfSome known.few (λ side. IsSolvableGivenFew side problem)
  pub flexible : known.flexible ≡ true → HasFlexibleSet problem
  pub linear : known.linear ≡ true → IsFlexibility problem (flexibility.Length 1)
  pub unsolvable : known.unsolvable ≡ true → IsFlexibility problem flexibility.NoSolution

-- ---- facts together
-- nothing is known
abbrev pub nothing_known : Known
nothing_known = record { more = None; most = None; never = false; log = false; few = None; flexible = false; linear = false; unsolvable = false }

-- the greater number, and the lesser one, where there is one already
abbrev pub greater_of : Option ℕ → ℕ → ℕ
greater_of None k = k
greater_of (Some j) k = if nat_lt k j then j else k

abbrev pub lesser_of : Option ℕ → ℕ → ℕ
lesser_of None k = k
lesser_of (Some j) k = if nat_lt j k then j else k

-- one fact more: bounds are the best ones; where no set of labels is flexible no number of rounds is enough, and the order of log N is a bound below
abbrev pub with_fact : Known → Fact → Known
with_fact known (MoreThan k) = record {
  more = Some (greater_of known.more k);
  most = known.most;
  never = known.never;
  log = known.log;
  few = known.few;
  flexible = known.flexible;
  linear = known.linear;
  unsolvable = known.unsolvable;
}
with_fact known (AtMost m) = record {
  more = known.more;
  most = Some (lesser_of known.most m);
  never = known.never;
  log = known.log;
  few = known.few;
  flexible = known.flexible;
  linear = known.linear;
  unsolvable = known.unsolvable;
}
with_fact known Never = record {
  more = known.more;
  most = known.most;
  never = true;
  log = known.log;
  few = known.few;
  flexible = known.flexible;
  linear = known.linear;
  unsolvable = known.unsolvable;
}
with_fact known FixedPoint = record {
  more = known.more;
  most = known.most;
  never = true;
  log = true;
  few = known.few;
  flexible = known.flexible;
  linear = known.linear;
  unsolvable = known.unsolvable;
}
with_fact known (FewColours side) = record {
  more = known.more;
  most = known.most;
  never = known.never;
  log = known.log;
  few = Some side;
  flexible = known.flexible;
  linear = known.linear;
  unsolvable = known.unsolvable;
}
with_fact known Flexible = record {
  more = known.more;
  most = known.most;
  never = known.never;
  log = known.log;
  few = known.few;
  flexible = true;
  linear = known.linear;
  unsolvable = known.unsolvable;
}
with_fact known (Length k) = record {
  more = known.more;
  most = known.most;
  never = true;
  log = true;
  few = known.few;
  flexible = known.flexible;
  linear = known.linear || (k == 1);
  unsolvable = known.unsolvable;
}
with_fact known NoSolution = record {
  more = known.more;
  most = known.most;
  never = true;
  log = known.log;
  few = known.few;
  flexible = known.flexible;
  linear = known.linear;
  unsolvable = true;
}
with_fact known Nothing = known

-- ---- what follows
-- the claim of these bounds, where there is one
abbrev pub bounds_claim : Option ℕ → Option ℕ → Option Claim
bounds_claim None None = None
bounds_claim (Some k) None = Some (claim.MoreThan k)
bounds_claim None (Some m) = Some (if m == 0 then claim.Exactly 0 else claim.AtMost m)
bounds_claim (Some k) (Some m) = Some (within k m)

-- what is claimed of rounds with port numbers alone
abbrev pub claim_from : Known → Option Claim
claim_from known = if known.never then Some claim.Never else bounds_claim known.more known.most

-- a bound above: few colours give that of log* N, and else a flexible set the one that it gives
abbrev pub above_few : Option Side → Option Most → Option Most
above_few (Some side) other = Some most.LogStar
above_few None other = other

-- that of a flexible set of the problem
abbrev pub above_flexible : Problem → Bool → Option Most
above_flexible problem flexible = if flexible then Some (most_of problem) else None

-- the bound below where no number of rounds is enough with port numbers alone
abbrev pub least_from : Bool → Least
least_from log = if log then least.Log else least.LogStar

-- the class of these bounds on numbers of rounds, beside a bound above
abbrev pub rounds_class : Option ℕ → Option ℕ → Option Most → Option Class
rounds_class more (Some m) above = option_map class.Constant (bounds_claim more (Some m))
rounds_class (Some k) None above = Some (bounded_class (least.MoreThan k) above)
rounds_class None None above = option_map class.AtMost above

-- the class with unique identifiers, beside this bound above
abbrev pub class_with : Known → Option Most → Option Class
class_with known above =
    if known.unsolvable then Some class.NoSolution
    else if known.linear then Some (class.Order order.Linear)
    else if known.never then Some (bounded_class (least_from known.log) above)
    else rounds_class known.more known.most above

-- the class: on finite forests a flexible set adds a bound above
abbrev pub class_from : Problem → Known → Option Class
class_from problem known = class_with known (above_few known.few (above_flexible problem known.flexible))

-- and the class of local algorithms, of which that bound isn't known
abbrev pub local_class : Known → Option Class
local_class known = class_with known (above_few known.few None)

-- ---- laws
-- what follows is true of a problem of which the facts are
pub record IsTrueOf (known : Known) (problem : Problem) : Type 0 where
  pub claim : IfSome (claim_from known) (λ c. Holds c problem)
  pub forests : IfSome (class_from problem known) (λ c. ClassOnForests c problem)
  pub local : IfSome (local_class known) (λ c. ClassHolds c problem)

-- one fact more that is true
abbrev pub KnownLaw : Type 0
KnownLaw = (problem : Problem) (known : Known) (fact : Fact) → IsProblem problem → KnownHolds known problem → FactHolds fact problem → KnownHolds (with_fact known fact) problem

-- what follows from true facts is true
abbrev pub TrueLaw : Type 0
TrueLaw = (problem : Problem) (known : Known) → IsProblem problem → KnownHolds known problem → IsTrueOf known problem
