-- Facts together, and what follows from them.
use Rattle.std.proofs.Common.{◌≡◌, ℕ, Bool, true, false, refl, subst, arith, Option, None, Some}
use Rattle.std.specs.Prelude.{◌==◌, ◌||◌, IfSome, nat_lt, if◌then◌else◌}
use Rattle.std.proofs.lemmas.Bool.{eqb-true}
use Rattle.re_classes.proofs.Decided.{above_log_star, below_log_star}
use Rattle.re_classes.specs.Classes.{IsAboveLog, IsAboveLogStar, IsBelowLogStar}
use Rattle.re_evidence.proofs.Forests.{above_not_flexible, bounded, claim_on_forests, constant_on_forests, flexible_below, least_on_forests, linear, never_not_flexible}
use Rattle.re_evidence.proofs.Local.{claim_local, constant_class, few_order, least_class}
use Rattle.re_evidence.proofs.Together.{within_holds}
use Rattle.re_evidence.specs.Claims.{Holds, within}
use Rattle.re_evidence.specs.Classes.{ClassHolds, LeastHolds, bounded_class}
use Rattle.re_evidence.specs.Colours.{IsSolvableGivenFew}
use Rattle.re_judging.specs.Facts.{HasFlexibleSet, KnownHolds, KnownLaw, TrueLaw, above_few, above_flexible, bounds_claim, claim_from, class_with, greater_of, least_from, lesser_of, local_class, nothing_known, rounds_class}
use Rattle.re_evidence.specs.OnForests.{ClassOnForests, MayBeBelow}
use Rattle.re_evidence.specs.declared.types.Claim.TheVariants as claim
use Rattle.re_evidence.specs.declared.types.Class.TheVariants as class
use Rattle.re_judging.specs.declared.types.Fact.TheVariants.{AtMost, FewColours, FixedPoint, Flexible, Length, MoreThan, Never, NoSolution, Nothing}
use Rattle.re_judging.specs.declared.types.Known.{Known}
use Rattle.re_evidence.specs.declared.types.Least.{Least}
use Rattle.re_evidence.specs.declared.types.Least.TheVariants as least
use Rattle.re_evidence.specs.declared.types.Most.{Most}
use Rattle.re_evidence.specs.declared.types.Order.TheVariants as order
use Rattle.re_flexible.specs.Lengths.{IsFlexibility}
use Rattle.re_flexible.specs.declared.levels.Flexibility.TheVariants as flexibility
use Rattle.re_forests.proofs.BoundsAbove.{below as below_forests, never as no_solution}
use Rattle.re_forests.proofs.InViews.{never as nothing_left}
use Rattle.re_gap.specs.Laws.{AboveLogOnViewsLaw, NotFlexibleLaw}
use Rattle.re_given_bounds.proofs.EdgeClasses.{edge_coloured}
use Rattle.re_settings.specs.declared.setting.Setting.TheVariants.{Alone}
use Rattle.re_labels.specs.declared.sides.Side.{Side}
use Rattle.re_labels.specs.declared.sides.Side.TheVariants.{Active, Passive}
use Rattle.re_laws.specs.Algorithms.{Solvable}
use Rattle.re_local.specs.SeparatingLaws.{IsBeyondLocal}
use Rattle.re_problem.specs.Problems.{IsProblem, Problem}

-- ---- facts together
greater_holds : (P : ℕ → Type 0) (known : Option ℕ) (k : ℕ) → IfSome known P → P k → P (greater_of known k)
greater_holds P None k all here = here
greater_holds P (Some j) k all here = go (nat_lt k j)
  where
    go : (b : Bool) → P (if b then j else k)
    go true = all
    go false = here

lesser_holds : (P : ℕ → Type 0) (known : Option ℕ) (k : ℕ) → IfSome known P → P k → P (lesser_of known k)
lesser_holds P None k all here = here
lesser_holds P (Some j) k all here = go (nat_lt j k)
  where
    go : (b : Bool) → P (if b then j else k)
    go true = all
    go false = here

one_level : (problem : Problem) (linear : Bool) (k : ℕ) → (linear ≡ true → IsFlexibility problem (flexibility.Length 1)) → IsFlexibility problem (flexibility.Length k)
    → (linear || (k == 1)) ≡ true → IsFlexibility problem (flexibility.Length 1)
one_level problem true k before length is = before refl
one_level problem false k before length is = subst (λ n. IsFlexibility problem (flexibility.Length n)) (eqb-true k 1 is) length

pub with_holds : NotFlexibleLaw → AboveLogOnViewsLaw → KnownLaw
with_holds gap views problem known (MoreThan k) is holds fact =
    record {
      more = greater_holds (λ j. Holds (claim.MoreThan j) problem) known.more k holds.more fact;
      most = holds.most;
      never = holds.never;
      log = holds.log;
      few = holds.few;
      flexible = holds.flexible;
      linear = holds.linear;
      unsolvable = holds.unsolvable;
    }
with_holds gap views problem known (AtMost m) is holds fact =
    record {
      more = holds.more;
      most = lesser_holds (λ j. Holds (claim.AtMost j) problem) known.most m holds.most fact;
      never = holds.never;
      log = holds.log;
      few = holds.few;
      flexible = holds.flexible;
      linear = holds.linear;
      unsolvable = holds.unsolvable;
    }
with_holds gap views problem known Never is holds fact =
    record { more = holds.more; most = holds.most; never = λ e. fact; log = holds.log; few = holds.few; flexible = holds.flexible; linear = holds.linear; unsolvable = holds.unsolvable }
with_holds gap views problem known FixedPoint is holds fact =
    record { more = holds.more; most = holds.most; never = λ e. fact.0; log = λ e. fact.1; few = holds.few; flexible = holds.flexible; linear = holds.linear; unsolvable = holds.unsolvable }
with_holds gap views problem known (FewColours side) is holds fact =
    record { more = holds.more; most = holds.most; never = holds.never; log = holds.log; few = fact; flexible = holds.flexible; linear = holds.linear; unsolvable = holds.unsolvable }
with_holds gap views problem known Flexible is holds fact =
    record { more = holds.more; most = holds.most; never = holds.never; log = holds.log; few = holds.few; flexible = λ e. fact; linear = holds.linear; unsolvable = holds.unsolvable }
with_holds gap views problem known (Length k) is holds fact =
    record {
      more = holds.more;
      most = holds.most;
      never = λ e. never_not_flexible gap problem k is fact;
      log = λ e. views problem is (above_not_flexible gap problem k is fact);
      few = holds.few;
      flexible = holds.flexible;
      linear = one_level problem known.linear k holds.linear fact;
      unsolvable = holds.unsolvable;
    }
with_holds gap views problem known NoSolution is holds fact =
    record {
      more = holds.more;
      most = holds.most;
      never = λ e T. nothing_left problem T is fact;
      log = holds.log;
      few = holds.few;
      flexible = holds.flexible;
      linear = holds.linear;
      unsolvable = λ e. fact;
    }
with_holds gap views problem known Nothing is holds fact = holds

no_more : false ≡ true → ⊥
no_more e = cc

pub nothing_holds : (problem : Problem) → KnownHolds nothing_known problem
nothing_holds problem = record {
  more = tt;
  most = tt;
  never = λ e. absurd (no_more e);
  log = λ e. absurd (no_more e);
  few = tt;
  flexible = λ e. absurd (no_more e);
  linear = λ e. absurd (no_more e);
  unsolvable = λ e. absurd (no_more e);
}

-- ---- claims
at_most : (problem : Problem) (m : ℕ) → Solvable problem m → Holds (if m == 0 then claim.Exactly 0 else claim.AtMost m) problem
at_most problem m solvable = go (m == 0) refl
  where
    go : (b : Bool) → (m == 0) ≡ b → Holds (if b then claim.Exactly 0 else claim.AtMost m) problem
    go true zero = (subst (Solvable problem) (eqb-true m 0 zero) solvable, λ T few solves. absurd (omega (arith, few)))
    go false some = solvable

bounds_hold : (problem : Problem) (more most : Option ℕ) → IfSome more (λ k. Holds (claim.MoreThan k) problem) → IfSome most (λ m. Holds (claim.AtMost m) problem)
    → IfSome (bounds_claim more most) (λ c. Holds c problem)
bounds_hold problem None None low high = tt
bounds_hold problem (Some k) None low high = low
bounds_hold problem None (Some m) low high = at_most problem m high
bounds_hold problem (Some k) (Some m) low high = within_holds Alone problem k m low high

claim_true : (problem : Problem) (known : Known) → KnownHolds known problem → IfSome (claim_from known) (λ c. Holds c problem)
claim_true problem known holds = go known.never holds.never
  where
    go : (b : Bool) → (b ≡ true → Holds claim.Never problem) → IfSome (if b then Some claim.Never else bounds_claim known.more known.most) (λ c. Holds c problem)
    go true never = never refl
    go false never = bounds_hold problem known.more known.most holds.more holds.most

-- ---- bounds above
module _ (problem : Problem) (is : IsProblem problem) where
  few_below : (side : Side) → IsSolvableGivenFew side problem → IsBelowLogStar problem
  few_below Active solvable = below_log_star problem is solvable
  few_below Passive solvable = edge_coloured problem is solvable

  flexible_above : (flexible : Bool) → (flexible ≡ true → HasFlexibleSet problem) → MayBeBelow (above_flexible problem flexible) problem
  flexible_above true has = let (set, flexible) = has refl in flexible_below problem is set flexible
  flexible_above false has = tt

  above_true : (few : Option Side) (other : Option Most) → IfSome few (λ side. IsSolvableGivenFew side problem) → MayBeBelow other problem → MayBeBelow (above_few few other) problem
  above_true (Some side) other solvable high = below_forests problem is (few_below side solvable)
  above_true None other solvable high = high

  -- ---- bounds below
  least_true : (log : Bool) → (log ≡ true → IsAboveLog problem) → Holds claim.Never problem → LeastHolds (least_from log) problem
  least_true true above never = above refl
  least_true false above never = above_log_star problem is never

  -- ---- classes on finite forests
  constant_forests_true : (more : Option ℕ) (m : ℕ) → IfSome more (λ k. Holds (claim.MoreThan k) problem) → Solvable problem m
      → IfSome (bounds_claim more (Some m)) (λ c. ClassOnForests (class.Constant c) problem × ClassHolds (class.Constant c) problem)
  constant_forests_true None m low solvable =
      let holds = at_most problem m solvable in
      let local = constant_class problem is (if m == 0 then claim.Exactly 0 else claim.AtMost m) m solvable holds in
      (constant_on_forests problem is (if m == 0 then claim.Exactly 0 else claim.AtMost m) holds local, local)
  constant_forests_true (Some k) m low solvable =
      let holds = within_holds Alone problem k m low solvable in
      let local = constant_class problem is (within k m) m solvable holds in
      (constant_on_forests problem is (within k m) holds local, local)

  rounds_forests : (more most : Option ℕ) (above : Option Most) → IfSome more (λ k. Holds (claim.MoreThan k) problem) → IfSome most (λ m. Holds (claim.AtMost m) problem)
      → MayBeBelow above problem → IfSome (rounds_class more most above) (λ c. ClassOnForests c problem)
  rounds_forests None (Some m) above low solvable high = (constant_forests_true None m low solvable).0
  rounds_forests (Some k) (Some m) above low solvable high = (constant_forests_true (Some k) m low solvable).0
  rounds_forests (Some k) None above low solvable high =
      bounded problem is (least.MoreThan k) above (claim_on_forests problem is (claim.MoreThan k) low (claim_local problem is (claim.MoreThan k) low)) high
  rounds_forests None None (Some most) low solvable high = high
  rounds_forests None None None low solvable high = tt

  never_forests : (log : Bool) (above : Option Most) → (log ≡ true → IsAboveLog problem) → Holds claim.Never problem → MayBeBelow above problem
      → ClassOnForests (bounded_class (least_from log) above) problem
  never_forests log above low never high = bounded problem is (least_from log) above (least_on_forests problem is (least_from log) (least_true log low never)) high

  forests_true : (known : Known) (above : Option Most) → KnownHolds known problem → MayBeBelow above problem → IfSome (class_with known above) (λ c. ClassOnForests c problem)
  forests_true known above holds high = go known.unsolvable holds.unsolvable known.linear holds.linear known.never holds.never
    where
      go : (u : Bool) → (u ≡ true → IsFlexibility problem flexibility.NoSolution) → (l : Bool) → (l ≡ true → IsFlexibility problem (flexibility.Length 1))
          → (n : Bool) → (n ≡ true → Holds claim.Never problem)
          → IfSome (if u then Some class.NoSolution else if l then Some (class.Order order.Linear) else if n then Some (bounded_class (least_from known.log) above) else rounds_class known.more known.most above)
          (λ c. ClassOnForests c problem)
      go true none l one n never = no_solution problem is (none refl)
      go false none true one n never = linear problem is (one refl)
      go false none false one true never = never_forests known.log above holds.log (never refl) high
      go false none false one false never = rounds_forests known.more known.most above holds.more holds.most high

  -- ---- classes of local algorithms
  few_local : (l : Least) (few : Option Side) → Holds claim.Never problem → LeastHolds l problem → IfSome few (λ side. IsSolvableGivenFew side problem)
      → ClassHolds (bounded_class l (above_few few None)) problem
  few_local l None never low solvable = least_class problem l low
  few_local (least.MoreThan k) (Some side) never low solvable = low
  few_local least.LogStar (Some side) never low solvable = few_order side problem is never solvable
  few_local least.Log (Some side) never low solvable = low

  rounds_local : (more most : Option ℕ) (few : Option Side) → IfSome more (λ k. Holds (claim.MoreThan k) problem) → IfSome most (λ m. Holds (claim.AtMost m) problem)
      → IfSome few (λ side. IsSolvableGivenFew side problem) → IfSome (rounds_class more most (above_few few None)) (λ c. ClassHolds c problem)
  rounds_local None (Some m) few low high solvable = (constant_forests_true None m low high).1
  rounds_local (Some k) (Some m) few low high solvable = (constant_forests_true (Some k) m low high).1
  rounds_local (Some k) None few low high solvable = claim_local problem is (claim.MoreThan k) low
  rounds_local None None (Some side) low high solvable = few_below side solvable
  rounds_local None None None low high solvable = tt

  never_both : Holds claim.Never problem → IsAboveLogStar problem × ((T : ℕ) → IsBeyondLocal problem T)
  never_both never = (above_log_star problem is never, claim_local problem is claim.Never never)

  local_true : NotFlexibleLaw → (known : Known) → KnownHolds known problem → IfSome (local_class known) (λ c. ClassHolds c problem)
  local_true gap known holds = go known.unsolvable holds.unsolvable known.linear holds.linear known.never holds.never
    where
      go : (u : Bool) → (u ≡ true → IsFlexibility problem flexibility.NoSolution) → (l : Bool) → (l ≡ true → IsFlexibility problem (flexibility.Length 1))
          → (n : Bool) → (n ≡ true → Holds claim.Never problem)
          → IfSome (if u then Some class.NoSolution else if l then Some (class.Order order.Linear) else if n then Some (bounded_class (least_from known.log) (above_few known.few None))
          else rounds_class known.more known.most (above_few known.few None)) (λ c. ClassHolds c problem)
      go true none l one n never = never_both (λ T. nothing_left problem T is (none refl))
      go false none true one n never = never_both (never_not_flexible gap problem 1 is (one refl))
      go false none false one true never = few_local (least_from known.log) known.few (never refl) (least_true known.log holds.log (never refl)) holds.few
      go false none false one false never = rounds_local known.more known.most known.few holds.more holds.most holds.few

-- ---- all of it
pub all_true : NotFlexibleLaw → TrueLaw
all_true gap problem known is holds = record {
  claim = claim_true problem known holds;
  forests = forests_true problem is known (above_few known.few (above_flexible problem known.flexible)) holds
      (above_true problem is known.few (above_flexible problem known.flexible) holds.few (flexible_above problem is known.flexible holds.flexible));
  local = local_true problem is gap known holds;
}
