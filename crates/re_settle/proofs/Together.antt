-- What is known together.
use Rattle.std.proofs.Common.{◌≡◌, ℕ, suc, ◌+◌, Bool, Option, None, Some, refl, subst, sym, ap, arith, eq-eqb}
use Rattle.std.specs.Prelude.{IfSome, if◌then◌else◌}
use Rattle.re_laws.proofs.ZeroRounds.{Solvable-zero}
use Rattle.re_laws.specs.Algorithms.{Solvable}
use Rattle.re_problem.proofs.ZeroPlaces.{some-place}
use Rattle.re_problem.specs.NamedProblems.{NamedProblem, unnamed}
use Rattle.re_problem.specs.Problems.{IsProblem}
use Rattle.re_problem.specs.Zero.{zero_place}
use Rattle.re_settle.proofs.Counts.{exact_counts}
use Rattle.re_settle.proofs.Fixed.{unfixed_at_once}
use Rattle.re_settle.proofs.Known.{closure_holds}
use Rattle.re_evidence.proofs.Local.{claim_local, constant_class}
use Rattle.re_evidence.proofs.Together.{within_holds}
use Rattle.re_settings.specs.declared.setting.Setting.TheVariants.{Alone}
use Rattle.re_evidence.specs.Claims.{Holds, within}
use Rattle.re_chains.specs.ChainTexts.{problem_chain}
use Rattle.re_settle.specs.Ways.{AnswersClosure, AnswersCount, AnswersFixed, IsFound, IsKnown, IsUnclosed, IsUncounted, IsUnfixed, ShowsZero}
use Rattle.re_evidence.specs.declared.types.Claim.{Claim}
use Rattle.re_evidence.specs.declared.types.Claim.TheVariants.{AtMost, Between, Exactly, MoreThan}
use Rattle.re_settle.specs.declared.types.Settled.{Settled}
use Rattle.re_settle.specs.declared.types.Settled.TheVariants as settled
use Rattle.re_settle.specs.declared.types.Shown.{Shown}
use Rattle.re_settle.specs.declared.types.Way.TheVariants.{Zero}

-- ---- fixed points that would have to be claimed
-- where some number of rounds is enough there are none
exact_closure : (times : ℕ) (problem : NamedProblem) (settled : Settled) (k : ℕ) → Holds (Exactly k) (unnamed problem) → AnswersClosure times problem settled
exact_closure times problem settled k holds steps few within (never, closes) = absurd (closure_holds problem steps closes k holds.0)

none_fixed : (problem : NamedProblem) (settled : Settled) → IsUnfixed problem → AnswersFixed problem settled
none_fixed problem settled unfixed = λ shows. absurd (unfixed shows)

none_closed : (times : ℕ) (problem : NamedProblem) (settled : Settled) → IsUnclosed times 2 (problem_chain problem) → AnswersClosure times problem settled
none_closed times problem settled unclosed steps few within (never, closes) = absurd (unclosed steps few within closes)

-- ---- what is known
-- a problem that is solvable without communication takes no round
pub at_once_settled : (times : ℕ) (problem : NamedProblem) (place : ℕ) → IsProblem (unnamed problem) → zero_place (unnamed problem) ≡ Some place
    → IsFound times problem (settled.Exactly (record { rounds = 0; way = Zero }))
at_once_settled times problem place is fit =
    let solvable : Solvable (unnamed problem) 0 = (Solvable-zero (unnamed problem) is).1 ((some-place (unnamed problem) (Some place) (sym fit)).0 refl) in
    let holds : Holds (Exactly 0) (unnamed problem) = (solvable, λ T few solves. absurd (omega (arith, few))) in
    record {
      shown = record { tried = tt; shows = subst (λ zero. ShowsZero zero (Exactly 0)) (sym fit) refl };
      holds = holds;
      class = constant_class (unnamed problem) is (Exactly 0) 0 solvable holds;
      counted = exact_counts problem (settled.Exactly (record { rounds = 0; way = Zero })) 0 is holds refl;
      fixed = none_fixed problem (settled.Exactly (record { rounds = 0; way = Zero })) (unfixed_at_once problem place fit);
      closed = exact_closure times problem (settled.Exactly (record { rounds = 0; way = Zero })) 0 holds;
    }

-- one number more
pub next_settled : (times : ℕ) (problem : NamedProblem) (more most : Shown) → IsProblem (unnamed problem) → IsUnfixed problem → IsKnown times problem (MoreThan more.rounds) more.way
    → IsKnown times problem (AtMost most.rounds) most.way → most.rounds ≡ more.rounds + 1 → IsFound times problem (settled.Within more (Some most))
next_settled times problem more most is unfixed lower upper next =
    let holds : Holds (within more.rounds most.rounds) (unnamed problem) = within_holds Alone (unnamed problem) more.rounds most.rounds lower.holds upper.holds in
    let one : most.rounds ≡ suc more.rounds = omega (arith, next) in
    let exact : within more.rounds most.rounds ≡ Exactly most.rounds = ap (λ (b : Bool). if b then Exactly most.rounds else Between more.rounds most.rounds) (eq-eqb most.rounds (suc more.rounds) one) in
    let exactly : Holds (Exactly most.rounds) (unnamed problem) = subst (λ (c : Claim). Holds c (unnamed problem)) exact holds in
    record {
      shown = (lower.shown, upper.shown);
      holds = holds;
      class = constant_class (unnamed problem) is (within more.rounds most.rounds) most.rounds upper.holds holds;
      counted = exact_counts problem (settled.Within more (Some most)) most.rounds is exactly exact;
      fixed = none_fixed problem (settled.Within more (Some most)) unfixed;
      closed = exact_closure times problem (settled.Within more (Some most)) most.rounds exactly;
    }

-- what is counted
pub exactly_settled : (times : ℕ) (problem : NamedProblem) (shown : Shown) → IsProblem (unnamed problem) → IsUnfixed problem → IsKnown times problem (Exactly shown.rounds) shown.way
    → IsFound times problem (settled.Exactly shown)
exactly_settled times problem shown is unfixed known =
    record {
      shown = known.shown;
      holds = known.holds;
      class = constant_class (unnamed problem) is (Exactly shown.rounds) shown.rounds known.holds.0 known.holds;
      counted = exact_counts problem (settled.Exactly shown) shown.rounds is known.holds refl;
      fixed = none_fixed problem (settled.Exactly shown) unfixed;
      closed = exact_closure times problem (settled.Exactly shown) shown.rounds known.holds;
    }

none_counted : (problem : NamedProblem) (settled : Settled) → IsUncounted problem → AnswersCount problem settled
none_counted problem settled uncounted = λ rounds counts. absurd (uncounted rounds counts)

pub bounds_settled : (times : ℕ) (problem : NamedProblem) (more : Shown) (most : Option Shown) → IsProblem (unnamed problem) → IsUncounted problem
    → IsUnfixed problem → IsUnclosed times 2 (problem_chain problem) → IsKnown times problem (MoreThan more.rounds) more.way → IfSome most (λ (shown : Shown). IsKnown times problem (AtMost shown.rounds) shown.way)
    → IsFound times problem (settled.Within more most)
bounds_settled times problem more None is uncounted unfixed unclosed lower upper = record {
  shown = lower.shown;
  holds = lower.holds;
  class = claim_local (unnamed problem) is (MoreThan more.rounds) lower.holds;
  counted = none_counted problem (settled.Within more None) uncounted;
  fixed = none_fixed problem (settled.Within more None) unfixed;
  closed = none_closed times problem (settled.Within more None) unclosed;
}
bounds_settled times problem more (Some most) is uncounted unfixed unclosed lower upper =
    let holds : Holds (within more.rounds most.rounds) (unnamed problem) = within_holds Alone (unnamed problem) more.rounds most.rounds lower.holds upper.holds in
    record {
      shown = (lower.shown, upper.shown);
      holds = holds;
      class = constant_class (unnamed problem) is (within more.rounds most.rounds) most.rounds upper.holds holds;
      counted = none_counted problem (settled.Within more (Some most)) uncounted;
      fixed = none_fixed problem (settled.Within more (Some most)) unfixed;
      closed = none_closed times problem (settled.Within more (Some most)) unclosed;
    }
