-- What is known together given an input problem.
use Rattle.std.proofs.Common.{◌≡◌, ℕ, ◌+◌, ◌≤◌, Option, None, Some, arith}
use Rattle.std.specs.Prelude.{IfSome}
use Rattle.re_given.proofs.ChainGiven.{SolvableGiven-up}
use Rattle.re_given.specs.Given.{SolvableGiven}
use Rattle.re_given.specs.Inputs.{IsInput}
use Rattle.re_given_bounds.proofs.IdleHop.{idle_hop}
use Rattle.re_given_bounds.specs.Telling.{TellsPassive}
use Rattle.re_problem.specs.NamedProblems.{NamedProblem, unnamed}
use Rattle.re_problem.specs.Problems.{IsProblem, Problem}
use Rattle.re_evidence.proofs.Together.{within_holds}
use Rattle.re_settings.specs.declared.setting.Setting.TheVariants.{Given}
use Rattle.re_evidence.specs.declared.types.Claim.TheVariants.{AtMost, Exactly, MoreThan, Never}
use Rattle.re_settle.specs.declared.types.Shown.{Shown}
use Rattle.re_settle.specs.declared.types.Way.{Way}
use Rattle.re_settle.specs.GivenWays.{IsKnownGiven, IsSettledGiven}
use Rattle.re_settle.specs.declared.given_types.SettledGiven.TheVariants as settled

pub bounds_settled : (times : ℕ) (problem input : NamedProblem) (more : Shown) (most : Option Shown) → IsKnownGiven times problem input (MoreThan more.rounds) more.way
    → IfSome most (λ (shown : Shown). IsKnownGiven times problem input (AtMost shown.rounds) shown.way) → IsSettledGiven times problem input (settled.Within more most)
bounds_settled times problem input more None lower upper = record { shown = lower.shown; holds = lower.holds }
bounds_settled times problem input more (Some most) lower upper =
    record { shown = (lower.shown, upper.shown); holds = within_holds (Given input) (unnamed problem) more.rounds most.rounds lower.holds upper.holds }

-- where one round more than k is of no use, and k are too few, k + 1 are
beyond : (problem input : Problem) (k rounds : ℕ) → IsProblem problem → IsInput problem input → TellsPassive k input → rounds ≡ k + 1
    → ((T : ℕ) → T ≤ k → SolvableGiven problem input T → ⊥) → (T : ℕ) → T ≤ rounds → SolvableGiven problem input T → ⊥
beyond problem input k rounds is is_input tells next above T few solvable =
    above k (omega arith) ((idle_hop problem input k is is_input tells).0 (SolvableGiven-up problem input T (k + 1) is_input (omega (arith, few, next)) solvable))

pub beyond_settled : (times : ℕ) (problem input : NamedProblem) (rounds : ℕ) (more : Shown) (most : Option Shown) → IsProblem (unnamed problem) → IsInput (unnamed problem) (unnamed input)
    → TellsPassive more.rounds (unnamed input) → rounds ≡ more.rounds + 1 → IsKnownGiven times problem input (MoreThan more.rounds) more.way
    → IfSome most (λ (shown : Shown). IsKnownGiven times problem input (AtMost shown.rounds) shown.way) → IsSettledGiven times problem input (settled.Beyond rounds more most)
beyond_settled times problem input rounds more None is is_input tells next lower upper = record {
  shown = record { next = next; few = lower.shown; tells = tells };
  holds = beyond (unnamed problem) (unnamed input) more.rounds rounds is is_input tells next lower.holds;
}
beyond_settled times problem input rounds more (Some most) is is_input tells next lower upper = record {
  shown = (record { next = next; few = lower.shown; tells = tells }, upper.shown);
  holds = within_holds (Given input) (unnamed problem) rounds most.rounds (beyond (unnamed problem) (unnamed input) more.rounds rounds is is_input tells next lower.holds) upper.holds;
}

-- what is known by one of the words alone
pub never_settled : (times : ℕ) (problem input : NamedProblem) (way : Way) → IsKnownGiven times problem input Never way → IsSettledGiven times problem input (settled.Never way)
never_settled times problem input way known = record { shown = known.shown; holds = known.holds }

pub exactly_settled : (times : ℕ) (problem input : NamedProblem) (shown : Shown) → IsKnownGiven times problem input (Exactly shown.rounds) shown.way → IsSettledGiven times problem input (settled.Exactly shown)
exactly_settled times problem input shown known = record { shown = known.shown; holds = known.holds }

pub most_settled : (times : ℕ) (problem input : NamedProblem) (most : Shown) → IsKnownGiven times problem input (AtMost most.rounds) most.way → IsSettledGiven times problem input (settled.AtMost most)
most_settled times problem input most known = record { shown = known.shown; holds = known.holds }
