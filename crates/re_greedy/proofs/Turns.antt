-- One turn: nodes of one colour put out their labels, in two hops.
use Rattle.std.proofs.Common.{◌≡◌, ℕ, suc, ◌+◌, ◌-◌, ◌<◌, Bool, true, false, eqb, List, [], length, get_or, refl, sym, subst, arith}
use Rattle.std.specs.Prelude.{Contains}
use Rattle.re_greedy.proofs.Stages.{stage, stage_active, stage_passive}
use Rattle.re_given.specs.Given.{SolvableGiven}
use Rattle.re_given.specs.Inputs.{IsInput}
use Rattle.re_greedy.proofs.ActiveTurns.{allowed}
use Rattle.re_greedy.proofs.Hops.{SolvableGiven-hops}
use Rattle.re_greedy.proofs.PassiveTurns.{tell}
use Rattle.re_greedy.proofs.Told.{L, sets, told, wide, wide_itself, wide_there}
use Rattle.re_greedy.specs.Greedy.{IsGreedy}
use Rattle.re_labels.proofs.Membership.{AllByRecursion-contains}
use Rattle.re_labels.proofs.LabelPlaces.{get-place_of, place_of-below}
use Rattle.re_labels.proofs.Tests.{eqb-same, eqb-true}
use Rattle.re_labels.specs.Lists.{place_of}
use Rattle.re_problem.specs.Problems.{IsProblem, Problem}
use Rattle.re_labels.specs.Constraints.{Constraint}

module _ (problem : Problem) (partial : List (List ℕ)) (c q : ℕ) (is : IsProblem problem) (greedy : IsGreedy problem partial) (turn : q < c) where
  abbrev n : ℕ
  n = problem.labels

  abbrev member : Constraint
  member = record { degree = problem.passive.degree; configs = partial }

  abbrev most : ℕ
  most = L problem partial c q

  abbrev told_here : ℕ → List ℕ
  told_here = told problem partial c q

  abbrev wide_here : ℕ → List ℕ
  wide_here = wide problem partial c q

  abbrev sets_here : ℕ → List ℕ
  sets_here = sets problem partial c q

  -- an active node may be told something
  some_told : (config : List ℕ) (x : ℕ) → Contains (stage problem partial c q).active.configs config → Contains config x → 0 < length (wide_here x)
  some_told config x held at = by (eqb x (n + q)) refl
    where
      some_in : (s : List ℕ) (y : ℕ) → Contains s y → 0 < length s
      some_in s y (j, l, e) = omega (arith, l)

      low_x : x < n + c
      low_x = AllByRecursion-contains (λ z. z < n + c) config x (stage_active problem partial c q config held).0.below at

      by : (b : Bool) → eqb x (n + q) ≡ b → 0 < length (wide_here x)
      by true same =
          let x_is : x ≡ n + q = eqb-true x (n + q) same in
          let first : Contains partial [] = greedy.none in
          let l = place_of-below partial [] first in
          let back : n + c + place_of partial [] - (n + c) ≡ place_of partial [] = omega arith in
          let told_none : told_here (n + c + place_of partial []) ≡ [] = subst (λ k. get_or partial k [] ≡ []) (sym back) (get-place_of partial [] first) in
          let least = is.passive.least in
          let some : 0 < problem.passive.degree = omega (arith, least) in
          subst (λ x. 0 < length (wide_here x)) (sym x_is)
          (some_in (wide_here (n + q)) (n + c + place_of partial []) (wide_there problem partial c q (n + c + place_of partial []) (omega arith) (omega (arith, l)) (subst (λ s. length s < problem.passive.degree) (sym told_none) some)))
      by false apart =
          let other : x ≡ n + q → ⊥ = λ f. (let one : eqb x (n + q) ≡ true = subst (λ w. eqb x w ≡ true) f (eqb-same x) in absurd (cc)) in
          some_in (wide_here x) x (wide_itself problem partial c q x other low_x)

  pub SolvableGiven-turn : (input : Problem) (T : ℕ) → IsInput (stage problem partial c (suc q)) input → SolvableGiven (stage problem partial c q) input T
      → SolvableGiven (stage problem partial c (suc q)) input (suc (suc T))
  SolvableGiven-turn input T =
      SolvableGiven-hops (stage problem partial c (suc q)) (stage problem partial c q) most sets_here wide_here refl refl
      (λ config held. (stage_active problem partial c q config held).0.count)
      (λ config held. (stage_passive problem partial c q config held).0.count)
      some_told (allowed problem partial c q is greedy turn)
      (λ config held. (let (config_is, around) = stage_passive problem partial c q config held in tell problem partial c q is greedy turn config config_is around)) input T
