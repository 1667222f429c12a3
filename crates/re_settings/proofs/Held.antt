-- What bounds hold where the walk at one of their problems comes to an end.
use Rattle.std.proofs.Common.{◌≡◌, ℕ, ◌+◌, ◌-◌, ◌<◌, ◌≤◌, Bool, true, false, not, eqb, ◌∷◌, length, map, refl, sym, ap, ◌∙◌, subst, arith, Option, None, Some}
use Rattle.std.proofs.lemmas.Bool.Decides.{nat_tests}
use Rattle.std.specs.List.{list_all}
use Rattle.std.specs.Prelude.{◌&&◌, if◌then◌else◌, is_none, is_some, nat_le, nat_lt}
use Rattle.re_labels.proofs.Tests.{and-true}
use Rattle.re_labels.specs.Configs.{image_at}
use Rattle.re_problem.specs.ItemSteps.{is_nil}
use Rattle.re_problem.proofs.ZeroPlaces.{some-place}
use Rattle.re_problem.specs.NamedProblems.{IsNamedProblem, NamedProblem, unnamed}
use Rattle.re_problem.specs.Problems.{IsProblem, Problem}
use Rattle.re_problem.specs.Steps.{IsRelaxed}
use Rattle.re_problem.specs.Zero.{Zero, zero_place}
use Rattle.re_cert.specs.Bounds.{Bound, is_bound, is_fixed, is_lower, last_problem, next_problems, one_form, pair_fits, problem_at, renaming_fits, steps_fit}
use Rattle.re_cert.specs.declared.certificate.Kind.{Kind}
use Rattle.re_cert.specs.declared.certificate.Kind.TheVariants.{Fixed, Lower, Upper}
use Rattle.re_cert.specs.declared.certificate.TheConstants.{MAX_STEPS}
use Rattle.re_check.proofs.Meaning.{named-at, named-last, neither, no_end_fault, relaxed_back}
use Rattle.re_check.specs.Verdicts.{bound_fault, end_fault, ends_well, fault_at, fault_or, meets_back, meets_end, steps_fault, verdict_of, verdict_with}
use Rattle.re_check.specs.declared.verdict.ClauseFault.{ClauseFault}
use Rattle.re_check.specs.declared.verdict.Verdict.TheVariants.{Accepted, Refused}
use Rattle.re_check.specs.declared.clause.Clause.{Clause}
use Rattle.re_check.specs.declared.clause.Clause.TheVariants.{Back as Back', End as End'}
use Rattle.re_given.proofs.AvoidedInputs.{loop_given}
use Rattle.re_given.proofs.ChainGiven.{IsInput-lower, IsInput-upper_chain, exchanged_by-add, lower_bound_given, upper_bound_given}
use Rattle.re_given.proofs.SlowGiven.{SolvableGiven-zero}
use Rattle.re_given.proofs.Ungiven.{SolvableGiven-ungiven}
use Rattle.re_given.specs.Given.{ZeroGiven}
use Rattle.re_given.specs.Inputs.{IsInput, exchanged_by}
use Rattle.re_bounds.proofs.BoundChains.{behind-last, lower_between, lower_to, upper_to}
use Rattle.re_bounds.specs.GivenBounds.{IsOver, MeansGiven}
use Rattle.re_laws.proofs.Relaxing.{Solvable-relaxed}
use Rattle.re_laws.proofs.ZeroRounds.{Solvable-zero}
use Rattle.re_laws.specs.Algorithms.{Solvable}
use Rattle.re_laws.specs.Chains.{IsLowerChain}
use Rattle.re_settings.specs.Walks.{input_at}

-- ---- the parts of a bound
parts : (bound : Bound) → is_bound bound ≡ true → (steps_fit bound.kind bound.first bound.steps ≡ true) × (renaming_fits bound ≡ true)
parts bound fits =
    let all = and-true (nat_le (length bound.steps) MAX_STEPS && steps_fit bound.kind bound.first bound.steps && one_form bound.steps) (renaming_fits bound) fits in
    let steps = and-true (nat_le (length bound.steps) MAX_STEPS && steps_fit bound.kind bound.first bound.steps) (one_form bound.steps) all.0 in
    ((and-true (nat_le (length bound.steps) MAX_STEPS) (steps_fit bound.kind bound.first bound.steps) steps.0).1, all.1)

-- a fixed point goes back to a problem before its last step
pub back_before : (bound : Bound) → is_bound bound ≡ true → bound.kind ≡ Fixed → bound.back < length bound.steps
back_before bound fits e =
    let back : nat_lt bound.back (length bound.steps) ≡ true = (and-true (nat_lt bound.back (length bound.steps)) _ (subst (λ k. (if is_fixed k then nat_lt bound.back (length bound.steps) && list_all (pair_fits (last_problem bound) (problem_at bound bound.back)) bound.renaming else eqb bound.back 0 && is_nil bound.renaming) ≡ true) e (parts bound fits).1)).0 in
    grind (arith, nat_tests)

-- the problem behind so many steps is a problem
pub named_at : (bound : Bound) (number : ℕ) → IsOver bound → IsNamedProblem (problem_at bound number)
named_at bound number over = named-at bound.first (bound.first ∷ next_problems bound.steps) number bound.first over.first (over.first, over.next)

-- and the input problem, exchanged as often, is one of it
pub input_there : (bound : Bound) (input : NamedProblem) (number : ℕ) → IsOver bound → number ≤ length bound.steps → steps_fault bound.first 1 bound.steps ≡ None → IsInput (unnamed bound.first) (unnamed input)
    → IsInput (unnamed (problem_at bound number)) (input_at input number)
input_there bound input number over few steps is = go (is_lower bound.kind) refl
  where
    go : (b : Bool) → is_lower bound.kind ≡ b → IsInput (unnamed (problem_at bound number)) (input_at input number)
    go true lower = IsInput-lower (lower_to bound.kind bound.first 1 bound.steps number lower (parts bound over.fits).0 over.next steps few) is
    go false upper = IsInput-upper_chain (upper_to bound.kind bound.first 1 bound.steps number upper (parts bound over.fits).0 over.next steps few) is

module _ (bound : Bound) (input : NamedProblem) (over : IsOver bound) (is : IsInput (unnamed bound.first) (unnamed input)) (steps : steps_fault bound.first 1 bound.steps ≡ None) where
  abbrev ZeroAt : ℕ → Type 0
  ZeroAt number = ZeroGiven (unnamed (problem_at bound number)) (input_at input number)

  -- so many steps of a lower bound hold
  pub lower_holds : is_lower bound.kind ≡ true → (number : ℕ) → number ≤ length bound.steps → (ZeroAt number → ⊥) → MeansGiven Lower number (unnamed bound.first) (unnamed input)
  lower_holds lower number few none T l =
      lower_bound_given over.first.problem is (lower_to bound.kind bound.first 1 bound.steps number lower (parts bound over.fits).0 over.next steps few) none T l

  -- an upper bound holds
  pub upper_holds : is_lower bound.kind ≡ false → ZeroAt (length bound.steps) → MeansGiven Upper (length bound.steps) (unnamed bound.first) (unnamed input)
  upper_holds upper there =
      upper_bound_given is (upper_to bound.kind bound.first 1 bound.steps (length bound.steps) upper (parts bound over.fits).0 over.next steps (omega arith)) there

  -- ---- fixed points
  -- the way to the problem to which it goes back, on to another one, and on to the last one
  record Loop (number : ℕ) : Type 0 where
    j : ℕ
    k : ℕ
    there : bound.back + j ≡ number
    some : 0 < j + k
    to_middle : IsLowerChain (unnamed bound.first) bound.back (unnamed (problem_at bound bound.back))
    onward : IsLowerChain (unnamed (problem_at bound bound.back)) j (unnamed (problem_at bound number))
    last : IsLowerChain (unnamed (problem_at bound number)) k (unnamed (last_problem bound))
    whole : number + k ≡ length bound.steps

  loop_of : bound.kind ≡ Fixed → (number : ℕ) → bound.back ≤ number → number ≤ length bound.steps → Loop number
  loop_of e number low high =
      let lower : is_lower bound.kind ≡ true = ap is_lower e in
      let fit : steps_fit bound.kind bound.first bound.steps ≡ true = (parts bound over.fits).0 in
      let few : bound.back < length bound.steps = back_before bound over.fits e in
      let j : ℕ = number - bound.back in
      let k : ℕ = length bound.steps - number in
      let there : bound.back + j ≡ number = omega arith in
      let whole : number + k ≡ length bound.steps = omega arith in
      record {
        j = j;
        k = k;
        there = there;
        some = omega (arith, few, there, whole);
        to_middle = lower_to bound.kind bound.first 1 bound.steps bound.back lower fit over.next steps (omega (arith, few));
        onward = subst (λ n. IsLowerChain (unnamed (problem_at bound bound.back)) j (unnamed (problem_at bound n))) there (lower_between bound.kind bound.first 1 bound.steps bound.back j lower fit over.next steps (omega (arith, there, high)));
        last = subst (λ (p : NamedProblem). IsLowerChain (unnamed (problem_at bound number)) k (unnamed p)) (behind-last bound.first bound.steps)
            (subst (λ n. IsLowerChain (unnamed (problem_at bound number)) k (unnamed (problem_at bound n))) whole (lower_between bound.kind bound.first 1 bound.steps number k lower fit over.next steps (omega (arith, whole))));
        whole = whole;
      }

  relaxed : meets_back bound ≡ true → IsRelaxed (unnamed (last_problem bound)) (unnamed (problem_at bound bound.back)) (image_at (map (λ (pair : ℕ × ℕ). pair.1) bound.renaming))
  relaxed meets =
      relaxed_back (last_problem bound) (problem_at bound bound.back) bound.renaming (named-last bound.first (next_problems bound.steps) over.first over.next) (named_at bound bound.back over) meets

  -- a fixed point that goes back holds where one of its problems from that to which it goes back on isn't zero
  pub fixed_holds : bound.kind ≡ Fixed → meets_back bound ≡ true → (number : ℕ) → bound.back ≤ number → number ≤ length bound.steps → (ZeroAt number → ⊥)
      → MeansGiven Fixed (length bound.steps) (unnamed bound.first) (unnamed input)
  fixed_holds e meets number low high none T =
      let loop = loop_of e number low high in
      loop_given over.first.problem is loop.to_middle loop.onward loop.last loop.some (relaxed meets)
      (λ zero_there. none (subst (λ n. ZeroGiven (unnamed (problem_at bound number)) (exchanged_by n (unnamed input))) loop.there zero_there)) T

  -- where one of them from that on is zero, the last one is too
  pub last_zero : bound.kind ≡ Fixed → (number : ℕ) → bound.back ≤ number → number ≤ length bound.steps → ZeroAt number → (ZeroGiven (unnamed (last_problem bound)) (input_at input (length bound.steps)) → ⊥) → ⊥
  last_zero e number low high zero_there none =
      let loop = loop_of e number low high in
      let here : Problem = unnamed (problem_at bound number) in
      let at_here : Problem = input_at input number in
      let here_is : IsProblem here = (named_at bound number over).problem in
      let here_input : IsInput here at_here = input_there bound input number over high steps is in
      let turns : loop.k + number ≡ length bound.steps = omega (arith, loop.whole) in
      let same : exchanged_by loop.k at_here ≡ input_at input (length bound.steps) = sym (exchanged_by-add loop.k number (unnamed input)) ∙ ap (λ n. exchanged_by n (unnamed input)) turns in
      lower_bound_given here_is here_input loop.last (λ there. none (subst (ZeroGiven (unnamed (last_problem bound))) same there)) 0 (omega arith) (SolvableGiven-zero here at_here here_input zero_there)

  -- there the last problem isn't solvable without communication, since then that to which it goes back would be
  last_not_zero : bound.kind ≡ Fixed → meets_back bound ≡ true → (number : ℕ) → bound.back ≤ number → number ≤ length bound.steps → (ZeroAt number → ⊥) → Zero (unnamed (last_problem bound)) → ⊥
  last_not_zero e meets number low high none zero_last =
      let loop = loop_of e number low high in
      let middle : Problem = unnamed (problem_at bound bound.back) in
      let at_middle : Problem = input_at input bound.back in
      let middle_is : IsProblem middle = (named_at bound bound.back over).problem in
      let middle_input : IsInput middle at_middle = IsInput-lower loop.to_middle is in
      let last_is : IsProblem (unnamed (last_problem bound)) = (named-last bound.first (next_problems bound.steps) over.first over.next).problem in
      let solvable : Solvable middle 0 = Solvable-relaxed (unnamed (last_problem bound)) middle _ 0 last_is (relaxed meets) ((Solvable-zero (unnamed (last_problem bound)) last_is).1 zero_last) in
      let turns : loop.j + bound.back ≡ number = omega (arith, loop.there) in
      let same : exchanged_by loop.j at_middle ≡ input_at input number = sym (exchanged_by-add loop.j bound.back (unnamed input)) ∙ ap (λ n. exchanged_by n (unnamed input)) turns in
      lower_bound_given middle_is middle_input loop.onward (λ there. none (subst (ZeroGiven (unnamed (problem_at bound number))) same there)) 0 (omega arith) (SolvableGiven-ungiven middle at_middle 0 middle_input solvable)

  ends : bound.kind ≡ Fixed → (Zero (unnamed (last_problem bound)) → ⊥) → meets_end bound ≡ true
  ends e none = go (zero_place (unnamed (last_problem bound))) refl
    where
      unended : (o : Option ℕ) → zero_place (unnamed (last_problem bound)) ≡ o → (is_some o ≡ true → Zero (unnamed (last_problem bound)))
      unended o same some = (some-place (unnamed (last_problem bound)) o (sym same)).0 some

      go : (o : Option ℕ) → zero_place (unnamed (last_problem bound)) ≡ o → ends_well bound.kind (last_problem bound) ≡ true
      go None same = ap (λ k. ends_well k (last_problem bound)) e ∙ ap is_none same
      go (Some place) same = absurd (none (unended (Some place) same refl))

  -- what `check` accepts goes back
  pub accepted_back : bound.kind ≡ Fixed → (kind : Kind) (number : ℕ) → verdict_of bound ≡ Accepted kind number → meets_back bound ≡ true
  accepted_back e kind number accepted = go (bound_fault bound) refl accepted
    where
      go : (o : Option ClauseFault) → bound_fault bound ≡ o → verdict_with bound.kind (length bound.steps) o ≡ Accepted kind number → meets_back bound ≡ true
      go (Some fault) same wrong = absurd (cc)
      go None same right = (no_end_fault bound (neither (steps_fault bound.first 1 bound.steps) (end_fault bound) same).1).1 (ap is_fixed e)

  -- and where one of its problems isn't zero, what it refuses doesn't
  pub refused_back : bound.kind ≡ Fixed → (number : ℕ) → bound.back ≤ number → number ≤ length bound.steps → (ZeroAt number → ⊥) → (step : ℕ) (clause : Clause) → verdict_of bound ≡ Refused step clause
      → meets_back bound ≡ false
  refused_back e number low high none step clause refused = go (meets_back bound) refl
    where
      faultless : meets_back bound ≡ true → bound_fault bound ≡ None
      faultless meets =
          let well : meets_end bound ≡ true = ends e (last_not_zero e meets number low high none) in
          ap (λ o. fault_or o (end_fault bound)) steps
          ∙ ap (λ b. if not b then Some (fault_at (length bound.steps) End') else if is_fixed bound.kind && not (meets_back bound) then Some (fault_at (length bound.steps) Back') else None) well
          ∙ ap (λ b. if is_fixed bound.kind && not b then Some (fault_at (length bound.steps) Back') else None) meets
          ∙ ap (λ k. if is_fixed k && false then Some (fault_at (length bound.steps) Back') else None) e

      go : (b : Bool) → meets_back bound ≡ b → meets_back bound ≡ false
      go true meets = let same : Refused step clause ≡ Accepted bound.kind (length bound.steps) = sym refused ∙ ap (verdict_with bound.kind (length bound.steps)) (faultless meets) in absurd (cc)
      go false meets = meets
