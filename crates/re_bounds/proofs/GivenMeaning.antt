-- What certificates say where a solution of an input problem is given.
use Rattle.std.proofs.Common.{◌≡◌, ℕ, zero, suc, ◌+◌, ◌-◌, ◌^◌, ◌<◌, ◌≤◌, true, List, [], ◌∷◌, length, map, refl, sym, ap, ◌∙◌, subst, arith, Option, None, Some, eqb}
use Rattle.std.proofs.lemmas.Bool.Decides.{nat_tests}
use Rattle.std.specs.List.{AllByRecursion, list_all, slice_index_or}
use Rattle.std.specs.Prelude.{◌&&◌, if◌then◌else◌, nat_le, nat_lt, option_map}
use Rattle.re_cert.proofs.FittingStates.{last_behind}
use Rattle.re_cert.specs.Bounds.{Bound, BoundStep, is_bound, is_fixed, is_lower, last_problem, next_problems, one_form, pair_fits, problem_at, renaming_fits, step_fits, steps_fit}
use Rattle.re_cert.specs.declared.certificate.Kind.{Kind}
use Rattle.re_cert.specs.declared.certificate.Kind.TheVariants.{Fixed, Lower, Upper}
use Rattle.re_cert.specs.declared.certificate.TheConstants.{MAX_STEPS}
use Rattle.re_check.proofs.Meaning.{count-next, kind-lower, lower_chain, named-at, named-last, neither, no_end_fault, not_zero, problem-here, relaxed_back, unmapped, upper_chain, verdict_means}
use Rattle.re_check.specs.Verdicts.{Means, bound_fault, end_fault, fault_at, meets_back, steps_fault, verdict_with}
use Rattle.re_check.specs.declared.verdict.ClauseFault.{ClauseFault}
use Rattle.re_check.proofs.StepMeaning.{lower_clauses}
use Rattle.re_check.specs.Clauses.{step_fault}
use Rattle.re_given.proofs.AvoidedInputs.{fixed_point_unavoidable, loop_unavoidable, lower_bound_unavoidable, shorter_bound_unavoidable}
use Rattle.re_given.proofs.ChainGiven.{exchanged_by-twice, fixed_point_given, lower_bound_given, upper_bound_given}
use Rattle.re_given.proofs.ColouredPairs.{lower_bound_pairs}
use Rattle.re_given.proofs.Colourings.{IsInput-colouring, colouring_unavoidable}
use Rattle.re_given.proofs.Ungiven.{SolvableGiven-ungiven}
use Rattle.re_given.specs.Given.{SolvableGiven, ZeroGiven}
use Rattle.re_given.specs.Inputs.{IsInput, exchanged_by}
use Rattle.re_given.specs.Unavoidable.{IsUnavoidable, colouring, reached}
use Rattle.re_bounds.specs.GivenBounds.{BesideLaw, ColouredBoundLaw, EndsGiven, EvenBoundLaw, FixedBoundLaw, HasFewLabels, IsOver, IsValidGiven, MeansBeside, MeansGiven, OddBoundLaw, UpperBoundLaw, ValidGivenLaw}
use Rattle.re_bounds.proofs.BoundChains.{behind-last, lower_between, lower_to}
use Rattle.re_problem.specs.ItemSteps.{is_nil}
use Rattle.re_labels.proofs.Tests.{and-true}
use Rattle.re_laws.specs.Chains.{IsLowerChain}
use Rattle.re_laws.specs.Chains.IsLowerChain.{done as lower_done, step as lower_step}
use Rattle.re_problem.proofs.StepLaws.{IsMapped-lower}
use Rattle.re_problem.specs.NamedProblems.{IsNamedProblem, NamedProblem, unnamed}
use Rattle.re_problem.specs.ProblemTexts.{last_or}
use Rattle.re_problem.specs.Problems.{Problem}
use Rattle.re_problem.specs.Zero.{Zero}
use Rattle.re_problem.specs.Steps.{IsRelaxed}
use Rattle.re_labels.specs.Configs.{image_at}
use Rattle.re_check.specs.declared.verdict.Verdict.TheVariants.{Accepted}

-- ---- chains of problems with few labels
abbrev AreFew : ℕ → List Problem → Type 0
AreFew n problems = AllByRecursion (λ (problem : Problem). problem.labels ≤ n) problems

abbrev AreFewNamed : ℕ → List NamedProblem → Type 0
AreFewNamed n problems = AllByRecursion (λ (problem : NamedProblem). length problem.names ≤ n) problems

lower_few : (n : ℕ) (kind : Kind) (before : NamedProblem) (number : ℕ) (steps : List BoundStep) → is_lower kind ≡ true → steps_fit kind before steps ≡ true → AllByRecursion IsNamedProblem (next_problems steps) → AreFewNamed n (next_problems steps)
    → steps_fault before number steps ≡ None → (way : IsLowerChain (unnamed before) (length steps) (unnamed (last_or before (next_problems steps)))) × AreFew n (reached way)
lower_few n kind before number [] lower fit named few none = (lower_done, tt)
lower_few n kind before number (s ∷ steps) lower fit named few none =
    let fits = and-true (step_fits kind before s) (steps_fit kind s.next steps) fit in
    let first = neither (option_map (fault_at number) (step_fault before s)) (steps_fault s.next (suc number) steps) none in
    let is = (lower_clauses before s (kind-lower kind before s lower fits.0)).0 (unmapped number (step_fault before s) first.0) in
    let mapped = IsMapped-lower (unnamed before) (unnamed s.next) s.rows s.map is in
    let (rest, rest_few) = subst (λ (p : NamedProblem). (way : IsLowerChain (unnamed s.next) (length steps) (unnamed p)) × AreFew n (reached way)) (sym (last_behind before s.next (next_problems steps)))
    (lower_few n kind s.next (suc number) steps lower fits.1 named.1 few.1 first.1) in
    (lower_step named.0.problem mapped rest, (few.0, rest_few))

-- a chain up to a problem, and on from there
record Parted (n : ℕ) (before : NamedProblem) (steps : List BoundStep) (at : ℕ) : Type 0 where
  k : ℕ
  whole : at + suc k ≡ length steps
  first : IsLowerChain (unnamed before) at (unnamed (slice_index_or (before ∷ next_problems steps) at before))
  behind : IsLowerChain (unnamed (slice_index_or (before ∷ next_problems steps) at before)) (suc k) (unnamed (last_or before (next_problems steps)))
  few : AreFew n (unnamed (slice_index_or (before ∷ next_problems steps) at before) ∷ reached behind)

parted : (n : ℕ) (kind : Kind) (before : NamedProblem) (number : ℕ) (steps : List BoundStep) (at : ℕ) → is_lower kind ≡ true → steps_fit kind before steps ≡ true → AllByRecursion IsNamedProblem (next_problems steps)
    → AreFewNamed n (before ∷ next_problems steps) → steps_fault before number steps ≡ None → at < length steps → Parted n before steps at
parted n kind before number [] at lower fit named few none l = absurd (omega arith)
parted n kind before number (s ∷ steps) zero lower fit named few none l =
    let (way, way_few) = lower_few n kind before number (s ∷ steps) lower fit named few.1 none in
    record { k = length steps; whole = omega arith; first = lower_done; behind = way; few = (few.0, way_few) }
parted n kind before number (s ∷ steps) (suc at) lower fit named few none l =
    let fits = and-true (step_fits kind before s) (steps_fit kind s.next steps) fit in
    let first = neither (option_map (fault_at number) (step_fault before s)) (steps_fault s.next (suc number) steps) none in
    let is = (lower_clauses before s (kind-lower kind before s lower fits.0)).0 (unmapped number (step_fault before s) first.0) in
    let mapped = IsMapped-lower (unnamed before) (unnamed s.next) s.rows s.map is in
    let rest = parted n kind s.next (suc number) steps at lower fits.1 named.1 few.1 first.1 (omega arith) in
    let same : slice_index_or (s.next ∷ next_problems steps) at s.next ≡ slice_index_or (s.next ∷ next_problems steps) at before = problem-here (s.next ∷ next_problems steps) at s.next before (omega (arith, count-next steps)) in
    let last = last_behind before s.next (next_problems steps) in
    let (behind, behind_few) = subst (λ (p : NamedProblem). (way : IsLowerChain (unnamed p) (suc rest.k) (unnamed (last_or before (s.next ∷ next_problems steps)))) × AreFew n (unnamed p ∷ reached way)) same
    (subst (λ (p : NamedProblem). (way : IsLowerChain (unnamed (slice_index_or (s.next ∷ next_problems steps) at s.next)) (suc rest.k) (unnamed p)) × AreFew n (unnamed (slice_index_or (s.next ∷ next_problems steps) at s.next) ∷ reached way)) (sym last) (rest.behind, rest.few)) in
    record {
      k = rest.k;
      whole = let w = rest.whole in omega arith;
      first = lower_step named.0.problem mapped (subst (λ (p : NamedProblem). IsLowerChain (unnamed s.next) at (unnamed p)) same rest.first);
      behind = behind;
      few = behind_few;
    }

-- the labels of all problems together
abbrev most_labels : List NamedProblem → ℕ
most_labels [] = 0
most_labels (p ∷ problems) = length p.names + most_labels problems

-- ---- the parts of a bound
module _ (bound : Bound) (fits : is_bound bound ≡ true) (first : IsNamedProblem bound.first) (named : AllByRecursion IsNamedProblem (next_problems bound.steps)) where
  parts : (steps_fit bound.kind bound.first bound.steps ≡ true) × (renaming_fits bound ≡ true)
  parts =
      let all = and-true (nat_le (length bound.steps) MAX_STEPS && steps_fit bound.kind bound.first bound.steps && one_form bound.steps) (renaming_fits bound) fits in
      let steps = and-true (nat_le (length bound.steps) MAX_STEPS && steps_fit bound.kind bound.first bound.steps) (one_form bound.steps) all.0 in
      ((and-true (nat_le (length bound.steps) MAX_STEPS) (steps_fit bound.kind bound.first bound.steps) steps.0).1, all.1)

  -- a fixed point goes back to a problem before its last step
  back_before : bound.kind ≡ Fixed → bound.back < length bound.steps
  back_before e =
      let back : nat_lt bound.back (length bound.steps) ≡ true = (and-true (nat_lt bound.back (length bound.steps)) _ (subst (λ k. (if is_fixed k then nat_lt bound.back (length bound.steps) && list_all (pair_fits (last_problem bound) (problem_at bound bound.back)) bound.renaming else eqb bound.back 0 && is_nil bound.renaming) ≡ true) e parts.1)).0 in
      grind (arith, nat_tests)

  fixed_back : meets_back bound ≡ true → IsRelaxed (unnamed (last_problem bound)) (unnamed (problem_at bound bound.back)) (image_at (map (λ (pair : ℕ × ℕ). pair.1) bound.renaming))
  fixed_back meets =
      relaxed_back (last_problem bound) (problem_at bound bound.back) bound.renaming (named-last bound.first (next_problems bound.steps) first named)
      (named-at bound.first (bound.first ∷ next_problems bound.steps) bound.back bound.first first (first, named)) meets

  valid_means : (input : Problem) → IsInput (unnamed bound.first) input → IsValidGiven bound input → (n : ℕ) → AreFewNamed n (bound.first ∷ next_problems bound.steps) → (kind : Kind) → bound.kind ≡ kind → MeansGiven kind (length bound.steps) (unnamed bound.first) input
  valid_means input is_input valid n few Lower e = λ T l.
      lower_bound_given first.problem is_input (lower_chain bound.kind bound.first 1 bound.steps (ap is_lower e) parts.0 named valid.steps)
      (subst (λ k. EndsGiven k (unnamed (last_problem bound)) (exchanged_by (length bound.steps) input)) e valid.ends) T l
  valid_means input is_input valid n few Upper e =
      upper_bound_given is_input (upper_chain bound.kind bound.first 1 bound.steps (ap is_lower e) parts.0 named valid.steps)
      (subst (λ k. EndsGiven k (unnamed (last_problem bound)) (exchanged_by (length bound.steps) input)) e valid.ends)
  valid_means input is_input valid n few Fixed e = λ T.
      let way = parted n bound.kind bound.first 1 bound.steps bound.back (ap is_lower e) parts.0 named few valid.steps (back_before e) in
      let ends : ZeroGiven (unnamed (last_problem bound)) (exchanged_by (length bound.steps) input) → ⊥ = subst (λ k. EndsGiven k (unnamed (last_problem bound)) (exchanged_by (length bound.steps) input)) e valid.ends in
      fixed_point_given first.problem is_input way.first way.behind (fixed_back (valid.back (ap is_fixed e)))
      (λ given. ends (subst (λ m. ZeroGiven (unnamed (last_problem bound)) (exchanged_by m input)) way.whole given)) T

  beside_means : (input : Problem) (n : ℕ) → IsInput (unnamed bound.first) input → HasFewLabels n bound → IsUnavoidable input n → (kind : Kind) → bound.kind ≡ kind → steps_fault bound.first 1 bound.steps ≡ None → end_fault bound ≡ None
      → MeansBeside (Accepted kind (length bound.steps)) (unnamed bound.first) input
  beside_means input n is_input few unavoidable Lower e steps none = λ T l.
      let lower : is_lower bound.kind ≡ true = ap is_lower e in
      let (way, way_few) = lower_few n bound.kind bound.first 1 bound.steps lower parts.0 named few.1 steps in
      shorter_bound_unavoidable first.problem is_input way (not_zero bound.kind (last_problem bound) lower (no_end_fault bound none).0) (few.0, way_few) unavoidable T l
  beside_means input n is_input few unavoidable Upper e steps none = tt
  beside_means input n is_input few unavoidable Fixed e steps none = λ T.
      let lower : is_lower bound.kind ≡ true = ap is_lower e in
      let way = parted n bound.kind bound.first 1 bound.steps bound.back lower parts.0 named few steps (back_before e) in
      fixed_point_unavoidable first.problem is_input way.first way.behind (omega arith) (fixed_back ((no_end_fault bound none).1 (ap is_fixed e)))
      (not_zero bound.kind (last_problem bound) lower (no_end_fault bound none).0) way.few unavoidable T

-- the labels of all problems together are enough for each
few_enough : (problems : List NamedProblem) (n : ℕ) → most_labels problems ≤ n → AreFewNamed n problems
few_enough [] n l = tt
few_enough (p ∷ problems) n l = (omega arith, few_enough problems n (omega arith))

pub valid_given : ValidGivenLaw
valid_given bound input fits first named is_input valid =
    valid_means bound fits first named input is_input valid (most_labels (bound.first ∷ next_problems bound.steps)) (few_enough (bound.first ∷ next_problems bound.steps) (most_labels (bound.first ∷ next_problems bound.steps)) (omega arith)) bound.kind refl

pub beside : BesideLaw
beside bound input n fits first named is_input few unavoidable = go (bound_fault bound) refl
  where
    go : (o : Option ClauseFault) → bound_fault bound ≡ o → MeansBeside (verdict_with bound.kind (length bound.steps) o) (unnamed bound.first) input
    go (Some fault) e = tt
    go None e =
        let both = neither (steps_fault bound.first 1 bound.steps) (end_fault bound) e in
        beside_means bound fits first named input n is_input few unavoidable bound.kind refl both.0 both.1

pub coloured_bound : ColouredBoundLaw
coloured_bound bound n c fits first named few enough many =
    beside bound (colouring bound.first.active.degree bound.first.passive.degree c) n fits first named (IsInput-colouring (unnamed bound.first) c first.problem enough) few
    (colouring_unavoidable bound.first.active.degree bound.first.passive.degree c n (let l = first.problem.active.least in omega arith) many)

-- ---- with the labels of one problem
-- an accepted bound has no fault, and this kind
pub accepted_kind : (kind other : Kind) (steps : ℕ) (o : Option ClauseFault) → verdict_with other steps o ≡ Accepted kind steps → (o ≡ None) × (other ≡ kind)
accepted_kind kind other steps (Some fault) e = absurd (cc)
accepted_kind kind other steps None e = (refl, cc)

module _ (bound : Bound) (over : IsOver bound) where
  fit : steps_fit bound.kind bound.first bound.steps ≡ true
  fit = (parts bound over.fits over.first over.next).0

  pub no_faults : bound_fault bound ≡ None → (steps_fault bound.first 1 bound.steps ≡ None) × (end_fault bound ≡ None)
  no_faults none = neither (steps_fault bound.first 1 bound.steps) (end_fault bound) none

  -- the steps to the last problem, which isn't zero
  pub to_last : is_lower bound.kind ≡ true → steps_fault bound.first 1 bound.steps ≡ None → IsLowerChain (unnamed bound.first) (length bound.steps) (unnamed (last_problem bound))
  to_last lower none = lower_chain bound.kind bound.first 1 bound.steps lower fit over.next none

  pub last_not_zero : is_lower bound.kind ≡ true → end_fault bound ≡ None → Zero (unnamed (last_problem bound)) → ⊥
  last_not_zero lower none = not_zero bound.kind (last_problem bound) lower (no_end_fault bound none).0

  pub even_bound : (input : Problem) (half T : ℕ) → IsInput (unnamed bound.first) input → bound.kind ≡ Lower → bound_fault bound ≡ None → length bound.steps ≡ half + half → IsUnavoidable input (length (last_problem bound).names)
      → T ≤ length bound.steps → SolvableGiven (unnamed bound.first) input T → ⊥
  even_bound input half T is_input e none even unavoidable few solvable =
      let (steps, ends) = no_faults none in
      let lower : is_lower bound.kind ≡ true = ap is_lower e in
      let same : exchanged_by (length bound.steps) input ≡ input = ap (λ m. exchanged_by m input) even ∙ exchanged_by-twice half input in
      lower_bound_unavoidable over.first.problem is_input (to_last lower steps) (last_not_zero lower ends) (subst (λ i. IsUnavoidable i (length (last_problem bound).names)) (sym same) unavoidable) T few solvable

  pub odd_bound : (c half T : ℕ) → bound.first.passive.degree ≡ 2 → bound.kind ≡ Lower → bound_fault bound ≡ None → length bound.steps ≡ suc (half + half) → 2 ^ length (last_problem bound).names < c
      → T ≤ length bound.steps → SolvableGiven (unnamed bound.first) (colouring bound.first.active.degree 2 c) T → ⊥
  odd_bound c half T edges e none odd many few solvable =
      let (steps, ends) = no_faults none in
      let lower : is_lower bound.kind ≡ true = ap is_lower e in
      let way : IsLowerChain (unnamed bound.first) (suc (half + half)) (unnamed (last_problem bound)) = subst (λ k. IsLowerChain (unnamed bound.first) k (unnamed (last_problem bound))) odd (to_last lower steps) in
      lower_bound_pairs half over.first.problem edges way (last_not_zero lower ends) many T (omega (arith, few, odd)) solvable

  pub fixed_bound : (input : Problem) (number half T : ℕ) → IsInput (unnamed bound.first) input → bound.kind ≡ Fixed → bound_fault bound ≡ None → bound.back ≤ number → number ≤ length bound.steps → number ≡ half + half
      → IsUnavoidable input (length (problem_at bound number).names) → SolvableGiven (unnamed bound.first) input T → ⊥
  fixed_bound input number half T is_input e none low high even unavoidable solvable =
      let (steps, ends) = no_faults none in
      let lower : is_lower bound.kind ≡ true = ap is_lower e in
      let few : bound.back < length bound.steps = back_before bound over.fits over.first over.next e in
      let j : ℕ = number - bound.back in
      let rest : ℕ = length bound.steps - number in
      let there : bound.back + j ≡ number = omega arith in
      let whole : number + rest ≡ length bound.steps = omega arith in
      let to_middle = lower_to bound.kind bound.first 1 bound.steps bound.back lower fit over.next steps (omega (arith, few)) in
      let onward : IsLowerChain (unnamed (problem_at bound bound.back)) j (unnamed (problem_at bound number)) =
      subst (λ n. IsLowerChain (unnamed (problem_at bound bound.back)) j (unnamed (problem_at bound n))) there (lower_between bound.kind bound.first 1 bound.steps bound.back j lower fit over.next steps (omega (arith, there, high))) in
      let last : IsLowerChain (unnamed (problem_at bound number)) rest (unnamed (last_problem bound)) =
      subst (λ (p : NamedProblem). IsLowerChain (unnamed (problem_at bound number)) rest (unnamed p)) (behind-last bound.first bound.steps)
      (subst (λ n. IsLowerChain (unnamed (problem_at bound number)) rest (unnamed (problem_at bound n))) whole (lower_between bound.kind bound.first 1 bound.steps number rest lower fit over.next steps (omega (arith, whole)))) in
      let same : exchanged_by (bound.back + j) input ≡ input = ap (λ m. exchanged_by m input) (there ∙ even) ∙ exchanged_by-twice half input in
      loop_unavoidable over.first.problem is_input to_middle onward last (omega (arith, few, there, whole)) (fixed_back bound over.fits over.first over.next ((no_end_fault bound ends).1 (ap is_fixed e)))
      (last_not_zero lower ends) (subst (λ i. IsUnavoidable i (length (problem_at bound number).names)) (sym same) unavoidable) T solvable

pub upper_bound_means : UpperBoundLaw
upper_bound_means bound input over is_input accepted =
    SolvableGiven-ungiven (unnamed bound.first) input (length bound.steps) is_input
    (subst (λ v. Means v (unnamed bound.first)) accepted (verdict_means bound over.fits over.first over.next))

pub even_bound_means : EvenBoundLaw
even_bound_means bound input half T over is_input accepted even unavoidable few solvable =
    let (none, kind) = accepted_kind Lower bound.kind (length bound.steps) (bound_fault bound) accepted in
    even_bound bound over input half T is_input kind none even unavoidable few solvable

pub odd_bound_means : OddBoundLaw
odd_bound_means bound c half T over edges accepted odd many few solvable =
    let (none, kind) = accepted_kind Lower bound.kind (length bound.steps) (bound_fault bound) accepted in
    odd_bound bound over c half T edges kind none (omega (arith, odd)) many few solvable

pub fixed_bound_means : FixedBoundLaw
fixed_bound_means bound input number half T over is_input accepted low high even unavoidable solvable =
    let (none, kind) = accepted_kind Fixed bound.kind (length bound.steps) (bound_fault bound) accepted in
    fixed_bound bound over input number half T is_input kind none low high even unavoidable solvable
