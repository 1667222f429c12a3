-- An accepted upper bound is a chain of upper steps to a problem that is Zero.
use Rattle.std.proofs.Common.{◌≡◌, ℕ, suc, Bool, true, false, List, [], ◌∷◌, length, refl, ap, subst, None, Option, Some}
use Rattle.std.specs.List.{AllByRecursion}
use Rattle.std.specs.Prelude.{◌&&◌, nat_le, option_map}
use Rattle.re_labels.proofs.Tests.{and-true}
use Rattle.re_problem.specs.NamedProblems.{IsNamedProblem, NamedProblem, unnamed}
use Rattle.re_problem.specs.ProblemTexts.{last_or}
use Rattle.re_problem.specs.Zero.{Zero}
use Rattle.re_laws.specs.Extracted.{IsUpperBound}
use Rattle.re_cert.proofs.FittingStates.{last_behind}
use Rattle.re_cert.specs.Bounds.{Bound, BoundStep, is_lower, last_problem, next_problems, one_form, renaming_fits, step_fits, steps_fit}
use Rattle.re_cert.specs.Stages.{stages_of}
use Rattle.re_cert.specs.declared.certificate.Kind.{Kind}
use Rattle.re_cert.specs.declared.certificate.Kind.TheVariants.{Upper}
use Rattle.re_cert.specs.declared.certificate.TheConstants.{MAX_STEPS}
use Rattle.re_check.proofs.StepMeaning.{upper_clauses}
use Rattle.re_check.specs.Clauses.{step_fault}
use Rattle.re_check.proofs.Meaning.{is_zero, kind-upper, neither, no_end_fault, unmapped}
use Rattle.re_check.specs.UpperBounds.{UpperLaw}
use Rattle.re_check.specs.Verdicts.{bound_fault, end_fault, fault_at, steps_fault, verdict_of, verdict_with}
use Rattle.re_check.specs.declared.verdict.ClauseFault.{ClauseFault}
use Rattle.re_check.specs.declared.verdict.Verdict.TheVariants.{Accepted}

upper_stages : (kind : Kind) (before : NamedProblem) (number : ℕ) (steps : List BoundStep) → is_lower kind ≡ false → steps_fit kind before steps ≡ true → IsNamedProblem before
    → AllByRecursion IsNamedProblem (next_problems steps) → steps_fault before number steps ≡ None → Zero (unnamed (last_or before (next_problems steps))) → IsUpperBound (unnamed before) (stages_of steps)
upper_stages kind before number [] upper fit is named none holds = (is.problem, holds)
upper_stages kind before number (s ∷ steps) upper fit is named none holds =
    let fits = and-true (step_fits kind before s) (steps_fit kind s.next steps) fit in
    let first = neither (option_map (fault_at number) (step_fault before s)) (steps_fault s.next (suc number) steps) none in (
      is.problem,
      upper_clauses before s (kind-upper kind before s upper fits.0) (unmapped number (step_fault before s) first.0),
      upper_stages kind s.next (suc number) steps upper fits.1 named.0 named.1 first.1 (subst (λ (p : NamedProblem). Zero (unnamed p)) (last_behind before s.next (next_problems steps)) holds),
    )

-- a bound that is accepted as an upper one is of this kind, and has no fault
accepted_upper : (bound : Bound) (steps : ℕ) → verdict_of bound ≡ Accepted Upper steps → (bound.kind ≡ Upper) × (bound_fault bound ≡ None)
accepted_upper bound steps is = go (bound_fault bound) refl is
  where
    go : (fault : Option ClauseFault) → bound_fault bound ≡ fault → verdict_with bound.kind (length bound.steps) fault ≡ Accepted Upper steps → (bound.kind ≡ Upper) × (bound_fault bound ≡ None)
    go None e is = let same : bound.kind ≡ Upper = cc in (same, e)
    go (Some fault) e is = absurd (cc)

pub upper_where_accepted : UpperLaw
upper_where_accepted bound fits first named steps accepted =
    let valid = accepted_upper bound steps accepted in
    let all = and-true (nat_le (length bound.steps) MAX_STEPS && steps_fit bound.kind bound.first bound.steps && one_form bound.steps) (renaming_fits bound) fits in
    let both = and-true (nat_le (length bound.steps) MAX_STEPS && steps_fit bound.kind bound.first bound.steps) (one_form bound.steps) all.0 in
    let fit = (and-true (nat_le (length bound.steps) MAX_STEPS) (steps_fit bound.kind bound.first bound.steps) both.0).1 in
    let faults = neither (steps_fault bound.first 1 bound.steps) (end_fault bound) valid.1 in
    let upper : is_lower bound.kind ≡ false = ap is_lower valid.0 in
    upper_stages bound.kind bound.first 1 bound.steps upper fit first named faults.0 (is_zero bound.kind (last_problem bound) upper (no_end_fault bound faults.1).0)
