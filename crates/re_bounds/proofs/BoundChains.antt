-- The chains between the problems of a bound.
use Rattle.std.proofs.Common.{◌≡◌, ℕ, zero, suc, ◌+◌, ◌≤◌, true, false, List, [], ◌∷◌, length, refl, sym, ◌∙◌, subst, arith, None, zero-add}
use Rattle.std.specs.List.{AllByRecursion, slice_index_or}
use Rattle.std.specs.Prelude.{option_map}
use Rattle.re_labels.proofs.Tests.{and-true}
use Rattle.re_problem.proofs.StepLaws.{IsMapped-lower}
use Rattle.re_problem.specs.NamedProblems.{IsNamedProblem, NamedProblem, unnamed}
use Rattle.re_problem.specs.ProblemTexts.{last_or}
use Rattle.re_cert.proofs.FittingStates.{last_behind}
use Rattle.re_cert.specs.Bounds.{BoundStep, is_lower, next_problems, step_fits, steps_fit}
use Rattle.re_cert.specs.declared.certificate.Kind.{Kind}
use Rattle.re_check.proofs.StepMeaning.{lower_clauses, upper_clauses}
use Rattle.re_check.specs.Clauses.{step_fault}
use Rattle.re_laws.specs.Chains.{IsLowerChain, IsUpperChain}
use Rattle.re_laws.specs.Chains.IsLowerChain.{done as lower_done, step as lower_step}
use Rattle.re_laws.specs.Chains.IsUpperChain.{done as upper_done, step as upper_step}
use Rattle.re_check.proofs.Meaning.{count-next, kind-lower, kind-upper, neither, problem-here, unmapped}
use Rattle.re_check.specs.Verdicts.{fault_at, steps_fault}

-- the problem behind so many steps
abbrev pub behind : NamedProblem → List BoundStep → ℕ → NamedProblem
behind before steps number = slice_index_or (before ∷ next_problems steps) number before

-- it doesn't matter what stands for a problem that isn't there
behind-next : (before next : NamedProblem) (steps : List BoundStep) (number : ℕ) → number ≤ length steps → behind next steps number ≡ slice_index_or (next ∷ next_problems steps) number before
behind-next before next steps number l = problem-here (next ∷ next_problems steps) number next before (omega (arith, count-next steps))

pub behind-last : (before : NamedProblem) (steps : List BoundStep) → behind before steps (length steps) ≡ last_or before (next_problems steps)
behind-last before [] = refl
behind-last before (s ∷ steps) = sym (behind-next before s.next steps (length steps) (omega arith)) ∙ behind-last s.next steps ∙ sym (last_behind before s.next (next_problems steps))

-- lower steps from the first problem
pub lower_to : (kind : Kind) (before : NamedProblem) (number : ℕ) (steps : List BoundStep) (m : ℕ) → is_lower kind ≡ true → steps_fit kind before steps ≡ true → AllByRecursion IsNamedProblem (next_problems steps)
    → steps_fault before number steps ≡ None → m ≤ length steps → IsLowerChain (unnamed before) m (unnamed (behind before steps m))
lower_to kind before number steps zero lower fit named none l = lower_done
lower_to kind before number [] (suc m) lower fit named none l = absurd (omega (arith, l))
lower_to kind before number (s ∷ steps) (suc m) lower fit named none l =
    let fits = and-true (step_fits kind before s) (steps_fit kind s.next steps) fit in
    let first = neither (option_map (fault_at number) (step_fault before s)) (steps_fault s.next (suc number) steps) none in
    let is = (lower_clauses before s (kind-lower kind before s lower fits.0)).0 (unmapped number (step_fault before s) first.0) in
    let mapped = IsMapped-lower (unnamed before) (unnamed s.next) s.rows s.map is in
    let rest = lower_to kind s.next (suc number) steps m lower fits.1 named.1 first.1 (omega (arith, l)) in
    lower_step named.0.problem mapped (subst (λ (p : NamedProblem). IsLowerChain (unnamed s.next) m (unnamed p)) (behind-next before s.next steps m (omega (arith, l))) rest)

-- upper steps from the first problem
pub upper_to : (kind : Kind) (before : NamedProblem) (number : ℕ) (steps : List BoundStep) (m : ℕ) → is_lower kind ≡ false → steps_fit kind before steps ≡ true → AllByRecursion IsNamedProblem (next_problems steps)
    → steps_fault before number steps ≡ None → m ≤ length steps → IsUpperChain (unnamed before) m (unnamed (behind before steps m))
upper_to kind before number steps zero upper fit named none l = upper_done
upper_to kind before number [] (suc m) upper fit named none l = absurd (omega (arith, l))
upper_to kind before number (s ∷ steps) (suc m) upper fit named none l =
    let fits = and-true (step_fits kind before s) (steps_fit kind s.next steps) fit in
    let first = neither (option_map (fault_at number) (step_fault before s)) (steps_fault s.next (suc number) steps) none in
    let is = upper_clauses before s (kind-upper kind before s upper fits.0) (unmapped number (step_fault before s) first.0) in
    let rest = upper_to kind s.next (suc number) steps m upper fits.1 named.1 first.1 (omega (arith, l)) in
    upper_step named.0.problem is (subst (λ (p : NamedProblem). IsUpperChain (unnamed s.next) m (unnamed p)) (behind-next before s.next steps m (omega (arith, l))) rest)

-- lower steps between two problems
pub lower_between : (kind : Kind) (before : NamedProblem) (number : ℕ) (steps : List BoundStep) (i m : ℕ) → is_lower kind ≡ true → steps_fit kind before steps ≡ true → AllByRecursion IsNamedProblem (next_problems steps)
    → steps_fault before number steps ≡ None → i + m ≤ length steps → IsLowerChain (unnamed (behind before steps i)) m (unnamed (behind before steps (i + m)))
lower_between kind before number steps zero m lower fit named none l =
    subst (λ n. IsLowerChain (unnamed before) m (unnamed (behind before steps n))) (sym (zero-add m)) (lower_to kind before number steps m lower fit named none (omega (arith, l)))
lower_between kind before number [] (suc i) m lower fit named none l = absurd (omega (arith, l))
lower_between kind before number (s ∷ steps) (suc i) m lower fit named none l =
    let fits = and-true (step_fits kind before s) (steps_fit kind s.next steps) fit in
    let first = neither (option_map (fault_at number) (step_fault before s)) (steps_fault s.next (suc number) steps) none in
    let rest = lower_between kind s.next (suc number) steps i m lower fits.1 named.1 first.1 (omega (arith, l)) in
    let more : suc (i + m) ≡ suc i + m = omega arith in
    subst (λ n. IsLowerChain (unnamed (behind before (s ∷ steps) (suc i))) m (unnamed (behind before (s ∷ steps) n))) more
    (subst (λ (p : NamedProblem). IsLowerChain (unnamed p) m (unnamed (behind before (s ∷ steps) (suc (i + m))))) (behind-next before s.next steps i (omega (arith, l)))
    (subst (λ (p : NamedProblem). IsLowerChain (unnamed (behind s.next steps i)) m (unnamed p)) (behind-next before s.next steps (i + m) (omega (arith, l))) rest))
