-- The certificate of one lower step is one, and its step meets its clauses.
use Rattle.std.proofs.Common.{◌≡◌, ℕ, true, List, [], ◌∷◌, None, refl, ap, ◌∙◌}
use Rattle.std.specs.Prelude.{◌&&◌}
use Rattle.re_labels.proofs.Tests.{true-and}
use Rattle.re_problem.specs.NamedProblems.{NamedProblem, unnamed}
use Rattle.re_problem.specs.Problems.{IsProblem}
use Rattle.re_changes.proofs.Merges.{IsMerged-unchanged}
use Rattle.re_changes.specs.Changes.{unchanged}
use Rattle.re_step.specs.Derivations.{named_derived, step_limit}
use Rattle.re_cert.specs.Bounds.{BoundStep, is_bound, step_fits}
use Rattle.re_cert.specs.declared.certificate.Kind.TheVariants.{Lower}
use Rattle.re_check.specs.Verdicts.{end_fault, fault_at, fault_or, steps_fault, verdict_with}
use Rattle.std.specs.Prelude.{option_map}
use Rattle.re_search.proofs.LowerSteps.{IsProblem-named_derived, lower-fits, lower-meets}
use Rattle.re_search.specs.OneStep.{OneStepLaw, one_step_bound, step_of_problem}

pub one-bound : (problem : NamedProblem) → IsProblem (unnamed problem) → step_limit (unnamed problem) ≡ None → is_bound (one_step_bound problem) ≡ true
one-bound problem is none =
    let start = IsMerged-unchanged (named_derived (unnamed problem)) (IsProblem-named_derived problem is) in
    let fits = lower-fits Lower problem is (unchanged (named_derived (unnamed problem))) start refl none in
    true-and (true && (step_fits Lower problem (step_of_problem problem) && true) && true) true (true-and (true && (step_fits Lower problem (step_of_problem problem) && true)) true (true-and true (step_fits Lower problem (step_of_problem problem) && true) refl (true-and (step_fits Lower problem (step_of_problem problem)) true fits refl)) refl) refl

pub one-meets : (problem : NamedProblem) → IsProblem (unnamed problem) → steps_fault problem 1 (step_of_problem problem ∷ []) ≡ None
one-meets problem is =
    let start = IsMerged-unchanged (named_derived (unnamed problem)) (IsProblem-named_derived problem is) in
    ap (λ o. fault_or (option_map (fault_at 1) o) None) (lower-meets problem is (unchanged (named_derived (unnamed problem))) start)

-- the parts of a certificate of one step are those of the bound
pub held-bound : (problem : NamedProblem) (steps : List BoundStep) (s : BoundStep) (renaming : List (ℕ × ℕ)) → steps ≡ s ∷ [] → s ≡ step_of_problem problem → renaming ≡ []
    → record { kind = Lower; back = 0; first = problem; steps = steps; renaming = renaming } ≡ one_step_bound problem
held-bound problem steps s renaming f g h = (λ i. record { kind = Lower; back = 0; first = problem; steps = (f ∙ ap (λ t. t ∷ []) g) i; renaming = h i })

pub one_step_accepted : OneStepLaw
one_step_accepted problem is =
    let meets = one-meets problem is.problem in
    (meets, ap (λ fault. verdict_with Lower 1 (fault_or fault (end_fault (one_step_bound problem)))) meets)
