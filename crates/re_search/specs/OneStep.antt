-- The certificate of one lower step, to the derived problem as it is.
use Rattle.std.specs.Prelude.{◌≡◌, [], ◌∷◌, true, None}
use Rattle.re_problem.specs.NamedProblems.{IsNamedProblem, NamedProblem, unnamed}
use Rattle.re_changes.specs.Changes.{unchanged}
use Rattle.re_step.specs.Derivations.{named_derived}
use Rattle.re_cert.specs.Bounds.{Bound, BoundStep}
use Rattle.re_cert.specs.declared.certificate.Kind.TheVariants.{Lower}
use Rattle.re_check.specs.Verdicts.{end_fault, steps_fault, verdict_of, verdict_with}
use Rattle.re_search.specs.Nodes.{step_to}

-- the lower step from a problem to its derived problem, which sends each set to its own label
abbrev pub step_of_problem : NamedProblem → BoundStep
step_of_problem problem = step_to true problem (unchanged (named_derived (unnamed problem)))

-- the bound of this one step
abbrev pub one_step_bound : NamedProblem → Bound
one_step_bound problem = record { kind = Lower; back = 0; first = problem; steps = step_of_problem problem ∷ []; renaming = [] }

-- the step meets its clauses, so END alone is left for the verdict to tell
abbrev pub OneStepLaw : Type 0
OneStepLaw = (problem : NamedProblem) → IsNamedProblem problem → (steps_fault problem 1 (one_step_bound problem).steps ≡ None)
    × (verdict_of (one_step_bound problem) ≡ verdict_with Lower 1 (end_fault (one_step_bound problem)))
