-- Input problems that are exchanged, and what few tries tell.
use Rattle.std.proofs.Common.{◌≡◌, ℕ, zero, suc, Bool, true, false, not, refl, sym, ◌∙◌, subst, Option, Some, None}
use Rattle.std.specs.Prelude.{is_some}
use Rattle.re_settings.specs.InputProblems.{IsJudged}
use Rattle.re_settings.specs.declared.inputs.InputFault.{InputFault}
use Rattle.re_given.proofs.ChainGiven.{exchanged_by-add, exchanged_by-twice}
use Rattle.re_given.proofs.FastGiven.{IsInput-exchanged}
use Rattle.re_given.specs.Inputs.{IsInput, exchanged, exchanged_by}
use Rattle.re_problem.specs.NamedProblems.{NamedProblem, unnamed}
use Rattle.re_problem.specs.Problems.{Problem}
use Rattle.re_settings.specs.Taken.{HasDegrees}

-- ---- input problems
-- an input problem of another problem is one of itself
itself : (problem input : Problem) → IsInput problem input → IsInput input input
itself problem input is = record { is_problem = is.is_problem; active_degree = refl; passive_degree = refl; some = is.some; occurs = is.occurs }

of_degrees : (problem input : Problem) → input.active.degree ≡ problem.active.degree → input.passive.degree ≡ problem.passive.degree → IsInput input input → IsInput problem input
of_degrees problem input active passive is = record { is_problem = is.is_problem; active_degree = active; passive_degree = passive; some = is.some; occurs = is.occurs }

-- one of itself is so when it is exchanged
exchanged_itself : (k : ℕ) (input : Problem) → IsInput input input → IsInput (exchanged_by k input) (exchanged_by k input)
exchanged_itself zero input is = is
exchanged_itself (suc k) input is = IsInput-exchanged (exchanged_by k input) (exchanged (exchanged_by k input)) (exchanged_by k input) (exchanged_itself k input is) refl refl

-- and where it is exchanged, it was one before
unexchanged : (k : ℕ) (input : Problem) → IsInput (exchanged_by k input) (exchanged_by k input) → IsInput input input
unexchanged k input is =
    let back : exchanged_by k (exchanged_by k input) ≡ input = sym (exchanged_by-add k k input) ∙ exchanged_by-twice k input in
    subst (λ (p : Problem). IsInput p p) back (exchanged_itself k (exchanged_by k input) is)

pub is_input : (problem input : Problem) (steps : ℕ) → HasDegrees problem (exchanged_by steps input) → IsInput input input → IsInput problem (exchanged_by steps input)
is_input problem input steps degrees is = of_degrees problem (exchanged_by steps input) degrees.0 degrees.1 (exchanged_itself steps input is)

pub has_degrees : (problem input : Problem) → IsInput problem input → HasDegrees problem input
has_degrees problem input is = (is.active_degree, is.passive_degree)

pub is_own : (problem input : Problem) (steps : ℕ) → IsInput problem (exchanged_by steps input) → IsInput input input
is_own problem input steps is = unexchanged steps input (itself problem (exchanged_by steps input) is)

-- one without a fault, as what is judged says
pub no_fault : (input : NamedProblem) (fault : Option InputFault) (none : Bool) → IsJudged input input fault → is_some fault ≡ not none
    → (none ≡ true → IsInput (unnamed input) (unnamed input)) × (IsInput (unnamed input) (unnamed input) → none ≡ true)
no_fault input None true judged same = (λ e. judged, λ is. refl)
no_fault input None false judged same = absurd (cc)
no_fault input (Some fault) true judged same = absurd (cc)
no_fault input (Some fault) false judged same = (λ e. absurd (cc), λ is. absurd (judged.1 is))

-- ---- what is told
