-- The words `fit` and `given`: what they answer to a bound and an input problem of its first problem.
use Rattle.std.specs.Prelude.{◌≡◌, ◌≤◌, ℕ, zero, suc, nat_lt, Bool, true, false, ◌&&◌, List, [], ◌++◌, codes, length, if◌then◌else◌, Option, None, Some}
use Rattle.std.specs.Fmt.{decimal}
use Rattle.re_cert.specs.Bounds.{Bound, problem_at}
use Rattle.re_cert.specs.declared.certificate.Kind.{Kind}
use Rattle.re_cert.specs.declared.certificate.Kind.TheVariants.{Fixed, Lower, Upper}
use Rattle.re_chains.specs.OverChains.{or_fault, or_refusal, steps_refusal}
use Rattle.re_check.specs.Verdicts.{meets_back}
use Rattle.re_check.specs.declared.verdict.Verdict.TheVariants.{Refused}
use Rattle.re_check.specs.declared.clause.Clause.TheVariants.{Back}
use Rattle.re_settings.specs.InputProblems.{IsJudged, input_fault}
use Rattle.re_frame.specs.Check.{verdict_outcome}
use Rattle.re_frame.specs.Outcomes.{Outcome, done, refused}
use Rattle.re_problem.specs.NamedProblems.{NamedProblem, unnamed}
use Rattle.re_chains.specs.TwoTexts.{back_problem, front_bound, two_fault}
use Rattle.re_walks.specs.Walking.{Walk, cut, found, nowhere}
use Rattle.re_settings.specs.InputFaults.{fault_line, or_input_fault}
use Rattle.re_settings.specs.Walks.{AreFirst, fit_text, input_at, shown_at, tries_outcome, walk_at}
use Rattle.re_settings.specs.declared.verdicts.GivenVerdict.{GivenVerdict}
use Rattle.re_settings.specs.declared.verdicts.GivenVerdict.TheVariants as verdict
use Rattle.re_settings.specs.declared.bound_words.BoundWord.{BoundWord}
use Rattle.re_settings.specs.declared.bound_words.BoundWord.TheVariants.{Fit, Given}

-- ---- `fit`: the last problem
-- the sets of the first labels, or that there are none, or that the tries don't suffice
abbrev pub fit_with : NamedProblem → Bound → Walk → Outcome
fit_with input bound (found labels) = done (shown_at input bound (length bound.steps) labels)
fit_with input bound nowhere = refused (codes "no\n")
fit_with input bound cut = tries_outcome

-- ---- `given`: lines
-- the line of a bound of this kind and of so many steps that holds given the input
abbrev pub accepted_line : Kind → ℕ → List ℕ
accepted_line Lower steps = codes "accepted: given that input, not solvable in " ++ decimal steps ++ codes " or fewer rounds\n"
accepted_line Upper steps = codes "accepted: given that input, solvable in " ++ decimal steps ++ codes " rounds\n"
accepted_line Fixed steps = codes "accepted: given that input, not solvable in any number of rounds\n"

abbrev pub accepted : Bound → Outcome
accepted bound = done (accepted_line bound.kind (length bound.steps))

-- the line where END fails at the problem behind so many steps
abbrev pub end_line : ℕ → List ℕ
end_line number = codes "refused: given that input, step " ++ decimal number ++ codes ", clause END\n"

-- ---- `given`: lower bounds
abbrev pub is_nowhere : Walk → Bool
is_nowhere nowhere = true
is_nowhere (found labels) = false
is_nowhere cut = false

-- the most steps, fewer than so many, behind which the walk shows that there are no sets: so many steps of the bound hold
abbrev pub kept_steps : NamedProblem → Bound → ℕ → Option ℕ
kept_steps input bound zero = None
kept_steps input bound (suc number) = if is_nowhere (walk_at input bound number) then Some number else kept_steps input bound number

-- the line of so many steps of a lower bound that hold where the whole doesn't
abbrev pub held_line : ℕ → List ℕ
held_line steps = codes "holds: given that input, not solvable in " ++ decimal steps ++ codes " or fewer rounds\n"

abbrev pub kept_line : Option ℕ → List ℕ
kept_line (Some steps) = held_line steps
kept_line None = []

-- a lower bound holds where the last problem has no sets; else they are shown, and the bound with the most steps that holds
abbrev pub lower_with : NamedProblem → Bound → Walk → Outcome
lower_with input bound nowhere = accepted bound
lower_with input bound (found labels) =
    refused (end_line (length bound.steps) ++ shown_at input bound (length bound.steps) labels ++ kept_line (kept_steps input bound (length bound.steps)))
lower_with input bound cut = tries_outcome

-- ---- `given`: upper bounds
-- an upper bound holds where it has sets
abbrev pub upper_with : Bound → Walk → Outcome
upper_with bound (found labels) = accepted bound
upper_with bound nowhere = refused (end_line (length bound.steps))
upper_with bound cut = tries_outcome

-- ---- `given`: fixed points
abbrev pub is_cut : Walk → Bool
is_cut cut = true
is_cut nowhere = false
is_cut (found labels) = false

-- the number of the problem at which END is judged: from this one down to that to which the bound goes back the first whose walk comes to an
-- end, and else the latter
abbrev pub end_number : NamedProblem → Bound → ℕ → ℕ
end_number input bound zero = zero
end_number input bound (suc number) =
    if is_cut (walk_at input bound (suc number)) && nat_lt bound.back (suc number) then end_number input bound number else suc number

-- behind END the bound has to go back
abbrev pub or_back : Bool → Bound → Outcome
or_back true bound = accepted bound
or_back false bound = verdict_outcome (Refused (length bound.steps) Back)

-- a fixed point holds where the problem behind so many steps has no sets, and the bound goes back
abbrev pub fixed_with : NamedProblem → Bound → ℕ → Walk → Outcome
fixed_with input bound number nowhere = or_back (meets_back bound) bound
fixed_with input bound number (found labels) = refused (end_line number ++ shown_at input bound number labels)
fixed_with input bound number cut = tries_outcome

abbrev pub fixed_at : NamedProblem → Bound → ℕ → Outcome
fixed_at input bound number = fixed_with input bound number (walk_at input bound number)

-- ---- both
-- what `given` answers to a bound each step of which meets its clauses
abbrev pub end_outcome : Kind → NamedProblem → Bound → Outcome
end_outcome Lower input bound = lower_with input bound (walk_at input bound (length bound.steps))
end_outcome Upper input bound = upper_with bound (walk_at input bound (length bound.steps))
end_outcome Fixed input bound = fixed_at input bound (end_number input bound (length bound.steps))

-- what the word answers to it
abbrev pub sound_outcome : BoundWord → NamedProblem → Bound → Outcome
sound_outcome Fit input bound = fit_with input bound (walk_at input bound (length bound.steps))
sound_outcome Given input bound = end_outcome bound.kind input bound

-- the line of the fault of the input problem, and that of `check` for the first step that fails, come before
abbrev pub given_outcome : BoundWord → NamedProblem → Bound → Outcome
given_outcome word input bound = or_input_fault input (input_fault bound.first input) (or_refusal (steps_refusal bound) (sound_outcome word input bound))

-- what the word answers to a text: a chain or a certificate, a line `== given` and an input problem
unfoldable pub bound_outcome : BoundWord → List ℕ → Outcome
bound_outcome word bytes = or_fault (two_fault (codes "given") bytes) (given_outcome word (back_problem (codes "given") bytes) (front_bound (codes "given") bytes))

-- ---- verdicts
-- the outcome of a verdict on a bound
abbrev pub rendered : NamedProblem → Bound → GivenVerdict → Outcome
rendered input bound verdict.Accepted = accepted bound
rendered input bound (verdict.NoInput fault) = refused (fault_line input fault)
rendered input bound (verdict.Fails refusal) = verdict_outcome refusal
rendered input bound (verdict.Solvable number sets holds) = refused (end_line number ++ fit_text (problem_at bound number) input sets.items ++ kept_line holds)
rendered input bound verdict.Unsolvable = refused (end_line (length bound.steps))
rendered input bound verdict.NotBack = verdict_outcome (Refused (length bound.steps) Back)
rendered input bound verdict.TooManyTries = tries_outcome

-- the cause that a verdict names stands: the problem is no input problem, the step is the first that fails, and the sets are the first that solve the problem
abbrev pub HasCause : NamedProblem → Bound → GivenVerdict → Type 0
HasCause input bound (verdict.NoInput fault) = IsJudged bound.first input (Some fault)
HasCause input bound (verdict.Fails refusal) = steps_refusal bound ≡ Some refusal
HasCause input bound (verdict.Solvable number sets holds) = (number ≤ length bound.steps) × AreFirst (unnamed (problem_at bound number)) (input_at input number) sets.items
HasCause input bound verdict.Accepted = Unit {0}
HasCause input bound verdict.Unsolvable = Unit {0}
HasCause input bound verdict.NotBack = Unit {0}
HasCause input bound verdict.TooManyTries = Unit {0}
