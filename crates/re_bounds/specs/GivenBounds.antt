-- What certificates of bounds say where a solution of an input problem is given.
use Rattle.std.specs.Prelude.{◌≡◌, ℕ, ◌≤◌, ◌<◌, ◌+◌, ◌-◌, ◌*◌, ◌^◌, true, ◌∷◌, length, None}
use Rattle.std.specs.List.{AllByRecursion}
use Rattle.re_cert.specs.Bounds.{Bound, is_bound, is_fixed, last_problem, next_problems, problem_at}
use Rattle.re_cert.specs.declared.certificate.Kind.{Kind}
use Rattle.re_cert.specs.declared.certificate.Kind.TheVariants.{Fixed, Lower, Upper}
use Rattle.re_check.specs.Verdicts.{meets_back, steps_fault, verdict_of}
use Rattle.re_check.specs.declared.verdict.Verdict.{Verdict}
use Rattle.re_check.specs.declared.verdict.Verdict.TheVariants.{Accepted, Refused}
use Rattle.re_given.specs.Given.{SolvableGiven, ZeroGiven}
use Rattle.re_given.specs.Inputs.{IsInput, exchanged_by}
use Rattle.re_given.specs.Unavoidable.{IsUnavoidable, colouring}
use Rattle.re_problem.specs.NamedProblems.{IsNamedProblem, NamedProblem, unnamed}
use Rattle.re_problem.specs.Problems.{Problem}

-- ---- given any input problem
-- what a bound of the kind and of so many steps says of the first problem, given the input problem
abbrev pub MeansGiven : Kind → ℕ → Problem → Problem → Type 0
MeansGiven Lower steps problem input = (T : ℕ) → T ≤ steps → SolvableGiven problem input T → ⊥
MeansGiven Upper steps problem input = SolvableGiven problem input steps
MeansGiven Fixed steps problem input = (T : ℕ) → SolvableGiven problem input T → ⊥

-- a last problem at which a bound of the kind ends: one that isn't zero given the input problem, or at an upper bound one that is
abbrev pub EndsGiven : Kind → Problem → Problem → Type 0
EndsGiven Lower last input = ZeroGiven last input → ⊥
EndsGiven Upper last input = ZeroGiven last input
EndsGiven Fixed last input = ZeroGiven last input → ⊥

-- each step meets its clauses, the last problem ends the bound given the input problem, exchanged as often as there are steps, and a fixed
-- point goes back
pub record IsValidGiven (bound : Bound) (input : Problem) : Type 0 where
  pub steps : steps_fault bound.first 1 bound.steps ≡ None
  pub ends : EndsGiven bound.kind (unnamed (last_problem bound)) (exchanged_by (length bound.steps) input)
  pub back : is_fixed bound.kind ≡ true → meets_back bound ≡ true

-- what a bound over problems that is valid given an input problem of the first one says
abbrev pub ValidGivenLaw : Type 0
ValidGivenLaw = (bound : Bound) (input : Problem) → is_bound bound ≡ true → IsNamedProblem bound.first → AllByRecursion IsNamedProblem (next_problems bound.steps) →
    IsInput (unnamed bound.first) input → IsValidGiven bound input → MeansGiven bound.kind (length bound.steps) (unnamed bound.first) input

-- ---- given what helps no more than ports
-- what a verdict says of the first problem given an input problem that is unavoidable: after a lower bound of k steps no algorithm of less
-- than k rounds solves it, and after a fixed point none of any number
abbrev pub MeansBeside : Verdict → Problem → Problem → Type 0
MeansBeside (Accepted Lower steps) problem input = (T : ℕ) → T < steps → SolvableGiven problem input T → ⊥
MeansBeside (Accepted Upper steps) problem input = Unit {0}
MeansBeside (Accepted Fixed steps) problem input = (T : ℕ) → SolvableGiven problem input T → ⊥
MeansBeside (Refused step clause) problem input = Unit {0}

-- no problem of the bound has more than n labels
abbrev pub HasFewLabels : ℕ → Bound → Type 0
HasFewLabels n bound = AllByRecursion (λ (problem : NamedProblem). length problem.names ≤ n) (bound.first ∷ next_problems bound.steps)

-- the verdict on a certificate is right given each input problem that is unavoidable for lists of its problems' labels
abbrev pub BesideLaw : Type 0
BesideLaw = (bound : Bound) (input : Problem) (n : ℕ) → is_bound bound ≡ true → IsNamedProblem bound.first → AllByRecursion IsNamedProblem (next_problems bound.steps) →
    IsInput (unnamed bound.first) input → HasFewLabels n bound → IsUnavoidable input n → MeansBeside (verdict_of bound) (unnamed bound.first) input

-- and so it is given a proper colouring with more than (p - 1) n colours
abbrev pub ColouredBoundLaw : Type 0
ColouredBoundLaw = (bound : Bound) (n c : ℕ) → is_bound bound ≡ true → IsNamedProblem bound.first → AllByRecursion IsNamedProblem (next_problems bound.steps) →
    HasFewLabels n bound → bound.first.passive.degree ≤ c → (bound.first.passive.degree - 1) * n < c →
    MeansBeside (verdict_of bound) (unnamed bound.first) (colouring bound.first.active.degree bound.first.passive.degree c)

-- ---- with the labels of one problem
-- a bound over problems
pub record IsOver (bound : Bound) : Type 0 where
  pub fits : is_bound bound ≡ true
  pub first : IsNamedProblem bound.first
  pub next : AllByRecursion IsNamedProblem (next_problems bound.steps)

-- what is accepted as an upper bound is one given any input problem
abbrev pub UpperBoundLaw : Type 0
UpperBoundLaw = (bound : Bound) (input : Problem) → IsOver bound → IsInput (unnamed bound.first) input → verdict_of bound ≡ Accepted Upper (length bound.steps) →
    SolvableGiven (unnamed bound.first) input (length bound.steps)

-- what is accepted as a lower bound of an even number of steps is one given each input problem that is unavoidable for lists of its last
-- problem's labels
abbrev pub EvenBoundLaw : Type 0
EvenBoundLaw = (bound : Bound) (input : Problem) (half T : ℕ) → IsOver bound → IsInput (unnamed bound.first) input → verdict_of bound ≡ Accepted Lower (length bound.steps) →
    length bound.steps ≡ half + half → IsUnavoidable input (length (last_problem bound).names) → T ≤ length bound.steps → SolvableGiven (unnamed bound.first) input T → ⊥

-- and one of an odd number of steps, where passive nodes are edges, given a proper colouring with more than 2^n colours, n being the number
-- of its last problem's labels
abbrev pub OddBoundLaw : Type 0
OddBoundLaw = (bound : Bound) (c half T : ℕ) → IsOver bound → bound.first.passive.degree ≡ 2 → verdict_of bound ≡ Accepted Lower (length bound.steps) →
    length bound.steps ≡ half + half + 1 → 2 ^ length (last_problem bound).names < c → T ≤ length bound.steps →
    SolvableGiven (unnamed bound.first) (colouring bound.first.active.degree 2 c) T → ⊥

-- what is accepted as a fixed point is one given each input problem that is unavoidable for lists of the labels of one problem behind an even
-- number of steps, from that on to which it goes back
abbrev pub FixedBoundLaw : Type 0
FixedBoundLaw = (bound : Bound) (input : Problem) (number half T : ℕ) → IsOver bound → IsInput (unnamed bound.first) input → verdict_of bound ≡ Accepted Fixed (length bound.steps) →
    bound.back ≤ number → number ≤ length bound.steps → number ≡ half + half → IsUnavoidable input (length (problem_at bound number).names) →
    SolvableGiven (unnamed bound.first) input T → ⊥
