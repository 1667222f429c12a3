-- The answers of `rounds`.
use Rattle.std.proofs.Common.{◌≡◌, ℕ, List, sym, subst, Option, None, Some}
use Rattle.std.specs.Prelude.{option_map}
use Rattle.re_frame.specs.Outcomes.{Outcome}
use Rattle.re_frame.specs.TextFaults.{fault_outcome}
use Rattle.re_problem.specs.NamedProblems.{NamedProblem, unnamed}
use Rattle.re_problem.specs.Problems.{IsProblem}
use Rattle.re_problem.specs.declared.fault.InputFault.{InputFault as Fault}
use Rattle.re_given_words.proofs.CountingMeans.{told_means}
use Rattle.re_given_words.specs.Counting.{IsBeside, IsCountedLine, MayTell, counted_outcome}
use Rattle.re_given_words.specs.RoundsTexts.{MayCount, MayCountBeside, MayCountRead, beside_fault, rounds_fault, rounds_input, rounds_problem}
use Rattle.re_given_words.specs.declared.counting.Counted.{Counted}

-- ---- the line of what is counted
pub counted_line : (problem : NamedProblem) (input : Option NamedProblem) (most : ℕ) (counted : Counted) (outcome : Outcome) → IsProblem (unnamed problem) → IsBeside (unnamed problem) (option_map unnamed input)
    → MayTell (unnamed problem) (option_map unnamed input) most counted → outcome ≡ counted_outcome counted → IsCountedLine problem input most outcome
counted_line problem input most counted outcome is beside told e =
    record { counted = counted; line = e; told = told; means = told_means (unnamed problem) is (option_map unnamed input) most counted beside told }

-- ---- the answer
pub may_count : (most : ℕ) (bytes : List ℕ) (problem : NamedProblem) (input : Option NamedProblem) (outcome : Outcome) → rounds_fault bytes ≡ None → problem ≡ rounds_problem bytes → input ≡ rounds_input bytes
    → MayCountBeside (beside_fault problem input) problem input most outcome → MayCount most bytes outcome
unfolding MayCount
may_count most bytes problem input outcome right problem_is input_is may =
    subst (λ f. MayCountRead f (rounds_problem bytes) (rounds_input bytes) most outcome) (sym right)
    (subst (λ i. MayCountBeside (beside_fault (rounds_problem bytes) i) (rounds_problem bytes) i most outcome) input_is (subst (λ p. MayCountBeside (beside_fault p input) p input most outcome) problem_is may))

pub may_refuse : (most : ℕ) (bytes : List ℕ) (fault : Fault) (outcome : Outcome) → rounds_fault bytes ≡ Some fault → outcome ≡ fault_outcome fault → MayCount most bytes outcome
unfolding MayCount
may_refuse most bytes fault outcome wrong e = subst (λ f. MayCountRead f (rounds_problem bytes) (rounds_input bytes) most outcome) (sym wrong) e
