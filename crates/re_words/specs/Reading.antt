-- The commands that read a problem text: what they answer.
use Rattle.std.specs.Prelude.{ℕ, List, [], ◌++◌, Option, Some, None, codes, slice_index_or}
use Rattle.re_problem.specs.CanonicalTexts.{canonical, config_text}
use Rattle.re_problem.specs.NamedProblems.{NamedProblem, unnamed}
use Rattle.re_problem.specs.ProblemTexts.{first_fault, lines_of, problem_of}
use Rattle.re_problem.specs.Zero.{zero_place}
use Rattle.re_problem.specs.declared.fault.InputFault.{InputFault}
use Rattle.re_words.specs.Counting.{rounds_outcome}
use Rattle.re_frame.specs.Outcomes.{Outcome, done}
use Rattle.re_words.specs.Searching.{search_outcome}
use Rattle.re_words.specs.declared.command.Reading.{Reading}
use Rattle.re_words.specs.declared.command.Reading.TheVariants.{Diagram, Merge, Read, Rounds, Search, Step, Trim, Universal, Zero}
use Rattle.re_words.specs.Working.{diagram_outcome, merge_outcome, step_outcome, trim_outcome, universal_outcome}
use Rattle.re_frame.specs.declared.status.Status.TheVariants.{Done, No}
use Rattle.re_frame.specs.TextFaults.{fault_outcome}

-- the first configuration that fits zero rounds, if any
abbrev pub fit_outcome : NamedProblem → Option ℕ → Outcome
fit_outcome problem None = record { status = No; text = codes "no\n" }
fit_outcome problem (Some place) = record { status = Done; text = codes "yes: " ++ config_text problem.names (slice_index_or problem.active.configs place []) ++ codes "\n" }

-- the outcome for a problem
abbrev pub problem_outcome : Reading → NamedProblem → Outcome
problem_outcome Read problem = done (canonical problem)
problem_outcome Zero problem = fit_outcome problem (zero_place (unnamed problem))
problem_outcome (Diagram side) problem = diagram_outcome side problem
problem_outcome Universal problem = universal_outcome problem
problem_outcome Merge problem = merge_outcome problem
problem_outcome Trim problem = trim_outcome problem
problem_outcome (Step n) problem = step_outcome n problem
problem_outcome (Rounds most) problem = rounds_outcome most problem
problem_outcome (Search kind steps changes) problem = search_outcome kind steps changes problem

abbrev pub read_outcome : Reading → NamedProblem → Option InputFault → Outcome
read_outcome reading problem None = problem_outcome reading problem
read_outcome reading problem (Some fault) = fault_outcome fault

-- the outcome for a problem text: that of its problem, or of its first fault
unfoldable pub reading_outcome : Reading → List ℕ → Outcome
reading_outcome reading bytes = read_outcome reading (problem_of (lines_of bytes)) (first_fault 0 1 (lines_of bytes))
