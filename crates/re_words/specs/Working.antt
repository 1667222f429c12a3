-- What the commands answer that work on a problem.
use Rattle.std.specs.Prelude.{ℕ, zero, suc, ◌+◌, ◌-◌, nat_lt, List, ◌++◌, length, codes, if◌then◌else◌}
use Rattle.re_labels.specs.declared.TheConstants.{MAX_ROWS}
use Rattle.re_changes.specs.Diagrams.{classes_of, edges_of}
use Rattle.re_changes.specs.Merging.{merged_of}
use Rattle.re_changes.specs.Trimming.{trimmed_of}
use Rattle.re_labels.specs.declared.sides.Side.{Side}
use Rattle.re_labels.specs.declared.sides.Side.TheVariants.{Active, Passive}
use Rattle.re_texts.specs.SetTexts.{diagram_text, meanings_text, rows_text}
use Rattle.re_problem.specs.CanonicalTexts.{canonical}
use Rattle.re_problem.specs.NamedProblems.{NamedProblem, unnamed}
use Rattle.re_step.specs.Derivations.{named_derived, step_limit}
use Rattle.re_labels.specs.Constraints.{Constraint}
use Rattle.re_labels.specs.GoodRows.{max_rows, max_sets}
use Rattle.re_frame.specs.Outcomes.{Outcome, done, limit_of}
use Rattle.re_limits.specs.StepLimits.{or_limit}

-- the constraint of a side
abbrev pub constraint_at : Side → NamedProblem → Constraint
constraint_at Active problem = problem.active
constraint_at Passive problem = problem.passive

-- the strength diagram of one side
unfoldable pub diagram_outcome : Side → NamedProblem → Outcome
diagram_outcome side problem = done (diagram_text problem.names (classes_of (constraint_at side problem) (length problem.names)) (edges_of (constraint_at side problem) (length problem.names)))

-- the maximal rows of the passive side, unless they are too many
unfoldable pub universal_outcome : NamedProblem → Outcome
universal_outcome problem =
    if nat_lt MAX_ROWS (length (max_rows problem.passive (length problem.names))) then limit_of MAX_ROWS (codes "rows")
    else done (rows_text problem.names (max_rows problem.passive (length problem.names)))

-- equal labels merged
unfoldable pub merge_outcome : NamedProblem → Outcome
merge_outcome problem = done (canonical (merged_of problem))

-- covered labels left out
unfoldable pub trim_outcome : NamedProblem → Outcome
trim_outcome problem = done (canonical (trimmed_of problem))

-- the meanings of the labels of the derived problem, an empty line, and its canonical text
unfoldable pub derived_text : NamedProblem → List ℕ
derived_text problem =
    meanings_text (named_derived (unnamed problem)).names problem.names (max_sets problem.passive (length problem.names)) ++ codes "\n" ++ canonical (named_derived (unnamed problem))

-- the derived problem behind so many further steps, where the next step has this number
unfoldable pub stepped : ℕ → ℕ → NamedProblem → Outcome
stepped number zero problem = or_limit number (step_limit (unnamed problem)) (done (derived_text problem))
stepped number (suc further) problem = or_limit number (step_limit (unnamed problem)) (stepped (number + 1) further (named_derived (unnamed problem)))

-- the problem that is derived in n steps
unfoldable pub step_outcome : ℕ → NamedProblem → Outcome
step_outcome n problem = stepped 1 (n - 1) problem
