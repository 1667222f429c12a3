-- Numbers by which configurations and problems are compared as they stand: equal for equal ones, and for others hardly ever. They go by the numbers of
-- the labels, so a renaming changes them.
use Rattle.std.specs.Prelude.{◌≡◌, ℕ, ◌+◌, ◌*◌, ◌%◌, ◌^◌, ◌==◌, List, map, sum_by, if◌then◌else◌}
use Rattle.re_labels.specs.Constraints.{Constraint}
use Rattle.re_problem.specs.NamedProblems.{IsNamedProblem, NamedProblem}
use Rattle.re_shaping.specs.Colours.{first_colours, mark_of, times_in}
use Rattle.re_shaping.specs.Mixing.{mixed}
use Rattle.re_shaping.specs.Renamings.{IsRenaming}

-- the number of a label
unfoldable pub label_mark : ℕ → ℕ
label_mark label = mixed (((label + 1) * 0x9E37_79B9_7F4A_7C15) % 2 ^ 64)

-- the number of a configuration: the sum of those of its labels
unfoldable pub config_mark : List ℕ → ℕ
config_mark config = sum_by label_mark config % 2 ^ 64

-- the number of a constraint: by those of its configurations, in whatever order
unfoldable pub constraint_mark : Constraint → ℕ
constraint_mark constraint = mixed (sum_by (λ config. mixed (config_mark config)) constraint.configs % 2 ^ 64)

-- the number of a problem: by those of its two constraints; its names don't count
unfoldable pub problem_mark : NamedProblem → ℕ
problem_mark problem = (3 * constraint_mark problem.active + constraint_mark problem.passive) % 2 ^ 64

-- the configuration with one label in place of another
abbrev pub replaced : ℕ → ℕ → List ℕ → List ℕ
replaced from to config = map (λ label. if label == from then to else label) config

-- where a change makes the number of one label that of another, it makes the number of a configuration, once for each time that the one label stands there,
-- that of the configuration in which it has become the other
abbrev pub MovedMarkLaw : Type 0
MovedMarkLaw = (config : List ℕ) (from to change : ℕ) → (label_mark from + change) % 2 ^ 64 ≡ label_mark to % 2 ^ 64 →
    (config_mark config + times_in config from change) % 2 ^ 64 ≡ config_mark (replaced from to config)

-- problems of which the one is the other under other names have colours of one mark
abbrev pub ColoursLaw : Type 0
ColoursLaw = (from to : NamedProblem) (images : List ℕ) → IsNamedProblem from → IsNamedProblem to → IsRenaming from to images → mark_of (first_colours to) ≡ mark_of (first_colours from)
