-- Colours of the labels of a problem, which no renaming changes.
use Rattle.std.specs.Prelude.{ℕ, zero, suc, ◌+◌, ◌*◌, ◌%◌, ◌^◌, ◌==◌, nat_lt, List, length, map, sum_by, count_by, slice_index_or, if◌then◌else◌}
use Rattle.re_labels.specs.Lists.{count_from}
use Rattle.re_labels.specs.declared.TheConstants.{MAX_LABELS}
use Rattle.re_shaping.specs.Mixing.{mixed}
use Rattle.re_labels.specs.Constraints.{Constraint}
use Rattle.re_problem.specs.NamedProblems.{NamedProblem}
use Rattle.re_shaping.specs.declared.colours.TheConstants.{ACTIVE, FIRST, PASSIVE, SINGLED}

-- a colour is a number below 2 ^ 64; this is that of a label, where a list has the colours of all labels in order
abbrev pub colour_at : List ℕ → ℕ → ℕ
colour_at colours label = slice_index_or colours label 0

-- a colour for each label below n
abbrev pub colours_by : (ℕ → ℕ) → ℕ → List ℕ
colours_by colour n = map colour (count_from 0 n)

-- the number of a configuration on a side: by the colours of its labels, in whatever order
unfoldable pub config_number : List ℕ → ℕ → List ℕ → ℕ
config_number colours side config = mixed ((side + sum_by (λ label. mixed (colour_at colours label)) config) % 2 ^ 64)

-- the number, as often as the label stands in the configuration
abbrev pub times_in : List ℕ → ℕ → ℕ → ℕ
times_in config label number = sum_by (λ other. if other == label then number else 0) config

-- the numbers of the configurations in which the label stands, each as often as it stands there
unfoldable pub numbers_at : List ℕ → ℕ → Constraint → ℕ → ℕ
numbers_at colours side constraint label = sum_by (λ config. times_in config label (config_number colours side config)) constraint.configs

-- the next colour of a label: by its colour and by the numbers of the configurations in which it stands
unfoldable pub next_colour : NamedProblem → List ℕ → ℕ → ℕ
next_colour problem colours label =
    mixed ((3 * colour_at colours label + numbers_at colours ACTIVE problem.active label + numbers_at colours PASSIVE problem.passive label) % 2 ^ 64)

abbrev pub next_colours : NamedProblem → List ℕ → List ℕ
next_colours problem colours = colours_by (next_colour problem colours) (length colours)

-- how many pairs of labels have one colour
unfoldable pub pairs_alike : List ℕ → ℕ
pairs_alike colours = sum_by (λ colour. count_by (λ other. other == colour) colours) colours

-- the colours that come of these, again and again, until no more labels get different ones, and at most so often
unfoldable pub refined : ℕ → NamedProblem → List ℕ → List ℕ
refined zero problem colours = colours
refined (suc times) problem colours =
    let next = next_colours problem colours in
    if nat_lt (pairs_alike next) (pairs_alike colours) then refined times problem next else next

-- the colours with another one for a label
abbrev pub with_single : List ℕ → ℕ → List ℕ
with_single colours label = colours_by (λ other. (colour_at colours other + (if other == label then SINGLED else 0)) % 2 ^ 64) (length colours)

-- the colours of the labels of a problem: at first all alike, and then refined
unfoldable pub first_colours : NamedProblem → List ℕ
first_colours problem = refined MAX_LABELS problem (colours_by (λ label. FIRST) (length problem.names))

-- a number of all colours, in whatever order
unfoldable pub mark_of : List ℕ → ℕ
mark_of colours = sum_by mixed colours % 2 ^ 64
