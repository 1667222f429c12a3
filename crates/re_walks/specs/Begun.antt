-- Labels that begin a configuration.
use Rattle.std.specs.Prelude.{ℕ, ◌-◌, Bool, List, ◌++◌, length, replicate, find, is_some}
use Rattle.re_labels.specs.Lists.{count_from}
use Rattle.re_labels.specs.Rows.{choices, singles}
use Rattle.re_labels.specs.Constraints.{Constraint, has_config}

-- whether some configuration of labels below n begins with these labels, in some order of its own
abbrev pub is_begun : Constraint → ℕ → List ℕ → Bool
is_begun active n labels = is_some (find (has_config active) (choices (singles labels ++ replicate (active.degree - length labels) (count_from 0 n))))
