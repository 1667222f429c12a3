-- Problems whose equal labels are merged.
use Rattle.std.specs.Prelude.{ℕ, Bool, ◌&&◌, List, length, map}
use Rattle.re_labels.specs.Lists.{count_from}
use Rattle.re_labels.specs.Strength.{is_at_least_as_strong}
use Rattle.re_problem.specs.NamedProblems.{NamedProblem, unnamed}
use Rattle.re_problem.specs.Problems.{Problem}
use Rattle.re_changes.specs.Classes.{least_equal, least_labels}
use Rattle.re_changes.specs.Renumbering.{number_among, renumbered}

-- whether b is at least as strong as a in both constraints
abbrev pub covers : Problem → ℕ → ℕ → Bool
covers problem b a = is_at_least_as_strong problem.active b a && is_at_least_as_strong problem.passive b a

-- the labels that stay: the least of those that cover each other
abbrev pub unmerged : NamedProblem → List ℕ
unmerged named = least_labels (covers (unnamed named)) (length named.names)

-- each label goes to the least label that covers it and is covered by it, by its number among those that stay
abbrev pub merge_map : NamedProblem → List ℕ
merge_map named =
    map (λ a. number_among (unmerged named) (least_equal (covers (unnamed named)) (length named.names) a)) (count_from 0 (length named.names))

-- the problem of the labels that stay, with the images of the configurations
abbrev pub merged_of : NamedProblem → NamedProblem
merged_of named = renumbered (unmerged named) (merge_map named) named

-- a problem whose equal labels are merged, and for each old label the number of the one that it was merged into
pub record Merging : Type 0 where
  pub problem : NamedProblem
  pub map : List ℕ

-- what merging makes of the problem
abbrev pub merging_of : NamedProblem → Merging
merging_of named = record { problem = merged_of named; map = merge_map named }
