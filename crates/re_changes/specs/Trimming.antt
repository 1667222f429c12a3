-- Problems without the labels that others cover.
use Rattle.std.specs.Prelude.{◌≡◌, ℕ, zero, suc, ◌+◌, ◌<◌, ◌==◌, Bool, true, not, ◌&&◌, List, [], length, slice_index_or, find, map, Option, None, Some}
use Rattle.std.specs.List.{list_any}
use Rattle.re_labels.specs.Lists.{count_from}
use Rattle.re_labels.specs.Sets.{IsIn, without_label}
use Rattle.re_labels.specs.Strength.{constraint_without}
use Rattle.re_problem.specs.NamedProblems.{NamedProblem, unnamed}
use Rattle.re_problem.specs.Problems.{Problem}
use Rattle.re_changes.specs.Merging.{covers}
use Rattle.re_changes.specs.Renumbering.{number_among, renumbered}

-- whether another label covers this one
abbrev pub is_covered : Problem → ℕ → Bool
is_covered problem a = list_any (λ b. not (b == a) && covers problem b a) (count_from 0 problem.labels)

-- the least label that another one covers
abbrev pub first_covered : Problem → Option ℕ
first_covered problem = find (is_covered problem) (count_from 0 problem.labels)

-- all labels but this one
abbrev pub all_but : ℕ → ℕ → List ℕ
all_but label n = without_label (count_from 0 n) label

-- the problem without this label and the configurations that hold it, the other labels numbered anew
abbrev pub named_without : ℕ → NamedProblem → NamedProblem
named_without label named =
    let stay = all_but label (length named.names) in
    renumbered stay (map (number_among stay) (count_from 0 (length named.names))) (record {
      names = named.names;
      active = constraint_without label named.active;
      passive = constraint_without label named.passive;
    })

-- the problem without the label, where there is one to leave out
abbrev pub leaving_out : Option ℕ → NamedProblem → NamedProblem
leaving_out None named = named
leaving_out (Some label) named = named_without label named

-- k times the least label that another one covers is left out, as long as there is one
abbrev pub trimmed : ℕ → NamedProblem → NamedProblem
trimmed zero named = named
trimmed (suc k) named = trimmed k (leaving_out (first_covered (unnamed named)) named)

-- as long as some label is covered by another one, the least such label is left out
abbrev pub trimmed_of : NamedProblem → NamedProblem
trimmed_of named = trimmed (length named.names) named

-- the sets have labels that still cover others, where so many labels, the first ones, have been left out since they were found
abbrev pub IsKnown : ℕ → List (List ℕ) → NamedProblem → Type 0
IsKnown passed sets named = (x y : ℕ) → IsIn (passed + y) (slice_index_or sets (passed + x) [])
    → (x < length named.names) × (y < length named.names) × (covers (unnamed named) y x ≡ true)
