-- How many labels the search for a renaming tries.
use Rattle.std.specs.Prelude.{ℕ, zero, suc, ◌+◌, ◌==◌, List, length, drop, sum_by, if◌then◌else◌, Option, option_map, unwrap_or}
use Rattle.re_labels.specs.Lists.{count_from}
use Rattle.re_labels.specs.Sets.{has}
use Rattle.re_labels.specs.declared.TheConstants.{MAX_LABELS}
use Rattle.re_problem.specs.Verdicts.{first_label}
use Rattle.re_problem.specs.NamedProblems.{NamedProblem}
use Rattle.re_shaping.specs.Colours.{colour_at, mark_of, refined, with_single}
use Rattle.re_shaping.specs.declared.finding.TheConstants.{MAX_TRIES}

-- the first label that has a colour with a later one
unfoldable pub first_shared : List ℕ → Option ℕ
first_shared colours = first_label (λ label. has (drop (label + 1) colours) (colour_at colours label)) (length colours)

-- the tries for a label of the other problem: none where it has another colour than the label that is singled out; else one, and those that follow
-- where both have colours of their own
unfoldable pub tries_for : (List ℕ → List ℕ → ℕ) → NamedProblem → NamedProblem → List ℕ → List ℕ → ℕ → ℕ → ℕ
tries_for following from to colours others single label =
    if colour_at others label == colour_at colours single
    then suc (following (refined MAX_LABELS from (with_single colours single)) (refined MAX_LABELS to (with_single others label))) else 0

-- the tries of a whole search with these colours, that of a search in which no try finds a renaming: none where the marks of the colours are
-- different, or no two labels of the first problem have one colour; else those for each label of the other problem in turn, where the first label
-- that has a colour with a later one is singled out. A search that would go deeper counts as one of too many tries
unfoldable pub tries_of : ℕ → NamedProblem → NamedProblem → List ℕ → List ℕ → ℕ
tries_of zero from to colours others = if mark_of colours == mark_of others then unwrap_or (option_map (λ (single : ℕ). suc MAX_TRIES) (first_shared colours)) 0 else 0
tries_of (suc depth) from to colours others =
    if mark_of colours == mark_of others
    then unwrap_or (option_map (λ single. sum_by (tries_for (tries_of depth from to) from to colours others single) (count_from 0 (length others))) (first_shared colours)) 0
    else 0
