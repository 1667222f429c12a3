-- The lines of the word `greedy`.
use Rattle.std.specs.Prelude.{ℕ, nat_lt, ◌-◌, List, [], ◌∷◌, ◌++◌, codes, flat_map, if◌then◌else◌, length}
use Rattle.std.specs.Fmt.{decimal}
use Rattle.re_forest_words.specs.declared.showing.Shown.{Shown}
use Rattle.re_labels.specs.declared.sides.Side.{Side}
use Rattle.re_labels.specs.declared.sides.Side.TheVariants.{Active, Passive}
use Rattle.re_texts.specs.SetTexts.{named_text}
use Rattle.re_problem.specs.CanonicalTexts.{canonical}

-- the names of the labels, each behind a blank
abbrev pub labels_text : List (List ℕ) → List ℕ → List ℕ
labels_text names labels = flat_map (λ label. codes " " ++ named_text names label) labels

-- the line of a multiset: its labels, where they are fewer than the degree and at least one
abbrev pub partial_line : List (List ℕ) → ℕ → List ℕ → List ℕ
partial_line names degree [] = []
partial_line names degree (label ∷ labels) = if nat_lt (length labels) (degree - 1) then named_text names label ++ (labels_text names labels ++ codes "\n") else []

-- the lines of the multisets, the last one first
abbrev pub partial_lines : List (List ℕ) → ℕ → List (List ℕ) → List ℕ
partial_lines names degree [] = []
partial_lines names degree (labels ∷ partial) = partial_lines names degree partial ++ partial_line names degree labels

-- the side
abbrev pub side_text : Side → List ℕ
side_text Active = codes "active"
side_text Passive = codes "passive"

-- what shows it: from which side, behind how many steps; the problem that is greedy, whose active nodes are those of the side; and the multisets with which it is
abbrev pub shown_text : Shown → List ℕ
shown_text shown =
    codes "greedy: " ++ (side_text shown.side ++ (codes " nodes, behind " ++ (decimal shown.steps ++ (codes " steps\n"
    ++ (canonical shown.problem ++ (codes "\n== greedy\n" ++ partial_lines shown.problem.names shown.problem.passive.degree shown.partial.items))))))
