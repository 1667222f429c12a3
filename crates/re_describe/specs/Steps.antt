-- What a report says of a step: what the labels of the next problem stand for.
use Rattle.std.specs.Prelude.{◌≡◌, ℕ, ◌==◌, ◌+◌, nat_lt, Bool, true, false, List, [], ◌∷◌, ◌++◌, codes, count_by, flat_map, if◌then◌else◌, length}
use Rattle.std.specs.Fmt.{decimal}
use Rattle.re_boxes.specs.Strength.{HasStronger}
use Rattle.re_cert.specs.Bounds.{BoundStep}
use Rattle.re_labels.specs.Lists.{count_from}
use Rattle.re_labels.specs.Sets.{IsLabelSet}
use Rattle.re_problem.specs.NamedProblems.{NamedProblem}
use Rattle.re_problem.specs.Steps.{LowerMap, SetEntry}
use Rattle.re_problem.specs.Steps.LowerMap.{by_row, by_set}
use Rattle.re_labels.specs.Constraints.{Constraint}
use Rattle.re_describe.specs.Meanings.{Means}
use Rattle.re_describe.specs.Pieces.{group_text, image_text, index_of, listed, places_text, shown}
use Rattle.re_describe.specs.declared.meanings.Meaning.{Meaning}
use Rattle.re_describe.specs.declared.meanings.Meaning.TheVariants.{Alone, Upwards}
use Rattle.re_describe.specs.declared.steps.Meant.{Meant}

-- a meaning: the weakest labels between angles, or the labels in brackets
abbrev pub meaning_text : List (List ℕ) → List ℕ → Meaning → List ℕ
meaning_text names index (Upwards weakest) = codes "<" ++ (listed names index (codes ",") weakest ++ codes ">")
meaning_text names index (Alone labels) = group_text names index labels

-- for each entry its label, and what its set means, where it is one of the labels below n
abbrev pub AreMeant : (ℕ → List ℕ) → ℕ → List SetEntry → List Meant → Type 0
AreMeant ups n [] [] = Unit {0}
AreMeant ups n (entry ∷ entries) (meant ∷ others) = (meant.label ≡ entry.label) × (IsLabelSet n entry.set → Means ups entry.set meant.meaning) × AreMeant ups n entries others
AreMeant ups n entries meant = ⊥

-- what words stand between meanings: none in front of the first one
abbrev pub between : Bool → List ℕ
between true = []
between false = codes " or "

-- the meanings of the sets that become the label
abbrev pub meanings_text : List (List ℕ) → List ℕ → ℕ → Bool → List Meant → List ℕ
meanings_text names index label first [] = []
meanings_text names index label first (meant ∷ others) =
    if meant.label == label then between first ++ (meaning_text names index meant.meaning ++ meanings_text names index label false others)
    else meanings_text names index label first others

-- behind them: whether there is none, or more than one
abbrev pub merged_text : ℕ → List ℕ
merged_text count = if count == 0 then codes "new: no set of the step becomes it" else if nat_lt 1 count then codes ", merged" else []

-- a label of the next problem, and what it stands for
abbrev pub label_line : List (List ℕ) → List ℕ → List (List ℕ) → List ℕ → List Meant → ℕ → List ℕ
label_line names index next next_index meant label =
    codes "    " ++ (shown next next_index label ++ (codes " = "
    ++ (meanings_text names index label true meant ++ (merged_text (count_by (λ (m : Meant). m.label == label) meant) ++ codes "\n"))))

-- of a lower step by sets, from the problem of this number
abbrev pub by_sets_text : List (List ℕ) → List (List ℕ) → ℕ → List Meant → List ℕ
by_sets_text names next number meant =
    (codes "\nWhat each label of problem " ++ (decimal (number + 1) ++ codes " stands for:\n\n"))
    ++ flat_map (label_line names (index_of number) next (index_of (number + 1)) meant) (count_from 0 (length next))

-- the rows with their images, one a line
abbrev pub images_text : List (List ℕ) → List ℕ → List (List ℕ) → List ℕ → List (List (List ℕ)) → List (List ℕ) → List ℕ
images_text names index next next_index (row ∷ rows) (image ∷ images) =
    codes "   " ++ (places_text names index row ++ (codes " becomes" ++ (image_text next next_index image ++ (codes "\n" ++ images_text names index next next_index rows images))))
images_text names index next next_index rows images = []

-- of one by rows
abbrev pub by_rows_text : List (List ℕ) → List (List ℕ) → ℕ → List (List (List ℕ)) → List (List ℕ) → List ℕ
by_rows_text names next number rows images =
    (codes "\nWhat each maximal row of the passive constraint of problem " ++ (decimal number ++ codes " becomes, place by place:\n\n"))
    ++ images_text names (index_of number) next (index_of (number + 1)) rows images

-- of an upper step: the label of each entry, and its set
abbrev pub entry_line : List (List ℕ) → List ℕ → List (List ℕ) → List ℕ → SetEntry → List ℕ
entry_line names index next next_index entry =
    codes "    " ++ (shown next next_index entry.label ++ (codes " = " ++ (group_text names index entry.set ++ codes "\n")))

abbrev pub upper_title : ℕ → List ℕ
upper_title number = (codes "\nThe set of labels of problem " ++ decimal number) ++ (codes " that each label of problem " ++ (decimal (number + 1) ++ codes " has:\n\n"))

abbrev pub upper_text : List (List ℕ) → List (List ℕ) → ℕ → List SetEntry → List ℕ
upper_text names next number entries = upper_title number ++ flat_map (entry_line names (index_of number) next (index_of (number + 1))) entries

-- some list has the meanings of the entries, by the strength of labels around passive nodes of the problem before, and the text is of these
pub record SaysSets (passive : Constraint) (names next : List (List ℕ)) (number : ℕ) (entries : List SetEntry) (text : List ℕ) : Type 0 where
  pub ups : ℕ → List ℕ
  pub stronger : HasStronger passive (length names) ups
  pub meant : List Meant
  pub means : AreMeant ups (length names) entries meant
  pub said : text ≡ by_sets_text names next number meant

-- of a step from the problem of this number
abbrev pub SaysMap : NamedProblem → NamedProblem → ℕ → Bool → List (List (List ℕ)) → LowerMap → List ℕ → Type 0
SaysMap before next number true rows (by_set entries) text = SaysSets before.passive before.names next.names number entries text
SaysMap before next number true rows (by_row images) text = text ≡ by_rows_text before.names next.names number rows images
SaysMap before next number false rows (by_set entries) text = text ≡ upper_text before.names next.names number entries
SaysMap before next number false rows (by_row images) text = text ≡ []

abbrev pub SaysStep : NamedProblem → ℕ → BoundStep → List ℕ → Type 0
SaysStep before number s text = SaysMap before s.next number s.lower s.rows s.map text
