-- What reports are put together from: labels, sets of them, and rows.
use Rattle.std.specs.Prelude.{ℕ, ◌==◌, List, [], ◌∷◌, ◌++◌, codes, flat_map, if◌then◌else◌, length, map}
use Rattle.std.specs.Fmt.{decimal}
use Rattle.re_labels.specs.Sets.{number, set_of}
use Rattle.re_labels.specs.declared.TheConstants.{MAX_LABELS}
use Rattle.re_texts.specs.SetTexts.{named_text}
use Rattle.re_problem.specs.CanonicalTexts.{Run, power_text, runs, spaced}

-- what stands behind the labels of the problem of a number, where labels of several problems are spoken of
abbrev pub index_of : ℕ → List ℕ
index_of number = codes "_" ++ decimal number

-- a label, with what stands behind the labels of its problem
abbrev pub shown : List (List ℕ) → List ℕ → ℕ → List ℕ
shown names index label = named_text names label ++ index

-- the labels of a set in order, with some words between
abbrev pub listed : List (List ℕ) → List ℕ → List ℕ → List ℕ → List ℕ
listed names index between [] = []
listed names index between (label ∷ set) = shown names index label ++ flat_map (λ next. between ++ shown names index next) set

-- what stands between labels in brackets: a blank where each has something behind it
abbrev pub gap : List ℕ → List ℕ
gap [] = []
gap (byte ∷ index) = codes " "

-- the labels of a set in brackets
abbrev pub group_text : List (List ℕ) → List ℕ → List ℕ → List ℕ
group_text names index set = codes "[" ++ (listed names index (gap index) set ++ codes "]")

-- a set of a row: its label alone, or its labels in brackets
abbrev pub item_text : List (List ℕ) → List ℕ → List ℕ → List ℕ
item_text names index set = if length set == 1 then listed names index [] set else group_text names index set

-- a run of equal sets, by their number: the set, with the power where it isn't one
abbrev pub run_item_text : List (List ℕ) → Run → List ℕ
run_item_text names run = item_text names [] (set_of MAX_LABELS run.label) ++ power_text run.count

-- the sets of a row with one space between, runs of equal ones with their power
abbrev pub items_text : List (List ℕ) → List (List ℕ) → List ℕ
items_text names sets = spaced (map (run_item_text names) (runs (map number sets)))

-- the sets of a row, each behind a blank
abbrev pub places_text : List (List ℕ) → List ℕ → List (List ℕ) → List ℕ
places_text names index sets = flat_map (λ set. codes " " ++ item_text names index set) sets

-- labels, each behind a blank
abbrev pub image_text : List (List ℕ) → List ℕ → List ℕ → List ℕ
image_text names index labels = flat_map (λ label. codes " " ++ shown names index label) labels
