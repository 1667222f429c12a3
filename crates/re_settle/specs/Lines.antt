-- The lines of an answer.
use Rattle.std.specs.Prelude.{ℕ, ◌==◌, ◌||◌, not, List, [], ◌∷◌, ◌++◌, codes, filter, length, if◌then◌else◌, Option, None, Some}
use Rattle.std.specs.Fmt.{decimal}
use Rattle.re_forest_words.specs.Answers.{labels_text}
use Rattle.re_forests.specs.TrimmedSets.{trimmed_set}
use Rattle.re_labels.specs.Lists.{count_from}
use Rattle.re_labels.specs.Sets.{has}
use Rattle.re_labels.specs.declared.sides.Side.{Side}
use Rattle.re_labels.specs.declared.sides.Side.TheVariants.{Active, Passive}
use Rattle.re_texts.specs.SetTexts.{named_text}
use Rattle.re_problem.specs.NamedProblems.{NamedProblem, unnamed}
use Rattle.re_evidence.specs.Lines.{alone_text, claim_text, class_text}
use Rattle.re_settle.specs.Claims.{claim_of}
use Rattle.re_settle.specs.Classes.{class_of}
use Rattle.re_settle.specs.declared.types.Classified.{Classified}
use Rattle.re_settle.specs.declared.types.Coloured.{Coloured}
use Rattle.re_settle.specs.declared.types.ColouredWay.{ColouredWay}
use Rattle.re_settle.specs.declared.types.ColouredWay.TheVariants as coloured
use Rattle.re_settle.specs.declared.types.Further.{Further}
use Rattle.re_settle.specs.declared.types.Further.TheVariants as further
use Rattle.re_evidence.specs.declared.types.Most.{Most}
use Rattle.re_settle.specs.declared.types.Settled.{Settled}
use Rattle.re_settle.specs.declared.types.Settled.TheVariants as settled
use Rattle.re_settle.specs.declared.types.Way.{Way}
use Rattle.re_settle.specs.declared.types.Way.TheVariants.{Closure, Cover, Cycle, Fixed, Flexible, Longest, Lower, Merge, Raised, Relaxed, Rounds, Shortest, Through, Upper, Zero}

-- ---- the first line
-- that there is no solution, or the claim
abbrev pub first_text : ℕ → Settled → List ℕ
first_text passive settled.Unsolvable = codes "no solution\n"
first_text passive settled = claim_text passive (claim_of settled) ++ alone_text (claim_of settled)

-- ---- the lines behind it
-- the program and the word
abbrev pub way_words : Way → List ℕ
way_words Zero = codes "re zero"
way_words Flexible = codes "explore flexible"
way_words (Lower steps merges) = codes "re lower"
way_words (Upper steps drops) = codes "re upper"
way_words (Fixed steps merges) = codes "re fixed"
way_words (Closure steps) = codes "explore closure"
way_words (Raised low high) = codes "explore closure"
way_words (Merge from to) = codes "explore merge"
way_words (Cover nodes) = codes "explore cover"
way_words (Cycle steps merges nodes) = codes "explore cycle"
way_words (Relaxed nodes) = codes "explore relaxed"
way_words Through = codes "explore through"
way_words (Rounds most) = codes "explore rounds"
way_words (Longest steps labels) = codes "explore longest"
way_words (Shortest steps labels) = codes "explore shortest"

-- the numbers behind them; `closure` without steps has none
abbrev pub way_numbers : Way → List ℕ
way_numbers Zero = []
way_numbers Flexible = []
way_numbers Through = []
way_numbers (Lower steps merges) = steps ∷ merges ∷ []
way_numbers (Upper steps drops) = steps ∷ drops ∷ []
way_numbers (Fixed steps merges) = steps ∷ merges ∷ []
way_numbers (Closure steps) = if steps == 0 then [] else steps ∷ []
way_numbers (Raised low high) = []
way_numbers (Merge from to) = []
way_numbers (Cover nodes) = nodes ∷ []
way_numbers (Cycle steps merges nodes) = steps ∷ merges ∷ nodes ∷ []
way_numbers (Relaxed nodes) = nodes ∷ []
way_numbers (Rounds most) = most ∷ []
way_numbers (Longest steps labels) = steps ∷ labels ∷ []
way_numbers (Shortest steps labels) = steps ∷ labels ∷ []

abbrev pub number_texts : List ℕ → List ℕ
number_texts [] = []
number_texts (number ∷ numbers) = (codes " " ++ decimal number) ++ number_texts numbers

-- the labels of a merge, in quotes as a shell asks for, and the words that read what it gives; the edge of a diagram; nothing behind other words
abbrev pub way_rest : List (List ℕ) → Way → List ℕ
way_rest names (Merge from to) = codes " '" ++ (named_text names from ++ (codes "' '" ++ (named_text names to ++ codes "' | explore closure")))
way_rest names (Raised low high) = codes " with diagram " ++ named_text names low ++ codes " " ++ named_text names high
way_rest names Zero = codes ""
way_rest names Flexible = codes ""
way_rest names Through = codes ""
way_rest names (Lower steps merges) = codes ""
way_rest names (Upper steps drops) = codes ""
way_rest names (Fixed steps merges) = codes ""
way_rest names (Closure steps) = codes ""
way_rest names (Cover nodes) = codes ""
way_rest names (Cycle steps merges nodes) = codes ""
way_rest names (Relaxed nodes) = codes ""
way_rest names (Rounds most) = codes ""
way_rest names (Longest steps labels) = codes ""
way_rest names (Shortest steps labels) = codes ""

abbrev pub way_line : List (List ℕ) → Way → List ℕ
way_line names way = codes "by: " ++ (way_words way ++ (number_texts (way_numbers way) ++ (way_rest names way ++ codes "\n")))

-- a line for each of the words that show what is known
abbrev pub way_lines : List (List ℕ) → Settled → List ℕ
way_lines names settled.Unsolvable = way_line names Flexible
way_lines names (settled.Exactly shown) = way_line names shown.way
way_lines names (settled.Never way) = way_line names way
way_lines names (settled.Within more None) = way_line names more.way
way_lines names (settled.Within more (Some most)) = way_line names more.way ++ way_line names most.way

-- ---- the lines on unique identifiers
-- the words, given a proper colouring
abbrev pub coloured_words : ColouredWay → List ℕ
coloured_words (coloured.Rounds most) = codes "explore rounds " ++ decimal most
coloured_words (coloured.Shortest steps labels) = codes "explore shortest " ++ (decimal steps ++ (codes " " ++ decimal labels))

-- what has colours
abbrev pub colours_text : Side → List ℕ
colours_text Active = codes " colours\n"
colours_text Passive = codes " edge colours\n"

abbrev pub coloured_line : Coloured → List ℕ
coloured_line coloured = codes "by: " ++ (coloured_words coloured.way ++ (codes " given " ++ (decimal coloured.colours ++ colours_text coloured.side)))

-- the line of the word that finds a flexible set, where one gives a bound above
abbrev pub above_line : List (List ℕ) → Option Most → List ℕ
above_line names None = codes ""
above_line names (Some most) = way_line names Flexible

-- what the literature says of a problem with so many levels of labels, and the line of the word that counts them: nothing is claimed here but their number
abbrev pub length_lines : List (List ℕ) → Option ℕ → List ℕ
length_lines names None = codes ""
length_lines names (Some count) = (codes "literature: order N^(1/" ++ decimal count) ++ (codes ")\n" ++ way_line names Flexible)

-- what a flexible set, or the number of levels, adds to a bound below
abbrev pub bound_lines : List (List ℕ) → Option Most → Option ℕ → List ℕ
bound_lines names above length = above_line names above ++ length_lines names length

-- the lines of the words that show the class of what no number of rounds is known to solve, where these aren't those that show the claim
abbrev pub further_lines : List (List ℕ) → Further → Option Most → Option ℕ → List ℕ
further_lines names further.Nothing above length = bound_lines names above length
further_lines names further.Linear above length = codes ""
further_lines names (further.FewColours coloured) above length = coloured_line coloured
further_lines names further.Greedy above length = codes "by: explore greedy\n"
further_lines names (further.FixedPoint way) above length = way_line names way ++ bound_lines names above length

-- the lines of the words that show the class, where these aren't those that show the claim
abbrev pub shows_lines : List (List ℕ) → Settled → Further → Option Most → Option ℕ → List ℕ
shows_lines names settled.Unsolvable further above length = codes ""
shows_lines names (settled.Exactly shown) further above length = codes ""
shows_lines names (settled.Never way) further above length = further_lines names further above length
shows_lines names (settled.Within more None) further above length = further_lines names further above length
shows_lines names (settled.Within more (Some most)) further above length = codes ""

abbrev pub class_lines : List (List ℕ) → Classified → List ℕ
class_lines names classified =
    codes "with identifiers: " ++ (class_text (class_of classified.settled classified.further classified.above)
    ++ (codes "\n" ++ shows_lines names classified.settled classified.further classified.above classified.length))

-- they stand where there is a solution
abbrev pub classes_text_of : Settled → List ℕ → List ℕ
classes_text_of settled.Unsolvable lines = codes ""
classes_text_of settled lines = lines

abbrev pub classes_text : List (List ℕ) → Classified → List ℕ
classes_text names classified = classes_text_of classified.settled (class_lines names classified)

-- ---- the last line
-- the labels of a problem that the set lacks, in order
abbrev pub lost_from : List ℕ → ℕ → ℕ → List ℕ
lost_from kept label more = filter (λ x. not (has kept x)) (count_from label more)

-- the names of the labels that trimming takes away, where it leaves some and takes some away: they stand in no trimmed set, so inside a tree nowhere
abbrev pub note_of : List (List ℕ) → List ℕ → List ℕ
note_of names kept =
    if (length kept == 0) || (length kept == length names) then codes ""
    else codes "note: labels that fit no tree:" ++ (labels_text names (lost_from kept 0 (length names)) ++ codes "\n")

abbrev pub note_line : NamedProblem → List ℕ
note_line problem = note_of problem.names (trimmed_set (unnamed problem))

-- ---- the whole answer on a problem
-- what is claimed, and what shows it
abbrev pub claim_lines : NamedProblem → Settled → List ℕ
claim_lines problem settled = first_text problem.passive.degree settled ++ way_lines problem.names settled

-- the rest: the class, what shows it, and the note
abbrev pub rest_lines : NamedProblem → Classified → List ℕ
rest_lines problem classified = classes_text problem.names classified ++ note_line problem

abbrev pub settled_text : NamedProblem → Classified → List ℕ
settled_text problem classified = claim_lines problem classified.settled ++ rest_lines problem classified
