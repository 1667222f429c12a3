-- The lines that show witnesses.
use Rattle.std.specs.Prelude.{ℕ, ◌+◌, ◌-◌, Bool, nat_lt, List, [], ◌++◌, codes, if◌then◌else◌, length, Option, None, Some}
use Rattle.std.specs.Fmt.{decimal}
use Rattle.std.specs.List.{list_all}
use Rattle.re_labels.specs.Configs.{sorted}
use Rattle.re_labels.specs.Rows.{row_of}
use Rattle.re_labels.specs.declared.TheConstants.{MAX_LABELS}
use Rattle.re_labels.specs.declared.sides.Side.TheVariants.{Active as ActiveSide, Passive as PassiveSide}
use Rattle.re_problem.specs.CanonicalTexts.{config_text}
use Rattle.re_texts.specs.SetTexts.{named_text, row_text, set_text}
use Rattle.re_problem.specs.declared.verdict.MapVerdict.{MapVerdict}
use Rattle.re_problem.specs.declared.verdict.MapVerdict.TheVariants.{Active, Count, Degrees as OtherDegrees, Empty, Passive, Twice, Yes}
use Rattle.re_cert.specs.Bounds.{Bound, last_problem, problem_at}
use Rattle.re_check.specs.declared.clause.Clause.{Clause}
use Rattle.re_check.specs.declared.clause.Clause.TheVariants.{End, Back}
use Rattle.re_why.specs.Standing.{Standing, standing}
use Rattle.re_why.specs.declared.finding.Refutation.{Refutation}
use Rattle.re_why.specs.declared.witness.Witness.{Witness}
use Rattle.re_why.specs.declared.witness.Witness.TheVariants.{Degrees, BadRow, Extends, RowOrder, ManyRows, MissingRow, SetOrder, MissingSet, ForeignSet, ImageCount, LostRow, LostChoice, LabelOrder, MissingLabel, EmptySet, BadSets, ShutSets, Fit, NoActive, NoFit, PairOrder, MissingPair, Renaming}

-- the labels have names
abbrev pub are_named : List (List ℕ) → List ℕ → Bool
are_named names labels = list_all (λ label. nat_lt label (length names)) labels

abbrev pub sets_named : List (List ℕ) → List (List ℕ) → Bool
sets_named names sets = list_all (are_named names) sets

-- labels, configurations, sets and rows as everywhere, where the labels have names
abbrev pub label_text_of : List (List ℕ) → ℕ → List ℕ
label_text_of names label = if nat_lt label (length names) then named_text names label else []

abbrev pub config_text_of : List (List ℕ) → List ℕ → List ℕ
config_text_of names config = if are_named names config then config_text names config else []

abbrev pub set_text_of : List (List ℕ) → List ℕ → List ℕ
set_text_of names set = if are_named names set then set_text names set else []

abbrev pub row_text_of : List (List ℕ) → List (List ℕ) → List ℕ
row_text_of names row = if sets_named names row then row_text names row else []

-- labels as a configuration
abbrev pub choice_text : List (List ℕ) → List ℕ → List ℕ
choice_text names labels = if are_named names labels then config_text_of names (sorted labels) else []

abbrev pub row_or_none : List (List ℕ) → Option (List (List ℕ)) → List ℕ
row_or_none names None = []
row_or_none names (Some row) = row_text_of names row

-- sets as a row
abbrev pub sets_text : List (List ℕ) → List (List ℕ) → List ℕ
sets_text names sets = row_or_none names (row_of MAX_LABELS sets)

-- two of these, one behind the other, that don't ascend
abbrev pub order_text : List ℕ → ℕ → List ℕ
order_text words place = words ++ decimal (place + 1) ++ codes " and " ++ decimal (place + 2) ++ codes " are not ascending"

-- words, what stands between them, and words
abbrev pub around : List ℕ → List ℕ → List ℕ → List ℕ
around words text more = words ++ text ++ more

-- words, and a number
abbrev pub count_text : List ℕ → ℕ → List ℕ
count_text words number = words ++ decimal number

-- words, a configuration, words, and a number
abbrev pub config_count : List (List ℕ) → List ℕ → List ℕ → List ℕ → ℕ → List ℕ
config_count names words config more number = words ++ config_text_of names config ++ more ++ decimal number

abbrev pub degrees_text : ℕ → ℕ → ℕ → ℕ → List ℕ
degrees_text before next active passive =
    codes "problem " ++ decimal next ++ codes " has the degrees " ++ decimal active ++ codes " and " ++ decimal passive ++ codes ", which are not those of problem " ++ decimal before ++ codes " exchanged"

abbrev pub bad_row_text : List (List ℕ) → ℕ → List ℕ → List ℕ
bad_row_text names row labels = codes "row " ++ decimal (row + 1) ++ codes " is not good: " ++ choice_text names labels ++ codes " is no passive configuration"

abbrev pub extends_text : List (List ℕ) → ℕ → ℕ → ℕ → List ℕ
extends_text names row place label = codes "row " ++ decimal (row + 1) ++ codes " is not maximal: " ++ label_text_of names label ++ codes " can be added to its set " ++ decimal (place + 1)

abbrev pub lost_row_text : List (List ℕ) → ℕ → ℕ → List ℕ → List ℕ
lost_row_text next number row image = codes "the image " ++ config_text_of next image ++ codes " of row " ++ decimal (row + 1) ++ codes " is no active configuration of problem " ++ decimal number

abbrev pub lost_choice_text : List (List ℕ) → List (List ℕ) → ℕ → List ℕ → List (List ℕ) → List ℕ → List ℕ
lost_choice_text before next number config sets labels =
    config_text_of before config ++ codes " can be chosen from " ++ sets_text before sets ++ codes ", but its image " ++ choice_text next labels ++ codes " is no passive configuration of problem " ++ decimal number

abbrev pub bad_sets_text : List (List ℕ) → List (List ℕ) → ℕ → List ℕ → List (List ℕ) → List ℕ → List ℕ
bad_sets_text before next number config sets labels =
    choice_text before labels ++ codes " can be chosen from " ++ sets_text before sets ++ codes ", the sets of the active configuration " ++ config_text_of next config
    ++ codes ", but is no passive configuration of problem " ++ decimal number

abbrev pub shut_sets_text : List (List ℕ) → List (List ℕ) → ℕ → List ℕ → List (List ℕ) → List ℕ
shut_sets_text before next number config sets =
    codes "no active configuration of problem " ++ decimal number ++ codes " can be chosen from " ++ sets_text before sets ++ codes ", the sets of the passive configuration " ++ config_text_of next config

abbrev pub fit_text : List (List ℕ) → List ℕ → List ℕ
fit_text names config = around (codes "solvable without communication: every node outputs ") (config_text_of names config) (codes ", whose labels are passive configurations in any choice")

abbrev pub missing_row_text : List (List ℕ) → List (List ℕ) → List ℕ
missing_row_text names row = codes "maximal row that is missing: " ++ row_text_of names row

abbrev pub missing_set_text : List (List ℕ) → List ℕ → List ℕ
missing_set_text names set = codes "no entry has the set " ++ set_text_of names set

abbrev pub foreign_set_text : List (List ℕ) → List ℕ → List ℕ
foreign_set_text names set = around (codes "the set ") (set_text_of names set) (codes " of an entry is in no row")

-- words, and a label
abbrev pub label_after : List (List ℕ) → List ℕ → ℕ → List ℕ
label_after names words label = words ++ label_text_of names label

abbrev pub no_fit_text : List (List ℕ) → List ℕ → List ℕ → List ℕ
no_fit_text names config labels =
    codes "not solvable without communication: from each active configuration labels can be chosen that are no passive one, as " ++ choice_text names labels ++ codes " from " ++ config_text_of names config

abbrev pub twice_text : List (List ℕ) → ℕ → List ℕ
twice_text names label = around (codes "") (label_text_of names label) (codes " has the image of a lower label")

abbrev pub lost_active_text : List (List ℕ) → List ℕ → ℕ → List ℕ
lost_active_text names config number = config_count names (codes "the image of the active configuration ") config (codes " is no active configuration of problem ") number

abbrev pub lost_passive_text : List (List ℕ) → List ℕ → ℕ → List ℕ
lost_passive_text names config number = config_count names (codes "the image of the passive configuration ") config (codes " is no passive configuration of problem ") number

abbrev pub renaming_text : List (List ℕ) → ℕ → MapVerdict → List ℕ
renaming_text names number Yes = codes ""
renaming_text names number OtherDegrees = count_text (codes "the degrees are not those of problem ") number
renaming_text names number (Empty label) = around (codes "") (label_text_of names label) (codes " has no image")
renaming_text names number (Twice label) = twice_text names label
renaming_text names number (Active config) = lost_active_text names config number
renaming_text names number (Passive config) = lost_passive_text names config number
renaming_text names number (Count ActiveSide) = count_text (codes "there are more active configurations in problem ") number
renaming_text names number (Count PassiveSide) = count_text (codes "there are more passive configurations in problem ") number

-- what a witness shows
abbrev pub witness_text : Standing → Witness → List ℕ
witness_text at (Degrees active passive) = degrees_text at.number_before at.number_next active passive
witness_text at (BadRow row labels) = bad_row_text at.before row labels
witness_text at (Extends row place label) = extends_text at.before row place label
witness_text at (RowOrder row) = order_text (codes "rows ") row
witness_text at ManyRows = codes "there are more than 1024 maximal rows"
witness_text at (MissingRow row) = missing_row_text at.before row
witness_text at (SetOrder place) = order_text (codes "entries ") place
witness_text at (MissingSet set) = missing_set_text at.before set
witness_text at (ForeignSet set) = foreign_set_text at.before set
witness_text at ImageCount = codes "there are not as many images as rows"
witness_text at (LostRow row image) = lost_row_text at.next at.number_next row image
witness_text at (LostChoice config sets labels) = lost_choice_text at.before at.next at.number_next config sets labels
witness_text at (LabelOrder place) = order_text (codes "entries ") place
witness_text at (MissingLabel label) = label_after at.next (codes "no entry has the label ") label
witness_text at (EmptySet label) = around (codes "the set of ") (label_text_of at.next label) (codes " is empty")
witness_text at (BadSets config sets labels) = bad_sets_text at.before at.next at.number_before config sets labels
witness_text at (ShutSets config sets) = shut_sets_text at.before at.next at.number_before config sets
witness_text at (Fit config) = fit_text at.before config
witness_text at NoActive = codes "not solvable without communication: there is no active configuration"
witness_text at (NoFit config labels) = no_fit_text at.before config labels
witness_text at (PairOrder place) = order_text (codes "pairs ") place
witness_text at (MissingPair label) = label_after at.before (codes "no pair has the label ") label
witness_text at (Renaming verdict) = renaming_text at.before at.number_next verdict

-- the line that shows why a certificate is refused; nothing where it is accepted
abbrev pub refutation_line : Bound → Option Refutation → List ℕ
refutation_line bound None = codes ""
refutation_line bound (Some r) = witness_text (standing bound r.step r.clause) r.witness ++ codes "\n"
