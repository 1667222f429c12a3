-- Lines of labels: the set of a line, and the multisets of some lines. A section line isn't expected among them.
use Rattle.std.specs.Prelude.{◌≡◌, ℕ, ◌+◌, nat_le, nat_lt, ◌&&◌, List, [], ◌∷◌, codes, length, option_and_then, option_map, if◌then◌else◌, Option, None, Some, Result, Ok, Err}
use Rattle.std.specs.Str.{bytes_eq}
use Rattle.re_cert.specs.Entries.{label_items, labels_in}
use Rattle.re_labels.specs.Configs.{sorted, support_of}
use Rattle.re_labels.specs.declared.sides.Side.{Side}
use Rattle.re_labels.specs.declared.sides.Side.TheVariants.{Active, Passive}
use Rattle.re_problem.specs.Items.{ItemText}
use Rattle.re_problem.specs.SectionLines.{is_section}
use Rattle.re_problem.specs.declared.fault.InputFault.{InputFault}
use Rattle.re_problem.specs.declared.fault.InputFault.TheVariants.{BadEntry, BadItem, BadSection, EarlyEnd}
use Rattle.re_problem.specs.declared.fault.TextFault.{TextFault}
use Rattle.re_problem.specs.declared.fault.TextFault.TheVariants.{Bad, NoMemory}

-- ---- what reading gives
-- this value or fault
abbrev pub Refuses : {X : Type 0} → Result X InputFault → TextFault → Type 0
Refuses wanted (Bad fault) = wanted ≡ Err fault
Refuses wanted NoMemory = Unit {0}

abbrev pub Gives : {X V : Type 0} → (V → X) → Result X InputFault → Result V TextFault → Type 0
Gives value wanted (Ok v) = wanted ≡ Ok (value v)
Gives value wanted (Err fault) = Refuses wanted fault

-- ---- lines
-- the fault, or else what comes
abbrev pub and_then : {X Y : Type 0} → Result X InputFault → (X → Result Y InputFault) → Result Y InputFault
and_then (Ok x) next = next x
and_then (Err fault) next = Err fault

-- what a line of this number writes, where it is an entry
abbrev pub entry_or : {X : Type 0} → ℕ → Option X → Result X InputFault
entry_or number None = Err (BadEntry number)
entry_or number (Some x) = Ok x

-- what the items of a line of this number write, where it is a line of labels
abbrev pub items_or : {X : Type 0} → (List ItemText → Option X) → ℕ → Option (List ItemText) → Result X InputFault
items_or entry number None = Err (BadItem number)
items_or entry number (Some items) = entry_or number (entry items)

-- what a line of labels of this number writes
abbrev pub labels_or : {X : Type 0} → (List ItemText → Option X) → ℕ → List ℕ → Result X InputFault
labels_or entry number line = if is_section line then Err (BadSection number) else items_or entry number (label_items line)

-- ---- one set
-- the set of the labels of the items, where all are known
abbrev pub set_in : List (List ℕ) → List ItemText → Option (List ℕ)
set_in names items = option_map support_of (labels_in names items)

-- the set where no line stands behind it; the next one would have this number
abbrev pub alone : ℕ → List (List ℕ) → List ℕ → Result (List ℕ) InputFault
alone number [] set = Ok set
alone number (line ∷ lines) set = Err (if is_section line then BadSection number else BadEntry number)

-- the set of one line, of this number
abbrev pub one_set : List (List ℕ) → ℕ → List (List ℕ) → Result (List ℕ) InputFault
one_set names number [] = Err EarlyEnd
one_set names number (line ∷ lines) = and_then (labels_or (set_in names) number line) (alone (number + 1) lines)

-- ---- multisets
-- at least one label, and fewer than the degree
abbrev pub fewer_than : ℕ → List ℕ → Option (List ℕ)
fewer_than degree labels = if nat_le 1 (length labels) && nat_lt (length labels) degree then Some (sorted labels) else None

-- their multiset, where all labels are known
abbrev pub multiset_in : List (List ℕ) → ℕ → List ItemText → Option (List ℕ)
multiset_in names degree items = option_and_then (fewer_than degree) (labels_in names items)

abbrev pub with_first : List ℕ → Result (List (List ℕ)) InputFault → Result (List (List ℕ)) InputFault
with_first labels others = and_then others (λ others. Ok (labels ∷ others))

-- the multisets of the lines, of which the first has this number
abbrev pub multisets_on : List (List ℕ) → ℕ → ℕ → List (List ℕ) → Result (List (List ℕ)) InputFault
multisets_on names degree number [] = Ok []
multisets_on names degree number (line ∷ lines) =
    and_then (labels_or (multiset_in names degree) number line) (λ labels. with_first labels (multisets_on names degree (number + 1) lines))

-- ---- sides
abbrev pub side_of : List ℕ → Option Side
side_of line = if bytes_eq line (codes "active") then Some Active else if bytes_eq line (codes "passive") then Some Passive else None

-- the side that a line of this number names
abbrev pub side_on : ℕ → List ℕ → Result Side InputFault
side_on number line = if is_section line then Err (BadSection number) else entry_or number (side_of line)
