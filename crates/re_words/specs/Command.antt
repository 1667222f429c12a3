-- The commands, and the words that name them.
use Rattle.std.specs.Prelude.{◌≡◌, ◌≤◌, ℕ, Bool, true, false, nat_le, ◌&&◌, List, [], ◌∷◌, Option, Some, None, codes, find, if◌then◌else◌}
use Rattle.std.specs.Str.{bytes_eq}
use Rattle.re_cert.specs.declared.certificate.Kind.{Kind}
use Rattle.re_cert.specs.declared.certificate.Kind.TheVariants.{Fixed, Lower, Upper}
use Rattle.re_cert.specs.declared.certificate.TheConstants.{MAX_STEPS}
use Rattle.re_families.specs.Families.{is_degree, number_fits, out_of_range, passive_fits}
use Rattle.re_families.specs.declared.types.Family.{Family}
use Rattle.re_families.specs.declared.types.Family.TheVariants.{Colouring, Matching, Mis, Orientation}
use Rattle.re_problem.specs.Numerals.{number_of}
use Rattle.re_labels.specs.declared.sides.Side.TheVariants.{Active, Passive}
use Rattle.re_words.specs.declared.command.Streaming.TheVariants.{Check}
use Rattle.re_words.specs.declared.command.Reading.{Reading}
use Rattle.re_words.specs.declared.command.Reading.TheVariants.{Diagram, Merge, Read, Rounds, Search, Step, Trim, Universal, Zero}
use Rattle.re_words.specs.declared.command.Making.{Making}
use Rattle.re_words.specs.declared.command.Making.TheVariants.{OfFamily, OneStep}
use Rattle.re_words.specs.declared.command.Mapping.TheVariants.{Relax, Rename, Restrict}
use Rattle.re_words.specs.declared.command.Command.{Command}
use Rattle.re_words.specs.declared.command.Command.TheVariants.{Extracts, Makes, Maps, Reads, Streams, Tables, Runs}
use Rattle.re_table_texts.specs.declared.table_texts.TableForm.TheVariants.{Faster, Plain, Slower}

-- the word of a search for a bound
abbrev pub kind_word : Kind → List ℕ
kind_word Lower = codes "lower"
kind_word Upper = codes "upper"
kind_word Fixed = codes "fixed"

-- the word of a command of one word, the second word of a diagram, and the first one of each other command
unfoldable pub word_of : Command → List ℕ
word_of (Streams Check) = codes "check"
word_of (Reads Read) = codes "read"
word_of (Reads Zero) = codes "zero"
word_of (Reads Universal) = codes "universal"
word_of (Reads Merge) = codes "merge"
word_of (Reads Trim) = codes "trim"
word_of (Reads (Diagram Active)) = codes "active"
word_of (Reads (Diagram Passive)) = codes "passive"
word_of (Reads (Step n)) = codes "step"
word_of (Reads (Rounds most)) = codes "rounds"
word_of (Reads (Search kind steps changes)) = kind_word kind
word_of (Maps Relax) = codes "relax"
word_of (Maps Restrict) = codes "restrict"
word_of (Maps Rename) = codes "rename"
word_of (Tables Plain) = codes "table"
word_of (Tables Faster) = codes "faster"
word_of (Tables Slower) = codes "slower"
word_of Extracts = codes "extract"
word_of (Makes (OfFamily kind active passive number)) = codes "family"
word_of (Makes (OneStep colours)) = codes "make"
word_of Runs = codes "run"

-- the commands of one word
abbrev pub one_word : List Command
one_word = Streams Check ∷ Reads Read ∷ Reads Zero ∷ Reads Universal ∷ Reads Merge ∷ Reads Trim ∷ Maps Relax ∷ Maps Restrict ∷ Maps Rename ∷ Tables Plain ∷ Tables Faster ∷ Tables Slower ∷ Extracts ∷ Runs ∷ []

-- the diagrams, by their second word
abbrev pub diagrams : List Command
diagrams = Reads (Diagram Active) ∷ Reads (Diagram Passive) ∷ []

-- the first of these commands whose word this is
abbrev pub command_among : List Command → List ℕ → Option Command
command_among commands word = find (λ command. bytes_eq (word_of command) word) commands

-- so many steps, from 1 to as many as a certificate may have
abbrev pub steps_of : Option ℕ → Option Command
steps_of None = None
steps_of (Some n) = if nat_le 1 n && nat_le n MAX_STEPS then Some (Reads (Step n)) else None

-- the number of rounds, where it is no more than so many, up to as many as a certificate may have steps
abbrev pub rounds_up_to : Option ℕ → Option Command
rounds_up_to None = None
rounds_up_to (Some most) = if nat_le most MAX_STEPS then Some (Reads (Rounds most)) else None

-- one step from the problem of so many colours, from 1 to 16
abbrev pub is_made : ℕ → Bool
is_made colours = nat_le 1 colours && nat_le colours 16

abbrev pub step_from : Option ℕ → Option Command
step_from None = None
step_from (Some colours) = if is_made colours then Some (Makes (OneStep colours)) else None

-- the command of two words
unfoldable pub command_of_two : List ℕ → List ℕ → Option Command
command_of_two first second =
    if bytes_eq (codes "diagram") first then command_among diagrams second
    else if bytes_eq (codes "step") first then steps_of (number_of second)
    else if bytes_eq (codes "rounds") first then rounds_up_to (number_of second)
    else if bytes_eq (codes "make") first then step_from (number_of second)
    else None

-- the kinds of bounds that are searched for
abbrev pub kinds : List Kind
kinds = Lower ∷ Upper ∷ Fixed ∷ []

-- the kind of bound that a word searches for
abbrev pub kind_named : List ℕ → Option Kind
kind_named word = find (λ kind. bytes_eq (kind_word kind) word) kinds

-- a fixed point has at least one step
abbrev pub least_steps : Kind → ℕ
least_steps Lower = 0
least_steps Upper = 0
least_steps Fixed = 1

-- the search for a bound of a kind: up to as many steps as a certificate may have, and up to 8 changes in each
abbrev pub is_search : Kind → ℕ → ℕ → Bool
is_search kind steps changes = nat_le (least_steps kind) steps && nat_le steps MAX_STEPS && nat_le changes 8

abbrev pub search_with : Option Kind → Option ℕ → Option ℕ → Option Command
search_with (Some kind) (Some steps) (Some changes) = if is_search kind steps changes then Some (Reads (Search kind steps changes)) else None
search_with kind steps changes = None

-- the command of three words
unfoldable pub command_of_three : List ℕ → List ℕ → List ℕ → Option Command
command_of_three first second third = search_with (kind_named first) (number_of second) (number_of third)

-- the word of a family
abbrev pub family_word : Family → List ℕ
family_word Colouring = codes "colouring"
family_word Matching = codes "matching"
family_word Orientation = codes "orientation"
family_word Mis = codes "mis"

abbrev pub families : List Family
families = Colouring ∷ Matching ∷ Orientation ∷ Mis ∷ []

-- the family that a word names
abbrev pub family_named : List ℕ → Option Family
family_named word = find (λ kind. bytes_eq (family_word kind) word) families

-- the degrees and the number of a family, each within its range
abbrev pub is_family : Family → ℕ → ℕ → ℕ → Bool
is_family kind active passive number = is_degree active && passive_fits kind passive && number_fits kind number

abbrev pub family_with : Option Family → Option ℕ → Option ℕ → Option ℕ → Option Command
family_with (Some kind) (Some active) (Some passive) (Some number) = if is_family kind active passive number then Some (Makes (OfFamily kind active passive number)) else None
family_with kind active passive number = None

-- the command of five words
unfoldable pub command_of_five : List ℕ → List ℕ → List ℕ → List ℕ → List ℕ → Option Command
command_of_five first name active passive number =
    if bytes_eq (codes "family") first then family_with (family_named name) (number_of active) (number_of passive) (number_of number) else None

-- the command that these words name
unfoldable pub command_of : List (List ℕ) → Option Command
command_of (word ∷ []) = command_among one_word word
command_of (first ∷ second ∷ []) = command_of_two first second
command_of (first ∷ second ∷ third ∷ []) = command_of_three first second third
command_of (first ∷ second ∷ third ∷ fourth ∷ fifth ∷ []) = command_of_five first second third fourth fifth
command_of words = None

-- the command judges a certificate, also one that it makes, a fit in zero rounds, a map, a table or deliveries, or searches for a bound, so that its answer can be No
abbrev pub judges : Command → Bool
judges (Streams Check) = true
judges (Reads Zero) = true
judges (Reads (Search kind steps changes)) = true
judges (Reads reading) = false
judges (Maps mapping) = true
judges (Tables form) = true
judges Extracts = true
judges (Makes (OfFamily kind active passive number)) = false
judges (Makes (OneStep colours)) = true
judges Runs = true

-- the numbers of a command are such as words can give it
abbrev pub IsReading : Reading → Type 0
IsReading (Search kind steps changes) = (least_steps kind ≤ steps) × (steps ≤ MAX_STEPS) × (changes ≤ 8)
IsReading reading = Unit {0}

abbrev pub IsMaking : Making → Type 0
IsMaking (OfFamily kind active passive number) = out_of_range kind active passive number ≡ None
IsMaking (OneStep colours) = out_of_range Colouring 3 2 colours ≡ None

abbrev pub is_judging : Option Command → Bool
is_judging (Some command) = judges command
is_judging None = false

abbrev pub is_reading : Option Command → Bool
is_reading (Some (Makes making)) = false
is_reading (Some command) = true
is_reading None = false

-- the words name a command that reads its input
abbrev pub reads_input : List (List ℕ) → Bool
reads_input words = is_reading (command_of words)
