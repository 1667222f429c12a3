-- The words that begin chains and shape their last problems, and their help.
use Rattle.std.specs.Prelude.{ℕ, List, [], ◌∷◌, codes, if◌then◌else◌, Option, None, Some}
use Rattle.std.specs.Str.{bytes_eq}
use Rattle.re_cert.specs.declared.certificate.Kind.{Kind}
use Rattle.re_cert.specs.declared.certificate.Kind.TheVariants.{Lower, Upper}
use Rattle.re_chain_words.specs.LabelWords.{label_word}
use Rattle.re_chain_words.specs.declared.words.ChainWord.{ChainWord}
use Rattle.re_chain_words.specs.declared.words.ChainWord.TheVariants.{Begin, Last, Shape, Tidy}
use Rattle.re_chain_words.specs.declared.words.Shaping.TheVariants.{Drop, Merge, Name, Step}
use Rattle.re_chain_words.specs.declared.labels.LabelWord.{LabelWord}

-- the kind of a chain that begins
abbrev pub begun_kind : List ℕ → Option Kind
begun_kind word = if bytes_eq (codes "lower") word then Some Lower else if bytes_eq (codes "upper") word then Some Upper else None

abbrev pub begin_with : Option Kind → Option ChainWord
begin_with None = None
begin_with (Some kind) = Some (Begin kind)

abbrev pub drop_with : Option LabelWord → Option ChainWord
drop_with None = None
drop_with (Some label) = Some (Shape (Drop label))

abbrev pub merge_with : Option LabelWord → Option LabelWord → Option ChainWord
merge_with (Some from) (Some to) = Some (Shape (Merge from to))
merge_with from to = None

abbrev pub name_with : Option LabelWord → Option LabelWord → Option ChainWord
name_with (Some label) (Some name) = Some (Shape (Name label name))
name_with label name = None

-- words of one, two and three parts
unfoldable pub word_alone : List ℕ → Option ChainWord
word_alone word =
    if bytes_eq (codes "last") word then Some Last
    else if bytes_eq (codes "tidy") word then Some Tidy
    else if bytes_eq (codes "step") word then Some (Shape Step)
    else None

unfoldable pub word_of_two : List ℕ → List ℕ → Option ChainWord
word_of_two word x =
    if bytes_eq (codes "begin") word then begin_with (begun_kind x)
    else if bytes_eq (codes "drop") word then drop_with (label_word x)
    else None

unfoldable pub word_of_three : List ℕ → List ℕ → List ℕ → Option ChainWord
word_of_three word x y =
    if bytes_eq (codes "merge") word then merge_with (label_word x) (label_word y)
    else if bytes_eq (codes "name") word then name_with (label_word x) (label_word y)
    else None

-- the word that these name: `begin lower`, `begin upper`, `last`, `tidy`, `step`, `merge X Y`, `name X Y` or `drop X`
unfoldable pub chain_word_of : List (List ℕ) → Option ChainWord
chain_word_of (word ∷ []) = word_alone word
chain_word_of (word ∷ x ∷ []) = word_of_two word x
chain_word_of (word ∷ x ∷ y ∷ []) = word_of_three word x y
chain_word_of words = None

-- the lines of help
unfoldable pub chain_help : List ℕ
chain_help = codes "begin lower, begin upper: reads a problem, gives the certificate of a lower or an upper bound without steps\nlast: reads a chain, gives its last problem\ntidy: reads a certificate, gives the same with its rows, entries, images and pairs in their order\nstep: reads a chain, gives the chain with one more step, to the derived problem\nmerge X Y: reads a chain of kind lower, gives the chain in whose last problem the label X has become Y\nname X Y: reads a chain, gives the chain in whose last problem X is called Y\ndrop X: reads a chain of kind upper, gives the chain whose last problem lacks X\n"
