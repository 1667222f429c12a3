-- Labels as words give them.
use Rattle.std.specs.Prelude.{ℕ, ◌-◌, ◌==◌, nat_le, Bool, false, true, ◌&&◌, List, ◌++◌, codes, length, if◌then◌else◌, Option, None, Some, slice_index, slice_range}
use Rattle.std.specs.Str.{bytes_eq}
use Rattle.re_labels.specs.Names.{name_of}
use Rattle.re_chain_words.specs.declared.labels.LabelWord.{LabelWord}

-- whether the word stands in parentheses
abbrev pub is_enclosed : List ℕ → Bool
is_enclosed word = nat_le 2 (length word) && slice_index word 0 == 40 && slice_index word (length word - 1) == 41

abbrev pub word_with : Bool → Option (List ℕ) → Option LabelWord
word_with enclosed None = None
word_with enclosed (Some name) = Some (record { name = name; enclosed = enclosed })

-- the label that a word gives: a name in parentheses, or a bare one; as in texts, `_` alone is no bare name
unfoldable pub label_word : List ℕ → Option LabelWord
label_word word =
    if is_enclosed word then word_with true (name_of (slice_range word 1 (length word - 1)))
    else if bytes_eq (codes "_") word then None
    else word_with false (name_of word)

-- the word as it was given
abbrev pub given_text : LabelWord → List ℕ
given_text label = if label.enclosed then codes "(" ++ label.name ++ codes ")" else label.name
