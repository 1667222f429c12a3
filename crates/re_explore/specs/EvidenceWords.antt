-- The word `evidence`.
use Rattle.std.specs.Prelude.{ℕ, ◌≤◌, nat_le, ◌&&◌, List, [], ◌∷◌, codes, if◌then◌else◌, Option, None, Some}
use Rattle.std.specs.Str.{bytes_eq}
use Rattle.re_problem.specs.Numerals.{number_of}
use Rattle.re_settle.specs.declared.words.TheConstants.{MAX_TIMES}
use Rattle.re_explore.specs.declared.evidence_words.EvidenceWord.{EvidenceWord}

-- `evidence` with this number
abbrev pub evidence_with : Option ℕ → Option EvidenceWord
evidence_with None = None
evidence_with (Some times) = if nat_le 1 times && nat_le times MAX_TIMES then Some (record { times = times }) else None

-- the word that these words are
unfoldable pub evidence_word_of : List (List ℕ) → Option EvidenceWord
evidence_word_of (word ∷ []) = if bytes_eq (codes "evidence") word then Some (record { times = 1 }) else None
evidence_word_of (word ∷ times ∷ []) = if bytes_eq (codes "evidence") word then evidence_with (number_of times) else None
evidence_word_of words = None

-- the number is one that it can have
abbrev pub IsEvidenceWord : EvidenceWord → Type 0
IsEvidenceWord word = (1 ≤ word.times) × (word.times ≤ 64)

-- the line of help
unfoldable pub evidence_help : List ℕ
evidence_help = codes "evidence, evidence N: reads a problem, gives a text of evidence of what settle, settle N, finds of it, which judge reads\n"
