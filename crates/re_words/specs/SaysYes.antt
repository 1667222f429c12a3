-- What the word `table` says to a text of `extract`.
use Rattle.std.specs.Prelude.{◌≡◌, ℕ, ◌≤◌, List, [], ◌∷◌, codes, length}
use Rattle.re_io.specs.declared.read.TheConstants.{MAX_BYTES}
use Rattle.re_words.specs.Output.{expected}
use Rattle.re_frame.specs.Outcomes.{done}
use Rattle.re_frame.specs.declared.status.Status.{Status}
use Rattle.re_frame.specs.declared.status.Status.TheVariants.{Done}

-- where the word is `extract` and the answer Done, `table` says yes to its text, if this isn't too long for an input
abbrev pub TableSaysYes : List (List ℕ) → List ℕ → Status → Type 0
TableSaysYes words bytes status =
    words ≡ codes "extract" ∷ [] → status ≡ Done → length (expected words bytes).text ≤ MAX_BYTES → expected (codes "table" ∷ []) (expected words bytes).text ≡ done (codes "yes\n")
