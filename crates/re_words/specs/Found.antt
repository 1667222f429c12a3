-- What the word `check` says to a text of `lower`, `upper` or `fixed`.
use Rattle.std.specs.Prelude.{◌≡◌, ℕ, ◌≤◌, List, [], ◌∷◌, Some, codes, length}
use Rattle.re_cert.specs.declared.certificate.Kind.{Kind}
use Rattle.re_check.specs.declared.verdict.Verdict.TheVariants.{Accepted}
use Rattle.re_io.specs.declared.read.TheConstants.{MAX_BYTES}
use Rattle.re_search.specs.Searches.{HasSteps}
use Rattle.re_frame.specs.Check.{check_outcome, verdict_line}
use Rattle.re_words.specs.Command.{command_of}
use Rattle.re_frame.specs.Outcomes.{Outcome, done}
use Rattle.re_words.specs.Output.{expected}
use Rattle.re_words.specs.declared.command.Command.TheVariants.{Reads}
use Rattle.re_words.specs.declared.command.Reading.{Reading}
use Rattle.re_words.specs.declared.command.Reading.TheVariants.{Search}
use Rattle.re_frame.specs.declared.status.Status.{Status}
use Rattle.re_frame.specs.declared.status.Status.TheVariants.{Done}

-- the answer of `check` is the line that accepts a certificate of this kind, with as many steps as such a search finds
abbrev pub Accepts : Kind → ℕ → Outcome → Type 0
Accepts kind most outcome = (steps : ℕ) × HasSteps kind most steps × (outcome ≡ done (verdict_line (Accepted kind steps)))

-- where the command is a search, its text is accepted
abbrev pub SearchIsAccepted : Reading → List ℕ → Type 0
SearchIsAccepted (Search kind most changes) text = Accepts kind most (check_outcome text)
SearchIsAccepted reading text = Unit {0}

-- where the words are a search, `lower`, `upper` or `fixed`, and the answer is Done, `check` accepts its text, if this isn't too long for an input
abbrev pub FoundIsAccepted : List (List ℕ) → List ℕ → Status → Type 0
FoundIsAccepted words bytes status =
    (kind : Kind) (most changes : ℕ) → command_of words ≡ Some (Reads (Search kind most changes)) → status ≡ Done → length (expected words bytes).text ≤ MAX_BYTES
    → Accepts kind most (expected (codes "check" ∷ []) (expected words bytes).text)
