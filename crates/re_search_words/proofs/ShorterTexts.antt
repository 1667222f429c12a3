-- What is found with few labels is found with more; and texts that are no longer than a text that is read may be.
use Rattle.std.proofs.Common.{◌≡◌, ◌≤◌, ℕ, List, [], ◌∷◌, Option, Some, None, ap, arith, inl, sym, ◌∙◌}
use Rattle.std.specs.Prelude.{Err, IfOk, IfSome, Ok, Result}
use Rattle.re_cert.specs.Bounds.{Bound, BoundStep}
use Rattle.re_cert.specs.declared.certificate.Kind.{Kind}
use Rattle.re_cert.specs.declared.certificate.Kind.TheVariants.{Lower, Upper}
use Rattle.re_shaping.specs.Extensions.{AreSmall}
use Rattle.re_frame.specs.Outcomes.{Outcome, status_of, too_long}
use Rattle.re_frame.specs.declared.output.Output.{Output}
use Rattle.re_frame.specs.declared.status.Status.TheVariants as status
use Rattle.re_given_words.specs.Extensions.{GoesOnIn}
use Rattle.re_settings.specs.Settings.{GivesIn, text_outcome_in}
use Rattle.re_settings.specs.declared.setting.Setting.{Setting}
use Rattle.re_settings.specs.declared.setting.Setting.TheVariants as settings
use Rattle.re_search_words.specs.MayGive.{IsFound, IsTextOn, MayFind, MayFindElse}
use Rattle.re_search_words.specs.declared.words.SearchWord.TheVariants.{Longest, Shortest}

-- ---- more labels
small_more : (fewer labels : ℕ) (steps : List BoundStep) → fewer ≤ labels → AreSmall fewer steps → AreSmall labels steps
small_more fewer labels [] within small = tt
small_more fewer labels (step ∷ steps) within small = (omega (arith, within, small.0), small_more fewer labels steps within small.1)

goes_on_more : (setting : Setting) (kind : Kind) (most fewer labels : ℕ) (chain bound : Bound) → fewer ≤ labels → GoesOnIn setting kind most fewer chain bound → GoesOnIn setting kind most labels chain bound
goes_on_more settings.Alone kind most fewer labels chain bound within on = record {
  fits = on.fits;
  problems = on.problems;
  of_kind = on.of_kind;
  first = on.first;
  more = on.more;
  steps = on.steps;
  few = on.few;
  small = small_more fewer labels on.more within on.small;
  valid = on.valid;
  means = on.means;
}
goes_on_more (settings.Given input) kind most fewer labels chain bound within on = record {
  fits = on.fits;
  problems = on.problems;
  of_kind = on.of_kind;
  first = on.first;
  more = on.more;
  steps = on.steps;
  few = on.few;
  small = small_more fewer labels on.more within on.small;
  accepted = on.accepted;
  means = on.means;
}

pub found_more : (setting : Setting) (kind : Kind) (most fewer labels : ℕ) (chain : Bound) (outcome : Outcome) → fewer ≤ labels → IsFound setting kind most fewer chain outcome → IsFound setting kind most labels chain outcome
found_more setting kind most fewer labels chain outcome within (bound, found) =
    (bound, record { one = found.one; goes_on = goes_on_more setting kind most fewer labels chain bound within found.goes_on; gives = found.gives })

-- what is found with fewer labels, if anything is
pub some_more : {E : Type 0} (P Q : Output → Type 0) (r : Result (Option Output) E) → ((output : Output) → P output → Q output)
    → IfOk r (λ found. IfSome found (λ output. P output × (status_of output.answer ≡ status.Done)))
    → IfOk r (λ found. IfSome found (λ output. Q output × (status_of output.answer ≡ status.Done)))
some_more P Q (Ok (Some output)) more found = (more output found.0, found.1)
some_more P Q (Ok None) more found = tt
some_more P Q (Err fault) more found = tt

-- ---- texts that fit
-- an outcome that is Done isn't the limit
not_long : (outcome : Outcome) → outcome.status ≡ status.Done → outcome ≡ too_long → ⊥
not_long outcome finished long = let wrong : status.Limit ≡ status.Done = sym (ap (λ (o : Outcome). o.status) long) ∙ finished in cc

pub text_on : (setting : Setting) (kind : Kind) (most labels : ℕ) (chain bound : Bound) (outcome : Outcome) → GoesOnIn setting kind most labels chain bound → outcome ≡ text_outcome_in setting bound
    → GivesIn setting bound outcome → IsTextOn setting kind most labels chain bound outcome
text_on setting kind most labels chain bound outcome on one gives = record { one = one; goes_on = on; gives = gives }

pub lengthened : (setting : Setting) (steps labels : ℕ) (chain : Bound) (outcome : Outcome) → IsFound setting Lower steps labels chain outcome → outcome.status ≡ status.Done
    → MayFind (Longest steps labels) setting chain outcome
lengthened setting steps labels chain outcome found finished = (found, λ long. absurd (not_long outcome finished long))

pub shortened : (setting : Setting) (steps fewer labels : ℕ) (chain : Bound) (outcome : Outcome) → fewer ≤ labels → IsFound setting Upper steps fewer chain outcome
    → MayFindElse (Shortest steps labels) setting chain outcome
shortened setting steps fewer labels chain outcome within found = inl (found_more setting Upper steps fewer labels chain outcome within found)

-- ---- the chain itself, however long its text is
pub stayed : (setting : Setting) (steps labels : ℕ) (chain bound : Bound) (outcome : Outcome) → bound ≡ chain → GoesOnIn setting Lower steps labels chain bound
    → outcome ≡ text_outcome_in setting bound → GivesIn setting bound outcome → MayFind (Longest steps labels) setting chain outcome
stayed setting steps labels chain bound outcome same on one gives =
    ((bound, text_on setting Lower steps labels chain bound outcome on one gives), λ long. sym (one ∙ ap (text_outcome_in setting) same) ∙ long)
