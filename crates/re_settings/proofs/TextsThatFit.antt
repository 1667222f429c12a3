-- Outcomes that are texts, where these are no longer than texts that are read.
use Rattle.std.proofs.Common.{◌≡◌, ◌≤◌, ℕ, Bool, true, false, List, length, nat_lt, ap, subst, sym, ◌∙◌, arith, refl}
use Rattle.std.proofs.lemmas.Bool.Decides.{nat_tests}
use Rattle.std.specs.Prelude.{◌↔◌, if◌then◌else◌}
use Rattle.re_cert.specs.Bounds.{Bound}
use Rattle.re_chains.specs.GivenTexts.{IsGivenText}
use Rattle.re_chains.specs.OverChains.{IsTextOf}
use Rattle.re_frame.specs.Outcomes.{Outcome, done, too_long, within_limit}
use Rattle.re_frame.specs.declared.status.Status.TheVariants as status
use Rattle.re_io.specs.declared.read.TheConstants.{MAX_BYTES}
use Rattle.re_settings.specs.Settings.{GivesIn, HasTextIn, text_in, text_outcome_in}
use Rattle.re_settings.specs.declared.setting.Setting.{Setting}
use Rattle.re_settings.specs.declared.setting.Setting.TheVariants as settings

-- what is Done is the text
pub text_done : (over : Bool) (text : List ℕ) (outcome : Outcome) → outcome ≡ (if over then too_long else done text) → outcome.status ≡ status.Done → outcome.text ≡ text
text_done true text outcome is finished = absurd (let wrong : status.Limit ≡ status.Done = sym (ap (λ (o : Outcome). o.status) is) ∙ finished in cc)
text_done false text outcome is finished = ap (λ (o : Outcome). o.text) is

-- what is no longer is Done
pub not_over : (over : Bool) (text : List ℕ) (outcome : Outcome) → (over ≡ true → ⊥) → outcome ≡ (if over then too_long else done text) → outcome.status ≡ status.Done
not_over true text outcome short is = absurd (short refl)
not_over false text outcome short is = ap (λ (o : Outcome). o.status) is

fits : (text : List ℕ) (outcome : Outcome) (IsRead : List ℕ → Type 0) → (IsRead text → length text ≤ MAX_BYTES) → outcome ≡ within_limit done text → (outcome.status ≡ status.Done → IsRead outcome.text)
    → outcome.status ≡ status.Done ↔ IsRead text
unfolding within_limit
fits text outcome IsRead short is gives = (
  λ finished. subst IsRead (text_done (nat_lt MAX_BYTES (length text)) text outcome is finished) (gives finished),
  λ read. not_over (nat_lt MAX_BYTES (length text)) text outcome (λ over. let few = short read in grind (arith, nat_tests)) is,
)

-- an outcome that is the text is Done exactly where the bound has it
pub done_has : (setting : Setting) (bound : Bound) (outcome : Outcome) → outcome ≡ text_outcome_in setting bound → GivesIn setting bound outcome → outcome.status ≡ status.Done ↔ HasTextIn setting bound
done_has settings.Alone bound outcome is gives = fits (text_in settings.Alone bound) outcome (IsTextOf bound) (λ read. read.short) is gives
done_has (settings.Given input) bound outcome is gives = fits (text_in (settings.Given input) bound) outcome (IsGivenText bound input) (λ read. read.short) is gives
