-- What the words `longest`, `shortest` and `cycle` may answer, alone or where a solution of an input problem is given.
use Rattle.std.specs.Prelude.{◌≡◌, ℕ, List, [], if◌then◌else◌, Option, Some, None, ◌⊎◌}
use Rattle.re_labels.specs.declared.TheConstants.{MAX_LABELS}
use Rattle.re_problem.specs.NamedProblems.{unnamed}
use Rattle.re_problem.specs.declared.fault.InputFault.{InputFault}
use Rattle.re_cert.specs.Bounds.{Bound}
use Rattle.re_cert.specs.declared.certificate.Kind.{Kind}
use Rattle.re_cert.specs.declared.certificate.Kind.TheVariants.{Fixed, Lower, Upper}
use Rattle.re_chains.specs.Chains.{chain_with}
use Rattle.re_chains.specs.ChainTexts.{is_certificate_text, text_chain}
use Rattle.re_chains.specs.OverChains.{steps_refusal}
use Rattle.re_check.specs.declared.verdict.Verdict.{Verdict}
use Rattle.re_frame.specs.Check.{verdict_outcome}
use Rattle.re_frame.specs.Outcomes.{Outcome, refused, too_long}
use Rattle.re_frame.specs.SearchLines.{not_found_line, not_lower_line, not_upper_line}
use Rattle.re_frame.specs.TextFaults.{fault_outcome}
use Rattle.re_settings.specs.SettingTexts.{parts_of}
use Rattle.re_given_words.specs.Extensions.{GoesOnIn}
use Rattle.re_settings.specs.Settings.{GivesIn, IsFaultIn, IsRefusalIn, IsSettingOf, IsTakenIn, text_outcome_in}
use Rattle.re_settings.specs.declared.setting.Setting.{Setting}
use Rattle.re_search_words.specs.Lines.{searched_limit, searched_outcome}
use Rattle.re_search_words.specs.declared.words.SearchWord.{SearchWord}
use Rattle.re_search_words.specs.declared.words.SearchWord.TheVariants.{Cycle, Longest, Shortest}

-- ---- answers
-- the text in the setting of a bound of this kind that goes on from the chain; it is read as this bound, and as what is given
pub record IsTextOn (setting : Setting) (kind : Kind) (most labels : ℕ) (chain bound : Bound) (outcome : Outcome) : Type 0 where
  pub one : outcome ≡ text_outcome_in setting bound
  pub goes_on : GoesOnIn setting kind most labels chain bound
  pub gives : GivesIn setting bound outcome

abbrev pub IsFound : Setting → Kind → ℕ → ℕ → Bound → Outcome → Type 0
IsFound setting kind most labels chain outcome = (bound : Bound) × IsTextOn setting kind most labels chain bound outcome

-- the counts of what was looked at
abbrev pub HasCounts : Outcome → Type 0
HasCounts outcome = (seen : ℕ) × (cut : ℕ) × (outcome ≡ refused (not_found_line seen cut))

abbrev pub HasSearched : Outcome → Type 0
HasSearched outcome = (seen : ℕ) × (cut : ℕ) × (outcome ≡ searched_outcome seen cut)

-- ---- chains
-- what the word may give to a chain that is taken: a lower bound, whose text is too long only where that of the chain itself is; the chain itself, which is
-- an upper bound; or a fixed point, the counts of what was looked at, or the limit of it
abbrev pub MayFind : SearchWord → Setting → Bound → Outcome → Type 0
MayFind (Longest steps labels) setting chain outcome =
    IsFound setting Lower steps labels chain outcome × (outcome ≡ too_long → text_outcome_in setting chain ≡ too_long)
MayFind (Shortest steps labels) setting chain outcome = IsTextOn setting Upper steps labels chain chain outcome
MayFind (Cycle steps merges nodes) setting chain outcome =
    IsFound setting Fixed steps MAX_LABELS chain outcome ⊎ (HasSearched outcome ⊎ (outcome ≡ searched_limit nodes))

-- and to one that isn't: why it isn't taken, to a chain of kind lower; an upper bound that goes on from the chain, or the counts of what was looked at
abbrev pub MayFindElse : SearchWord → Setting → Bound → Outcome → Type 0
MayFindElse (Longest steps labels) setting chain outcome = IsRefusalIn setting chain outcome
MayFindElse (Shortest steps labels) setting chain outcome = IsFound setting Upper steps labels chain outcome ⊎ HasCounts outcome
MayFindElse (Cycle steps merges nodes) setting chain outcome = IsRefusalIn setting chain outcome

abbrev pub MayFindBy : SearchWord → Setting → Bound → Outcome → Type 0
MayFindBy word setting chain outcome =
    (IsTakenIn setting chain × MayFind word setting chain outcome) ⊎ ((IsTakenIn setting chain → ⊥) × MayFindElse word setting chain outcome)

-- a chain of the other kind is refused
abbrev pub MayGiveAt : Kind → SearchWord → Setting → Bound → Outcome → Type 0
MayGiveAt Upper (Shortest steps labels) setting chain outcome = MayFindBy (Shortest steps labels) setting chain outcome
MayGiveAt Lower (Shortest steps labels) setting chain outcome = outcome ≡ refused not_upper_line
MayGiveAt Fixed (Shortest steps labels) setting chain outcome = outcome ≡ refused not_upper_line
MayGiveAt Upper (Longest steps labels) setting chain outcome = outcome ≡ refused not_lower_line
MayGiveAt Upper (Cycle steps merges nodes) setting chain outcome = outcome ≡ refused not_lower_line
MayGiveAt Lower (Longest steps labels) setting chain outcome = MayFindBy (Longest steps labels) setting chain outcome
MayGiveAt Lower (Cycle steps merges nodes) setting chain outcome = MayFindBy (Cycle steps merges nodes) setting chain outcome
MayGiveAt Fixed (Longest steps labels) setting chain outcome = MayFindBy (Longest steps labels) setting chain outcome
MayGiveAt Fixed (Cycle steps merges nodes) setting chain outcome = MayFindBy (Cycle steps merges nodes) setting chain outcome

-- ---- texts
-- the line of `check` for the first step that fails, and else what may be given to the chain
abbrev pub MayGiveSound : Option Verdict → SearchWord → Setting → Bound → Outcome → Type 0
MayGiveSound (Some verdict) word setting chain outcome = outcome ≡ verdict_outcome verdict
MayGiveSound None word setting chain outcome = MayGiveAt chain.kind word setting chain outcome

-- the line where what is given is no input problem of the chain's first one comes before
abbrev pub MayGiveIn : SearchWord → Setting → Bound → Outcome → Type 0
MayGiveIn word setting chain outcome =
    IsFaultIn chain.first setting outcome ⊎ (IsSettingOf (unnamed chain.first) setting × MayGiveSound (steps_refusal chain) word setting chain outcome)

-- and that of the first fault of the text
abbrev pub MayGiveRead : Option InputFault → SearchWord → Setting → Bound → Outcome → Type 0
MayGiveRead (Some fault) word setting chain outcome = outcome ≡ fault_outcome fault
MayGiveRead None word setting chain outcome = MayGiveIn word setting chain outcome

-- the chain that the text of a chain stands for where an upper bound is searched for: that of its certificate, and of its problem the upper bound without steps
abbrev pub upper_chain : List ℕ → Bound
upper_chain bytes = if is_certificate_text bytes then text_chain bytes else chain_with Upper (text_chain bytes).first []

-- the chain that it stands for to the word
abbrev pub word_chain : SearchWord → List ℕ → Bound
word_chain (Shortest steps labels) bytes = upper_chain bytes
word_chain (Longest steps labels) bytes = text_chain bytes
word_chain (Cycle steps merges nodes) bytes = text_chain bytes

-- what the word may give to a text
unfoldable pub MayGive : SearchWord → List ℕ → Outcome → Type 0
MayGive word bytes outcome = MayGiveRead (parts_of bytes).fault word (parts_of bytes).setting (word_chain word (parts_of bytes).front) outcome
