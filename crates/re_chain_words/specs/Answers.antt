-- What the words give.
use Rattle.std.specs.Prelude.{◌≡◌, ℕ, suc, Bool, true, false, List, [], codes, length, Option, None, Some}
use Rattle.re_problem.specs.ProblemTexts.{first_fault, lines_of, problem_of}
use Rattle.re_cert.specs.Bounds.{Bound, last_problem}
use Rattle.re_cert.specs.CertificateTexts.{certificate_fault, certificate_of, text_lines}
use Rattle.re_cert.specs.declared.certificate.Kind.{Kind}
use Rattle.re_cert.specs.declared.certificate.TheConstants.{MAX_STEPS}
use Rattle.re_frame.specs.Outcomes.{Outcome, limit, limit_of}
use Rattle.re_limits.specs.StepLimits.{limit_line}
use Rattle.re_frame.specs.declared.status.Status.TheVariants.{Done}
use Rattle.re_chains.specs.Chains.{chain_with}
use Rattle.re_shaping.specs.Stepped.{stepped, stepping_fault}
use Rattle.re_shaping.specs.declared.stepping.ChainStepFault.{ChainStepFault}
use Rattle.re_shaping.specs.declared.stepping.ChainStepFault.TheVariants.{Limit}
use Rattle.re_chains.specs.ChainTexts.{text_chain}
use Rattle.re_chains.specs.OverChains.{IsSoundText, IsTextOf, certificate_outcome, or_fault, over_any, over_sound, problem_outcome}
use Rattle.re_shaping.specs.Dropping.{dropped}
use Rattle.re_shaping.specs.Merging.{merged}
use Rattle.re_shaping.specs.Naming.{named}
use Rattle.re_shaping.specs.Tidied.{tidied}
use Rattle.re_chain_words.specs.Shapings.{drop_outcome, label_in, merge_outcome, name_outcome}
use Rattle.re_chain_words.specs.declared.words.ChainWord.{ChainWord}
use Rattle.re_chain_words.specs.declared.words.ChainWord.TheVariants.{Begin, Last, Shape, Tidy}
use Rattle.re_chain_words.specs.declared.words.Shaping.{Shaping}
use Rattle.re_chain_words.specs.declared.words.Shaping.TheVariants.{Drop, Merge, Name, Step}

-- `begin`: the certificate of this kind without steps, of the problem of the text
abbrev pub begun : Kind → List ℕ → Bound
begun kind bytes = chain_with kind (problem_of (lines_of bytes)) []

unfoldable pub begin_outcome : Kind → List ℕ → Outcome
begin_outcome kind bytes = or_fault (first_fault 0 1 (lines_of bytes)) (certificate_outcome (begun kind bytes))

-- `last`: the last problem, where its text isn't too long to be read
unfoldable pub last_outcome : Bound → Outcome
last_outcome chain = problem_outcome (last_problem chain)

-- `tidy`: the certificate of the text in order
unfoldable pub tidy_outcome : List ℕ → Outcome
tidy_outcome bytes = or_fault (certificate_fault (text_lines bytes)) (certificate_outcome (tidied (certificate_of (text_lines bytes))))

-- the line of what keeps a chain from a step of this number, and where nothing does the text of the chain
abbrev pub or_stop : ℕ → Option ChainStepFault → Bound → Outcome
or_stop number None chain = certificate_outcome chain
or_stop number (Some (Limit passed)) chain = limit (limit_line number passed)
or_stop number (Some fault) chain = limit_of MAX_STEPS (codes "steps")

-- `step`: the chain with one more step, to the derived problem
unfoldable pub step_outcome : Bound → Outcome
step_outcome chain = or_stop (suc (length chain.steps)) (stepping_fault chain) (stepped chain)

-- what is given to a sound chain
abbrev pub shaped_outcome : Shaping → Bound → Outcome
shaped_outcome Step chain = step_outcome chain
shaped_outcome (Merge x y) chain = merge_outcome x y chain
shaped_outcome (Name x y) chain = name_outcome x y chain
shaped_outcome (Drop x) chain = drop_outcome x chain

-- what a word gives to a text
abbrev pub word_outcome : ChainWord → List ℕ → Outcome
word_outcome (Begin kind) bytes = begin_outcome kind bytes
word_outcome Last bytes = over_any last_outcome bytes
word_outcome Tidy bytes = tidy_outcome bytes
word_outcome (Shape shaping) bytes = over_sound (shaped_outcome shaping) bytes

-- whether its answer can be No
abbrev pub is_judging : ChainWord → Bool
is_judging (Shape shaping) = true
is_judging word = false

-- the chain that is made of a sound chain
abbrev pub shaped : Shaping → Bound → Bound
shaped Step chain = stepped chain
shaped (Merge x y) chain = merged (label_in chain x) (label_in chain y) chain
shaped (Name x y) chain = named (label_in chain x) y.name chain
shaped (Drop x) chain = dropped (label_in chain x) chain

-- what is known of the text of an answer Done: it is read as the certificate that the word makes, and that of a chain that begins or is shaped is a sound chain
abbrev pub WordWorth : ChainWord → List ℕ → List ℕ → Type 0
WordWorth (Begin kind) bytes text = IsSoundText (begun kind bytes) text
WordWorth (Shape shaping) bytes text = IsSoundText (shaped shaping (text_chain bytes)) text
WordWorth Tidy bytes text = IsTextOf (tidied (certificate_of (text_lines bytes))) text
WordWorth Last bytes text = Unit {0}

-- what a word may answer to a text: one outcome alone, and this is known of its text
pub record MayGive (word : ChainWord) (bytes : List ℕ) (outcome : Outcome) : Type 0 where
  pub one : outcome ≡ word_outcome word bytes
  pub worth : outcome.status ≡ Done → WordWorth word bytes outcome.text
