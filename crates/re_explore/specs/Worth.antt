-- What the text of an answer Done is worth that is a certificate or a problem.
use Rattle.std.specs.Prelude.{◌≡◌, ◌+◌, ℕ, List, length, Option, None, Some}
use Rattle.re_asking.specs.Beside.{first_problem, input_named, text_beside}
use Rattle.re_bridge_words.specs.Answers.{WordWorth as BridgeWorth}
use Rattle.re_cert.specs.Bounds.{Bound}
use Rattle.re_cert.specs.declared.certificate.Kind.{Kind}
use Rattle.re_cert.specs.declared.certificate.Kind.TheVariants.{Fixed, Lower, Upper}
use Rattle.re_cert.specs.declared.certificate.TheConstants.{MAX_STEPS}
use Rattle.re_chains.specs.ChainTexts.{text_chain}
use Rattle.re_chain_words.specs.Answers.{WordWorth}
use Rattle.re_check.specs.declared.verdict.Verdict.TheVariants.{Accepted}
use Rattle.re_closure.specs.ClosureWords.{closure_chain, closure_setting}
use Rattle.re_frame.specs.Check.{check_outcome, verdict_line}
use Rattle.re_frame.specs.Outcomes.{done}
use Rattle.re_settings.specs.SettingTexts.{parts_of}
use Rattle.re_given_words.specs.Extensions.{GoesOnIn}
use Rattle.re_settings.specs.Settings.{IsTextIn}
use Rattle.re_settings.specs.Verdicts.{accepted_line, bound_outcome}
use Rattle.re_settings.specs.declared.setting.Setting.{Setting}
use Rattle.re_settings.specs.declared.setting.Setting.TheVariants.{Alone, Given}
use Rattle.re_settings.specs.declared.bound_words.BoundWord.TheVariants as word
use Rattle.re_labels.specs.declared.TheConstants.{MAX_LABELS}
use Rattle.re_problem.specs.ProblemTexts.{lines_of, problem_of}
use Rattle.re_search_words.specs.MayGive.{word_chain}
use Rattle.re_search_words.specs.declared.words.SearchWord.{SearchWord}
use Rattle.re_search_words.specs.declared.words.SearchWord.TheVariants.{Cycle, Longest, Shortest}
use Rattle.re_explore.specs.Evidence.{IsEvidence}
use Rattle.re_explore.specs.declared.command.Command.{Command}
use Rattle.re_explore.specs.declared.command.Command.TheVariants.{Beside, Chains, Describes, Explains, Forests, Help, HelpOn, Inputs, Judges, Reads, Relaxes, Shows}
use Rattle.re_explore.specs.declared.text_words.TextWord.{TextWord}
use Rattle.re_explore.specs.declared.text_words.TextWord.TheVariants.{Bridges, Closes, Givens, Graphs, Searches, Settles}

-- `check` answers to the text that it is accepted, or `given` does
abbrev pub IsJudgedIn : Setting → Kind → ℕ → List ℕ → Type 0
IsJudgedIn Alone kind steps text = check_outcome text ≡ done (verdict_line (Accepted kind steps))
IsJudgedIn (Given input) kind steps text = bound_outcome word.Given text ≡ done (accepted_line kind steps)

-- the text is read in the setting as a bound of this kind that goes on there from the chain, with at most so many more steps, each to a problem of at most so many
-- labels; and it is answered to the text that it is accepted
pub record IsAccepted (setting : Setting) (kind : Kind) (most labels : ℕ) (chain : Bound) (text : List ℕ) : Type 0 where
  pub bound : Bound
  pub text_of : IsTextIn setting bound text
  pub goes_on : GoesOnIn setting kind most labels chain bound
  pub judged : IsJudgedIn setting kind (length bound.steps) text

-- what a search finds is accepted
abbrev pub SearchWorth : SearchWord → Setting → Bound → List ℕ → Type 0
SearchWorth (Longest steps labels) setting chain text = IsAccepted setting Lower steps labels chain text
SearchWorth (Shortest steps labels) setting chain text = IsAccepted setting Upper steps labels chain text
SearchWorth (Cycle steps merges nodes) setting chain text = IsAccepted setting Fixed steps MAX_LABELS chain text

-- what the text is worth that a word gives to these bytes with Done, whose text may have an input problem
abbrev pub TextWordWorth : TextWord → List ℕ → List ℕ → Type 0
TextWordWorth (Searches word) bytes text = SearchWorth word (parts_of bytes).setting (word_chain word (parts_of bytes).front) text
TextWordWorth (Closes word) bytes text = IsAccepted (closure_setting bytes) Fixed (word.steps + 3) MAX_LABELS (closure_chain bytes) text
TextWordWorth (Bridges word) bytes text = BridgeWorth word bytes text
TextWordWorth (Graphs word) bytes text = Unit {0}
TextWordWorth (Givens word) bytes text = Unit {0}
TextWordWorth (Settles word) bytes text = Unit {0}

-- what the text is worth that a command gives to these bytes with Done: with a named input problem behind a word, what it is worth that this word
-- gives to the bytes with that input problem behind them
abbrev pub TextWorth : Option Command → List ℕ → List ℕ → Type 0
TextWorth (Some (Chains word)) bytes text = WordWorth word bytes text
TextWorth (Some (Reads word)) bytes text = TextWordWorth word bytes text
TextWorth (Some (Beside beside)) bytes text = TextWordWorth beside.word (text_beside (input_named beside.input (first_problem beside.front bytes)) bytes) text
TextWorth (Some (Relaxes word)) bytes text = IsAccepted Alone Fixed MAX_STEPS MAX_LABELS (text_chain bytes) text
TextWorth (Some Explains) bytes text = Unit {0}
TextWorth (Some (Describes word)) bytes text = Unit {0}
TextWorth (Some Judges) bytes text = Unit {0}
TextWorth (Some (Shows word)) bytes text = IsEvidence (problem_of (lines_of bytes)) text
TextWorth (Some (Forests word)) bytes text = Unit {0}
TextWorth (Some (Inputs word)) bytes text = Unit {0}
TextWorth (Some Help) bytes text = Unit {0}
TextWorth (Some HelpOn) bytes text = Unit {0}
TextWorth None bytes text = Unit {0}
