-- What the words may answer, by the words alone.
use Rattle.std.proofs.Common.{ℕ, true, List}
use Rattle.re_cert.specs.declared.certificate.TheConstants.{MAX_STEPS}
use Rattle.re_frame.specs.Outcomes.{Outcome}
use Rattle.re_frame.specs.Runs.{MaySay}
use Rattle.re_search_words.specs.RelaxedWords.{MayGive, looked_at}
use Rattle.re_search_words.specs.declared.relaxed_words.RelaxedWord.{RelaxedWord}
use Rattle.re_chains.specs.ChainTexts.{chain_fault, text_chain}
use Rattle.re_settings.specs.declared.setting.Setting.TheVariants.{Alone}
use Rattle.re_search_words.proofs.Saying.{read_says}
use Rattle.re_search_words.specs.declared.words.SearchWord.TheVariants.{Cycle}

pub give_says : (word : RelaxedWord) (bytes : List ℕ) (outcome : Outcome) → MayGive word bytes outcome → MaySay outcome.status true
unfolding MayGive
give_says word bytes outcome may = read_says Alone (text_chain bytes) outcome (chain_fault bytes) (Cycle MAX_STEPS 0 (looked_at word)) may
