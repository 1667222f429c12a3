-- What the words may answer, and the statuses of it.
use Rattle.std.proofs.Common.{ℕ, true, List, Option, Some, None, refl, inl, inr}
use Rattle.re_problem.specs.declared.fault.InputFault.{InputFault}
use Rattle.re_cert.specs.Bounds.{Bound}
use Rattle.re_cert.specs.declared.certificate.Kind.{Kind}
use Rattle.re_cert.specs.declared.certificate.Kind.TheVariants.{Fixed, Lower, Upper}
use Rattle.re_chains.specs.OverChains.{steps_refusal}
use Rattle.re_check.specs.declared.verdict.Verdict.{Verdict}
use Rattle.re_frame.proofs.Said.{check_says, fault_says, says_as}
use Rattle.re_frame.specs.Outcomes.{Outcome}
use Rattle.re_frame.specs.Runs.{MaySay}
use Rattle.re_settings.proofs.SettingSays.{input_says, refusal_says, text_says}
use Rattle.re_settings.specs.SettingTexts.{parts_of}
use Rattle.re_settings.specs.declared.setting.Setting.{Setting}
use Rattle.re_search_words.specs.MayGive.{IsFound, MayFind, MayFindBy, MayFindElse, MayGive, MayGiveAt, MayGiveIn, MayGiveRead, MayGiveSound, word_chain}
use Rattle.re_search_words.specs.declared.words.SearchWord.{SearchWord}
use Rattle.re_search_words.specs.declared.words.SearchWord.TheVariants.{Cycle, Longest, Shortest}

module _ (setting : Setting) (chain : Bound) (outcome : Outcome) where
  found_says : (kind : Kind) (steps labels : ℕ) → IsFound setting kind steps labels chain outcome → MaySay outcome.status true
  found_says kind steps labels found = says_as outcome _ found.1.one (text_says setting found.0 true)

  find_says : (word : SearchWord) → MayFind word setting chain outcome → MaySay outcome.status true
  find_says (Longest steps labels) (found, only) = found_says Lower steps labels found
  find_says (Shortest steps labels) may = says_as outcome _ may.one (text_says setting chain true)
  find_says (Cycle steps merges nodes) (inl may) = says_as outcome _ may.1.one (text_says setting may.0 true)
  find_says (Cycle steps merges nodes) (inr (inl may)) = says_as outcome _ may.2 refl
  find_says (Cycle steps merges nodes) (inr (inr may)) = says_as outcome _ may tt

  else_says : (word : SearchWord) → MayFindElse word setting chain outcome → MaySay outcome.status true
  else_says (Longest steps labels) may = refusal_says setting chain outcome may
  else_says (Shortest steps labels) (inl may) = found_says Upper steps labels may
  else_says (Shortest steps labels) (inr may) = says_as outcome _ may.2 refl
  else_says (Cycle steps merges nodes) may = refusal_says setting chain outcome may

  by_says : (word : SearchWord) → MayFindBy word setting chain outcome → MaySay outcome.status true
  by_says word (inl may) = find_says word may.1
  by_says word (inr may) = else_says word may.1

  at_says : (kind : Kind) (word : SearchWord) → MayGiveAt kind word setting chain outcome → MaySay outcome.status true
  at_says Upper (Shortest steps labels) may = by_says (Shortest steps labels) may
  at_says Lower (Shortest steps labels) may = says_as outcome _ may refl
  at_says Fixed (Shortest steps labels) may = says_as outcome _ may refl
  at_says Upper (Longest steps labels) may = says_as outcome _ may refl
  at_says Upper (Cycle steps merges nodes) may = says_as outcome _ may refl
  at_says Lower (Longest steps labels) may = by_says (Longest steps labels) may
  at_says Lower (Cycle steps merges nodes) may = by_says (Cycle steps merges nodes) may
  at_says Fixed (Longest steps labels) may = by_says (Longest steps labels) may
  at_says Fixed (Cycle steps merges nodes) may = by_says (Cycle steps merges nodes) may

  sound_says : (refusal : Option Verdict) (word : SearchWord) → MayGiveSound refusal word setting chain outcome → MaySay outcome.status true
  sound_says (Some verdict) word may = says_as outcome _ may (check_says verdict)
  sound_says None word may = at_says chain.kind word may

  in_says : (word : SearchWord) → MayGiveIn word setting chain outcome → MaySay outcome.status true
  in_says word (inl fault) = input_says chain.first setting outcome fault
  in_says word (inr (is, may)) = sound_says (steps_refusal chain) word may

  pub read_says : (fault : Option InputFault) (word : SearchWord) → MayGiveRead fault word setting chain outcome → MaySay outcome.status true
  read_says (Some fault) word may = says_as outcome _ may (fault_says fault true)
  read_says None word may = in_says word may

pub give_says : (word : SearchWord) (bytes : List ℕ) (outcome : Outcome) → MayGive word bytes outcome → MaySay outcome.status true
unfolding MayGive
give_says word bytes outcome may = read_says (parts_of bytes).setting (word_chain word (parts_of bytes).front) outcome (parts_of bytes).fault word may
