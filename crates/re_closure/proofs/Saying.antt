-- What the word may answer, and the chains of texts.
use Rattle.std.proofs.Common.{◌≡◌, ℕ, zero, suc, Bool, true, false, List, length, Option, Some, None, refl, inl, inr}
use Rattle.std.specs.Prelude.{option_map}
use Rattle.re_problem.specs.NamedProblems.{unnamed}
use Rattle.re_problem.specs.Zero.{zero_place}
use Rattle.re_problem.specs.declared.fault.InputFault.{InputFault}
use Rattle.re_cert.specs.Bounds.{Bound, last_problem}
use Rattle.re_cert.specs.declared.certificate.Kind.{Kind}
use Rattle.re_cert.specs.declared.certificate.Kind.TheVariants.{Fixed, Lower, Upper}
use Rattle.re_shaping.specs.Stepped.{stepped, stepping_fault}
use Rattle.re_shaping.specs.declared.stepping.ChainStepFault.{ChainStepFault}
use Rattle.re_shaping.specs.declared.stepping.ChainStepFault.TheVariants as chain_step_fault
use Rattle.re_chains.specs.ChainTexts.{text_chain}
use Rattle.re_chains.specs.OverChains.{steps_refusal}
use Rattle.re_check.specs.declared.verdict.Verdict.{Verdict}
use Rattle.re_chains.proofs.WordsGiven.{certificate_says}
use Rattle.re_frame.proofs.Said.{check_says, fault_says, says_as}
use Rattle.re_frame.specs.Outcomes.{Outcome}
use Rattle.re_frame.specs.Runs.{MaySay}
use Rattle.re_closure.specs.declared.answering.ClosureWord.{ClosureWord}
use Rattle.re_shaping.specs.Relaxing.{relaxed_limit}
use Rattle.re_closure.specs.ClosureWords.{IsDeclined, IsRaisedLine, IsUnfound, MayFindBehind, MayFindBy, MayFindRaised, MayFindRaisedBehind, MayFindRaisedWithin, MayFindWithin, MayGive, MayGiveAt, MayGiveBy, MayGiveIn, MayGiveRead, MayGiveSound, MayGoOn, MayGoOnRaised, MayStep, stop_outcome}
use Rattle.re_settings.proofs.Saying.{given_says}
use Rattle.re_settings.proofs.SettingSays.{input_says, refusal_says, text_says}
use Rattle.re_settings.specs.SettingTexts.{parts_of}
use Rattle.re_settings.specs.declared.setting.Setting.{Setting}
use Rattle.re_settings.specs.declared.setting.Setting.TheVariants as settings
use Rattle.re_settings.specs.declared.setting.Setting.TheVariants.{Alone}
use Rattle.re_settings.specs.declared.bound_words.BoundWord.TheVariants.{Given}
use Rattle.re_closure.specs.DiagramTexts.{diagram_edges, diagram_fault, front_chain, has_diagram}
use Rattle.re_closure.specs.Diagrams.{raised}
use Rattle.re_closure.specs.RaisedClosures.{raised_chain}

module _ (setting : Setting) where
  find_says : (more : Outcome → Type 0) → ((outcome : Outcome) → more outcome → MaySay outcome.status true)
      → (chain : Bound) (outcome : Outcome) → MayFindBehind more setting chain outcome → MaySay outcome.status true
  find_says more says chain outcome (inl (taken, inl (bound, found))) = says_as outcome _ found.one (text_says setting bound true)
  find_says more says chain outcome (inl (taken, inr (inl may))) = says outcome may
  find_says more says chain outcome (inl (taken, inr (inr line))) = says_as outcome _ line.1 tt
  find_says more says chain outcome (inr declined) = refusal_says setting chain outcome declined.1

declined_says : (setting : Setting) (bound : Bound) (outcome : Outcome) → IsDeclined setting bound outcome → MaySay outcome.status true
declined_says settings.Alone bound outcome wrong = absurd wrong
declined_says (settings.Given input) bound outcome declined = says_as outcome _ declined.1 (given_says Given input bound)

unfound_says : (setting : Setting) (chain : Bound) (outcome : Outcome) → IsUnfound setting chain outcome → MaySay outcome.status true
unfound_says setting chain outcome (inl line) = says_as outcome _ line.1 refl
unfound_says setting chain outcome (inr (bound, room, closed, declined)) = declined_says setting bound outcome declined

stop_says : (number : ℕ) (fault : ChainStepFault) (outcome : Outcome) → outcome ≡ stop_outcome number fault → MaySay outcome.status true
stop_says number (chain_step_fault.Limit passed) outcome may = says_as outcome _ may tt
stop_says number chain_step_fault.TooManySteps outcome may = says_as outcome _ may tt
stop_says number chain_step_fault.NoMemory outcome may = says_as outcome _ may tt

pub step_says : (next : Outcome → Type 0) → ((outcome : Outcome) → next outcome → MaySay outcome.status true)
    → (number : ℕ) (fault : Option ChainStepFault) (outcome : Outcome) → MayStep number fault next outcome → MaySay outcome.status true
step_says next says number None outcome may = says outcome may
step_says next says number (Some fault) outcome may = stop_says number fault outcome may

within_says : (more : ℕ) (setting : Setting) (chain : Bound) (outcome : Outcome) → MayFindWithin more setting chain outcome → MaySay outcome.status true
within_says zero setting chain outcome may = find_says setting (IsUnfound setting chain) (unfound_says setting chain) chain outcome may
within_says (suc more) setting chain outcome may =
    find_says setting (MayGoOn setting chain (MayFindWithin more setting (stepped chain)))
    (λ o on. step_says (MayFindWithin more setting (stepped chain)) (within_says more setting (stepped chain)) (suc (length chain.steps)) (stepping_fault chain) o on.1)
    chain outcome may

raised_find_says : (more : Outcome → Type 0) → ((outcome : Outcome) → more outcome → MaySay outcome.status true)
    → (edges : List (ℕ × ℕ)) (chain : Bound) (outcome : Outcome) → MayFindRaised more edges chain outcome → MaySay outcome.status true
raised_find_says more says edges chain outcome (inl may) = says_as outcome _ may.1 (certificate_says may.0 true)
raised_find_says more says edges chain outcome (inr (inl may)) = says outcome may
raised_find_says more says edges chain outcome (inr (inr may)) = says_as outcome _ may.1 tt

raised_behind_says : (more : Outcome → Type 0) → ((outcome : Outcome) → more outcome → MaySay outcome.status true)
    → (place : Option ℕ) (edges : List (ℕ × ℕ)) (chain : Bound) (outcome : Outcome) → MayFindRaisedBehind more place edges chain outcome → MaySay outcome.status true
raised_behind_says more says (Some place) edges chain outcome may = says_as outcome _ may refl
raised_behind_says more says None edges chain outcome may = raised_find_says more says edges chain outcome may

raised_within_says : (more : ℕ) (edges : List (ℕ × ℕ)) (chain : Bound) (outcome : Outcome) → MayFindRaisedWithin more edges chain outcome → MaySay outcome.status true
raised_within_says zero edges chain outcome may =
    raised_behind_says (IsRaisedLine edges chain) (λ o line. says_as o _ line.1 refl) (zero_place (unnamed (last_problem chain))) edges chain outcome may
raised_within_says (suc more) edges chain outcome may =
    raised_behind_says (MayGoOnRaised edges chain (MayFindWithin more Alone (raised_chain edges chain)))
    (λ o on. step_says (MayFindWithin more Alone (raised_chain edges chain)) (within_says more Alone (raised_chain edges chain)) (suc (length chain.steps))
    (option_map chain_step_fault.Limit (relaxed_limit (last_problem chain) (raised edges (last_problem chain)))) o on.2)
    (zero_place (unnamed (last_problem chain))) edges chain outcome may

by_says : (diagram : Option (List (ℕ × ℕ))) (more : ℕ) (setting : Setting) (chain : Bound) (outcome : Outcome) → MayFindBy diagram more setting chain outcome → MaySay outcome.status true
by_says None more setting chain outcome may = within_says more setting chain outcome may
by_says (Some edges) more setting chain outcome may = raised_within_says more edges chain outcome may

module _ (diagram : Option (List (ℕ × ℕ))) (more : ℕ) (setting : Setting) (chain : Bound) (outcome : Outcome) where
  at_says : (kind : Kind) → MayGiveAt kind diagram more setting chain outcome → MaySay outcome.status true
  at_says Lower may = by_says diagram more setting chain outcome may
  at_says Upper may = says_as outcome _ may refl
  at_says Fixed may = by_says diagram more setting chain outcome may

  sound_says : (refusal : Option Verdict) → MayGiveSound refusal diagram more setting chain outcome → MaySay outcome.status true
  sound_says (Some verdict) may = says_as outcome _ may (check_says verdict)
  sound_says None may = at_says chain.kind may

  in_says : MayGiveIn diagram more setting chain outcome → MaySay outcome.status true
  in_says (inl fault) = input_says chain.first setting outcome fault
  in_says (inr (is, may)) = sound_says (steps_refusal chain) may

  read_says : (fault : Option InputFault) → MayGiveRead fault diagram more setting chain outcome → MaySay outcome.status true
  read_says (Some fault) may = says_as outcome _ may (fault_says fault true)
  read_says None may = in_says may

pub give_says : (word : ClosureWord) (bytes : List ℕ) (outcome : Outcome) → MayGive word bytes outcome → MaySay outcome.status true
unfolding MayGive
give_says word bytes outcome may = go (has_diagram bytes) may
  where
    go : (b : Bool) → MayGiveBy b word bytes outcome → MaySay outcome.status true
    go true given = read_says (Some (diagram_edges bytes)) word.steps Alone (front_chain bytes) outcome (diagram_fault bytes) given
    go false given = read_says None word.steps (parts_of bytes).setting (text_chain (parts_of bytes).front) outcome (parts_of bytes).fault given
