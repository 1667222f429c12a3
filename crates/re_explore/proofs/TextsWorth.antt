-- What the text of an answer Done is worth, by what the command may answer.
use Rattle.std.proofs.Common.{◌≡◌, ◌≤◌, ◌+◌, ℕ, zero, suc, Bool, true, false, List, [], ◌∷◌, ◌++◌, length, refl, subst, Option, Some, None, inl, inr, arith}
use Rattle.std.specs.Prelude.{if◌then◌else◌, option_map}
use Rattle.std.proofs.lemmas.Bool.{cases_lt}
use Rattle.re_labels.specs.declared.TheConstants.{MAX_LABELS}
use Rattle.re_problem.specs.NamedProblems.{unnamed}
use Rattle.re_problem.specs.Zero.{zero_place}
use Rattle.re_problem.specs.declared.fault.InputFault.{InputFault}
use Rattle.re_cert.specs.Bounds.{Bound, BoundStep, last_problem}
use Rattle.re_cert.specs.declared.certificate.Kind.{Kind}
use Rattle.re_cert.specs.declared.certificate.Kind.TheVariants as kind
use Rattle.re_cert.specs.declared.certificate.TheConstants.{MAX_STEPS}
use Rattle.re_shaping.specs.Relaxing.{relaxed_limit}
use Rattle.re_asking.proofs.Besides.{done_beside}
use Rattle.re_asking.specs.Beside.{first_problem, input_named, text_beside}
use Rattle.re_shaping.specs.RowForms.{by_rows}
use Rattle.re_shaping.specs.Stepped.{next_step, stepped, stepping_fault}
use Rattle.re_shaping.specs.declared.stepping.ChainStepFault.{ChainStepFault}
use Rattle.re_shaping.specs.declared.stepping.ChainStepFault.TheVariants as chain_step_fault
use Rattle.re_chains.proofs.WordsGiven.{fault_not_done}
use Rattle.re_chains.specs.ChainTexts.{chain_fault, text_chain}
use Rattle.re_chains.specs.OverChains.{refusal_of}
use Rattle.re_check.specs.Verdicts.{steps_fault}
use Rattle.re_check.specs.declared.verdict.ClauseFault.{ClauseFault}
use Rattle.re_closure.specs.ClosureWords.{IsRaisedLine, IsUnfound, MayFindBehind as MayCloseBehind, MayFindBy as MayCloseBy, MayFindRaisedBehind, MayFindRaisedWithin, MayFindWithin as MayCloseWithin, MayGive as MayGiveClosure, MayGiveAt as MayCloseAt, MayGiveBy as MayGiveClosureBy, MayGiveRead as MayCloseRead, MayGiveSound as MayCloseSound, MayGoOn, MayGoOnRaised, MayStep, closure_chain, closure_setting, stop_outcome}
use Rattle.re_closure.specs.DiagramTexts.{diagram_edges, diagram_fault, front_chain, has_diagram}
use Rattle.re_closure.specs.Diagrams.{raised}
use Rattle.re_closure.specs.RaisedClosures.{raised_chain, step_to_raised}
use Rattle.re_closure.specs.declared.answering.ClosureWord.{ClosureWord}
use Rattle.re_frame.specs.Answers.{MayAnswer}
use Rattle.re_frame.specs.Outcomes.{Outcome, too_long}
use Rattle.re_frame.specs.TextFaults.{fault_outcome}
use Rattle.re_frame.specs.declared.status.Status.TheVariants.{Done}
use Rattle.re_settings.specs.SettingTexts.{parts_of}
use Rattle.re_given_words.specs.Extensions.{GoesOnIn}
use Rattle.re_settings.specs.Settings.{IsTakenIn, IsTextIn}
use Rattle.re_settings.specs.declared.setting.Setting.{Setting}
use Rattle.re_settings.specs.declared.setting.Setting.TheVariants as settings
use Rattle.re_io.specs.declared.read.TheConstants.{MAX_BYTES}
use Rattle.re_search_words.specs.RelaxedWords.{MayGive as MayGiveRelaxed, looked_at}
use Rattle.re_search_words.specs.declared.relaxed_words.RelaxedWord.{RelaxedWord}
use Rattle.re_search_words.specs.MayGive.{IsFound, MayFind, MayFindBy, MayFindElse, MayGive, MayGiveAt, MayGiveRead, MayGiveSound, word_chain}
use Rattle.re_search_words.specs.declared.words.SearchWord.{SearchWord}
use Rattle.re_search_words.specs.declared.words.SearchWord.TheVariants.{Cycle, Longest, Shortest}
use Rattle.re_explore.proofs.Evidences.{evidence_worth}
use Rattle.re_explore.proofs.Refusals.{declined_undone, fault_undone, refusal_undone}
use Rattle.re_explore.proofs.Undone.{stop_undone, undone}
use Rattle.re_explore.proofs.WorthIn.{accepted, gives_text, no_more, one_less}
use Rattle.re_explore.specs.Commands.{IsOutcome}
use Rattle.re_explore.specs.TextWords.{MayGiveWord}
use Rattle.re_explore.specs.Worth.{IsAccepted, SearchWorth, TextWordWorth, TextWorth}
use Rattle.re_explore.specs.declared.command.Command.{Command}
use Rattle.re_explore.specs.declared.command.Command.TheVariants.{Beside, Chains, Describes, Explains, Forests, Help, HelpOn, Inputs, Judges, Reads, Relaxes, Shows}
use Rattle.re_explore.specs.declared.text_words.TextWord.{TextWord}
use Rattle.re_explore.specs.declared.text_words.TextWord.TheVariants.{Bridges, Closes, Givens, Graphs, Searches, Settles}

-- ---- inputs that aren't too long
pub within : (may : List ℕ → Outcome → Type 0) (bytes : List ℕ) (outcome : Outcome) → MayAnswer may bytes outcome → outcome.status ≡ Done → may bytes outcome
within may bytes outcome is finished = elim (cases_lt MAX_BYTES (length bytes)) [
  | inl long ↦ undone outcome too_long (is.beyond long) (λ e. cc) finished
  | inr short ↦ is.within short
]

-- ---- the words `longest`, `shortest` and `cycle`
module _ (setting : Setting) (chain : Bound) (outcome : Outcome) (finished : outcome.status ≡ Done) where
  found_worth : (kind : Kind) (most labels : ℕ) → IsFound setting kind most labels chain outcome → IsAccepted setting kind most labels chain outcome.text
  found_worth kind most labels (bound, on) = accepted setting kind most labels chain bound outcome.text (gives_text setting bound outcome on.gives finished) on.goes_on

  find_worth : (word : SearchWord) → MayFind word setting chain outcome → SearchWorth word setting chain outcome.text
  find_worth (Longest steps labels) (found, only) = found_worth kind.Lower steps labels found
  find_worth (Shortest steps labels) may = found_worth kind.Upper steps labels (chain, may)
  find_worth (Cycle steps merges nodes) (inl may) = found_worth kind.Fixed steps MAX_LABELS may
  find_worth (Cycle steps merges nodes) (inr (inl may)) = undone outcome _ may.2 (λ e. cc) finished
  find_worth (Cycle steps merges nodes) (inr (inr may)) = undone outcome _ may (λ e. cc) finished

  else_worth : (word : SearchWord) → (IsTakenIn setting chain → ⊥) → MayFindElse word setting chain outcome → SearchWorth word setting chain outcome.text
  else_worth (Longest steps labels) not_taken may = refusal_undone setting chain outcome not_taken may finished
  else_worth (Shortest steps labels) not_taken (inl may) = found_worth kind.Upper steps labels may
  else_worth (Shortest steps labels) not_taken (inr may) = undone outcome _ may.2 (λ e. cc) finished
  else_worth (Cycle steps merges nodes) not_taken may = refusal_undone setting chain outcome not_taken may finished

  behind_worth : (word : SearchWord) → MayFindBy word setting chain outcome → SearchWorth word setting chain outcome.text
  behind_worth word (inl may) = find_worth word may.1
  behind_worth word (inr may) = else_worth word may.0 may.1

  at_worth : (of : Kind) (word : SearchWord) → MayGiveAt of word setting chain outcome → SearchWorth word setting chain outcome.text
  at_worth kind.Upper (Shortest steps labels) may = behind_worth (Shortest steps labels) may
  at_worth kind.Lower (Shortest steps labels) may = undone outcome _ may (λ e. cc) finished
  at_worth kind.Fixed (Shortest steps labels) may = undone outcome _ may (λ e. cc) finished
  at_worth kind.Upper (Longest steps labels) may = undone outcome _ may (λ e. cc) finished
  at_worth kind.Upper (Cycle steps merges nodes) may = undone outcome _ may (λ e. cc) finished
  at_worth kind.Lower (Longest steps labels) may = behind_worth (Longest steps labels) may
  at_worth kind.Lower (Cycle steps merges nodes) may = behind_worth (Cycle steps merges nodes) may
  at_worth kind.Fixed (Longest steps labels) may = behind_worth (Longest steps labels) may
  at_worth kind.Fixed (Cycle steps merges nodes) may = behind_worth (Cycle steps merges nodes) may

  sound_worth : (fault : Option ClauseFault) (word : SearchWord) → MayGiveSound (option_map refusal_of fault) word setting chain outcome → SearchWorth word setting chain outcome.text
  sound_worth (Some fault) word may = undone outcome _ may (λ e. cc) finished
  sound_worth None word may = at_worth chain.kind word may

  read_worth : (fault : Option InputFault) (word : SearchWord) → MayGiveRead fault word setting chain outcome → SearchWorth word setting chain outcome.text
  read_worth (Some fault) word may = undone outcome (fault_outcome fault) may (fault_not_done fault) finished
  read_worth None word (inl fault) = fault_undone chain.first setting outcome fault finished
  read_worth None word (inr may) = sound_worth (steps_fault chain.first 1 chain.steps) word may.1

search_worth : (word : SearchWord) (bytes : List ℕ) (outcome : Outcome) → MayGive word bytes outcome → outcome.status ≡ Done
    → SearchWorth word (parts_of bytes).setting (word_chain word (parts_of bytes).front) outcome.text
unfolding MayGive
search_worth word bytes outcome may finished = read_worth (parts_of bytes).setting (word_chain word (parts_of bytes).front) outcome finished (parts_of bytes).fault word may

-- ---- the word `closure`
-- the text is read in the setting as a fixed point that goes on from the chain with at most so many more steps
abbrev IsFixedText : Setting → ℕ → Bound → List ℕ → Type 0
IsFixedText setting most chain text = (bound : Bound) × IsTextIn setting bound text × GoesOnIn setting kind.Fixed most MAX_LABELS chain bound

step_worth : (setting : Setting) (Next : Outcome → Type 0) (most number : ℕ) (chain longer : Bound) (s : BoundStep) → longer.first ≡ chain.first → longer.steps ≡ chain.steps ++ s ∷ []
    → ((o : Outcome) → Next o → o.status ≡ Done → IsFixedText setting most longer o.text)
    → (fault : Option ChainStepFault) (outcome : Outcome) → MayStep number fault Next outcome → outcome.status ≡ Done → IsFixedText setting (suc most) chain outcome.text
step_worth setting Next most number chain longer s first steps next None outcome may finished =
    let found = next outcome may finished in (found.0, found.1, one_less setting most chain longer found.0 s first steps found.2)
step_worth setting Next most number chain longer s first steps next (Some fault) outcome may finished = undone outcome (stop_outcome number fault) may (stop_undone number fault) finished

close_behind : (setting : Setting) (Rest : Outcome → Type 0) (most : ℕ) (chain : Bound) → 3 ≤ most → ((o : Outcome) → Rest o → o.status ≡ Done → IsFixedText setting most chain o.text)
    → (outcome : Outcome) → MayCloseBehind Rest setting chain outcome → outcome.status ≡ Done → IsFixedText setting most chain outcome.text
close_behind setting Rest most chain three rest outcome (inl (taken, inl found)) finished =
    (found.0, gives_text setting found.0 outcome found.1.gives finished, no_more setting 3 most chain found.0 three found.1.goes_on)
close_behind setting Rest most chain three rest outcome (inl (taken, inr (inl more))) finished = rest outcome more finished
close_behind setting Rest most chain three rest outcome (inl (taken, inr (inr line))) finished = undone outcome _ line.1 (λ e. cc) finished
close_behind setting Rest most chain three rest outcome (inr (not_taken, refusal)) finished = refusal_undone setting chain outcome not_taken refusal finished

unfound_undone : {A : Type 0} (setting : Setting) (chain : Bound) (outcome : Outcome) → IsUnfound setting chain outcome → outcome.status ≡ Done → A
unfound_undone setting chain outcome (inl line) finished = undone outcome _ line.1 (λ e. cc) finished
unfound_undone setting chain outcome (inr (bound, room, closed, declined)) finished = declined_undone setting bound outcome declined finished

within_worth : (more : ℕ) (setting : Setting) (chain : Bound) (outcome : Outcome) → MayCloseWithin more setting chain outcome → outcome.status ≡ Done → IsFixedText setting (more + 3) chain outcome.text
within_worth zero setting chain outcome may finished = close_behind setting (IsUnfound setting chain) (0 + 3) chain (omega arith) (λ o none over. unfound_undone setting chain o none over) outcome may finished
within_worth (suc more) setting chain outcome may finished =
    close_behind setting (MayGoOn setting chain (MayCloseWithin more setting (stepped chain))) (suc more + 3) chain (omega arith)
    (λ o on over. let same : suc (more + 3) ≡ suc more + 3 = omega arith in
    subst (λ most. IsFixedText setting most chain o.text) same
    (step_worth setting (MayCloseWithin more setting (stepped chain)) (more + 3) (suc (length chain.steps)) chain (stepped chain) (next_step chain) refl refl (within_worth more setting (stepped chain)) (stepping_fault chain) o on.1 over))
    outcome may finished

-- with a diagram
raised_behind : (Rest : Outcome → Type 0) (most : ℕ) (edges : List (ℕ × ℕ)) (chain : Bound) → 3 ≤ most → ((o : Outcome) → Rest o → o.status ≡ Done → IsFixedText settings.Alone most (by_rows chain) o.text)
    → (place : Option ℕ) (outcome : Outcome) → MayFindRaisedBehind Rest place edges chain outcome → outcome.status ≡ Done → IsFixedText settings.Alone most (by_rows chain) outcome.text
raised_behind Rest most edges chain three rest (Some place) outcome may finished = undone outcome _ may (λ e. cc) finished
raised_behind Rest most edges chain three rest None outcome (inl found) finished = (found.0, found.2 finished, no_more settings.Alone 3 most (by_rows chain) found.0 three found.4.goes_on)
raised_behind Rest most edges chain three rest None outcome (inr (inl more)) finished = rest outcome more finished
raised_behind Rest most edges chain three rest None outcome (inr (inr line)) finished = undone outcome _ line.1 (λ e. cc) finished

raised_worth : (more : ℕ) (edges : List (ℕ × ℕ)) (chain : Bound) (outcome : Outcome) → MayFindRaisedWithin more edges chain outcome → outcome.status ≡ Done → IsFixedText settings.Alone (more + 3) (by_rows chain) outcome.text
raised_worth zero edges chain outcome may finished =
    raised_behind (IsRaisedLine edges chain) (0 + 3) edges chain (omega arith) (λ o line over. undone o _ line.1 (λ e. cc) over) (zero_place (unnamed (last_problem chain))) outcome may finished
raised_worth (suc more) edges chain outcome may finished =
    raised_behind (MayGoOnRaised edges chain (MayCloseWithin more settings.Alone (raised_chain edges chain))) (suc more + 3) edges chain (omega arith)
    (λ o on over. let same : suc (more + 3) ≡ suc more + 3 = omega arith in
    subst (λ most. IsFixedText settings.Alone most (by_rows chain) o.text) same
    (step_worth settings.Alone (MayCloseWithin more settings.Alone (raised_chain edges chain)) (more + 3) (suc (length chain.steps)) (by_rows chain) (raised_chain edges chain) (step_to_raised edges (last_problem chain)) refl refl
    (within_worth more settings.Alone (raised_chain edges chain)) (option_map chain_step_fault.Limit (relaxed_limit (last_problem chain) (raised edges (last_problem chain)))) o on.2 over))
    (zero_place (unnamed (last_problem chain))) outcome may finished

-- the chain from which goes on what is found
abbrev chain_by : Option (List (ℕ × ℕ)) → Bound → Bound
chain_by None chain = chain
chain_by (Some edges) chain = by_rows chain

-- behind a diagram nothing is given
abbrev setting_by : Option (List (ℕ × ℕ)) → Setting → Setting
setting_by None setting = setting
setting_by (Some edges) setting = settings.Alone

module _ (diagram : Option (List (ℕ × ℕ))) (more : ℕ) (setting : Setting) (chain : Bound) (outcome : Outcome) (finished : outcome.status ≡ Done) where
  abbrev IsWorth : Type 0
  IsWorth = IsFixedText (setting_by diagram setting) (more + 3) (chain_by diagram chain) outcome.text

  close_by : MayCloseBy diagram more setting chain outcome → IsWorth
  close_by may = go diagram may
    where
      go : (d : Option (List (ℕ × ℕ))) → MayCloseBy d more setting chain outcome → IsFixedText (setting_by d setting) (more + 3) (chain_by d chain) outcome.text
      go None may = within_worth more setting chain outcome may finished
      go (Some edges) may = raised_worth more edges chain outcome may finished

  close_at : (of : Kind) → MayCloseAt of diagram more setting chain outcome → IsWorth
  close_at kind.Lower may = close_by may
  close_at kind.Upper may = undone outcome _ may (λ e. cc) finished
  close_at kind.Fixed may = close_by may

  close_sound : (fault : Option ClauseFault) → MayCloseSound (option_map refusal_of fault) diagram more setting chain outcome → IsWorth
  close_sound (Some fault) may = undone outcome _ may (λ e. cc) finished
  close_sound None may = close_at chain.kind may

  close_read : (fault : Option InputFault) → MayCloseRead fault diagram more setting chain outcome → IsWorth
  close_read (Some fault) may = undone outcome (fault_outcome fault) may (fault_not_done fault) finished
  close_read None (inl fault) = fault_undone chain.first setting outcome fault finished
  close_read None (inr may) = close_sound (steps_fault chain.first 1 chain.steps) may.1

closure_worth : (word : ClosureWord) (bytes : List ℕ) (outcome : Outcome) → MayGiveClosure word bytes outcome → outcome.status ≡ Done
    → IsAccepted (closure_setting bytes) kind.Fixed (word.steps + 3) MAX_LABELS (closure_chain bytes) outcome.text
unfolding MayGiveClosure
closure_worth word bytes outcome may finished =
    let found : IsFixedText (closure_setting bytes) (word.steps + 3) (closure_chain bytes) outcome.text = go (has_diagram bytes) may in
    accepted (closure_setting bytes) kind.Fixed (word.steps + 3) MAX_LABELS (closure_chain bytes) found.0 outcome.text found.1 found.2
  where
    go : (b : Bool) → MayGiveClosureBy b word bytes outcome
        → IsFixedText (if b then settings.Alone else (parts_of bytes).setting) (word.steps + 3) (if b then by_rows (front_chain bytes) else text_chain (parts_of bytes).front) outcome.text
    go true given = close_read (Some (diagram_edges bytes)) word.steps settings.Alone (front_chain bytes) outcome finished (diagram_fault bytes) given
    go false given = close_read None word.steps (parts_of bytes).setting (text_chain (parts_of bytes).front) outcome finished (parts_of bytes).fault given

-- ---- the words `relaxed` and `through`
relaxed_worth : (word : RelaxedWord) (bytes : List ℕ) (outcome : Outcome) → MayGiveRelaxed word bytes outcome → outcome.status ≡ Done
    → IsAccepted settings.Alone kind.Fixed MAX_STEPS MAX_LABELS (text_chain bytes) outcome.text
unfolding MayGiveRelaxed
relaxed_worth word bytes outcome may finished = read_worth settings.Alone (text_chain bytes) outcome finished (chain_fault bytes) (Cycle MAX_STEPS 0 (looked_at word)) may

-- ---- words whose text may have an input problem
word_worth : (word : TextWord) (bytes : List ℕ) (outcome : Outcome) → MayGiveWord word bytes outcome → outcome.status ≡ Done → TextWordWorth word bytes outcome.text
word_worth (Searches word) bytes outcome is finished = search_worth word bytes outcome is finished
word_worth (Closes word) bytes outcome is finished = closure_worth word bytes outcome is finished
word_worth (Bridges word) bytes outcome is finished = is.worth finished
word_worth (Graphs word) bytes outcome is finished = tt
word_worth (Givens word) bytes outcome is finished = tt
word_worth (Settles word) bytes outcome is finished = tt

-- ---- all commands
pub worth_of : (words : List (List ℕ)) (command : Option Command) (bytes : List ℕ) (outcome : Outcome) → IsOutcome words command bytes outcome → outcome.status ≡ Done → TextWorth command bytes outcome.text
worth_of words (Some (Chains word)) bytes outcome is finished = (within _ bytes outcome is finished).worth finished
worth_of words (Some (Reads word)) bytes outcome is finished = word_worth word bytes outcome (within _ bytes outcome is finished) finished
worth_of words (Some (Beside beside)) bytes outcome is finished =
    let longer = text_beside (input_named beside.input (first_problem beside.front bytes)) bytes in
    word_worth beside.word longer outcome
    (within _ longer outcome (done_beside (MayGiveWord beside.word) beside.front beside.input bytes outcome (within _ bytes outcome is finished) finished) finished) finished
worth_of words (Some (Relaxes word)) bytes outcome is finished = relaxed_worth word bytes outcome (within _ bytes outcome is finished) finished
worth_of words (Some Explains) bytes outcome is finished = tt
worth_of words (Some (Describes word)) bytes outcome is finished = tt
worth_of words (Some Judges) bytes outcome is finished = tt
worth_of words (Some (Inputs word)) bytes outcome is finished = tt
worth_of words (Some (Shows word)) bytes outcome is finished = evidence_worth bytes outcome (within _ bytes outcome is finished) finished
worth_of words (Some (Forests word)) bytes outcome is finished = tt
worth_of words (Some Help) bytes outcome is finished = tt
worth_of words (Some HelpOn) bytes outcome is finished = tt
worth_of words None bytes outcome is finished = tt
