-- What is put piece by piece is what may be told together.
use Rattle.std.proofs.Common.{◌≡◌, ◌≢◌, ◌∙◌, ℕ, ◌+◌, true, false, List, [], ◌∷◌, ◌++◌, length, take, min, sym, ap, subst, arith, Option, Some, ◌⊎◌, inl, inr}
use Rattle.std.proofs.KnownBytes.{Appends-kept, Appends-trans}
use Rattle.std.proofs.Math.Nat.{min-le_right}
use Rattle.std.proofs.Math.Seq.{take-append-add}
use Rattle.std.proofs.lemmas.List.{take-append-le, take_min}
use Rattle.std.specs.Io.KnownBytes.{Appends, Keeps}
use Rattle.re_evidence.specs.Claims.{is_final}
use Rattle.re_frame.specs.Outcomes.{outcome_of, status_of}
use Rattle.re_frame.specs.Runs.{Answers, MaySay, StopsWithin}
use Rattle.re_frame.specs.declared.status.Status.{Status}
use Rattle.re_io.specs.Sink.{AppendsPrefix}
use Rattle.re_settle.proofs.Saying.{either_says, either_status, either_text}
use Rattle.re_settle.specs.Answers.{by_claim}
use Rattle.re_settle.specs.Claims.{claim_of}
use Rattle.re_settle.specs.Pieces.{IsEnded, MayFollow, Says as SaysWhole, front_of, told}
use Rattle.re_settle.specs.declared.claimed.Claimed.{Claimed}
use Rattle.re_settle.specs.declared.claimed.Telling.{Telling}
use Rattle.re_settle.specs.declared.claimed.Telling.TheVariants.{Claims, Whole}
use Rattle.re_settle.specs.declared.words.SettleWord.{SettleWord}
use Rattle.re_explore.proofs.Said.{expected_of, says_by}
use Rattle.re_explore.specs.Commands.{IsOutcome, command_of, is_telling}
use Rattle.re_explore.specs.Expected.{IsExpected, Says}
use Rattle.re_explore.specs.Telling.{IsClaimedBy, IsClaimedIn, KeepsOrStops, MayTellInput, MayTellOf, SaysTelling, StopsAtLine}
use Rattle.re_explore.specs.declared.command.Command.{Command}
use Rattle.re_explore.specs.declared.command.Command.TheVariants.{Reads}
use Rattle.re_explore.specs.declared.text_words.TextWord.TheVariants.{Settles}

module _ (claimed : Claimed) (rest : List ℕ) where
  told_text : (told claimed rest).text ≡ front_of claimed ++ rest
  told_text = either_text (is_final (claim_of claimed.classified.settled)) (front_of claimed ++ rest)

  -- the front, and then the rest
  pub both_answer : (status : Status) (old mid new : Option (List ℕ)) → Appends old mid (front_of claimed) → Answers status mid new (by_claim claimed.classified.settled rest)
      → Answers status old new (told claimed rest)
  both_answer status old mid new front answers = record {
    status = answers.status ∙ either_status (is_final (claim_of claimed.classified.settled)) rest (front_of claimed ++ rest);
    text =
        subst (Appends old new) (sym told_text)
        (Appends-trans old mid new (front_of claimed) rest front (subst (Appends mid new) (either_text (is_final (claim_of claimed.classified.settled)) rest) answers.text));
  }

  -- a text that begins with whole lines has some
  some_text : IsEnded (front_of claimed) → (told claimed rest).text ≢ []
  some_text (before, ended) none = go before (sym (told_text ∙ ap (λ front. front ++ rest) ended) ∙ none)
    where
      go : (before : List ℕ) → (before ++ 10 ∷ []) ++ rest ≡ [] → ⊥
      go [] e = cc
      go (x ∷ before) e = cc

  -- first bytes of the front
  pub stops_in_front : (old new : Option (List ℕ)) → IsEnded (front_of claimed) → AppendsPrefix old new (front_of claimed) → StopsWithin old new (told claimed rest).text
  stops_in_front old new ended (n, grows) =
      let many = min n (length (front_of claimed)) in
      let same : take many (told claimed rest).text ≡ take n (front_of claimed) =
      ap (take many) told_text ∙ take-append-le many (front_of claimed) rest (min-le_right n (length (front_of claimed))) ∙ take_min n (front_of claimed) in
      record { some_text = some_text ended; front = (many, subst (Appends old new) (sym same) grows) }

  -- the front, and first bytes of the rest
  pub stops_in_rest : (old mid new : Option (List ℕ)) → IsEnded (front_of claimed) → Appends old mid (front_of claimed) → AppendsPrefix mid new rest
      → StopsWithin old new (told claimed rest).text
  stops_in_rest old mid new ended front (n, grows) =
      let many = length (front_of claimed) + n in
      let same : take many (told claimed rest).text ≡ front_of claimed ++ take n rest = ap (take many) told_text ∙ take-append-add (front_of claimed) rest n in
      record { some_text = some_text ended; front = (many, subst (Appends old new) (sym same) (Appends-trans old mid new (front_of claimed) (take n rest) front grows)) }

  -- the front alone
  pub stops_at_front : (old mid new : Option (List ℕ)) → IsEnded (front_of claimed) → Appends old mid (front_of claimed) → Keeps mid new → StopsAtLine old new (told claimed rest).text
  stops_at_front old mid new ended front kept =
      record { front = front_of claimed; rest = rest; is = told_text; ended = ended; grows = Appends-kept old mid new (front_of claimed) front kept }

  -- what may follow is expected
  pub follows_expected : (words : List (List ℕ)) (bytes : List ℕ) → IsClaimedBy words bytes claimed → MayFollow claimed rest → IsExpected words bytes (told claimed rest)
  follows_expected words bytes is follows =
      subst (λ command. IsOutcome words command bytes (told claimed rest)) (sym is.named)
      (record { beyond = λ many. absurd (let few = is.claim.few in omega (arith, many, few)); within = λ few. follows is.word bytes is.claim.claim })

  -- what it says
  pub told_says : (status : Status) (command : Option Command) → ((word : SettleWord) × (command ≡ Some (Reads (Settles word)))) → status ≡ (told claimed rest).status → Says status command
  told_says status command (word, is) said =
      let says : MaySay (told claimed rest).status true = either_says (is_final (claim_of claimed.classified.settled)) (front_of claimed ++ rest) in
      subst (Says status) (sym is) (subst (λ s. MaySay s true) (sym said) says)

-- nothing is written, or whole lines of what is expected
pub kept_or_stops : (claimed : Claimed) (words : List (List ℕ)) (bytes : List ℕ) (old new : Option (List ℕ)) → IsClaimedBy words bytes claimed
    → Keeps old new ⊎ ((rest : List ℕ) × MayFollow claimed rest × StopsAtLine old new (told claimed rest).text) → KeepsOrStops words bytes old new
kept_or_stops claimed words bytes old new is (inl kept) = inl kept
kept_or_stops claimed words bytes old new is (inr (rest, follows, stops)) = inr (told claimed rest, follows_expected claimed rest words bytes is follows, stops)

-- what is claimed is told ahead
pub claims_ahead : {A : Type 0} (command : Option Command) → ((word : SettleWord) × (command ≡ Some (Reads (Settles word)))) → is_telling command ≡ false → A
claims_ahead command (word, is) not = absurd (let wrong : true ≡ false = sym (ap is_telling is) ∙ not in cc)

-- ---- what the words tell
pub claimed_by : (words : List (List ℕ)) (word : SettleWord) (bytes : List ℕ) (claimed : Claimed) → Some (Reads (Settles word)) ≡ command_of words → IsClaimedIn word bytes claimed
    → IsClaimedBy words bytes claimed
claimed_by words word bytes claimed named claim = record { word = word; named = sym named; claim = claim }

-- and by the words that name `settle`
pub told_by_words : (words : List (List ℕ)) (word : SettleWord) (bytes : List ℕ) (telling : Telling) → Some (Reads (Settles word)) ≡ command_of words → MayTellInput word bytes telling
    → MayTellOf words bytes telling
told_by_words words word bytes (Whole output) named may = expected_of words (Reads (Settles word)) bytes (outcome_of output) named may
told_by_words words word bytes (Claims claimed) named may = claimed_by words word bytes claimed named may

pub says_by_words : (words : List (List ℕ)) (word : SettleWord) (telling : Telling) → Some (Reads (Settles word)) ≡ command_of words → SaysWhole telling → SaysTelling telling (command_of words)
says_by_words words word (Whole output) named says = says_by words (Reads (Settles word)) (status_of output.answer) named says
says_by_words words word (Claims claimed) named says = (word, sym named)
