-- The input of a map, line by line from its front.
use Rattle.std.proofs.Common.{◌≡◌, ℕ, zero, suc, ◌<◌, ◌≤◌, ◌+◌, List, [], ◌∷◌, length, refl, ap, ◌∙◌, arith}
use Rattle.std.specs.Prelude.{Result, Ok, Err}
use Rattle.re_problem.specs.ProblemTexts.{lines_of}
use Rattle.re_problem.specs.TextReading.{IsRefused}
use Rattle.re_problem.specs.declared.fault.TextFault.{TextFault}
use Rattle.re_problem.specs.declared.fault.TextFault.TheVariants.{Bad, NoMemory}
use Rattle.re_texts.specs.MapTexts.{State, and_behind, behind, ended, judged, map_text}
use Rattle.re_texts.specs.MapTexts.State.{Start}
use Rattle.re_texts.specs.Reading.{EndGives, Holds, IsAt}
use Rattle.re_texts.specs.declared.entries.MapKind.{MapKind}
use Rattle.re_texts.specs.declared.reading.MapRead.{MapRead}
use Rattle.re_texts.specs.declared.reading.Place.{Place}
use Rattle.re_texts.specs.declared.reading.Place.TheVariants as place

-- how far a text is read, and what is left of it
pub record ReadSoFar (kind : MapKind) (text : List ℕ) (p : Place) (byte number : ℕ) (rest : List ℕ) : Type 0 where
  pub state : State
  pub at : IsAt p state byte
  pub whole : map_text kind text ≡ behind kind byte number state (lines_of rest)
  pub counted : number ≤ byte + 1
  pub bytes : byte + length rest ≤ length text + 1
  pub within : 0 < length rest → byte + length rest ≤ length text

pub nothing_read : (kind : MapKind) (text : List ℕ) → ReadSoFar kind text place.Start 0 1 text
nothing_read kind text = record { state = Start; at = tt; whole = refl; counted = omega arith; bytes = omega arith; within = λ some. omega arith }

module _ (kind : MapKind) (text : List ℕ) (p : Place) (byte number : ℕ) (rest line rest' : List ℕ) (s : ReadSoFar kind text p byte number rest) (cut : lines_of rest ≡ line ∷ lines_of rest') where
  here : map_text kind text ≡ and_behind (judged kind byte number s.state line) (λ t. behind kind (byte + length line + 1) (number + 1) t (lines_of rest'))
  here = s.whole ∙ ap (behind kind byte number s.state) cut

  pub line_read : (next : Place) → Holds (judged kind byte number s.state line) (byte + length line + 1) (Ok next) → length line ≤ length rest → length rest' < length rest
      → (0 < length rest' → length line + 1 + length rest' ≤ length rest) → ReadSoFar kind text next (byte + length line + 1) (number + 1) rest'
  line_read next given within less left = record {
    state = given.0;
    at = given.2;
    whole = here ∙ ap (λ r. and_behind r (λ t. behind kind (byte + length line + 1) (number + 1) t (lines_of rest'))) given.1;
    counted = (let c = s.counted in omega arith);
    bytes = go (length rest') refl;
    within = λ some. (let old = s.within (omega arith) in let fits = left some in omega arith);
  }
    where
      go : (n : ℕ) → length rest' ≡ n → byte + length line + 1 + length rest' ≤ length text + 1
      go zero none = let old = s.within (omega arith) in omega arith
      go (suc n) some = let old = s.within (omega arith) in let fits = left (omega arith) in omega arith

  pub line_wrong : (fault : TextFault) → IsRefused (judged kind byte number s.state line) fault → EndGives (map_text kind text) (Err fault)
  line_wrong (Bad fault) wrong = here ∙ ap (λ r. and_behind r (λ t. behind kind (byte + length line + 1) (number + 1) t (lines_of rest'))) wrong
  line_wrong NoMemory wrong = tt

pub all_read : (kind : MapKind) (text : List ℕ) (p : Place) (byte number : ℕ) (rest : List ℕ) → ReadSoFar kind text p byte number rest → length rest ≡ 0 → (result : Result MapRead TextFault)
    → ((s : State) (byte : ℕ) → IsAt p s byte → EndGives (ended kind number s) result) → EndGives (map_text kind text) result
all_read kind text p byte number (b ∷ rest) s none result given = absurd (omega arith)
all_read kind text p byte number [] s none result given = go result (given s.state byte s.at)
  where
    go : (result : Result MapRead TextFault) → EndGives (ended kind number s.state) result → EndGives (map_text kind text) result
    go (Ok read) h = s.whole ∙ h
    go (Err (Bad fault)) h = s.whole ∙ h
    go (Err NoMemory) h = tt
