-- The text of a table, line by line from its front.
use Rattle.std.proofs.Common.{◌≡◌, ℕ, zero, suc, ◌<◌, ◌≤◌, ◌+◌, List, [], ◌∷◌, length, refl, ap, ◌∙◌, arith}
use Rattle.std.specs.Prelude.{Result, Ok, Err}
use Rattle.re_problem.specs.ProblemTexts.{lines_of}
use Rattle.re_problem.specs.TextReading.{IsRefused}
use Rattle.re_problem.specs.declared.fault.TextFault.{TextFault}
use Rattle.re_problem.specs.declared.fault.TextFault.TheVariants.{Bad, NoMemory}
use Rattle.re_table_texts.specs.TableTexts.{State, and_behind, behind, ended, judged, table_input}
use Rattle.re_table_texts.specs.TableTexts.State.{Start}
use Rattle.re_table_texts.specs.Reading.{Gives, Holds, IsAt}
use Rattle.re_table_texts.specs.declared.reading.Place.{Place}
use Rattle.re_table_texts.specs.declared.reading.Place.TheVariants as place
use Rattle.re_table_texts.specs.declared.table_texts.TableForm.{TableForm}
use Rattle.re_table_texts.specs.declared.table_texts.TableInput.{TableInput}

-- how far a text is read, and what is left of it
pub record ReadSoFar (form : TableForm) (text : List ℕ) (p : Place) (byte number : ℕ) (rest : List ℕ) : Type 0 where
  pub state : State
  pub at : IsAt form p state byte
  pub whole : table_input form text ≡ behind form byte number state (lines_of rest)
  pub counted : number ≤ byte + 1
  pub bytes : byte + length rest ≤ length text + 1
  pub within : 0 < length rest → byte + length rest ≤ length text

pub nothing_read : (form : TableForm) (text : List ℕ) → ReadSoFar form text place.Start 0 1 text
nothing_read form text = record { state = Start; at = tt; whole = refl; counted = omega arith; bytes = omega arith; within = λ some. omega arith }

module _ (form : TableForm) (text : List ℕ) (p : Place) (byte number : ℕ) (rest line rest' : List ℕ) (s : ReadSoFar form text p byte number rest) (cut : lines_of rest ≡ line ∷ lines_of rest') where
  here : table_input form text ≡ and_behind (judged form byte number s.state line) (λ t. behind form (byte + length line + 1) (number + 1) t (lines_of rest'))
  here = s.whole ∙ ap (behind form byte number s.state) cut

  pub line_read : (next : Place) → Holds form (judged form byte number s.state line) (byte + length line + 1) (Ok next) → length line ≤ length rest → length rest' < length rest
      → (0 < length rest' → length line + 1 + length rest' ≤ length rest) → ReadSoFar form text next (byte + length line + 1) (number + 1) rest'
  line_read next given within less left = record {
    state = given.0;
    at = given.2;
    whole = here ∙ ap (λ r. and_behind r (λ t. behind form (byte + length line + 1) (number + 1) t (lines_of rest'))) given.1;
    counted = (let c = s.counted in omega arith);
    bytes = go (length rest') refl;
    within = λ some. (let old = s.within (omega arith) in let fits = left some in omega arith);
  }
    where
      go : (n : ℕ) → length rest' ≡ n → byte + length line + 1 + length rest' ≤ length text + 1
      go zero none = let old = s.within (omega arith) in omega arith
      go (suc n) some = let old = s.within (omega arith) in let fits = left (omega arith) in omega arith

  pub line_wrong : (fault : TextFault) → IsRefused (judged form byte number s.state line) fault → Gives (table_input form text) (Err fault)
  line_wrong (Bad fault) wrong = here ∙ ap (λ r. and_behind r (λ t. behind form (byte + length line + 1) (number + 1) t (lines_of rest'))) wrong
  line_wrong NoMemory wrong = tt

pub all_read : (form : TableForm) (text : List ℕ) (p : Place) (byte number : ℕ) (rest : List ℕ) → ReadSoFar form text p byte number rest → length rest ≡ 0 → (result : Result TableInput TextFault)
    → ((s : State) (byte : ℕ) → IsAt form p s byte → Gives (ended number s) result) → Gives (table_input form text) result
all_read form text p byte number (b ∷ rest) s none result given = absurd (omega arith)
all_read form text p byte number [] s none result given = go result (given s.state byte s.at)
  where
    go : (result : Result TableInput TextFault) → Gives (ended number s.state) result → Gives (table_input form text) result
    go (Ok read) h = s.whole ∙ h
    go (Err (Bad fault)) h = s.whole ∙ h
    go (Err NoMemory) h = tt
