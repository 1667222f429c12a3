-- A problem text behind that line, line by line to its end.
use Rattle.std.proofs.Common.{◌≡◌, ℕ, zero, suc, ◌<◌, ◌≤◌, ◌+◌, true, false, List, [], ◌∷◌, ◌++◌, length, length-append, append_assoc, refl, sym, ap, ◌∙◌, arith, Option, Some, None, Result, Ok, Err}
use Rattle.std.specs.List.{list_any}
use Rattle.std.proofs.lemmas.List.{append-nil}
use Rattle.re_io.specs.declared.read.TheConstants.{MAX_BYTES}
use Rattle.re_problem.proofs.TextLines.{bytes_more}
use Rattle.re_problem.specs.NamedProblems.{NamedProblem}
use Rattle.re_problem.specs.ProblemTexts.{bytes_of, end_fault, fault_at, fault_if, first_fault, first_from, lines_of, or_else, problem_of}
use Rattle.re_problem.specs.TextReading.{FinishGives, Refuses, Stands}
use Rattle.re_problem.specs.declared.fault.InputFault.{InputFault}
use Rattle.re_problem.specs.declared.fault.InputFault.TheVariants.{BadSection}
use Rattle.re_problem.specs.declared.fault.TextFault.{TextFault}
use Rattle.re_problem.specs.declared.fault.TextFault.TheVariants.{Bad, NoMemory}
use Rattle.re_problem.specs.declared.text_reader.TextReader.{TextReader}
use Rattle.re_problem.specs.SectionLines.{is_section}
use Rattle.re_chains.specs.TwoTexts.{ProblemGives, SectionRefuses, problem_fault, problem_lines}
use Rattle.re_chains.proofs.Splits.{any_there, before_none, before_one, before_past, before_there, none_more}

-- how far the text is read, and what is left of it: the reader stands for the lines before, and none of them is a section line
pub record ReadSoFar (reader : TextReader) (byte start : ℕ) (text : List ℕ) (number : ℕ) (rest : List ℕ) : Type 0 where
  pub before : List (List ℕ)
  pub stands : Stands reader byte start before
  pub lines : lines_of text ≡ before ++ lines_of rest
  pub none : list_any is_section before ≡ false
  pub fault : (more : List (List ℕ)) → first_fault byte start (before ++ more) ≡ first_from byte start before more
  pub number_is : number ≡ start + length before
  pub counted : number ≤ byte + bytes_of before + 1
  pub bytes : byte + bytes_of before + length rest ≤ MAX_BYTES + 1
  pub within : 0 < length rest → byte + bytes_of before + length rest ≤ MAX_BYTES

pub nothing_read : (reader : TextReader) (byte start : ℕ) (text : List ℕ) → Stands reader byte start [] → start ≤ byte + 1 → byte + length text ≤ MAX_BYTES → ReadSoFar reader byte start text start text
nothing_read reader byte start text stands counted within = record {
  before = [];
  stands = stands;
  lines = refl;
  none = refl;
  fault = λ more. refl;
  number_is = omega arith;
  counted = omega arith;
  bytes = omega arith;
  within = λ some. omega arith;
}

module _ (reader : TextReader) (byte start : ℕ) (text : List ℕ) (number : ℕ) (rest line behind : List ℕ) (s : ReadSoFar reader byte start text number rest) (cut : lines_of rest ≡ line ∷ lines_of behind) where
  lines_there : lines_of text ≡ s.before ++ line ∷ lines_of behind
  lines_there = s.lines ∙ ap (λ l. s.before ++ l) cut

  -- one more line
  pub line_read : (next : TextReader) → is_section line ≡ false → fault_at byte start s.before line ≡ None → Stands next byte start (s.before ++ line ∷ [])
      → length line ≤ length rest → length behind < length rest → (0 < length behind → length line + 1 + length behind ≤ length rest) → ReadSoFar next byte start text (number + 1) behind
  line_read next other right stands within less left = record {
    before = s.before ++ line ∷ [];
    stands = stands;
    lines = lines_there ∙ sym (append_assoc s.before (line ∷ []) (lines_of behind));
    none = none_more is_section s.before line s.none other;
    fault = λ more. ap (first_fault byte start) (append_assoc s.before (line ∷ []) more) ∙ s.fault (line ∷ more) ∙ ap (λ f. or_else f (first_from byte start (s.before ++ line ∷ []) more)) right;
    number_is = (let more = length-append s.before (line ∷ []) in let is = s.number_is in omega arith);
    counted = (let more = bytes_more s.before line in let c = s.counted in omega arith);
    bytes = go (length behind) refl;
    within = λ some. (let more = bytes_more s.before line in let old = s.within (omega arith) in let fits = left some in omega arith);
  }
    where
      go : (n : ℕ) → length behind ≡ n → byte + bytes_of (s.before ++ line ∷ []) + length behind ≤ MAX_BYTES + 1
      go zero none = let more = bytes_more s.before line in let old = s.within (omega arith) in omega arith
      go (suc n) some = let more = bytes_more s.before line in let old = s.within (omega arith) in let fits = left (omega arith) in omega arith

  -- a line at fault
  pub line_wrong : (fault : InputFault) → is_section line ≡ false → fault_at byte start s.before line ≡ Some fault → problem_fault byte start (lines_of text) ≡ Some fault
  line_wrong fault other wrong =
      ap (problem_fault byte start) lines_there
      ∙ ap (λ l. or_else (first_fault byte start l) (behind_fault (s.before ++ line ∷ lines_of behind) l))
      (before_past is_section s.before (line ∷ lines_of behind) s.none ∙ ap (λ l. s.before ++ l) (before_one is_section line (lines_of behind) other))
      ∙ ap (λ f. or_else f (behind_fault (s.before ++ line ∷ lines_of behind) (s.before ++ line ∷ problem_lines (lines_of behind)))) (s.fault (line ∷ problem_lines (lines_of behind)) ∙ ap (λ f. or_else f (first_from byte start (s.before ++ line ∷ []) (problem_lines (lines_of behind)))) wrong)
    where
      behind_fault : List (List ℕ) → List (List ℕ) → Option InputFault
      behind_fault all front = fault_if (list_any is_section all) (BadSection (start + length front))

  pub refused_there : (fault : TextFault) → is_section line ≡ false → Refuses reader line fault → ProblemGives byte start (lines_of text) (Err fault)
  refused_there (Bad fault) other wrong = line_wrong fault other (wrong byte start s.before s.stands)
  refused_there NoMemory other wrong = tt

  -- a section line
  section_wrong : is_section line ≡ true → problem_fault byte start (lines_of text) ≡ or_else (end_fault start s.before) (Some (BadSection number))
  section_wrong here =
      ap (problem_fault byte start) lines_there
      ∙ ap (λ l. or_else (first_fault byte start l) (fault_if (list_any is_section (s.before ++ line ∷ lines_of behind)) (BadSection (start + length l)))) (before_there is_section s.before line (lines_of behind) s.none here)
      ∙ ap (λ b. or_else (first_fault byte start s.before) (fault_if b (BadSection (start + length s.before)))) (any_there is_section s.before line (lines_of behind) s.none here)
      ∙ ap (λ f. or_else f (Some (BadSection (start + length s.before)))) (ap (first_fault byte start) (sym (append-nil s.before)) ∙ s.fault [])
      ∙ ap (λ n. or_else (end_fault start s.before) (Some (BadSection n))) (sym s.number_is)

  pub section_there : (fault : TextFault) → is_section line ≡ true → SectionRefuses reader number fault → ProblemGives byte start (lines_of text) (Err fault)
  section_there (Bad fault) here wrong = section_wrong here ∙ wrong byte start s.before s.stands
  section_there NoMemory here wrong = tt

or_none : (fault : Option InputFault) → or_else fault None ≡ fault
or_none None = refl
or_none (Some fault) = refl

-- the text was read to its end
pub all_read : (reader : TextReader) (byte start : ℕ) (text : List ℕ) (number : ℕ) (rest : List ℕ) → ReadSoFar reader byte start text number rest → length rest ≡ 0
    → (result : Result NamedProblem TextFault) → FinishGives reader result → ProblemGives byte start (lines_of text) result
all_read reader byte start text number (b ∷ rest) s end result given = absurd (omega arith)
all_read reader byte start text number [] s end result given = go result given
  where
    lines_are : lines_of text ≡ s.before
    lines_are = s.lines ∙ append-nil s.before

    front : problem_lines (lines_of text) ≡ s.before
    front = ap problem_lines lines_are ∙ before_none is_section s.before s.none

    fault_is : problem_fault byte start (lines_of text) ≡ end_fault start s.before
    fault_is =
        ap (λ l. or_else (first_fault byte start l) (fault_if (list_any is_section (lines_of text)) (BadSection (start + length l)))) front
        ∙ ap (λ b. or_else (first_fault byte start s.before) (fault_if b (BadSection (start + length s.before)))) (ap (list_any is_section) lines_are ∙ s.none)
        ∙ or_none (first_fault byte start s.before)
        ∙ ap (first_fault byte start) (sym (append-nil s.before)) ∙ s.fault []

    go : (result : Result NamedProblem TextFault) → FinishGives reader result → ProblemGives byte start (lines_of text) result
    go (Ok problem) given = let h = given byte start s.before s.stands in (fault_is ∙ h.0, h.1 ∙ ap problem_of (sym front))
    go (Err (Bad fault)) given = fault_is ∙ given byte start s.before s.stands
    go (Err NoMemory) given = absurd given

-- ---- the end at a section line
pub section_whole : (reader : TextReader) (number : ℕ) (problem : NamedProblem) → FinishGives reader (Ok problem) → SectionRefuses reader number (Bad (BadSection number))
section_whole reader number problem given byte start lines stands = ap (λ f. or_else f (Some (BadSection number))) (given byte start lines stands).0

pub section_broken : (reader : TextReader) (number : ℕ) (fault : TextFault) → FinishGives reader (Err fault) → SectionRefuses reader number fault
section_broken reader number (Bad fault) given = λ byte start lines stands. ap (λ f. or_else f (Some (BadSection number))) (given byte start lines stands)
section_broken reader number NoMemory given = tt
