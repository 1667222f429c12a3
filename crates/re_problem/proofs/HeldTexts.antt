-- A reader of a problem text within an input, at some byte of the longest input.
use Rattle.std.proofs.Common.{◌≡◌, ℕ, ◌≤◌, ◌+◌, List, [], ◌∷◌, ◌++◌, length, ap, arith, None}
use Rattle.std.specs.Prelude.{Result}
use Rattle.re_io.specs.declared.read.TheConstants.{MAX_BYTES}
use Rattle.re_problem.proofs.TextLines.{bytes_more}
use Rattle.re_problem.specs.NamedProblems.{NamedProblem}
use Rattle.re_problem.specs.ProblemTexts.{end_fault, fault_at, fault_or, problem_of}
use Rattle.re_problem.specs.TextReading.{FinishRefuses, IsRefused, Reads, Refuses, Stands}
use Rattle.re_problem.specs.declared.fault.InputFault.{InputFault}
use Rattle.re_problem.specs.declared.fault.TextFault.{TextFault}
use Rattle.re_problem.specs.declared.fault.TextFault.TheVariants.{Bad, NoMemory}
use Rattle.re_problem.specs.declared.text_reader.TextReader.{TextReader}

module _ (old : TextReader) (text_byte text_line byte : ℕ) (text : List (List ℕ)) (line : List ℕ) (reads : Reads old text_byte text_line text byte) (within : byte ≤ MAX_BYTES) where
  reads-stands : Stands old text_byte text_line text
  reads-stands = reads.stands (let e = reads.byte_is in omega arith)

  -- a line of the text
  pub text-more : (new : TextReader) → ((b n : ℕ) (before : List (List ℕ)) → Stands old b n before → (fault_at b n before line ≡ None) × Stands new b n (before ++ line ∷ []))
      → (fault_at text_byte text_line text line ≡ None) × Reads new text_byte text_line (text ++ line ∷ []) (byte + length line + 1)
  text-more new given =
      let h = given text_byte text_line text reads-stands in
      (h.0, record { stands = λ l. h.1; byte_is = (let e = reads.byte_is in let m = bytes_more text line in omega arith) })

  pub text-refused : {S : Type 0} (fault : TextFault) (result : Result S InputFault) → Refuses old line fault → IsRefused (fault_or (fault_at text_byte text_line text line) result) fault
  text-refused (Bad fault) result refused = ap (λ f. fault_or f result) (refused text_byte text_line text reads-stands)
  text-refused NoMemory result refused = tt

  -- the end of the text
  pub text-ended : (problem : NamedProblem) → ((b n : ℕ) (lines : List (List ℕ)) → Stands old b n lines → (end_fault n lines ≡ None) × (problem ≡ problem_of lines)) → (end_fault text_line text ≡ None) × (problem ≡ problem_of text)
  text-ended problem given = given text_byte text_line text reads-stands

  pub text-lacks : {S : Type 0} (fault : TextFault) (result : Result S InputFault) → FinishRefuses old fault → IsRefused (fault_or (end_fault text_line text) result) fault
  text-lacks (Bad fault) result refused = ap (λ f. fault_or f result) (refused text_byte text_line text reads-stands)
  text-lacks NoMemory result refused = absurd refused
