-- The lines behind the certificate, one after another.
use Rattle.std.proofs.Common.{◌≡◌, ℕ, ◌+◌, ◌-◌, ◌<◌, ◌≤◌, true, false, cond, List, [], ◌∷◌, length, length-append, Ok, None, refl, sym, ap, ◌∙◌, arith}
use Rattle.re_io.specs.LineReading.{IsFirstLine, LineText, line_bytes}
use Rattle.re_problem.specs.TextReading.{IsRefused}
use Rattle.re_problem.specs.declared.fault.TextFault.{TextFault}
use Rattle.re_problem.specs.declared.fault.TextFault.TheVariants.{Bad, NoMemory}
use Rattle.re_cert.proofs.LineTexts.{first_line_is}
use Rattle.re_cert.specs.Bounds.{Bound}
use Rattle.re_cert.specs.CertificateTexts.{text_lines}
use Rattle.re_net.specs.RunReading.{Fits, Holds, RestGives, state_of}
use Rattle.re_problem.specs.Bytes.{is_empty_line}
use Rattle.re_net.specs.FiniteTrees.{FiniteTree}
use Rattle.re_problem.specs.ProblemTexts.{byte_fault, fault_or}
use Rattle.re_net.specs.RunLines.{section_of, strange_byte, three_on}
use Rattle.re_net.specs.RunTexts.{and_behind, behind, in_section, judged, judged_in, takes_join, tree_ends}
use Rattle.re_net.specs.RunTexts.State.{BehindEnd, InTree}
use Rattle.re_problem.specs.SectionLines.{is_section}
use Rattle.re_net.specs.declared.reading.Place.{Place}
use Rattle.re_net.specs.declared.reading.Place.TheVariants as place

-- how far the lines behind the certificate are read, at the end of a text of so many bytes, and what is left of them
pub record ReadSoFar (bound : Bound) (size first : ℕ) (text : List ℕ) (p : Place) (number : ℕ) (rest : List ℕ) : Type 0 where
  pub whole : behind (size - length text) first (BehindEnd bound) (text_lines text) ≡ behind (size - length rest) number (state_of bound p) (text_lines rest)
  pub fits : Fits bound p
  pub within : length rest ≤ size
  pub counted : number ≤ size - length rest + 1

pub nothing_read : (bound : Bound) (size first : ℕ) (text : List ℕ) → length text ≤ size → first ≤ size - length text + 1 → ReadSoFar bound size first text place.Behind first text
nothing_read bound size first text within counted = record { whole = refl; fits = tt; within = within; counted = counted }

module _ (bound : Bound) (size first : ℕ) (text : List ℕ) (p : Place) (number : ℕ) (rest : List ℕ) (s : ReadSoFar bound size first text p number rest) (line : LineText) (left : List ℕ)
    (cut : IsFirstLine rest line left None) where
  here : behind (size - length text) first (BehindEnd bound) (text_lines text)
      ≡ and_behind (judged (size - length rest) number (state_of bound p) line) (λ t. behind (size - length rest + length (line_bytes line)) (number + 1) t (text_lines left))
  here = s.whole ∙ ap (behind (size - length rest) number (state_of bound p)) (first_line_is rest line left None cut)

  pub sizes : length (line_bytes line) + length left ≡ length rest
  sizes = sym (length-append (line_bytes line) left) ∙ ap length (sym cut.bytes)

  pub line_read : (next : Place) → Holds bound (judged (size - length rest) number (state_of bound p) line) (Ok next) → 0 < length (line_bytes line) → ReadSoFar bound size first text next (number + 1) left
  line_read next given filled =
      let lengths = sizes in
      let within = s.within in
      let at : size - length rest + length (line_bytes line) ≡ size - length left = omega arith in
      record {
        whole = here ∙ ap (λ r. and_behind r (λ t. behind (size - length rest + length (line_bytes line)) (number + 1) t (text_lines left))) given.0
            ∙ ap (λ byte. behind byte (number + 1) (state_of bound next) (text_lines left)) at;
        fits = given.1;
        within = omega arith;
        counted = (let old = s.counted in omega arith);
      }

  pub line_wrong : (fault : TextFault) → IsRefused (judged (size - length rest) number (state_of bound p) line) fault → IsRefused (behind (size - length text) first (BehindEnd bound) (text_lines text)) fault
  line_wrong (Bad fault) wrong = here ∙ ap (λ r. and_behind r (λ t. behind (size - length rest + length (line_bytes line)) (number + 1) t (text_lines left))) wrong
  line_wrong NoMemory wrong = tt

pub all_read : (bound : Bound) (size first : ℕ) (text : List ℕ) (p : Place) (number : ℕ) (rest : List ℕ) → ReadSoFar bound size first text p number rest → length rest ≡ 0
    → RestGives bound (behind (size - length text) first (BehindEnd bound) (text_lines text)) (Ok p)
all_read bound size first text p number [] s none = (s.whole, s.fits)
all_read bound size first text p number (b ∷ rest) s none = absurd (omega arith)

-- ---- lines of the tree
pub tree-section : (byte number : ℕ) (bound : Bound) (tree : FiniteTree) (line : List ℕ) → is_section line ≡ true → judged_in byte number (InTree bound tree) line ≡ tree_ends bound tree number (section_of line)
tree-section byte number bound tree line marked = ap (λ t. cond t (tree_ends bound tree number (section_of line)) (in_section byte (InTree bound tree) line (takes_join bound tree number (three_on line)))) marked

pub tree-filled : (byte number : ℕ) (bound : Bound) (tree : FiniteTree) (line : List ℕ) → is_section line ≡ false → is_empty_line line ≡ false → None ≡ strange_byte line
    → judged_in byte number (InTree bound tree) line ≡ takes_join bound tree number (three_on line)
tree-filled byte number bound tree line plain filled none =
    (λ i. cond (plain i) (tree_ends bound tree number (section_of line)) (cond (filled i) (Ok (InTree bound tree)) (fault_or (byte_fault byte (sym none i)) (takes_join bound tree number (three_on line)))))
