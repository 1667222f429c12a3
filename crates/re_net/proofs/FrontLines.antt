-- The certificate at the front of an input, line by line.
use Rattle.std.proofs.Common.{◌≡◌, ℕ, ◌+◌, ◌≤◌, Bool, true, false, cond, codes, not, ◌||◌, List, [], ◌∷◌, ◌++◌, length, length-append, Contains, Some, None, Result, Ok, Err, refl, sym, ap, ◌∙◌, subst, arith, append_assoc, append-nil}
use Rattle.std.specs.List.{AllByRecursion}
use Rattle.re_io.specs.LineReading.{IsFirstLine, LineText, line_bytes}
use Rattle.re_problem.specs.TextReading.{IsRefused}
use Rattle.re_problem.specs.declared.fault.InputFault.{InputFault}
use Rattle.re_problem.specs.declared.fault.InputFault.TheVariants.{EarlyEnd}
use Rattle.re_problem.specs.declared.fault.TextFault.{TextFault}
use Rattle.re_problem.specs.declared.fault.TextFault.TheVariants.{Bad, NoMemory}
use Rattle.re_cert.proofs.Accounts.{line_accounted}
use Rattle.re_cert.proofs.Collected.{same_start}
use Rattle.re_cert.proofs.Placing.{judged_of}
use Rattle.re_cert.proofs.Feeding.{one_behind}
use Rattle.re_cert.proofs.LineTexts.{first_line_is}
use Rattle.re_cert.specs.CertificateReading.{FeedRefuses, IsAt, Stands}
use Rattle.re_cert.specs.CertificateTexts.{Brought, State as CertificateState, and_behind as and_behind_lines, behind as behind_lines, bound_behind, fault_behind, has_ended, is_whole, judged as judged_certificate, start, text_lines}
use Rattle.re_cert.specs.declared.cert_reader.CertReader.{CertReader}
use Rattle.re_net.proofs.ForeignSections.{mark_refused, same_fault}
use Rattle.re_net.specs.RunLines.{is_deliveries}
use Rattle.re_net.specs.RunReading.{Ends, Feeds}
use Rattle.re_net.specs.RunTexts.{RunText, State, and_behind, behind, goes_on, reached, run_text}
use Rattle.re_net.specs.RunTexts.State.{InCertificate, BehindEnd}

-- ---- lines that were fed, all of them finished
abbrev pub lines_bytes : List LineText → List ℕ
lines_bytes [] = []
lines_bytes (line ∷ lines) = line_bytes line ++ lines_bytes lines

pub record IsWhole (line : LineText) : Type 0 where
  pub ended : line.ended ≡ true
  pub no_feed : Contains line.text 10 → ⊥

bytes_more : (lines : List LineText) (line : LineText) → lines_bytes (lines ++ line ∷ []) ≡ lines_bytes lines ++ line_bytes line
bytes_more [] line = append-nil (line_bytes line)
bytes_more (l ∷ lines) line = ap (λ more. line_bytes l ++ more) (bytes_more lines line) ∙ sym (append_assoc (line_bytes l) (lines_bytes lines) (line_bytes line))

whole_more : (lines : List LineText) (line : LineText) → AllByRecursion IsWhole lines → IsWhole line → AllByRecursion IsWhole (lines ++ line ∷ [])
whole_more [] line all one = (one, tt)
whole_more (l ∷ lines) line all one = (all.0, whole_more lines line all.1 one)

not_unended : (t : Bool) → t ≡ true → t ≡ false → ⊥
not_unended t is isnt = cc

lines_back : (lines : List LineText) → AllByRecursion IsWhole lines → text_lines (lines_bytes lines) ≡ lines
lines_back [] all = refl
lines_back (line ∷ lines) all =
    first_line_is (line_bytes line ++ lines_bytes lines) line (lines_bytes lines) None (record {
      bytes = refl;
      whole = all.0.no_feed;
      filled = λ unended. absurd (not_unended line.ended all.0.ended unended);
      last = λ unended. absurd (not_unended line.ended all.0.ended unended);
    })
    ∙ ap (λ more. line ∷ more) (lines_back lines all.1)

-- how far the certificate is read, and what is left of the text
pub record Fed (text : List ℕ) (reader : CertReader) (rest : List ℕ) (number : ℕ) : Type 0 where
  pub fed : List LineText
  pub whole : AllByRecursion IsWhole fed
  pub text_is : text ≡ lines_bytes fed ++ rest
  pub state : CertificateState
  pub behind_is : behind_lines fed ≡ Ok state
  pub at : IsAt reader state
  pub goes_on : has_ended state.phase ≡ false
  pub run : run_text text ≡ behind (length (lines_bytes fed)) number (InCertificate state) (text_lines rest)
  pub byte : state.byte ≤ length (lines_bytes fed)
  pub counted : number ≤ length (lines_bytes fed) + 1

pub nothing_fed : (text : List ℕ) (reader : CertReader) → Stands reader [] → Fed text reader text 1
nothing_fed text reader stands = record {
  fed = [];
  whole = tt;
  text_is = refl;
  state = start;
  behind_is = refl;
  at = subst (IsAt reader) (sym (same_start stands.0 stands.1)) stands.2;
  goes_on = refl;
  run = refl;
  byte = omega arith;
  counted = omega arith;
}

pub size_left : (text rest : List ℕ) (reader : CertReader) (number : ℕ) (f : Fed text reader rest number) → length (lines_bytes f.fed) + length rest ≡ length text
size_left text rest reader number f = sym (length-append (lines_bytes f.fed) rest) ∙ ap length (sym f.text_is)

-- the reader's byte, and the line behind it
pub room_left : (text rest : List ℕ) (reader : CertReader) (number : ℕ) → Fed text reader rest number → reader.byte + length rest ≤ length text
room_left text rest reader number f =
    let size = size_left text rest reader number f in
    let low = f.byte in
    let same = f.at.counts.byte_is in
    omega arith

-- the end of the text
pub all_fed : (text rest : List ℕ) (reader : CertReader) (number : ℕ) → Fed text reader rest number → length rest ≡ 0 → run_text text ≡ Err EarlyEnd
all_fed text [] reader number f none = f.run
all_fed text (b ∷ rest) reader number f none = absurd (omega arith)

-- a last line that isn't finished
pub unfinished_there : (text rest : List ℕ) (reader : CertReader) (number : ℕ) (f : Fed text reader rest number) (t left : List ℕ) → IsFirstLine rest (record { text = t; ended = false }) left None
    → (fault : TextFault) → IsRefused (behind (length (lines_bytes f.fed)) number (InCertificate f.state) (record { text = t; ended = false } ∷ [])) fault → IsRefused (run_text text) fault
unfinished_there text rest reader number f t left first fault refused =
    let cut = first_line_is rest (record { text = t; ended = false }) left None first in
    let nothing : left ≡ [] = (first.last refl).0 in
    subst (λ r. IsRefused r fault) (sym (f.run ∙ ap (behind (length (lines_bytes f.fed)) number (InCertificate f.state)) (cut ∙ ap (λ more. record { text = t; ended = false } ∷ text_lines more) nothing))) refused

-- a finished line
module _ (text rest : List ℕ) (reader : CertReader) (number : ℕ) (f : Fed text reader rest number) (t left : List ℕ) (first : IsFirstLine rest (record { text = t; ended = true }) left None) where
  abbrev line : LineText
  line = record { text = t; ended = true }

  abbrev front : ℕ
  front = length (lines_bytes f.fed)

  abbrev later : State → Result RunText InputFault
  later u = behind (front + length (line_bytes line)) (number + 1) u (text_lines left)

  here : run_text text ≡ and_behind (goes_on (judged_certificate f.state line)) later
  here = f.run ∙ ap (behind front number (InCertificate f.state)) (first_line_is rest line left None first)

  pub line_refused : (new : CertReader) (fault : TextFault) → Feeds f.state t new f.fed (Err fault) → IsRefused (run_text text) fault
  line_refused new (Bad fault) is = here ∙ ap (λ r. and_behind (goes_on r) later) is
  line_refused new NoMemory is = tt

  module _ (new : CertReader) (stands : Stands new (f.fed ++ line ∷ [])) where
    abbrev next : CertificateState
    next = stands.0

    moved : (run_text text ≡ later (reached next)) × (next.byte ≤ f.state.byte + length (line_bytes line))
    moved =
        let b = judged_of (judged_certificate f.state line) next (sym (one_behind start f.state f.fed line f.behind_is) ∙ stands.1) in
        let a = line_accounted f.state line b.0 b.1 in
        let byte : b.0.state.byte ≡ next.byte = ap (λ (u : CertificateState). u.byte) b.2 in
        let low = a.byte in
        (here ∙ ap (λ r. and_behind (goes_on r) later) b.1 ∙ ap (λ u. later (reached u)) b.2, omega arith)

    size : length (lines_bytes (f.fed ++ line ∷ [])) ≡ front + length (line_bytes line)
    size = ap length (bytes_more f.fed line) ∙ length-append (lines_bytes f.fed) (line_bytes line)

    text_more : text ≡ lines_bytes (f.fed ++ line ∷ []) ++ left
    text_more =
        f.text_is ∙ ap (λ more. lines_bytes f.fed ++ more) first.bytes ∙ sym (append_assoc (lines_bytes f.fed) (line_bytes line) left)
        ∙ ap (λ front. front ++ left) (sym (bytes_more f.fed line))

    all_whole : AllByRecursion IsWhole (f.fed ++ line ∷ [])
    all_whole = whole_more f.fed line f.whole (record { ended = refl; no_feed = first.whole })

    pub line_fed : has_ended next.phase ≡ false → Fed text new left (number + 1)
    line_fed going = record {
      fed = f.fed ++ line ∷ [];
      whole = all_whole;
      text_is = text_more;
      state = next;
      behind_is = stands.1;
      at = stands.2;
      goes_on = going;
      run = moved.0 ∙ (λ i. behind (sym size i) (number + 1) (cond (going i) (BehindEnd next.bound) (InCertificate next)) (text_lines left));
      byte = (let low = moved.1 in let old = f.byte in let same = size in omega arith);
      counted = (let old = f.counted in let same = size in let one : length (t ++ 10 ∷ []) ≡ length t + 1 = length-append t (10 ∷ []) in omega arith);
    }

    pub line_ends : has_ended next.phase ≡ true → Ends text left (number + 1)
    line_ends closed =
        let back : text_lines (lines_bytes (f.fed ++ line ∷ [])) ≡ f.fed ++ line ∷ [] = lines_back (f.fed ++ line ∷ []) all_whole in
        let whole : behind_lines (text_lines (lines_bytes (f.fed ++ line ∷ []))) ≡ Ok next = ap behind_lines back ∙ stands.1 in
        record {
          before = lines_bytes (f.fed ++ line ∷ []);
          text_is = text_more;
          faultless = ap fault_behind whole ∙ ap (λ t. cond (not t) (Some EarlyEnd) None) closed;
          whole = moved.0 ∙ (λ i. behind (sym size i) (number + 1) (cond (closed i) (BehindEnd next.bound) (InCertificate next)) (text_lines left))
              ∙ ap (λ b. behind (length (lines_bytes (f.fed ++ line ∷ []))) (number + 1) (BehindEnd b) (text_lines left)) (sym (ap bound_behind whole));
          counted = (let old = f.counted in let same = size in let one : length (t ++ 10 ∷ []) ≡ length t + 1 = length-append t (10 ∷ []) in omega arith);
        }

-- ---- what a feed gives
err_of : (r : Result Brought InputFault) (fault : InputFault) → and_behind_lines r (λ u. Ok u) ≡ Err fault → r ≡ Err fault
err_of (Ok brought) fault is = absurd (cc)
err_of (Err f) fault is = (let same : f ≡ fault = cc in ap Err same)

pub feed_refused : (old new : CertReader) (s : CertificateState) (before : List LineText) (t : List ℕ) (fault : TextFault) → behind_lines before ≡ Ok s → Stands old before
    → FeedRefuses old (record { text = t; ended = true }) fault → Feeds s t new before (Err fault)
feed_refused old new s before t (Bad fault) is stands refused =
    err_of (judged_certificate s (record { text = t; ended = true })) fault (sym (one_behind start s before (record { text = t; ended = true }) is) ∙ refused before stands)
feed_refused old new s before t NoMemory is stands refused = tt

-- ---- an unfinished `== deliveries`
-- the mark can't be fed
pub no_mark : (before : List LineText) (old new : CertReader) (stands : Stands old before) → is_whole (behind_lines before) ≡ false
    → Stands new (before ++ record { text = codes "=="; ended = true } ∷ []) → ⊥
no_mark before old new stands early there =
    let open_ : has_ended stands.0.phase ≡ false = ap is_whole (sym stands.1) ∙ early in
    let b = judged_of (judged_certificate stands.0 (record { text = codes "=="; ended = true })) there.0 (sym (one_behind start stands.0 before (record { text = codes "=="; ended = true }) stands.1) ∙ there.1) in
    mark_refused stands.0 open_ b.0 b.1

-- its fault is that of the mark
pub unfinished_is : (byte number : ℕ) (s : CertificateState) (text : List ℕ) → has_ended s.phase ≡ false → is_deliveries text ≡ true → (new : CertReader) (before : List LineText) (fault : TextFault)
    → Feeds s (codes "==") new before (Err fault) → IsRefused (behind byte number (InCertificate s) (record { text = text; ended = false } ∷ [])) fault
unfinished_is byte number s text early is new before (Bad fault) refused =
    ap (λ t. and_behind (cond (t || false) (goes_on (judged_certificate s (record { text = text; ended = true }))) (Ok (InCertificate s))) (λ u. behind (byte + length text) (number + 1) u [])) is
    ∙ ap (λ r. and_behind (goes_on r) (λ u. behind (byte + length text) (number + 1) u [])) (same_fault s early text is ∙ refused)
unfinished_is byte number s text early is new before NoMemory refused = tt

-- a reader that reads on is at no end
pub still_open : (text rest : List ℕ) (reader : CertReader) (number : ℕ) → Fed text reader rest number → (before : List LineText) → Stands reader before → is_whole (behind_lines before) ≡ false
still_open text rest reader number f before stands = ap is_whole stands.1 ∙ ap has_ended (sym stands.2.phase_is ∙ f.at.phase_is) ∙ f.goes_on

-- whether the end is reached
pub end_told : (reader : CertReader) (before : List LineText) (stands : Stands reader before) (test : Bool) (result : Bool) → result ≡ is_whole (behind_lines before) → result ≡ test → has_ended stands.0.phase ≡ test
end_told reader before stands test result told is = ap is_whole (sym stands.1) ∙ sym told ∙ is
