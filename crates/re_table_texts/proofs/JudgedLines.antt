-- What a line brings, test by test.
use Rattle.std.proofs.Common.{◌≡◌, ℕ, ◌≤◌, ◌<◌, ◌+◌, Bool, true, false, cond, ◌&&◌, List, [], ◌∷◌, ◌++◌, length, refl, sym, ap, ◌∙◌, subst, arith, Option, Some, None}
use Rattle.std.specs.Prelude.{◌==◌, IsSome, Result, Ok, Err}
use Rattle.std.specs.List.{AllByRecursion}
use Rattle.std.specs.Option.{option_and_then}
use Rattle.std.proofs.lemmas.Bool.{false≢true}
use Rattle.std.proofs.lemmas.Bool.Decides.{nat_tests}
use Rattle.re_algo.specs.Tables.{AnswerTable, IsTable, views_of}
use Rattle.re_cert.specs.Entries.{image_labels, label_items, labels_in, of_length}
use Rattle.re_problem.specs.Bytes.{bad_byte, is_empty_line}
use Rattle.re_problem.specs.Items.{ItemText}
use Rattle.re_labels.proofs.Membership.{all-push}
use Rattle.re_labels.proofs.Tests.{eqb-true}
use Rattle.re_algo.proofs.CountCode.{few-listed}
use Rattle.re_algo.specs.Counting.{view_count}
use Rattle.re_algo.specs.declared.counting.TheConstants.{MAX_VIEWS}
use Rattle.re_problem.specs.NamedProblems.{IsNamedProblem, NamedProblem}
use Rattle.re_problem.specs.ProblemTexts.{byte_fault, end_fault, fault_at, fault_or, problem_of}
use Rattle.re_problem.specs.TextReading.{Reads}
use Rattle.re_problem.specs.declared.fault.InputFault.{InputFault}
use Rattle.re_problem.specs.declared.fault.InputFault.TheVariants.{BadEntry, BadSection}
use Rattle.re_problem.specs.declared.fault.TextFault.{TextFault}
use Rattle.re_problem.specs.declared.text_reader.TextReader.{TextReader}
use Rattle.re_problem.specs.SectionLines.{is_section}
use Rattle.re_table_texts.specs.Reading.{Holds, IsAt, IsBegun}
use Rattle.re_table_texts.specs.SectionLines.{section_of}
use Rattle.re_table_texts.specs.TableTexts.{State, are_all, has_room, judged, judged_start, judged_table, judged_text, may_stand, next_begins, problem_begins, table_begins, table_counted, table_of, takes_items, takes_labels, text_ends}
use Rattle.re_table_texts.specs.TableTexts.State.{Start, InText, InTable}
use Rattle.re_table_texts.specs.declared.reading.Place.{Place}
use Rattle.re_table_texts.specs.declared.reading.Place.TheVariants as place
use Rattle.re_table_texts.specs.declared.reading.TableRead.{TableRead}
use Rattle.re_table_texts.specs.declared.sections.Section.{Section}
use Rattle.re_table_texts.specs.declared.sections.Section.TheVariants.{Table}
use Rattle.re_table_texts.specs.declared.table_texts.TableForm.{TableForm}
use Rattle.re_table_texts.specs.declared.table_texts.TableForm.TheVariants.{Faster, Plain, Slower}

-- ---- before the first section line
pub start-section : (byte number : ℕ) (line : List ℕ) (section : Section) → is_empty_line line ≡ false → section ≡ section_of line → judged_start byte number line ≡ problem_begins (byte + length line + 1) number section
start-section byte number line section filled is = λ i. cond (filled i) (Ok Start) (problem_begins (byte + length line + 1) number (sym is i))

-- ---- in a problem text
module _ (form : TableForm) (byte number : ℕ) (first : Option NamedProblem) (text_byte text_line : ℕ) (text : List (List ℕ)) (line : List ℕ) where
  abbrev inner : Result State InputFault
  inner = fault_or (fault_at text_byte text_line text line) (Ok (InText first text_byte text_line (text ++ line ∷ [])))

  abbrev behind_it : Result State InputFault
  behind_it = fault_or (end_fault text_line text) (text_ends form (byte + length line + 1) number first (problem_of text) (section_of line))

  pub text-line : is_section line ≡ false → judged_text form byte number first text_byte text_line text line ≡ fault_or (fault_at text_byte text_line text line) (Ok (InText first text_byte text_line (text ++ line ∷ [])))
  text-line plain = ap (λ t. cond t behind_it inner) plain

  pub text-section : is_section line ≡ true → judged_text form byte number first text_byte text_line text line
      ≡ fault_or (end_fault text_line text) (text_ends form (byte + length line + 1) number first (problem_of text) (section_of line))
  text-section marked = ap (λ t. cond t behind_it inner) marked

-- another section
pub not-twice : (form : TableForm) (next number : ℕ) (first : Option NamedProblem) (problem : NamedProblem) → IsSome first → next_begins form next number first problem ≡ Err (BadSection number)
not-twice form next number None problem some = absurd (false≢true some)
not-twice Plain next number (Some given) problem some = refl
not-twice Faster next number (Some given) problem some = refl
not-twice Slower next number (Some given) problem some = refl

pub next-begun : (form : TableForm) (next number : ℕ) (first : Option NamedProblem) (problem : NamedProblem) → form ≡ Slower → (IsSome first → ⊥) → next_begins form next number first problem ≡ Ok (InText (Some problem) next (number + 1) [])
next-begun form next number None problem is none = ap (λ f. next_begins f next number None problem) is
next-begun form next number (Some given) problem is none = absurd (none refl)

-- the section line of a table
pub table-begins : (form : TableForm) (number : ℕ) (first : Option NamedProblem) (owner : NamedProblem) (radius count : ℕ) → are_all form first ≡ true → may_stand form radius ≡ true
    → Some count ≡ view_count owner.active.degree owner.passive.degree radius → table_begins form number first owner radius ≡ Ok (InTable first owner radius [])
table-begins form number first owner radius count all stands counted = λ i. cond (all i && stands i) (table_counted number first owner radius (sym counted i)) (Err (BadSection number))

pub fresh-begun : (form : TableForm) (read : TableRead) → are_all form read.first ≡ true → (IsSome read.first → form ≡ Slower) → may_stand form read.radius ≡ true
    → Some read.count ≡ view_count read.owner.active.degree read.owner.passive.degree read.radius → read.answers.items ≡ [] → IsBegun form read
fresh-begun form read all alone stands counted none =
    let given = few-listed (length (views_of (table_of read.owner read.radius read.answers.items))) read.count counted in record {
      all = all;
      alone = alone;
      stands = stands;
      count = sym given.0;
      few = (let few = given.1 in let same = given.0 in omega arith);
      ports = subst (AllByRecursion (λ labels. length labels ≡ read.owner.active.degree)) (sym none) tt;
    }

-- ---- answers
pub labels-taken : (number : ℕ) (first : Option NamedProblem) (owner : NamedProblem) (radius : ℕ) (answers : List (List ℕ)) (items : Option (List ItemText)) (labels : List ℕ)
    → option_and_then (image_labels owner.names owner.active.degree) items ≡ Some labels → has_room (table_of owner radius answers) ≡ true
    → takes_items number first owner radius answers items ≡ Ok (InTable first owner radius (answers ++ labels ∷ []))
labels-taken number first owner radius answers None labels e room = absurd (cc)
labels-taken number first owner radius answers (Some items) labels e room =
    ap (takes_labels number first owner radius answers) e ∙ ap (λ t. cond t (Ok (InTable first owner radius (answers ++ labels ∷ []))) (Err (BadEntry number))) room

pub labels-count : (names : List (List ℕ)) (degree : ℕ) (items : Option (List ItemText)) (labels : List ℕ) → option_and_then (image_labels names degree) items ≡ Some labels → length labels ≡ degree
labels-count names degree None labels e = absurd (cc)
labels-count names degree (Some items) labels e = go (labels_in names items) e
  where
    by : (t : Bool) (found : List ℕ) → (length found == degree) ≡ t → cond t (Some found) None ≡ Some labels → length labels ≡ degree
    by true found is e = let same : found ≡ labels = cc in subst (λ l. length l ≡ degree) same (eqb-true (length found) degree is)
    by false found is e = absurd (cc)

    go : (o : Option (List ℕ)) → option_and_then (of_length degree) o ≡ Some labels → length labels ≡ degree
    go None e = absurd (cc)
    go (Some found) e = by (length found == degree) found refl e

pub some-room : (table : AnswerTable) → length table.answers < length (views_of table) → has_room table ≡ true
some-room table below = grind (arith, nat_tests)

-- one answer more
pub more-begun : (form : TableForm) (read more : TableRead) (labels : List ℕ) → IsBegun form read → more.first ≡ read.first → more.owner ≡ read.owner → more.radius ≡ read.radius → more.count ≡ read.count
    → more.answers.items ≡ read.answers.items ++ labels ∷ [] → length labels ≡ read.owner.active.degree → IsBegun form more
more-begun form read more labels begun first owner radius count answers size = record {
  all = subst (λ f. are_all form f ≡ true) (sym first) begun.all;
  alone = λ some. begun.alone (subst IsSome first some);
  stands = subst (λ r. may_stand form r ≡ true) (sym radius) begun.stands;
  count = count ∙ begun.count ∙ (λ i. length (views_of (table_of (sym owner i) (sym radius i) more.answers.items)));
  few = subst (λ n. n ≤ MAX_VIEWS) (sym count) begun.few;
  ports = subst (λ (o : NamedProblem). AllByRecursion (λ labels. length labels ≡ o.active.degree) more.answers.items) (sym owner)
      (subst (AllByRecursion (λ labels. length labels ≡ read.owner.active.degree)) (sym answers) (all-push (λ labels. length labels ≡ read.owner.active.degree) read.answers.items labels begun.ports size));
}

-- where each view has its answer, it is a table
pub whole-table : (form : TableForm) (read : TableRead) → IsNamedProblem read.owner → IsBegun form read → length read.answers.items ≡ read.count → IsTable (table_of read.owner read.radius read.answers.items)
whole-table form read is begun all = record {
  active_least = is.problem.active.least;
  active_most = is.problem.active.most;
  passive_least = is.problem.passive.least;
  passive_most = is.problem.passive.most;
  few = (let count = begun.count in let few = begun.few in omega arith);
  count = all ∙ begun.count;
  ports = begun.ports;
}

-- ---- in the table
module _ (byte number : ℕ) (first : Option NamedProblem) (owner : NamedProblem) (radius : ℕ) (answers : List (List ℕ)) (line : List ℕ) (plain : is_section line ≡ false) where
  pub table-empty : is_empty_line line ≡ true → judged_table byte number first owner radius answers line ≡ Ok (InTable first owner radius answers)
  table-empty empty = λ i. cond (plain i) (Err (BadSection number)) (cond (empty i) (Ok (InTable first owner radius answers)) (fault_or (byte_fault byte (bad_byte line)) (takes_items number first owner radius answers (label_items line))))

  pub table-filled : (bad : Option ℕ) → is_empty_line line ≡ false → bad ≡ bad_byte line → judged_table byte number first owner radius answers line ≡ fault_or (byte_fault byte bad) (takes_items number first owner radius answers (label_items line))
  table-filled bad filled is = λ i. cond (plain i) (Err (BadSection number)) (cond (filled i) (Ok (InTable first owner radius answers)) (fault_or (byte_fault byte (sym is i)) (takes_items number first owner radius answers (label_items line))))

-- ---- by what is held
module _ (form : TableForm) (byte number : ℕ) (line : List ℕ) (next : ℕ) (result : Result Place TextFault) where
  pub in-text : (first : Option NamedProblem) (reader : TextReader)
      → ((b n : ℕ) (text : List (List ℕ)) → Reads reader b n text byte → Holds form (judged_text form byte number first b n text line) next result)
      → (s : State) → IsAt form (place.Text first reader) s byte → Holds form (judged form byte number s line) next result
  in-text first reader given Start at = absurd at
  in-text first reader given (InText problem b n text) at = subst (λ p. Holds form (judged_text form byte number p b n text line) next result) at.0 (given b n text at.2)
  in-text first reader given (InTable problem owner radius answers) at = absurd at

  pub in-table : (read : TableRead) → Holds form (judged_table byte number read.first read.owner read.radius read.answers.items line) next result
      → (s : State) → IsAt form (place.Table read) s byte → Holds form (judged form byte number s line) next result
  in-table read given Start at = absurd at
  in-table read given (InText first b n text) at = absurd at
  in-table read given (InTable first owner radius answers) at = subst (λ r. Holds form r next result) (λ i. judged_table byte number (at.0 i) (at.1 i) (at.2 i) (at.3 i) line) given

pub text-reads : (form : TableForm) (first : Option NamedProblem) (reader : TextReader) (byte : ℕ) → (s : State) × IsAt form (place.Text first reader) s byte → (b : ℕ) × (n : ℕ) × (text : List (List ℕ)) × Reads reader b n text byte
text-reads form first reader byte (Start, at) = absurd at
text-reads form first reader byte (InText problem b n text, at) = (b, n, text, at.2)
text-reads form first reader byte (InTable problem owner radius answers, at) = absurd at

pub text-alone : (form : TableForm) (first : Option NamedProblem) (reader : TextReader) (byte : ℕ) → (s : State) × IsAt form (place.Text first reader) s byte → IsSome first → form ≡ Slower
text-alone form first reader byte (Start, at) = absurd at
text-alone form first reader byte (InText problem b n text, at) = at.1
text-alone form first reader byte (InTable problem owner radius answers, at) = absurd at

pub table-begun : (form : TableForm) (read : TableRead) (byte : ℕ) → (s : State) × IsAt form (place.Table read) s byte → IsBegun form read
table-begun form read byte (Start, at) = absurd at
table-begun form read byte (InText problem b n text, at) = absurd at
table-begun form read byte (InTable problem owner radius answers, at) = at.4
