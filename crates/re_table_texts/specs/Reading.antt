-- What a reader of tables holds of the lines that it was fed, and what its calls give.
use Rattle.std.specs.Prelude.{◌≡◌, ℕ, ◌≤◌, true, length, IsSome, unwrap_or, Result, Ok, Err}
use Rattle.std.specs.List.{AllByRecursion}
use Rattle.re_algo.specs.Tables.{views_of}
use Rattle.re_algo.specs.declared.counting.TheConstants.{MAX_VIEWS}
use Rattle.re_problem.specs.NamedProblems.{NamedProblem}
use Rattle.re_problem.specs.TextReading.{IsRefused, Reads}
use Rattle.re_problem.specs.declared.fault.InputFault.{InputFault}
use Rattle.re_problem.specs.declared.fault.TextFault.{TextFault}
use Rattle.re_table_texts.specs.TableTexts.{State, TableText, are_all, may_stand, table_of}
use Rattle.re_table_texts.specs.TableTexts.State.{Start, InText, InTable}
use Rattle.re_table_texts.specs.declared.reading.Place.{Place}
use Rattle.re_table_texts.specs.declared.reading.Place.TheVariants as place
use Rattle.re_table_texts.specs.declared.reading.TableRead.{TableRead}
use Rattle.re_table_texts.specs.declared.table_texts.TableForm.{TableForm}
use Rattle.re_table_texts.specs.declared.table_texts.TableForm.TheVariants.{Slower}
use Rattle.re_table_texts.specs.declared.table_texts.TableInput.{TableInput}

-- a table that is begun, of a form: the problems that belong to it have come, its radius may stand, it has no more views than are
-- listed, and each answer has a label for each port
pub record IsBegun (form : TableForm) (read : TableRead) : Type 0 where
  pub all : are_all form read.first ≡ true
  pub alone : IsSome read.first → form ≡ Slower
  pub stands : may_stand form read.radius ≡ true
  pub count : read.count ≡ length (views_of (table_of read.owner read.radius read.answers.items))
  pub few : read.count ≤ MAX_VIEWS
  pub ports : AllByRecursion (λ labels. length labels ≡ read.owner.active.degree) read.answers.items

-- what is held is this state, at this byte
abbrev pub IsAt : TableForm → Place → State → ℕ → Type 0
IsAt form place.Start Start byte = Unit {0}
IsAt form (place.Text first reader) (InText problem text_byte text_line text) byte = (first ≡ problem) × (IsSome first → form ≡ Slower) × Reads reader text_byte text_line text byte
IsAt form (place.Table read) (InTable first owner radius answers) byte =
    (read.first ≡ first) × (read.owner ≡ owner) × (read.radius ≡ radius) × (read.answers.items ≡ answers) × IsBegun form read
IsAt form p s byte = ⊥

-- ---- what the calls give
-- what a line brought is held, at this byte
abbrev pub Holds : TableForm → Result State InputFault → ℕ → Result Place TextFault → Type 0
Holds form result byte (Ok p) = (s : State) × (result ≡ Ok s) × IsAt form p s byte
Holds form result byte (Err fault) = IsRefused result fault

-- the same in the table, which is held then
abbrev pub HoldsTable : TableForm → Result State InputFault → Result (Unit {0}) TextFault → TableRead → Type 0
HoldsTable form result (Ok u) read = (result ≡ Ok (InTable read.first read.owner read.radius read.answers.items)) × IsBegun form read
HoldsTable form result (Err fault) read = IsRefused result fault

abbrev pub text_in : TableInput → TableText
text_in input = record { problem = input.problem; next = input.next; table = input.table }

-- the problem that the table is for
abbrev pub owner_in : TableInput → NamedProblem
owner_in input = unwrap_or input.next input.problem

-- the problems and the table that were written, exactly where there was no fault, and else the first fault
abbrev pub Gives : Result TableText InputFault → Result TableInput TextFault → Type 0
Gives result (Ok input) = result ≡ Ok (text_in input)
Gives result (Err fault) = IsRefused result fault
