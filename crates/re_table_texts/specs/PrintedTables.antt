-- The text of a table, as it is printed, and what reading it gives.
use Rattle.std.specs.Prelude.{◌≡◌, ℕ, ◌<◌, true, List, ◌++◌, codes, flat_map, length, map, None, Ok}
use Rattle.std.specs.Fmt.{decimal}
use Rattle.std.specs.List.{AllByRecursion}
use Rattle.re_algo.specs.Tables.{AnswerTable, IsTable}
use Rattle.re_texts.specs.CanonicalLines.{IsWithinLimits}
use Rattle.re_texts.specs.SetTexts.{named_text}
use Rattle.re_problem.specs.CanonicalTexts.{canonical, spaced}
use Rattle.re_problem.specs.NamedProblems.{IsNamedProblem, NamedProblem}
use Rattle.re_table_texts.specs.TableTexts.{may_stand, table_input}
use Rattle.re_table_texts.specs.declared.table_texts.TableForm.{TableForm}
use Rattle.re_table_texts.specs.declared.table_texts.TableForm.TheVariants.{Slower}

-- an answer: its labels without powers, with one space between
abbrev pub answer_text : List (List ℕ) → List ℕ → List ℕ
answer_text names labels = spaced (map (named_text names) labels)

-- the answers, one a line
abbrev pub answers_text : List (List ℕ) → List (List ℕ) → List ℕ
answers_text names answers = flat_map (λ labels. answer_text names labels ++ codes "\n") answers

-- the text of a problem and a table for it
abbrev pub table_text : NamedProblem → AnswerTable → List ℕ
table_text problem table = codes "== problem\n" ++ canonical problem ++ codes "== table " ++ decimal table.radius ++ codes "\n" ++ answers_text problem.names table.answers

-- a table of labels of the problem, for its degrees
pub record IsTableFor (problem : NamedProblem) (table : AnswerTable) : Type 0 where
  pub active : table.degrees.active ≡ problem.active.degree
  pub passive : table.degrees.passive ≡ problem.passive.degree
  pub labels : AllByRecursion (AllByRecursion (λ label. label < length problem.names)) table.answers

-- the text of a problem and a table has no fault, and is read as these, in each form that has one problem and where the radius may stand
abbrev pub TableTextLaw : Type 0
TableTextLaw = (form : TableForm) (problem : NamedProblem) (table : AnswerTable) → IsNamedProblem problem → IsWithinLimits problem → IsTable table → IsTableFor problem table
    → (form ≡ Slower → ⊥) → may_stand form table.radius ≡ true
    → table_input form (table_text problem table) ≡ Ok (record { problem = problem; next = None; table = table })
