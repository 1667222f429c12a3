-- The commands that work on a table of an algorithm.
use Rattle.std.specs.Prelude.{ℕ, suc, ◌==◌, Bool, true, false, ◌&&◌, List, [], ◌∷◌, ◌++◌, codes, unwrap_or, if◌then◌else◌, Option, None, Some, Result, Ok, Err}
use Rattle.std.specs.Fmt.{decimal}
use Rattle.re_algo.specs.Constructions.{faster_table, slower_table}
use Rattle.re_algo.specs.Tables.{AnswerTable}
use Rattle.re_algo.specs.Verdicts.{table_verdict}
use Rattle.re_algo.specs.declared.solving.TableVerdict.{TableVerdict}
use Rattle.re_algo.specs.declared.solving.TableVerdict.TheVariants.{Active, Passive, Yes}
use Rattle.re_labels.specs.Lists.{same_list}
use Rattle.re_algo.specs.Counting.{view_count}
use Rattle.re_algo.specs.declared.counting.TheConstants.{MAX_VIEWS}
use Rattle.re_problem.specs.NamedProblems.{NamedProblem, unnamed}
use Rattle.re_problem.specs.declared.fault.InputFault.{InputFault}
use Rattle.re_step.specs.Derivations.{named_derived, step_limit}
use Rattle.re_labels.specs.Constraints.{Constraint}
use Rattle.re_table_texts.specs.PrintedTables.{table_text}
use Rattle.re_table_texts.specs.TableTexts.{TableText, table_input}
use Rattle.re_table_texts.specs.declared.table_texts.TableForm.{TableForm}
use Rattle.re_table_texts.specs.declared.table_texts.TableForm.TheVariants.{Faster, Plain, Slower}
use Rattle.re_frame.specs.Outcomes.{Outcome, done, limit_of, refused}
use Rattle.re_frame.specs.TextFaults.{fault_outcome}
use Rattle.re_limits.specs.StepLimits.{or_limit}

-- ---- whether two problems are the same, their names too
abbrev pub same_lists : List (List ℕ) → List (List ℕ) → Bool
same_lists [] [] = true
same_lists [] (y ∷ ys) = false
same_lists (x ∷ xs) [] = false
same_lists (x ∷ xs) (y ∷ ys) = same_list x y && same_lists xs ys

abbrev pub same_constraints : Constraint → Constraint → Bool
same_constraints constraint other = constraint.degree == other.degree && same_lists constraint.configs other.configs

abbrev pub same_problems : NamedProblem → NamedProblem → Bool
same_problems problem other = same_lists problem.names other.names && same_constraints problem.active other.active && same_constraints problem.passive other.passive

-- ---- answers
abbrev pub active_line : ℕ → List ℕ
active_line number = codes "no: active " ++ decimal number ++ codes "\n"

-- the refusal of a table that doesn't solve its problem, and else what follows
abbrev pub or_refusal : TableVerdict → Outcome → Outcome
or_refusal Yes outcome = outcome
or_refusal (Active number) outcome = refused (active_line number)
or_refusal Passive outcome = refused (codes "no: passive\n")

-- whether the table solves the problem
abbrev pub table_outcome : NamedProblem → AnswerTable → Outcome
table_outcome problem table = or_refusal (table_verdict (unnamed problem) table) (done (codes "yes\n"))

-- the table with one round less for the derived problem, or the limit that this passes
abbrev pub behind_step : NamedProblem → AnswerTable → Outcome
behind_step problem table = or_limit 1 (step_limit (unnamed problem)) (done (table_text (named_derived (unnamed problem)) (faster_table (unnamed problem) table)))

-- one round less
abbrev pub faster_outcome : NamedProblem → AnswerTable → Outcome
faster_outcome problem table = or_refusal (table_verdict (unnamed problem) table) (behind_step problem table)

abbrev pub if_counted : Option ℕ → Outcome → Outcome
if_counted None outcome = limit_of MAX_VIEWS (codes "views")
if_counted (Some count) outcome = outcome

-- the table with one round more for the problem, unless it has too many views
abbrev pub slower_outcome : NamedProblem → AnswerTable → Outcome
slower_outcome problem table = if_counted (view_count problem.active.degree problem.passive.degree (suc table.radius)) (done (table_text problem (slower_table (unnamed problem) table)))

-- the next problem must be the derived one, and the table solve it
abbrev pub behind_next : NamedProblem → NamedProblem → AnswerTable → Outcome
behind_next problem next table =
    if same_problems next (named_derived (unnamed problem)) then or_refusal (table_verdict (unnamed next) table) (slower_outcome problem table)
    else refused (codes "no: next\n")

-- what a text that was read comes to
abbrev pub tabled : TableForm → TableText → Outcome
tabled Plain text = table_outcome text.problem text.table
tabled Faster text = faster_outcome text.problem text.table
tabled Slower text = or_limit 1 (step_limit (unnamed text.problem)) (behind_next text.problem (unwrap_or text.next text.problem) text.table)

abbrev pub or_fault : TableForm → Result TableText InputFault → Outcome
or_fault form (Ok text) = tabled form text
or_fault form (Err fault) = fault_outcome fault

-- the outcome for an input of a table: that of what it writes, or of its first fault
unfoldable pub tabling_outcome : TableForm → List ℕ → Outcome
tabling_outcome form bytes = or_fault form (table_input form bytes)
