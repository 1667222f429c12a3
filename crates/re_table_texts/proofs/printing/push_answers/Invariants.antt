use Rattle.std.proofs.Common.{◌≡◌, ◌++◌, take}
use Rattle.re_table_texts.specs.PrintedTables.{answers_text}
use Rattle.re_table_texts.proofs.printing.push_answers.Given as goal

abbrev pub invariant-loop-labels : goal.invariant-loop-labels
invariant-loop-labels l = l.text.items ≡ l.fn.text.items ++ answers_text l.names (take l.labels-index l.answers)
