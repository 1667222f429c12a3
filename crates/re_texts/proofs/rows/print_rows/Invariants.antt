use Rattle.std.proofs.Common.{◌≡◌, take}
use Rattle.re_texts.specs.SetTexts.{rows_text}
use Rattle.re_texts.proofs.rows.print_rows.Given as goal

abbrev pub invariant-loop-row : goal.invariant-loop-row
invariant-loop-row l = l.text.items ≡ rows_text l.names (take l.row-index l.rows)
