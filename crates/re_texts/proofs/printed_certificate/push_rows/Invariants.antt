use Rattle.std.proofs.Common.{◌≡◌, ◌++◌, take}
use Rattle.std.specs.List.{AllByRecursion}
use Rattle.re_texts.specs.SetTexts.{rows_text}
use Rattle.re_texts.specs.PrintedCertificates.{IsAnyRow}
use Rattle.re_texts.proofs.printed_certificate.push_rows.Given as goal

abbrev pub invariant-loop-row : goal.invariant-loop-row
invariant-loop-row l = record {
  printed : l.text.items ≡ l.fn.text.items ++ rows_text l.names (take l.row-index l.rows);
  held : AllByRecursion IsAnyRow (take l.row-index l.rows);
}
