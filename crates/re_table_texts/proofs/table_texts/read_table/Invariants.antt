use Rattle.std.proofs.Common.{length}
use Rattle.re_table_texts.proofs.ReadTexts.{ReadSoFar}
use Rattle.re_table_texts.proofs.table_texts.read_table.Given as goal

-- what is held is the state behind the lines in front of the rest
abbrev pub invariant-lines : goal.invariant-lines
invariant-lines l = ReadSoFar l.form l.text l.place l.byte l.number l.rest

abbrev pub decreases-lines : goal.decreases-lines
decreases-lines l = length l.rest
