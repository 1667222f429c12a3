use Rattle.std.proofs.Common.{take}
use Rattle.re_given_words.proofs.RowsOrdered.{AreAll}
use Rattle.re_given_words.proofs.two.all_open.Given as goal

abbrev pub invariant-loop-ports : goal.invariant-loop-ports
invariant-loop-ports l = AreAll l.rows (take l.ports-index l.ports-items) l.opens.items
