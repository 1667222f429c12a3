use Rattle.std.proofs.Common.{take}
use Rattle.re_given_words.proofs.Serving.{AreFitting}
use Rattle.re_given_words.proofs.searching.left_of.Given as goal

abbrev pub invariant-loop-row : goal.invariant-loop-row
invariant-loop-row l = AreFitting l.active l.standing l.before.ports (take l.row-index l.row-items) l.rows.items
