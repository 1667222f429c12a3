use Rattle.re_closure.proofs.RowLemmas.{IsOnce}
use Rattle.re_closure.proofs.rows.without_repeats.Given as goal

abbrev pub invariant-loop-place : goal.invariant-loop-place
invariant-loop-place l = IsOnce l.rows l.place l.once.items
