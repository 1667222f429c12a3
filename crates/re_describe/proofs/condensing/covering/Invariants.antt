use Rattle.re_describe.proofs.Grouping.{TakenFirst}
use Rattle.re_describe.proofs.condensing.covering.Given as goal

abbrev pub invariant-loop-place : goal.invariant-loop-place
invariant-loop-place l = TakenFirst l.constraint l.place l.rows l.few.items
