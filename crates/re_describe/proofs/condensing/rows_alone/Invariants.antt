use Rattle.re_describe.proofs.Covering.{SpellsFirst}
use Rattle.re_describe.specs.Spelling.{AreAlone}
use Rattle.re_describe.proofs.condensing.rows_alone.Given as goal

abbrev pub invariant-loop-place : goal.invariant-loop-place
invariant-loop-place l = SpellsFirst l.constraint l.place l.rows.items × AreAlone l.constraint l.rows.items
