use Rattle.std.proofs.Common.{take}
use Rattle.re_clauses.specs.Clauses.{Satisfies}
use Rattle.re_clauses.specs.Implied.{values_of}
use Rattle.re_clauses.proofs.marks.satisfy_all.Given as goal

abbrev pub invariant-loop-place : goal.invariant-loop-place
invariant-loop-place l = Satisfies (values_of l.marks) (take l.place l.clauses)
