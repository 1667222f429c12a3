use Rattle.std.proofs.Common.{Some, Contains}
use Rattle.re_step.specs.declared.completing.Completed.{Completed}
use Rattle.re_step.proofs.completing.Memo.new.Given as goal

abbrev pub invariant-loop-slot : goal.invariant-loop-slot
invariant-loop-slot l = (held : Completed) → Contains l.slots.items (Some held) → ⊥
