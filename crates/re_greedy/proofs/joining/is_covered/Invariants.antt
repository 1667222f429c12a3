use Rattle.std.proofs.Common.{ℕ, ◌<◌, [], get_or}
use Rattle.re_greedy.proofs.joining.is_covered.Given as goal
use Rattle.re_labels.specs.Sets.{IsWithin}

abbrev pub invariant-loop-other : goal.invariant-loop-other
invariant-loop-other l = (i : ℕ) → i < l.other-index → IsWithin (get_or l.sets i []) l.set → ⊥
