use Rattle.std.proofs.Common.{◌≡◌, None, take}
use Rattle.std.specs.Prelude.{slice_index_or}
use Rattle.re_shaping.specs.Dropping.{entries_left}
use Rattle.re_shaping.proofs.dropping.entries_left.Given as goal

abbrev pub invariant-loop-entry : goal.invariant-loop-entry
invariant-loop-entry l = l.left.items ≡ entries_left (λ label. slice_index_or l.images label None) (take l.entry-index l.entries)
