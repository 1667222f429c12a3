use Rattle.std.proofs.Common.{◌≡◌, take}
use Rattle.re_check.specs.RowEntries.{row_entries}
use Rattle.re_walks.proofs.entries.entries_for.Given as goal

abbrev pub invariant-loop-place : goal.invariant-loop-place
invariant-loop-place l = l.entries.items ≡ row_entries l.sets (take l.place l.labels)
