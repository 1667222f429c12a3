use Rattle.std.proofs.Common.{◌≡◌, take}
use Rattle.re_shaping.specs.Stepped.{own_entries}
use Rattle.re_shaping.proofs.stepping.own_entries.Given as goal

abbrev pub invariant-loop-place : goal.invariant-loop-place
invariant-loop-place l = l.entries.items ≡ own_entries 0 (take l.place l.sets)
