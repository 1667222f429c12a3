use Rattle.std.proofs.Common.{◌≡◌, ◌+◌, ◌%◌, ◌^◌, take}
use Rattle.re_shaping.specs.Colours.{times_in}
use Rattle.re_shaping.proofs.marks.moved_mark.Given as goal

abbrev pub invariant-loop-other : goal.invariant-loop-other
invariant-loop-other l = l.moved ≡ (l.mark + times_in (take l.other-index l.other-items) l.label l.change) % 2 ^ 64
