use Rattle.std.proofs.Common.{◌≡◌, flat_map, take}
use Rattle.re_closure.proofs.families.all_sets.Given as goal

abbrev pub invariant-loop-line : goal.invariant-loop-line
invariant-loop-line l = l.sets.items ≡ flat_map (λ line. line) (take l.line-index l.lines)
