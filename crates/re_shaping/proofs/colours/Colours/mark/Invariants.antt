use Rattle.std.proofs.Common.{◌≡◌, ◌%◌, ◌^◌, take}
use Rattle.std.specs.List.{sum_by}
use Rattle.re_shaping.specs.Mixing.{mixed}
use Rattle.re_shaping.proofs.colours.Colours.mark.Given as goal

abbrev pub invariant-loop-colour : goal.invariant-loop-colour
invariant-loop-colour l = l.mark ≡ sum_by mixed (take l.colour-index l.colour-items) % 2 ^ 64
