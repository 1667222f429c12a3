use Rattle.std.proofs.Common.{◌≡◌, ◌+◌, ◌%◌, ◌^◌, take}
use Rattle.std.specs.List.{sum_by}
use Rattle.re_shaping.specs.Mixing.{mixed}
use Rattle.re_shaping.specs.Colours.{colour_at}
use Rattle.re_shaping.proofs.colours.Colours.of_config.Given as goal

abbrev pub invariant-loop-label : goal.invariant-loop-label
invariant-loop-label l = l.sum ≡ (l.side + sum_by (λ label. mixed (colour_at l.self label)) (take l.label-index l.label-items)) % 2 ^ 64
