use Rattle.std.proofs.Common.{◌≡◌, ℕ, ◌+◌, ◌<◌, ◌%◌, ◌^◌, length, get_or, take}
use Rattle.re_shaping.specs.Colours.{times_in}
use Rattle.re_shaping.proofs.colours.add_config.Given as goal

abbrev pub invariant-loop-label : goal.invariant-loop-label
invariant-loop-label l = (k : ℕ) → k < length l.sums → get_or l.sums k 0 % 2 ^ 64 ≡ (get_or l.initial.sums k 0 + times_in (take l.label-index l.label-items) k l.number) % 2 ^ 64
