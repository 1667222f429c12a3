use Rattle.std.proofs.Common.{◌≡◌, ℕ, ◌+◌, ◌<◌, ◌%◌, ◌^◌, length, get_or}
use Rattle.std.specs.List.{sum_by}
use Rattle.re_shaping.specs.Colours.{config_number, numbers_at, times_in}
use Rattle.re_shaping.proofs.colours.Colours.add_constraint.Given as goal

abbrev pub invariant-loop-config : goal.invariant-loop-config
invariant-loop-config l = (k : ℕ) → k < length l.sums
    → (get_or l.sums k 0 + sum_by (λ config. times_in config k (config_number l.self l.side config)) l.config-iterator) % 2 ^ 64 ≡ (get_or l.initial.sums k 0 + numbers_at l.self l.side l.constraint k) % 2 ^ 64
