-- Towers of twos.
use Rattle.std.specs.Prelude.{ℕ, zero, suc, ◌^◌}

-- a tower of h twos: 1, 2, 4, 16, 65,536 and so on; the least h for which N is at most the tower is log* N
abbrev pub tower : ℕ → ℕ
tower zero = 1
tower (suc h) = 2 ^ tower h
