-- Numbers whose bits are mixed.
use Rattle.std.specs.Prelude.{ℕ, ◌*◌, ◌/◌, ◌%◌, ◌^◌, bit_xor}

-- the number and what is left of it behind its lowest bits, bit by bit whether they differ
abbrev folded : ℕ → ℕ → ℕ
folded bits number = bit_xor number (number / 2 ^ bits)

-- the product of two numbers, as far as it lies in 64 bits
abbrev times : ℕ → ℕ → ℕ
times a b = (a * b) % 2 ^ 64

-- the number with its bits mixed
unfoldable pub mixed : ℕ → ℕ
mixed number = folded 31 (times (folded 27 (times (folded 30 number) 0xBF58_476D_1CE4_E5B9)) 0x94D0_49BB_1331_11EB)
