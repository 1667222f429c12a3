-- Nodes whose surroundings are full.
use Rattle.std.specs.Prelude.{◌≡◌, ℕ, zero, suc, Bool, length, Contains}
use Rattle.re_layers.specs.Networks.{Network}

-- all nodes within r hops have as many neighbours as count says of their kind
abbrev pub IsFull : (Bool → ℕ) → Network → ℕ → ℕ → Type 0
IsFull count G zero v = length (G.near v) ≡ count (G.active v)
IsFull count G (suc r) v = (length (G.near v) ≡ count (G.active v)) × ((w : ℕ) → Contains (G.near v) w → IsFull count G r w)
