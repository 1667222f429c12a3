-- Colours of the active nodes of a forest, as input problems of proper colourings have them.
use Rattle.std.specs.Prelude.{◌≡◌, ℕ, ◌<◌, false, Contains}
use Rattle.re_layers.specs.Networks.{Network}

-- fewer than c colours, and different ones at different active nodes with a common neighbour
pub record AreApartAround (c : ℕ) (G : Network) (colour : ℕ → ℕ) : Type 0 where
  pub below : (v : ℕ) → colour v < c
  pub apart : (w u v : ℕ) → G.active w ≡ false → Contains (G.near w) u → Contains (G.near w) v → (u ≡ v → ⊥) → colour u ≡ colour v → ⊥
