-- Colourings and layers of a forest: what algorithms on forests build on (rake and compress, Miller and Reif, 1985; its form after Chang and Pettie, 2019).
use Rattle.std.specs.Prelude.{◌≡◌, ℕ, suc, ◌+◌, ◌*◌, ◌≤◌, ◌<◌, nat_le, List, [], length, filter, Contains, slice_index, ◌⊎◌}
use Rattle.std.specs.List.{AllByRecursion}
use Rattle.re_layers.specs.Networks.{Network, ball}

-- fewer than C colours, and different ones at different nodes of at most d hops from each other
pub record IsColoured (d C : ℕ) (G : Network) (colour : ℕ → ℕ) : Type 0 where
  pub below : (v : ℕ) → colour v < C
  pub apart : (v w : ℕ) → Contains (ball G d v) w → (v ≡ w → ⊥) → colour v ≡ colour w → ⊥

-- the neighbours of v that aren't in a lower layer than v
abbrev pub upper : Network → (ℕ → ℕ) → ℕ → List ℕ
upper G layer v = filter (λ w. nat_le (layer v) (layer w)) (G.near v)

-- a path of 2 l + 1 nodes of one layer, with a node of a higher layer in front of it and one behind it; its nodes have no other neighbours than
-- those on the path but such of lower layers
pub record IsPath (G : Network) (l : ℕ) (layer : ℕ → ℕ) (path : ℕ → List ℕ) (own : List ℕ) (height : ℕ) : Type 0 where
  pub count : length own ≡ 2 * l + 3
  pub first : height < layer (slice_index own 0)
  pub last : height < layer (slice_index own (2 * l + 2))
  pub one : (i : ℕ) → i < 2 * l + 1 → layer (slice_index own (suc i)) ≡ height
  pub same : (i : ℕ) → i < 2 * l + 1 → path (slice_index own (suc i)) ≡ own
  pub before : (i : ℕ) → i < 2 * l + 1 → Contains (G.near (slice_index own (suc i))) (slice_index own i)
  pub behind : (i : ℕ) → i < 2 * l + 1 → Contains (G.near (slice_index own (suc i))) (slice_index own (suc (suc i)))
  pub apart : (i : ℕ) → i < 2 * l + 1 → slice_index own i ≡ slice_index own (suc (suc i)) → ⊥
  pub alone : (i w : ℕ) → i < 2 * l + 1 → Contains (upper G layer (slice_index own (suc i))) w →
      (w ≡ slice_index own i) ⊎ (w ≡ slice_index own (suc (suc i)))

-- each node is in a layer below M, and either has at most one neighbour that isn't lower, which is higher, or stands on its path
pub record IsLayered (G : Network) (l M : ℕ) (layer : ℕ → ℕ) (path : ℕ → List ℕ) : Type 0 where
  pub below : (v : ℕ) → layer v < M
  pub raked : (v : ℕ) → path v ≡ [] → (length (upper G layer v) ≤ 1) × AllByRecursion (λ w. layer w ≡ layer v → ⊥) (G.near v)
  pub paths : (v : ℕ) → (path v ≡ [] → ⊥) →
      IsPath G l layer path (path v) (layer v) × ((i : ℕ) × (i < 2 * l + 1) × (slice_index (path v) (suc i) ≡ v))
