-- Networks, also without end, that are forests: each edge leads up from one of its ends.
use Rattle.std.proofs.Common.{◌≡◌, ℕ, ◌≤◌, ◌<◌, length, ◌⊎◌}
use Rattle.std.specs.Prelude.{Contains, not, if◌then◌else◌}
use Rattle.re_layers.proofs.Different.{near_different}
use Rattle.re_layers.proofs.Rooting.{forest_rooting}
use Rattle.re_layers.specs.Networks.{AreDifferent, IsForest, Network}

pub record IsTree (a p : ℕ) (G : Network) : Type 0 where
  pub degrees : (v : ℕ) → length (G.near v) ≤ (if G.active v then a else p)
  pub turns : (v w : ℕ) → Contains (G.near v) w → G.active w ≡ not (G.active v)
  pub both : (v w : ℕ) → Contains (G.near v) w → Contains (G.near w) v
  pub differ : (v : ℕ) → AreDifferent (G.near v)
  pub rank : ℕ → ℕ
  pub up : ℕ → ℕ
  pub lower : (v : ℕ) → rank (up v) ≤ rank v
  pub edge : (v w : ℕ) → Contains (G.near v) w → ((w ≡ up v) × (rank w < rank v)) ⊎ ((v ≡ up w) × (rank v < rank w))

pub tree_of_forest : {a p N : ℕ} {G : Network} → IsForest a p N G → IsTree a p G
tree_of_forest is = let (most, rank, up, rooting) = forest_rooting is in record {
  degrees = is.degrees;
  turns = is.turns;
  both = is.both;
  differ = λ v. near_different is v;
  rank = rank;
  up = up;
  lower = rooting.lower;
  edge = rooting.edge;
}
