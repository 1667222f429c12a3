-- Local algorithms on finite forests, with unique identifiers.
use Rattle.std.specs.Prelude.{◌≡◌, ℕ, ◌==◌, true, false, List, length, map, slice_index}
use Rattle.std.specs.List.{position_or_len}
use Rattle.re_layers.specs.Networks.{IsForest, IsLocal, Network}
use Rattle.re_problem.specs.Problems.{Problem}
use Rattle.re_labels.specs.Constraints.{Has}

-- the label that v puts on its edge to w
abbrev pub label_towards : Network → (ℕ → List ℕ) → ℕ → ℕ → ℕ
label_towards G labels w v = slice_index (labels v) (position_or_len (λ x. x == w) (G.near v))

-- around each node with as many neighbours as its side has ports stands what the problem allows; nodes with fewer may have any labels
pub record SolvesOn (problem : Problem) (G : Network) (labels : ℕ → List ℕ) : Type 0 where
  pub active : (v : ℕ) → G.active v ≡ true → length (G.near v) ≡ problem.active.degree → Has problem.active (labels v)
  pub passive : (w : ℕ) → G.active w ≡ false → length (G.near w) ≡ problem.passive.degree →
      Has problem.passive (map (λ v. label_towards G labels w v) (G.near w))

-- some local algorithm of T rounds solves the problem on all forests with N identifiers
abbrev pub SolvableOnForests : Problem → ℕ → ℕ → Type 0
SolvableOnForests problem N T = (algorithm : Network → ℕ → List ℕ) × IsLocal T algorithm
    × ((G : Network) → IsForest problem.active.degree problem.passive.degree N G → SolvesOn problem G (algorithm G))
