-- Finite forests of active and passive nodes, which have the numbers below N as identifiers.
use Rattle.std.specs.Prelude.{◌≡◌, ℕ, zero, suc, ◌≤◌, ◌<◌, Bool, not, ◌==◌, List, [], ◌∷◌, length, filter, flat_map, Contains, if◌then◌else◌}
use Rattle.std.specs.List.{AllByRecursion}

-- which nodes are active, and the neighbours of each in the order of its ports
pub record Network : Type 0 where
  pub active : ℕ → Bool
  pub near : ℕ → List ℕ

-- the neighbours of v but u
abbrev pub others : Network → ℕ → ℕ → List ℕ
others G u v = filter (λ w. not (w == u)) (G.near v)

-- where the walks of at most k hops end that begin at v, don't go to u first, and never turn back
abbrev pub branch : Network → ℕ → ℕ → ℕ → List ℕ
branch G zero u v = v ∷ []
branch G (suc k) u v = v ∷ flat_map (λ w. branch G k v w) (others G u v)

-- where the walks of at most k hops end that begin at v and never turn back
abbrev pub ball : Network → ℕ → ℕ → List ℕ
ball G zero v = v ∷ []
ball G (suc k) v = v ∷ flat_map (λ w. branch G k v w) (G.near v)

-- nothing stands twice
abbrev pub AreDifferent : List ℕ → Type 0
AreDifferent [] = Unit {0}
AreDifferent (x ∷ xs) = (Contains xs x → ⊥) × AreDifferent xs

-- a forest: active nodes have at most a neighbours, which are passive, and passive ones at most p, which are active; all that have neighbours are
-- below N, and no walk that never turns back comes to a node twice
pub record IsForest (a p N : ℕ) (G : Network) : Type 0 where
  pub degrees : (v : ℕ) → length (G.near v) ≤ (if G.active v then a else p)
  pub below : (v w : ℕ) → Contains (G.near v) w → (v < N) × (w < N)
  pub turns : (v w : ℕ) → Contains (G.near v) w → G.active w ≡ not (G.active v)
  pub both : (v w : ℕ) → Contains (G.near v) w → Contains (G.near w) v
  pub acyclic : (v k : ℕ) → AreDifferent (ball G k v)

-- T hops from v show the same in both networks: the nodes within T hops, and the ports of those within fewer
abbrev pub AreSame : ℕ → Network → Network → ℕ → Type 0
AreSame zero G H v = G.active v ≡ H.active v
AreSame (suc T) G H v = (G.active v ≡ H.active v) × (G.near v ≡ H.near v) × AllByRecursion (λ w. AreSame T G H w) (G.near v)

-- what T hops show decides it
abbrev pub IsLocal : {X : Type 0} → ℕ → (Network → ℕ → X) → Type 0
IsLocal T f = (G H : Network) (v : ℕ) → AreSame T G H v → f G v ≡ f H v
