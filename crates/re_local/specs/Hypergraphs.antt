-- Hypergraphs, whose edges have r places each, without short closed walks.
use Rattle.std.specs.Prelude.{◌≡◌, ℕ, zero, suc, ◌+◌, ◌*◌, ◌^◌, ◌≤◌, ◌<◌}

-- edges are numbers from 0 on, and at edge place is the point at a place of an edge, where places count from 0
pub record Hyper (V : Type 0) : Type 0 where
  pub edges : ℕ
  pub at : ℕ → ℕ → V

-- the points are numbers below n, and those at the r places of an edge are different
pub record IsHyper (r n : ℕ) (hyper : Hyper ℕ) : Type 0 where
  pub below : (edge place : ℕ) → edge < hyper.edges → place < r → hyper.at edge place < n
  pub apart : (edge p q : ℕ) → edge < hyper.edges → p < r → q < r → hyper.at edge p ≡ hyper.at edge q → p ≡ q

-- the point stands at one of the r places of the edge
abbrev pub On : {V : Type 0} → ℕ → Hyper V → ℕ → V → Type 0
On r hyper edge x = (edge < hyper.edges) × (place : ℕ) × (place < r) × (hyper.at edge place ≡ x)

-- a walk of k steps from x to y, whose first edge and last edge these are: each step goes along an edge from one of its points to another,
-- and edges that come one after another are different
pub data Walk {V : Type 0} (r : ℕ) (hyper : Hyper V) : ℕ → ℕ → ℕ → V → V → Type 0 where
  one : {edge : ℕ} {x y : V} → On r hyper edge x → On r hyper edge y → (x ≡ y → ⊥) → Walk r hyper (suc zero) edge edge x y
  step : {k edge next last : ℕ} {x y z : V} → On r hyper edge x → On r hyper edge y → (x ≡ y → ⊥) → (edge ≡ next → ⊥) →
      Walk r hyper k next last y z → Walk r hyper (suc k) edge last x z

-- each walk that comes back to where it began has more than g steps
abbrev pub IsSparse : {V : Type 0} → ℕ → ℕ → Hyper V → Type 0
IsSparse {V} r g hyper = (k first last : ℕ) (x : V) → Walk r hyper k first last x x → g < k

-- however the n points are coloured with m colours, some edge has all its points of one colour
abbrev pub IsUncolourable : ℕ → ℕ → ℕ → Hyper ℕ → Type 0
IsUncolourable r n m hyper =
    (colour : ℕ → ℕ) → ((x : ℕ) → x < n → colour x < m) →
    (edge : ℕ) × (shade : ℕ) × (edge < hyper.edges) × ((place : ℕ) → place < r → colour (hyper.at edge place) ≡ shade)

-- the base of the power of points that are enough
abbrev pub hypergraph_base : ℕ → ℕ → ℕ
hypergraph_base r m = (3 * (r + 1) * (m + 1)) ^ (r + 3)

-- for all r, m and g there is a hypergraph of r places an edge, without closed walks of up to g steps, that m colours don't colour properly; its
-- points are no more than the power g + 1 of a number that r and m alone tell
abbrev pub SparseLaw : Type 0
SparseLaw = (r m g : ℕ) → (n : ℕ) × (hyper : Hyper ℕ) × (n ≤ hypergraph_base r m ^ (g + 1)) × IsHyper r n hyper × IsSparse r g hyper × IsUncolourable r n m hyper
