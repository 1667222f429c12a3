-- Views of nodes with identifiers as named trees: an active node has its identifier as its name, and a passive one the number of one of its edges,
-- that at its port 1 where this is seen.
use Rattle.std.proofs.Common.{◌≡◌, ℕ, zero, suc, pred, ◌+◌, ◌*◌, ◌/◌, ◌%◌, ◌≤◌, ◌<◌, ◌∷◌, length, refl, ap, arith, ◌⊎◌, inl, inr}
use Rattle.std.proofs.Math.Nat.{mul-le-mul_left}
use Rattle.re_forests.proofs.Counting.{is_at, is_at-other}
use Rattle.re_forests.proofs.Edges.{is_at-edge, is_at-plus, skip, skip-most, stands, stands-most, stands-skip}
use Rattle.re_forests.proofs.NamedTrees.{occurs}
use Rattle.re_given.specs.InputViews.{payloads}
use Rattle.re_laws.specs.Trees.{Tree, end, leaf, more}

-- the first one at port 1
abbrev pub choice : ℕ → ℕ → ℕ → ℕ
choice zero own first = own
choice (suc k) own first = first

-- the edge to the first of these children of a passive node
abbrev pub first_edge : ℕ → ℕ → Tree ℕ → ℕ
first_edge a none leaf = none
first_edge a none end = none
first_edge a none (more back label branch rest) = label * a + pred back

-- the edge at port 1 of a passive node that is seen by its edge own, to which it gives the port back
abbrev pub edge_of : ℕ → ℕ → ℕ → Tree ℕ → ℕ
edge_of a own back branch = choice (pred back) own (first_edge a own branch)

-- the children of an active node x, which stand at these ports of it, and those of a passive node
abbrev mutual
  pub named_active : ℕ → ℕ → ℕ → (ℕ → ℕ) → Tree ℕ → Tree ℕ
  named_active a N x port leaf = end
  named_active a N x port end = end
  named_active a N x port (more back label branch rest) =
      more back (N + edge_of a (x * a + port zero) back branch) (named_passive a N branch) (named_active a N x (λ k. port (suc k)) rest)

  pub named_passive : ℕ → ℕ → Tree ℕ → Tree ℕ
  named_passive a N leaf = end
  named_passive a N end = end
  named_passive a N (more back label branch rest) =
      more back label (named_active a N label (skip (pred back)) branch) (named_passive a N rest)

-- how often an identifier is shown by children of an active node, and of a passive one
abbrev mutual
  pub shown_active : ℕ → Tree ℕ → ℕ
  shown_active y leaf = 0
  shown_active y end = 0
  shown_active y (more back label branch rest) = shown_passive y branch + shown_active y rest

  pub shown_passive : ℕ → Tree ℕ → ℕ
  shown_passive y leaf = 0
  shown_passive y end = 0
  shown_passive y (more back label branch rest) = is_at y label + shown_active y branch + shown_passive y rest

-- identifiers below N, ports below a, and no node with too many neighbours
abbrev mutual
  pub FineActive : ℕ → ℕ → ℕ → Tree ℕ → Type 0
  FineActive a p N leaf = Unit {0}
  FineActive a p N end = Unit {0}
  FineActive a p N (more back label branch rest) = (suc (length (payloads branch)) ≤ p) × FinePassive a p N branch × FineActive a p N rest

  pub FinePassive : ℕ → ℕ → ℕ → Tree ℕ → Type 0
  FinePassive a p N leaf = Unit {0}
  FinePassive a p N end = Unit {0}
  FinePassive a p N (more back label branch rest) =
      (label < N) × (pred back < a) × (suc (length (payloads branch)) ≤ a) × FineActive a p N branch × FinePassive a p N rest

pub length-named_active : (a N x : ℕ) (port : ℕ → ℕ) (t : Tree ℕ) → length (payloads (named_active a N x port t)) ≡ length (payloads t)
length-named_active a N x port leaf = refl
length-named_active a N x port end = refl
length-named_active a N x port (more back label branch rest) = ap suc (length-named_active a N x (λ k. port (suc k)) rest)

pub payloads-named_passive : (a N : ℕ) (t : Tree ℕ) → payloads (named_passive a N t) ≡ payloads t
payloads-named_passive a N leaf = refl
payloads-named_passive a N end = refl
payloads-named_passive a N (more back label branch rest) = ap (λ xs. label ∷ xs) (payloads-named_passive a N rest)

-- ---- the names of active nodes
mutual
  low_active : (a N n : ℕ) → n < N → (x : ℕ) (port : ℕ → ℕ) (t : Tree ℕ) → occurs n (named_active a N x port t) ≤ shown_active n t
  low_active a N n l x port leaf = omega arith
  low_active a N n l x port end = omega arith
  low_active a N n l x port (more back label branch rest) =
      let none = is_at-other n (N + edge_of a (x * a + port zero) back branch) (λ e. omega arith) in
      let here = low_passive a N n l branch in
      let there = low_active a N n l x (λ k. port (suc k)) rest in
      omega arith

  low_passive : (a N n : ℕ) → n < N → (t : Tree ℕ) → occurs n (named_passive a N t) ≤ shown_passive n t
  low_passive a N n l leaf = omega arith
  low_passive a N n l end = omega arith
  low_passive a N n l (more back label branch rest) =
      let here = low_active a N n l label (skip (pred back)) branch in
      let there = low_passive a N n l rest in
      omega arith

-- ---- the names of passive nodes
-- how often an edge goes to a child of a passive node
abbrev pub edges : ℕ → ℕ → Tree ℕ → ℕ
edges a c leaf = 0
edges a c end = 0
edges a c (more back label branch rest) = is_at c (label * a + pred back) + edges a c rest

first_edge-most : (a c none : ℕ) (t : Tree ℕ) → is_at c (first_edge a none t) ≤ is_at c none + edges a c t
first_edge-most a c none leaf = omega arith
first_edge-most a c none end = omega arith
first_edge-most a c none (more back label branch rest) = omega arith

edge_of-most : (a c own back : ℕ) (t : Tree ℕ) → is_at c (edge_of a own back t) ≤ is_at c own + edges a c t
edge_of-most a c own back t = by (pred back)
  where
    by : (k : ℕ) → is_at c (choice k own (first_edge a own t)) ≤ is_at c own + edges a c t
    by zero = omega arith
    by (suc k) = first_edge-most a c own t

mutual
  high_active : (a p N y q : ℕ) → q < a → (x : ℕ) (port : ℕ → ℕ) (t : Tree ℕ) → FineActive a p N t → ((k : ℕ) → k < length (payloads t) → port k < a)
      → occurs (N + (y * a + q)) (named_active a N x port t) ≤ is_at y x * stands q port t + shown_active y t
  high_active a p N y q l x port leaf fine low = omega arith
  high_active a p N y q l x port end fine low = omega arith
  high_active a p N y q l x port (more back label branch rest) fine low =
      let plus = is_at-plus N (y * a + q) (edge_of a (x * a + port zero) back branch) in
      let one = edge_of-most a (y * a + q) (x * a + port zero) back branch in
      let edge = is_at-edge a x y (port zero) q (low zero (omega arith)) l in
      let here = high_passive a p N y q l branch fine.1 in
      let there = high_active a p N y q l x (λ k. port (suc k)) rest fine.2 (λ k less. low (suc k) (omega arith)) in
      omega arith

  high_passive : (a p N y q : ℕ) → q < a → (t : Tree ℕ) → FinePassive a p N t → edges a (y * a + q) t + occurs (N + (y * a + q)) (named_passive a N t) ≤ shown_passive y t
  high_passive a p N y q l leaf fine = omega arith
  high_passive a p N y q l end fine = omega arith
  high_passive a p N y q l (more back label branch rest) fine =
      let none = is_at-other (N + (y * a + q)) label (λ e. let less = fine.0 in omega arith) in
      let edge = is_at-edge a label y (pred back) q fine.1 l in
      let here = high_active a p N y q l label (skip (pred back)) branch fine.3 (λ k less. let most = skip-most (pred back) k in let few = fine.2 in omega arith) in
      let there = high_passive a p N y q l rest fine.4 in
      let few : is_at y label * (is_at q (pred back) + stands q (skip (pred back)) branch) ≤ is_at y label * 1 = mul-le-mul_left (is_at y label) (stands-skip q (pred back) branch) in
      omega arith

number : (a N n : ℕ) → 0 < a → (n < N) ⊎ ((y : ℕ) × (q : ℕ) × (q < a) × (n ≡ N + (y * a + q)))
number a N n some = by N n
  where
    by : (N n : ℕ) → (n < N) ⊎ ((y : ℕ) × (q : ℕ) × (q < a) × (n ≡ N + (y * a + q)))
    by zero n = inr (n / a, n % a, omega arith, omega arith)
    by (suc N) zero = inl (omega arith)
    by (suc N) (suc n) = elim (by N n) [ inl l ↦ inl (omega arith) | inr (y, q, l, e) ↦ inr (y, q, l, omega arith) ]

-- ---- all names are different where the identifiers are
pub apart_active : (a p N x : ℕ) (t : Tree ℕ) → 0 < a → x < N → FineActive a p N t → length (payloads t) ≤ a → ((y : ℕ) → is_at y x + shown_active y t ≤ 1)
    → (n : ℕ) → is_at n x + occurs n (named_active a N x (λ k. k) t) ≤ 1
apart_active a p N x t some low fine few apart n = elim (number a N n some) [
  | inl l ↦ (let most = low_active a N n l x (λ k. k) t in let one = apart n in omega arith)
  | inr (y, q, l, e) ↦
      let none = is_at-other n x (λ f. omega arith) in
      let most = high_active a p N y q l x (λ k. k) t fine (λ k less. omega arith) in
      let once : is_at y x * stands q (λ k. k) t ≤ is_at y x * 1 = mul-le-mul_left (is_at y x) (stands-most q (λ k. k) t (λ i j f. f)) in
      let one = apart y in
      let same : occurs n (named_active a N x (λ k. k) t) ≡ occurs (N + (y * a + q)) (named_active a N x (λ k. k) t) = ap (λ m. occurs m (named_active a N x (λ k. k) t)) e in
      omega arith
]

pub apart_passive : (a p N back label : ℕ) (branch rest : Tree ℕ) → 0 < a → FinePassive a p N (more back label branch rest) → ((y : ℕ) → shown_passive y (more back label branch rest) ≤ 1)
    → (n : ℕ) → is_at n (N + (label * a + pred back)) + occurs n (named_passive a N (more back label branch rest)) ≤ 1
apart_passive a p N back label branch rest some fine apart n = elim (number a N n some) [
  | inl l ↦
      let none = is_at-other n (N + (label * a + pred back)) (λ e. omega arith) in
      let most = low_passive a N n l (more back label branch rest) in
      let one = apart n in
      omega arith
  | inr (y, q, l, e) ↦
      let most = high_passive a p N y q l (more back label branch rest) fine in
      let one = apart y in
      let plus = is_at-plus N (y * a + q) (label * a + pred back) in
      let root : is_at n (N + (label * a + pred back)) ≡ is_at (N + (y * a + q)) (N + (label * a + pred back)) = ap (λ m. is_at m (N + (label * a + pred back))) e in
      let same : occurs n (named_passive a N (more back label branch rest)) ≡ occurs (N + (y * a + q)) (named_passive a N (more back label branch rest)) =
      ap (λ m. occurs m (named_passive a N (more back label branch rest))) e in
      omega arith
]
