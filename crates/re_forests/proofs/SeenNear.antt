-- The view of a neighbour of a passive node, put together from the node's own: what it shows, and that its network is the same within T hops.
use Rattle.std.proofs.Common.{◌≡◌, ℕ, zero, suc, pred, ◌+◌, ◌≤◌, ◌<◌, Some, length, refl, sym, ◌∙◌, ap, subst, arith}
use Rattle.std.specs.Prelude.{unwrap_or}
use Rattle.re_forests.proofs.Counting.{is_at}
use Rattle.re_forests.proofs.Edges.{skip}
use Rattle.re_forests.proofs.Moving.{Rooted, Rooted-moved}
use Rattle.re_forests.proofs.NamedCuts.{Reaches-active, Rooted-cut, child_at-named, named_child, same_cut, payloads-cut}
use Rattle.re_forests.proofs.NamedTrees.{IsNode, insert, length-others, moved, occurs, payloads-put}
use Rattle.re_forests.proofs.NamedViews.{FineActive, FinePassive, first_edge, named_active, named_passive, shown_active, shown_passive}
use Rattle.re_forests.proofs.ShownAlike.{AreSame-shown}
use Rattle.re_forests.proofs.TreeNetworks.{Rooted-network, network_of}
use Rattle.re_layers.specs.Networks.{AreSame, Network}
use Rattle.re_given.specs.InputViews.{payloads}
use Rattle.re_laws.proofs.ViewLaws.{HasRoom}
use Rattle.re_laws.specs.Trees.{Child, Tree, child_at, cut, end, leaf, more, others, put}

-- ---- what is cut shows less
mutual
  pub shown_active-cut : (y t : ℕ) (x : Tree ℕ) → shown_active y (cut t x) ≤ shown_active y x
  shown_active-cut y zero x = omega arith
  shown_active-cut y (suc t) leaf = omega arith
  shown_active-cut y (suc t) end = omega arith
  shown_active-cut y (suc t) (more back label branch rest) =
      let here = shown_passive-cut y t branch in let there = shown_active-cut y (suc t) rest in omega arith

  pub shown_passive-cut : (y t : ℕ) (x : Tree ℕ) → shown_passive y (cut t x) ≤ shown_passive y x
  shown_passive-cut y zero x = omega arith
  shown_passive-cut y (suc t) leaf = omega arith
  shown_passive-cut y (suc t) end = omega arith
  shown_passive-cut y (suc t) (more back label branch rest) =
      let here = shown_active-cut y t branch in let there = shown_passive-cut y (suc t) rest in omega arith

length-cut : (t : ℕ) (x : Tree ℕ) → length (payloads (cut t x)) ≤ length (payloads x)
length-cut zero x = omega arith
length-cut (suc t) x = subst (λ xs. length xs ≤ length (payloads x)) (sym (payloads-cut t x)) (omega arith)

mutual
  pub FineActive-cut : (a p N t : ℕ) (x : Tree ℕ) → FineActive a p N x → FineActive a p N (cut t x)
  FineActive-cut a p N zero x fine = tt
  FineActive-cut a p N (suc t) leaf fine = tt
  FineActive-cut a p N (suc t) end fine = tt
  FineActive-cut a p N (suc t) (more back label branch rest) fine =
      (let less = length-cut t branch in let few = fine.0 in omega arith, FinePassive-cut a p N t branch fine.1, FineActive-cut a p N (suc t) rest fine.2)

  pub FinePassive-cut : (a p N t : ℕ) (x : Tree ℕ) → FinePassive a p N x → FinePassive a p N (cut t x)
  FinePassive-cut a p N zero x fine = tt
  FinePassive-cut a p N (suc t) leaf fine = tt
  FinePassive-cut a p N (suc t) end fine = tt
  FinePassive-cut a p N (suc t) (more back label branch rest) fine =
      (fine.0, fine.1, (let less = length-cut t branch in let few = fine.2 in omega arith), FineActive-cut a p N t branch fine.3, FinePassive-cut a p N (suc t) rest fine.4)

-- ---- a child more or less
shown_active-put : (y k : ℕ) (c : Child ℕ) (t : Tree ℕ) → shown_active y (put k c t) ≡ shown_passive y c.branch + shown_active y t
shown_active-put y zero c t = refl
shown_active-put y (suc k) c leaf = refl
shown_active-put y (suc k) c end = refl
shown_active-put y (suc k) c (more back label branch rest) = let later = shown_active-put y k c rest in omega arith

shown_passive-child : (y k : ℕ) (c : Child ℕ) (t : Tree ℕ) → child_at k t ≡ Some c → shown_passive y t ≡ is_at y c.payload + shown_active y c.branch + shown_passive y (others k t)
shown_passive-child y k c leaf at = absurd (cc)
shown_passive-child y k c end at = absurd (cc)
shown_passive-child y zero c (more back label branch rest) at =
    let is : _ = ap (λ found. unwrap_or found c) at in
    ap (λ (c : Child ℕ). is_at y c.payload + shown_active y c.branch + shown_passive y rest) is
shown_passive-child y (suc k) c (more back label branch rest) at = let later = shown_passive-child y k c rest at in omega arith

FineActive-put : (a p N k : ℕ) (c : Child ℕ) (t : Tree ℕ) → suc (length (payloads c.branch)) ≤ p → FinePassive a p N c.branch → FineActive a p N t → FineActive a p N (put k c t)
FineActive-put a p N zero c t few behind fine = (few, behind, fine)
FineActive-put a p N (suc k) c leaf few behind fine = (few, behind, tt)
FineActive-put a p N (suc k) c end few behind fine = (few, behind, tt)
FineActive-put a p N (suc k) c (more back label branch rest) few behind fine = (fine.0, fine.1, FineActive-put a p N k c rest few behind fine.2)

pub FinePassive-child : (a p N k : ℕ) (c : Child ℕ) (t : Tree ℕ) → child_at k t ≡ Some c → FinePassive a p N t
    → (c.payload < N) × (pred c.back < a) × (suc (length (payloads c.branch)) ≤ a) × FineActive a p N c.branch × FinePassive a p N (others k t)
FinePassive-child a p N k c leaf at fine = absurd (cc)
FinePassive-child a p N k c end at fine = absurd (cc)
FinePassive-child a p N zero c (more back label branch rest) at fine =
    let is : _ = ap (λ found. unwrap_or found c) at in
    subst (λ (c : Child ℕ). (c.payload < N) × (pred c.back < a) × (suc (length (payloads c.branch)) ≤ a) × FineActive a p N c.branch × FinePassive a p N rest) is fine
FinePassive-child a p N (suc k) c (more back label branch rest) at fine =
    let (low, port, few, behind, later) = FinePassive-child a p N k c rest at fine.4 in
    (low, port, few, behind, (fine.0, fine.1, fine.2, fine.3, later))

IsNode-named : (a N x : ℕ) (port : ℕ → ℕ) (t : Tree ℕ) → IsNode (named_active a N x port t)
IsNode-named a N x port leaf = tt
IsNode-named a N x port end = tt
IsNode-named a N x port (more back label branch rest) = tt

-- ---- the neighbour at place k, whose view this is
module _ (a p N T k : ℕ) (c : Child ℕ) (w : Tree ℕ) (at : child_at k w ≡ Some c) where
  abbrev pub seen : Tree ℕ
  seen = put (pred c.back) (record { back = suc k; payload = c.payload; branch = cut (suc T) (others k w) }) c.branch

  pub seen_once : ((y : ℕ) → shown_passive y w ≤ 1) → (y : ℕ) → is_at y c.payload + shown_active y (cut (suc T) seen) ≤ 1
  seen_once once y =
      let one = shown_active-cut y (suc T) seen in
      let two = shown_active-put y (pred c.back) (record { back = suc k; payload = c.payload; branch = cut (suc T) (others k w) }) c.branch in
      let three = shown_passive-cut y (suc T) (others k w) in
      let four = shown_passive-child y k c w at in
      let most = once y in
      omega arith

  pub seen_fine : length (payloads w) ≤ p → FinePassive a p N w → FineActive a p N (cut (suc T) seen)
  seen_fine few fine =
      let (low, port, less, behind, later) = FinePassive-child a p N k c w at fine in
      FineActive-cut a p N (suc T) seen
      (FineActive-put a p N (pred c.back) (record { back = suc k; payload = c.payload; branch = cut (suc T) (others k w) }) c.branch
      (let cut_less = length-cut (suc T) (others k w) in let one = length-others k c w at in omega arith)
      (FinePassive-cut a p N (suc T) (others k w) later) behind)

-- the network of the passive node's view shows the neighbour's
module _ (a N k : ℕ) (c : Child ℕ) (w : Tree ℕ) (at : child_at k w ≡ Some c)
    (apart : (n : ℕ) → is_at n (N + first_edge a 0 w) + occurs n (named_passive a N w) ≤ 1) where
  abbrev own : Network
  own = network_of N (N + first_edge a 0 w) (named_passive a N w)

  rooted_there : Rooted own c.payload (moved (N + first_edge a 0 w) k (named_child a N c) (named_passive a N w))
  rooted_there =
      Rooted-moved own (N + first_edge a 0 w) k (named_child a N c) (named_passive a N w) (child_at-named a N k c w at)
      (IsNode-named a N c.payload (skip (pred c.back)) c.branch) (Rooted-network N (N + first_edge a 0 w) (named_passive a N w) apart)

  pub near_there : own.near c.payload ≡ insert (pred c.back) (N + first_edge a 0 w) (payloads (named_active a N c.payload (skip (pred c.back)) c.branch))
  near_there =
      rooted_there.near
      ∙ payloads-put (pred c.back) (record { back = suc k; payload = N + first_edge a 0 w; branch = others k (named_passive a N w) }) (named_active a N c.payload (skip (pred c.back)) c.branch)

  pub same_within : (T : ℕ) → HasRoom (pred c.back) c.branch
      → ((n : ℕ) → is_at n c.payload + occurs n (named_active a N c.payload (λ i. i) (cut (suc T) (seen a 0 N T k c w at))) ≤ 1)
      → AreSame T (network_of N c.payload (named_active a N c.payload (λ i. i) (cut (suc T) (seen a 0 N T k c w at)))) own c.payload
  same_within zero room once = refl
  same_within (suc T) room once =
      let tree : Tree ℕ = named_active a N c.payload (λ i. i) (cut (suc (suc T)) (seen a 0 N (suc T) k c w at)) in
      let there : Network = network_of N c.payload tree in
      AreSame-shown there own (λ n. refl) (suc T) c.payload (cut (suc T) tree) (Reaches-active a N (suc T) c.payload (λ i. i) (cut (suc (suc T)) (seen a 0 N (suc T) k c w at)))
      (Rooted-cut there c.payload T tree (Rooted-network N c.payload tree once))
      (subst (λ t. Rooted own c.payload t) (sym (same_cut a N T k c w at room))
      (Rooted-cut own c.payload T (moved (N + first_edge a 0 w) k (named_child a N c) (named_passive a N w)) rooted_there))
