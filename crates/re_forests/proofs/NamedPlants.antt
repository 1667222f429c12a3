-- The networks of named views are forests.
use Rattle.std.proofs.Common.{◌≡◌, ℕ, zero, suc, pred, ◌+◌, ◌*◌, ◌≤◌, ◌<◌, true, false, length, refl, sym, ◌∙◌, subst, arith}
use Rattle.std.specs.Prelude.{nat_lt}
use Rattle.std.proofs.Math.Nat.{mul-le-mul_right}
use Rattle.std.proofs.lemmas.Bool.{le-ltb, lt-ltb}
use Rattle.re_forests.proofs.Counting.{is_at}
use Rattle.re_forests.proofs.Edges.{skip, skip-most}
use Rattle.re_forests.proofs.NamedViews.{FineActive, FinePassive, apart_active, apart_passive, choice, edge_of, first_edge, length-named_active, named_active, named_passive, shown_active, shown_passive, payloads-named_passive}
use Rattle.re_forests.proofs.Plants.{IsPlant, Shaped}
use Rattle.re_forests.proofs.TreeNetworks.{IsForest-plant, Rooted-network, near_absent, network_of}
use Rattle.re_layers.specs.Networks.{IsForest, Network}
use Rattle.re_given.specs.InputViews.{payloads}
use Rattle.re_laws.specs.Trees.{Tree, end, leaf, more}

edge-below : (a N x j : ℕ) → x < N → j < a → x * a + j < N * a
edge-below a N x j l l' =
    let over : suc x * a ≤ N * a = mul-le-mul_right a l in
    let one : suc x * a ≡ x * a + a = omega arith in
    omega (arith, over, one)

first_edge-below : (a p N none : ℕ) (t : Tree ℕ) → none < N * a → FinePassive a p N t → first_edge a none t < N * a
first_edge-below a p N none leaf l fine = l
first_edge-below a p N none end l fine = l
first_edge-below a p N none (more back label branch rest) l fine = edge-below a N label (pred back) fine.0 fine.1

edge_of-below : (a p N own back : ℕ) (t : Tree ℕ) → own < N * a → FinePassive a p N t → edge_of a own back t < N * a
edge_of-below a p N own back t l fine = by (pred back)
  where
    by : (k : ℕ) → choice k own (first_edge a own t) < N * a
    by zero = l
    by (suc k) = first_edge-below a p N own t l fine

module _ (a p N : ℕ) (G : Network) (active_is : (n : ℕ) → G.active n ≡ nat_lt n N) where
  mutual
    shaped_active : (x : ℕ) (port : ℕ → ℕ) (t : Tree ℕ) → x < N → FineActive a p N t → ((k : ℕ) → k < length (payloads t) → port k < a)
        → Shaped a p (N + N * a) G true (named_active a N x port t)
    shaped_active x port leaf l fine low = tt
    shaped_active x port end l fine low = tt
    shaped_active x port (more back label branch rest) l fine low =
        let edge : edge_of a (x * a + port zero) back branch < N * a = edge_of-below a p N (x * a + port zero) back branch (edge-below a N x (port zero) l (low zero (omega arith))) fine.1 in (
          omega arith,
          active_is (N + edge_of a (x * a + port zero) back branch) ∙ le-ltb (N + edge_of a (x * a + port zero) back branch) N (omega arith),
          subst (λ xs. suc (length xs) ≤ p) (sym (payloads-named_passive a N branch)) fine.0,
          shaped_passive branch fine.1,
          shaped_active x (λ k. port (suc k)) rest l fine.2 (λ k less. low (suc k) (omega arith)),
        )

    shaped_passive : (t : Tree ℕ) → FinePassive a p N t → Shaped a p (N + N * a) G false (named_passive a N t)
    shaped_passive leaf fine = tt
    shaped_passive end fine = tt
    shaped_passive (more back label branch rest) fine =
        let few = fine.2 in let below = fine.0 in (
          omega arith,
          active_is label ∙ lt-ltb label N below,
          subst (λ n. suc n ≤ a) (sym (length-named_active a N label (skip (pred back)) branch)) few,
          shaped_active label (skip (pred back)) branch below fine.3 (λ k less. let most = skip-most (pred back) k in omega arith),
          shaped_passive rest fine.4,
        )

-- the view of an active node
module _ (a p N x : ℕ) (t : Tree ℕ) (some : 0 < a) (low : x < N) (fine : FineActive a p N t) (few : length (payloads t) ≤ a)
    (apart : (y : ℕ) → is_at y x + shown_active y t ≤ 1) where
  abbrev tree : Tree ℕ
  tree = named_active a N x (λ k. k) t

  plant_active : IsPlant a p (N + N * a) (network_of N x tree) true x tree
  plant_active = record {
    rooted = Rooted-network N x tree (apart_active a p N x t some low fine few apart);
    below = omega arith;
    kind = lt-ltb x N low;
    degree = subst (λ n. n ≤ a) (sym (length-named_active a N x (λ k. k) t)) few;
    shaped = shaped_active a p N (network_of N x tree) (λ n. refl) x (λ k. k) t low fine (λ k less. omega arith);
    apart = apart_active a p N x t some low fine few apart;
  }

  pub forest_active : IsForest a p (N + N * a) (network_of N x tree)
  forest_active = IsForest-plant a p (N + N * a) (network_of N x tree) true x tree plant_active (near_absent N x tree)

-- the view of a passive node
module _ (a p N back label : ℕ) (branch rest : Tree ℕ) (some : 0 < a) (fine : FinePassive a p N (more back label branch rest))
    (few : length (payloads (more back label branch rest)) ≤ p) (apart : (y : ℕ) → shown_passive y (more back label branch rest) ≤ 1) where
  abbrev whole_tree : Tree ℕ
  whole_tree = named_passive a N (more back label branch rest)

  plant_passive : IsPlant a p (N + N * a) (network_of N (N + (label * a + pred back)) whole_tree) false (N + (label * a + pred back)) whole_tree
  plant_passive = record {
    rooted = Rooted-network N (N + (label * a + pred back)) whole_tree (apart_passive a p N back label branch rest some fine apart);
    below = let l = edge-below a N label (pred back) fine.0 fine.1 in omega arith;
    kind = le-ltb (N + (label * a + pred back)) N (omega arith);
    degree = subst (λ xs. length xs ≤ p) (sym (payloads-named_passive a N (more back label branch rest))) few;
    shaped = shaped_passive a p N (network_of N (N + (label * a + pred back)) whole_tree) (λ n. refl) (more back label branch rest) fine;
    apart = apart_passive a p N back label branch rest some fine apart;
  }

  pub forest_passive : IsForest a p (N + N * a) (network_of N (N + (label * a + pred back)) whole_tree)
  forest_passive = IsForest-plant a p (N + N * a) (network_of N (N + (label * a + pred back)) whole_tree) false (N + (label * a + pred back)) whole_tree plant_passive
      (near_absent N (N + (label * a + pred back)) whole_tree)
