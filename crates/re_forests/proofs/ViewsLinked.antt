-- An algorithm on forests, run on the network of what a node sees, solves the problem where active nodes have identifiers.
use Rattle.std.proofs.Common.{◌≡◌, ℕ, suc, pred, ◌+◌, ◌*◌, ◌≤◌, ◌<◌, Some, List, [], ◌++◌, map, length, get_or, refl, sym, ◌∙◌, ap, ap₂, subst, arith, one-add}
use Rattle.std.specs.Prelude.{Contains, ◌==◌}
use Rattle.std.specs.List.{position_or_len}
use Rattle.std.proofs.lemmas.Bool.{le-ltb, lt-ltb}
use Rattle.std.proofs.lemmas.List.Elements.{Contains-append_left}
use Rattle.re_forests.specs.OnForests.{SolvesOn, label_towards}
use Rattle.re_forests.proofs.Counting.{is_at, is_at-same, often}
use Rattle.re_forests.proofs.Edges.{skip}
use Rattle.re_forests.proofs.Identified.{alike_seen, below_active, cut-known, fine_active, fine_passive, first_label, first_label-known, first_label-put, often-different, shown_active-often, shown_passive-often}
use Rattle.re_forests.proofs.NamedCuts.{child_at-named, named_child, payloads-cut}
use Rattle.re_forests.proofs.NamedPlants.{forest_active, forest_passive}
use Rattle.re_forests.proofs.NamedTrees.{length-insert, occurs, occurs-others, often-payloads, payloads-put}
use Rattle.re_forests.proofs.NamedViews.{FineActive, FinePassive, apart_active, apart_passive, first_edge, length-named_active, named_active, named_passive, payloads-named_passive, shown_active, shown_passive}
use Rattle.re_forests.proofs.ViewPlaces.{payloads-child, position-insert}
use Rattle.re_forests.proofs.SeenNear.{FineActive-cut, FinePassive-child, near_there, same_within, seen, seen_fine, seen_once, shown_active-cut}
use Rattle.re_forests.proofs.TreeNetworks.{Rooted-network, network_of}
use Rattle.re_given.proofs.Fitting.{FitsAround-others, Has-around}
use Rattle.re_given.specs.Given.{around_known}
use Rattle.re_given.specs.InputViews.{Fits, InputView, known, payloads}
use Rattle.re_given.proofs.SlowGiven.{length-payloads}
use Rattle.re_labels.proofs.Membership.{Contains-here}
use Rattle.re_laws.proofs.Ports.{map-at_port, map-count}
use Rattle.re_laws.specs.Algorithms.{at_port}
use Rattle.re_layers.specs.Networks.{AreDifferent, IsForest, IsLocal, Network}
use Rattle.re_local.specs.LocalAlgorithms.{behind_passive, identified, shown}
use Rattle.re_problem.specs.Problems.{Problem}
use Rattle.re_labels.specs.Constraints.{Has}
use Rattle.re_laws.proofs.JoinedBranches.{backs-child}
use Rattle.re_laws.proofs.ViewLaws.{HasRoom, HasRoom-tree, IsChild, child_of, shift-at}
use Rattle.re_laws.specs.Trees.{Child, IsView, Tree, backs, child_at, cut, end, leaf, more, others, shift}

-- what the algorithm gives at the node itself, on the network of the view without its last layer
abbrev pub on_views : ℕ → ℕ → ℕ → (Network → ℕ → List ℕ) → InputView → List ℕ
on_views a N T A u = A (network_of N (first_label u) (named_active a N (first_label u) (λ k. k) (cut (suc T) u))) (first_label u)

-- ---- the labels on the edge to one neighbour of a passive node
module _ (a p N T : ℕ) (A : Network → ℕ → List ℕ) (local : IsLocal T A) (some : 1 ≤ a) (w : InputView) (few : length (payloads w) ≤ p)
    (fine : FinePassive a p N w) (once : (y : ℕ) → shown_passive y w ≤ 1)
    (apart : (n : ℕ) → is_at n (N + first_edge a 0 w) + occurs n (named_passive a N w) ≤ 1) where
  abbrev around : Network
  around = network_of N (N + first_edge a 0 w) (named_passive a N w)

  -- what the neighbour outputs is what it outputs on the network of the passive node's view
  output_is : (k : ℕ) (c : Child ℕ) (at : child_at k w ≡ Some c) → IsChild a p (suc (suc T)) c → ((y : ℕ) → Contains (payloads c.branch) y → y ≡ c.payload)
      → on_views a N T A (known (suc T) (shift (suc (suc T)) w (suc k))) ≡ A around c.payload
  output_is k c at child same =
      let s : InputView = seen a p N T k c w at in
      let turned : Child ℕ = record { back = suc k; payload = c.payload; branch = cut (suc T) (others k w) } in
      let x : ℕ = c.payload in
      let most = child.most in
      let there : shift (suc (suc T)) w (suc k) ≡ s = shift-at (suc (suc T)) w (suc k) c at in
      let x_is : first_label (known (suc T) s) ≡ x = first_label-known T s ∙ first_label-put (pred c.back) turned c.branch same in
      let (low, port, less, behind, later) = FinePassive-child a p N k c w at fine in
      let long : length (payloads (cut (suc T) s)) ≡ suc (length (payloads c.branch)) =
      ap length (payloads-cut T s) ∙ (ap length (payloads-put (pred c.back) turned c.branch) ∙ length-insert (pred c.back) x (payloads c.branch)) in
      let apart_there : (n : ℕ) → is_at n x + occurs n (named_active a N x (λ i. i) (cut (suc T) s)) ≤ 1 =
      apart_active a p N x (cut (suc T) s) some low (seen_fine a p N T k c w at few fine) (omega (arith, long, less)) (seen_once a p N T k c w at once) in
      let room : HasRoom (pred c.back) c.branch = HasRoom-tree a p (suc T) (pred a) c.branch child.branch (pred c.back) (omega arith) in
      ap (λ v. on_views a N T A (known (suc T) v)) there
      ∙ (ap₂ (λ y z. A (network_of N y (named_active a N y (λ i. i) z)) y) x_is (cut-known (suc T) s)
      ∙ local (network_of N x (named_active a N x (λ i. i) (cut (suc T) s))) around x (same_within a N k c w at apart T room apart_there))

  -- the passive node stands at this port of it
  port_is : (k : ℕ) (c : Child ℕ) (at : child_at k w ≡ Some c) → IsChild a p (suc (suc T)) c
      → position_or_len (λ y. y == (N + first_edge a 0 w)) (around.near c.payload) ≡ pred c.back
  port_is k c at child =
      let n0 : ℕ = N + first_edge a 0 w in
      let inner : Tree ℕ = named_active a N c.payload (skip (pred c.back)) c.branch in
      let most = child.most in
      let one = is_at-same n0 n0 refl in
      let all = apart n0 in
      let split = occurs-others n0 k (named_child a N c) (named_passive a N w) (child_at-named a N k c w at) in
      let fewer = often-payloads n0 inner in
      let none : often n0 (payloads inner) ≡ 0 = omega (arith, one, all, split, fewer) in
      let count : length (payloads inner) ≡ pred a = length-named_active a N c.payload (skip (pred c.back)) c.branch ∙ length-payloads a p (suc T) (pred a) c.branch child.branch in
      ap (position_or_len (λ y. y == n0)) (near_there a N k c w at apart) ∙ position-insert n0 (pred c.back) (payloads inner) none (omega arith)

  label_is : (k : ℕ) (c : Child ℕ) (at : child_at k w ≡ Some c) → IsChild a p (suc (suc T)) c → ((y : ℕ) → Contains (payloads c.branch) y → y ≡ c.payload)
      → label_towards around (A around) (N + first_edge a 0 w) (at_port (payloads w) (suc k))
      ≡ at_port (on_views a N T A (known (suc T) (shift (suc (suc T)) w (suc k)))) (at_port (backs w) (suc k))
  label_is k c at child same =
      ap (label_towards around (A around) (N + first_edge a 0 w)) (payloads-child k c w at)
      ∙ (ap (λ j. get_or (A around c.payload) j 0) (port_is k c at child)
      ∙ ap₂ (λ xs j. get_or xs (pred j) 0) (sym (output_is k c at child same)) (sym (backs-child k c w at)))

-- ---- the two clauses
module _ (problem : Problem) (N T : ℕ) (some : 1 ≤ problem.active.degree) (some' : 1 ≤ problem.passive.degree) (A : Network → ℕ → List ℕ)
    (local : IsLocal T A)
    (solves : (G : Network) → IsForest problem.active.degree problem.passive.degree (N + N * problem.active.degree) G → SolvesOn problem G (A G)) where
  abbrev a : ℕ
  a = problem.active.degree

  abbrev p : ℕ
  p = problem.passive.degree

  pub solves_active : (v : InputView) → IsView a p (suc (suc T)) v → Fits (identified a p N).active (identified a p N).passive v → AreDifferent (shown v)
      → Has problem.active (on_views a N T A (known (suc T) v))
  solves_active leaf view fits apart = absurd view
  solves_active end view fits apart = absurd (let none = length-payloads a p (suc T) a end view in omega arith)
  solves_active (more back label branch rest) view fits apart =
      let v : InputView = more back label branch rest in
      let t : InputView = cut (suc T) v in
      let fine : FineActive a p N t = FineActive-cut a p N (suc T) v (fine_active a p N some some' (suc (suc T)) a [] v view fits) in
      let low : label < N = below_active a p N some some' (payloads v ++ []) label (Has-around (identified a p N).active (identified a p N).passive a p (suc T) a [] v view fits)
      (Contains-append_left (payloads v) [] label (Contains-here label (payloads rest))) in
      let count : length (payloads t) ≡ a = ap length (payloads-cut T v) ∙ length-payloads a p (suc T) a v view in
      let once : (y : ℕ) → is_at y label + shown_active y t ≤ 1 = λ y. (let most = often-different y (shown v) apart in let same = shown_active-often y v in let fewer = shown_active-cut y (suc T) v in omega arith) in
      let few : length (payloads t) ≤ a = omega arith in
      let tree : Tree ℕ = named_active a N label (λ k. k) t in
      let near : length ((network_of N label tree).near label) ≡ a =
      ap length (Rooted-network N label tree (apart_active a p N label t some low fine few once)).near ∙ (length-named_active a N label (λ k. k) t ∙ count) in
      subst (λ z. Has problem.active (A (network_of N label (named_active a N label (λ k. k) z)) label)) (sym (cut-known (suc T) v))
      ((solves (network_of N label tree) (forest_active a p N label t some low fine few once)).active label (lt-ltb label N low) near)

  pub solves_passive : (w : InputView) → IsView p a (suc (suc (suc T))) w → Fits (identified a p N).passive (identified a p N).active w → AreDifferent (behind_passive w)
      → Has problem.passive (around_known p (suc T) (on_views a N T A) w)
  solves_passive leaf view fits apart = absurd view
  solves_passive end view fits apart = absurd (let none = length-payloads p a (suc (suc T)) p end view in omega arith)
  solves_passive (more back label branch rest) view fits apart =
      let w : InputView = more back label branch rest in
      let n0 : ℕ = N + first_edge a 0 w in
      let tree : Tree ℕ = named_passive a N w in
      let G : Network = network_of N n0 tree in
      let fine : FinePassive a p N w = fine_passive a p N some some' (suc (suc (suc T))) p [] w view fits in
      let count : length (payloads w) ≡ p = length-payloads p a (suc (suc T)) p w view in
      let few : length (payloads w) ≤ p = omega arith in
      let once : (y : ℕ) → shown_passive y w ≤ 1 = λ y. (let most = often-different y (behind_passive w) apart in let same = shown_passive-often y w in omega arith) in
      let names : (n : ℕ) → is_at n n0 + occurs n tree ≤ 1 = apart_passive a p N back label branch rest some fine once in
      let near : G.near n0 ≡ payloads w = (Rooted-network N n0 tree names).near ∙ payloads-named_passive a N w in
      let f : ℕ → ℕ = λ v. label_towards G (A G) n0 v in
      let has : Has problem.passive (map f (G.near n0)) =
      (solves G (forest_passive a p N back label branch rest some fine few once)).passive n0 (le-ltb n0 N (omega arith)) (ap length near ∙ count) in
      let each : (k : ℕ) → k < p → f (at_port (payloads w) (suc k)) ≡ at_port (on_views a N T A (known (suc T) (shift (suc (suc T)) w (suc k)))) (at_port (backs w) (suc k)) =
      λ k l. (
      let (c, at, child) = child_of p a (suc (suc T)) p w view k l in
      let around_child = (FitsAround-others (identified a p N).passive (identified a p N).active [] k c w at fits).0 in
      label_is a p N T A local some w few fine once names k c at child (alike_seen a p N some some' (suc T) (pred a) c.payload c.branch child.branch around_child)
      ) in
      let same : map f (payloads w) ≡ around_known p (suc T) (on_views a N T A) w =
      sym (map-at_port f (payloads w) p count)
      ∙ map-count (λ port. f (at_port (payloads w) port)) (λ port. at_port (on_views a N T A (known (suc T) (shift (suc (suc T)) w port))) (at_port (backs w) port)) 1 p
      (λ k l. rw (one-add k) (each k l)) in
      subst (Has problem.passive) (ap (map f) near ∙ same) has
