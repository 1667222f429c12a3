-- Paths of labels between the edges of two parts of a network, found where arms of their leaves are linked; labels within it don't depend on which.
use Rattle.std.proofs.Common.{◌≡◌, ℕ, zero, suc, ◌+◌, ◌-◌, ◌*◌, ◌/◌, ◌≤◌, ◌<◌, Bool, true, false, List, [], ◌∷◌, sym, ◌∙◌, ap, ap₂, subst, arith}
use Rattle.std.specs.Prelude.{Contains, not, ◌==◌, slice_index, if◌then◌else◌}
use Rattle.std.specs.List.{position_or_len}
use Rattle.std.proofs.Math.Nat.{div-eq_of_lt, mod-eq_of_lt, mul-le-mul_right}
use Rattle.std.proofs.Math.Bool.{not-not}
use Rattle.re_labels.proofs.Rearranging.{Contains-Rearranged}
use Rattle.re_labels.proofs.Sorting.{Rearranged-sorted}
use Rattle.re_labels.specs.Configs.{IsConfig, sorted}
use Rattle.re_forests.proofs.Arms.{arms, bridge_walk, bridged, bridged_alike, bridged_cutting, bridged_edge}
use Rattle.re_forests.proofs.Cores.{ToLeaves, fills_active, fills_edge}
use Rattle.re_forests.proofs.Cuts.{IsCutting, IsForest-cutting}
use Rattle.re_forests.proofs.EdgeLabels.{Has_first, label_on}
use Rattle.re_forests.proofs.Growing.{Alike, Around, IsFull, alike_fills, far_filled, far_inner, fills, fills_cutting, full_around, grown, path_kind, same_alike}
use Rattle.re_forests.proofs.TrimmedEdges.{Fine, survive, survivors}
use Rattle.re_forests.proofs.TreeWalks.{Walk, kind_add, kind_not, kind_twice, leads_of_walk, walk_as_long, walk_back, walk_edge, walk_in, walk_joined, walk_kind, walk_part}
use Rattle.re_forests.specs.Flexible.{Leads, side}
use Rattle.re_forests.specs.OnForests.{SolvesOn, label_towards}
use Rattle.re_labels.proofs.Membership.{Contains-count_from, AllByRecursion-contains, Contains-here}
use Rattle.re_labels.specs.Lists.{count_from}
use Rattle.re_layers.specs.Networks.{IsForest, IsLocal, Network}
use Rattle.re_problem.specs.Problems.{IsProblem, Problem}
use Rattle.re_labels.specs.Constraints.{Constraint, Has, IsConstraint}

pub around_weaker : (G : Network) (P P' : ℕ → Type 0) → ((v : ℕ) → P v → P' v) → (n v : ℕ) → Around G P n v → Around G P' n v
around_weaker G P P' weaker zero v around = weaker v around
around_weaker G P P' weaker (suc n) v around = (weaker v around.0, λ w held. around_weaker G P P' weaker n w (around.1 w held))

pub label_alike : (G H : Network) (labels labels' : ℕ → List ℕ) (v w : ℕ) → G.active v ≡ H.active v → labels v ≡ labels' v → labels w ≡ labels' w
    → G.near v ≡ H.near v → G.near w ≡ H.near w → label_on G labels v w ≡ label_on H labels' v w
label_alike G H labels labels' v w kinds at at' near near' =
    ap (λ b. if b then label_towards G labels w v else label_towards G labels v w) kinds
    ∙ ap₂ (λ x y. if H.active v then x else y) (ap₂ (λ l xs. slice_index l (position_or_len (λ x. x == w) xs)) at near)
    (ap₂ (λ l xs. slice_index l (position_or_len (λ x. x == v) xs)) at' near')

-- labels of configurations are labels of the problem
pub low_label : (n : ℕ) (constraint : Constraint) (x : ℕ) (rest : List ℕ) → IsConstraint n constraint → Has constraint (x ∷ rest) → x < n
low_label n constraint x rest is has =
    AllByRecursion-contains (λ x. x < n) (sorted (x ∷ rest)) x
    (AllByRecursion-contains (IsConfig constraint.degree n) constraint.configs (sorted (x ∷ rest)) is.configs has).below
    (Contains-Rearranged x (Rearranged-sorted (x ∷ rest)) (Contains-here x rest))

-- the kinds of the ends of two arms, where a walk through both comes out right
kinds_meet : (bv bc bl bm : Bool) (s s' A t n : ℕ) → bl ≡ path_kind bv s → bm ≡ path_kind bc s' → path_kind bv n ≡ not bc → s + (suc (A + t) + suc A) + s' ≡ n
    → path_kind bm A ≡ not (path_kind bl (A + t))
kinds_meet bv bc bl bm s s' A t n e f g h =
    let first : path_kind bl (A + t) ≡ path_kind bv (s + (A + t)) = ap (λ b. path_kind b (A + t)) e ∙ sym (kind_add bv s (A + t)) in
    let second : path_kind bm A ≡ path_kind bc (s' + A) = ap (λ b. path_kind b A) f ∙ sym (kind_add bc s' A) in
    let all : n ≡ s + (A + t) + suc (suc (s' + A)) = omega arith in
    let through : path_kind bv n ≡ path_kind (path_kind bv (s + (A + t))) (s' + A) =
    ap (path_kind bv) all ∙ kind_add bv (s + (A + t)) (suc (suc (s' + A))) ∙ not-not (path_kind (path_kind bv (s + (A + t))) (s' + A)) in
    let back : path_kind bv (s + (A + t)) ≡ not (path_kind bc (s' + A)) =
    sym (kind_twice (path_kind bv (s + (A + t))) (s' + A)) ∙ ap (λ b. path_kind b (s' + A)) (sym through ∙ g) ∙ kind_not bc (s' + A) in
    second ∙ sym (not-not (path_kind bc (s' + A))) ∙ ap not (sym back) ∙ ap not (sym first)

module _ (problem : Problem) (is : IsProblem problem) (K : Network) (Q : ℕ) (some : 0 < Q) (cutting : IsCutting problem.active.degree problem.passive.degree Q K)
    (S N T : ℕ) (big : grown (suc problem.labels) (suc (suc T + suc (2 * S)) * Q) ≤ N)
    (algorithm : Network → ℕ → List ℕ) (local : IsLocal T algorithm)
    (solves : (G : Network) → IsForest problem.active.degree problem.passive.degree N G → SolvesOn problem G (algorithm G)) where
  -- a network filled
  abbrev pub whole : Network → Network
  whole J = fills problem.active.degree problem.passive.degree (suc problem.labels) J (suc (suc T + suc (2 * S)) * Q)

  -- with arms, and no bridge
  abbrev pub plain : Network
  plain = whole (arms K Q (suc T) 0 0)

  abbrev pub mark : ℕ → ℕ → ℕ
  mark v w = label_on plain (algorithm plain) v w

  -- the labels that are left of all labels after all rounds of trimming
  abbrev pub deep : List ℕ
  deep = survivors problem problem.labels (count_from 0 problem.labels)

  pub inside : (v : ℕ) → v < Q → v < suc (suc T + suc (2 * S)) * Q
  inside v low =
      let more : 1 * Q ≤ suc (suc T + suc (2 * S)) * Q = mul-le-mul_right Q (omega arith) in
      let one : 1 * Q ≡ Q = grind arith in
      omega (arith, more, one)

  pub forest_of : (J : Network) → IsCutting problem.active.degree problem.passive.degree (suc (suc T + suc (2 * S)) * Q) J
      → IsForest problem.active.degree problem.passive.degree N (whole J)
  forest_of J cut =
      let forest : IsForest problem.active.degree problem.passive.degree (grown (suc problem.labels) (suc (suc T + suc (2 * S)) * Q)) (whole J) =
      IsForest-cutting problem.active.degree problem.passive.degree (grown (suc problem.labels) (suc (suc T + suc (2 * S)) * Q)) (whole J)
      (fills_cutting problem.active.degree problem.passive.degree is.active.least is.passive.least is.active.most is.passive.most (suc problem.labels) J
      (suc (suc T + suc (2 * S)) * Q) (inside 0 some) cut) in
      record {
        degrees = forest.degrees;
        below = λ v w held. (let (l, m) = forest.below v w held in (omega (arith, l, big), omega (arith, m, big)));
        turns = forest.turns;
        both = forest.both;
        acyclic = forest.acyclic;
      }

  pub fine_all : (J : Network) (cut : IsCutting problem.active.degree problem.passive.degree (suc (suc T + suc (2 * S)) * Q) J) (v : ℕ)
      → IsFull problem.active.degree problem.passive.degree (whole J) v
      → Fine problem is N (whole J) (algorithm (whole J)) (forest_of J cut) (solves (whole J) (forest_of J cut)) (count_from 0 problem.labels) v
  fine_all J cut v full = (
    full,
    λ w held.
        (let (rest, has, all) = Has_first problem N (whole J) (algorithm (whole J)) is (forest_of J cut) (solves (whole J) (forest_of J cut)) v w full held in
        Contains-count_from 0 problem.labels (label_on (whole J) (algorithm (whole J)) v w) (omega arith)
        (let low = low_label problem.labels (side problem ((whole J).active v)) (label_on (whole J) (algorithm (whole J)) v w) rest (side_is ((whole J).active v)) has in omega (arith, low))),
  )
    where
      side_is : (b : Bool) → IsConstraint problem.labels (side problem b)
      side_is true = is.active
      side_is false = is.passive

  -- all labels at nodes that had a neighbour before they were filled are left after trimming
  pub fine_of : (J : Network) (cut : IsCutting problem.active.degree problem.passive.degree (suc (suc T + suc (2 * S)) * Q) J) (v w : ℕ) → Contains (J.near v) w
      → Fine problem is N (whole J) (algorithm (whole J)) (forest_of J cut) (solves (whole J) (forest_of J cut)) deep v
  fine_of J cut v w held =
      survive problem is N (whole J) (algorithm (whole J)) (forest_of J cut) (solves (whole J) (forest_of J cut)) problem.labels (count_from 0 problem.labels) v
      (around_weaker (whole J) (IsFull problem.active.degree problem.passive.degree (whole J))
      (Fine problem is N (whole J) (algorithm (whole J)) (forest_of J cut) (solves (whole J) (forest_of J cut)) (count_from 0 problem.labels))
      (λ v full. fine_all J cut v full) problem.labels v
      (full_around problem.active.degree problem.passive.degree is.active.least is.passive.least is.active.most is.passive.most problem.labels J
      (suc (suc T + suc (2 * S)) * Q) v w (inside 0 some) cut held))

  module _ (part : ℕ → Bool) (kept : (v w : ℕ) → Contains (K.near v) w → part v ≡ part w) where
    module _ (l m x y t : ℕ) (low : l < Q) (low' : m < Q) (leaf : K.near l ≡ x ∷ []) (leaf' : K.near m ≡ y ∷ []) (first : part l ≡ true) (second : part m ≡ false)
        (room : suc T + t ≤ suc T + suc (2 * S)) (kinds : path_kind (K.active m) (suc T) ≡ not (path_kind (K.active l) (suc T + t))) where
      abbrev J : Network
      J = bridged K Q (suc T) t l m

      cut_J : IsCutting problem.active.degree problem.passive.degree (suc (suc T + suc (2 * S)) * Q) J
      cut_J =
          bridged_cutting problem.active.degree problem.passive.degree is.active.least is.passive.least K Q some cutting part kept (suc T) t l m x y (omega arith) low low'
          leaf leaf' first second (suc T + suc (2 * S)) room kinds

      edge_J : (v w : ℕ) → Contains (K.near v) w → Contains (J.near v) w
      edge_J =
          bridged_edge problem.active.degree problem.passive.degree is.active.least is.passive.least K Q some cutting part kept (suc T) t l m x y (omega arith) low low'
          leaf leaf' first second

      kind_at : (v : ℕ) → v < Q → (whole J).active v ≡ K.active v
      kind_at v low_v =
          fills_active problem.active.degree problem.passive.degree is.active.least is.passive.least is.active.most is.passive.most (suc problem.labels) J
          (suc (suc T + suc (2 * S)) * Q) v (inside 0 some) (inside v low_v)
          ∙ ap₂ (λ i v. path_kind (K.active v) i) (div-eq_of_lt low_v) (mod-eq_of_lt low_v)

      alike : Alike (suc T) (whole J) plain (far_filled (suc problem.labels) (suc (suc T + suc (2 * S)) * Q) (λ x. x / Q))
      alike =
          alike_fills problem.active.degree problem.passive.degree is.active.least is.passive.least is.active.most is.passive.most (suc problem.labels) (suc T) J
          (arms K Q (suc T) 0 0) (λ x. x / Q) (suc (suc T + suc (2 * S)) * Q) (inside 0 some) cut_J
          (bridged_alike problem.active.degree problem.passive.degree is.active.least is.passive.least K Q some cutting part kept (suc T) t l m x y (omega arith) low low'
          leaf leaf' first second (suc T) 0 0 (omega arith))

      near_far : (v : ℕ) → v < Q → far_filled (suc problem.labels) (suc (suc T + suc (2 * S)) * Q) (λ x. x / Q) v ≡ 0
      near_far v low_v = far_inner (suc problem.labels) (suc (suc T + suc (2 * S)) * Q) (λ x. x / Q) v (inside v low_v) ∙ div-eq_of_lt low_v

      outputs : (v : ℕ) → v < Q → algorithm (whole J) v ≡ algorithm plain v
      outputs v low_v =
          local (whole J) plain v
          (same_alike (suc T) (whole J) plain (far_filled (suc problem.labels) (suc (suc T + suc (2 * S)) * Q) (λ x. x / Q)) alike T v
          (let z = near_far v low_v in omega (arith, z)))

      same : (v w : ℕ) → v < Q → w < Q → label_on (whole J) (algorithm (whole J)) v w ≡ mark v w
      same v w low_v low_w =
          label_alike (whole J) plain (algorithm (whole J)) (algorithm plain) v w (alike.active v) (outputs v low_v) (outputs w low_w)
          (alike.near v (let z = near_far v low_v in omega (arith, z))) (alike.near w (let z = near_far w low_w in omega (arith, z)))

      lead_along : (n u v c d : ℕ) → Contains (K.near v) u → Contains (K.near c) d → Walk J n u v c d → Leads problem deep (K.active v) n (mark v u) (mark d c)
      lead_along n u v c d edge edge' walk =
          let (low_v, low_u) = cutting.below v u edge in
          let (low_c, low_d) = cutting.below c d edge' in
          subst (λ b. Leads problem deep b n (mark v u) (mark d c)) (kind_at v low_v)
          (subst (λ z. Leads problem deep ((whole J).active v) n z (mark d c)) (same v u low_v low_u)
          (subst (λ z. Leads problem deep ((whole J).active v) n (label_on (whole J) (algorithm (whole J)) v u) z) (same d c low_d low_c)
          (leads_of_walk problem N (whole J) (algorithm (whole J)) is (forest_of J cut_J) (solves (whole J) (forest_of J cut_J)) deep J cut_J.both
          (fills_edge problem.active.degree problem.passive.degree is.active.least is.passive.least is.active.most is.passive.most (suc problem.labels) J
          (suc (suc T + suc (2 * S)) * Q) (inside 0 some) cut_J)
          (λ v w held. fine_of J cut_J v w held) n u v c d (edge_J v u edge) walk)))

      both_ways : (n s s' u v c d : ℕ) → Contains (K.near v) u → Contains (K.near c) d → Walk K s u v x l → Walk K s' d c y m
          → s + (suc (suc T + t) + suc (suc T)) + s' ≡ n
          → Leads problem deep (K.active v) n (mark v u) (mark d c) × Leads problem deep (K.active c) n (mark c d) (mark u v)
      both_ways n s s' u v c d edge edge' walk walk' count =
          let bridge : Walk J (suc (suc T + t) + suc (suc T)) x l m y =
          bridge_walk problem.active.degree problem.passive.degree is.active.least is.passive.least K Q some cutting part kept (suc T) t l m x y (omega arith) low low'
          leaf leaf' first second cut_J.both in
          let there : Walk J s u v x l = walk_in K J edge_J s u v x l walk in
          let back : Walk J s' m y c d = walk_in K J edge_J s' m y c d (walk_back K cutting.both s' d c y m edge' walk') in
          let all : Walk J n u v c d =
          walk_as_long J (s + (suc (suc T + t) + suc (suc T)) + s') n u v c d count
          (walk_joined J (s + (suc (suc T + t) + suc (suc T))) s' u v m y c d (walk_joined J s (suc (suc T + t) + suc (suc T)) u v x l m y there bridge) back) in
          (lead_along n u v c d edge edge' all, lead_along n d c v u edge' edge (walk_back J cut_J.both n u v c d (edge_J v u edge) all))

    -- between an edge of one part and one of the other lead paths of labels in both directions
    pub lead : ToLeaves K S → (u v c d e : ℕ) → Contains (K.near u) v → part v ≡ true → Contains (K.near d) c → part c ≡ false → e ≤ 1
        → path_kind (K.active v) (e + (S + S + (suc T + suc T) + 2)) ≡ K.active d
        → Leads problem deep (K.active v) (e + (S + S + (suc T + suc T) + 2)) (mark v u) (mark d c)
        × Leads problem deep (K.active c) (e + (S + S + (suc T + suc T) + 2)) (mark c d) (mark u v)
    lead leaves u v c d e edge at edge' at' few kind =
        let (s, le, x, l, walk, leaf) = leaves u v edge in
        let (s', le', y, m, walk', leaf') = leaves d c edge' in
        let t : ℕ = e + (S + S) - (s + s') in
        let count : s + (suc (suc T + t) + suc (suc T)) + s' ≡ e + (S + S + (suc T + suc T) + 2) = omega (arith, le, le', few) in
        let first : part l ≡ true = walk_part K part kept s u v x l walk ∙ at in
        let second : part m ≡ false = walk_part K part kept s' d c y m walk' ∙ at' in
        let low : l < Q = (cutting.below x l (walk_edge K s u v x l edge walk)).1 in
        let low' : m < Q = (cutting.below y m (walk_edge K s' d c y m edge' walk')).1 in
        let room : suc T + t ≤ suc T + suc (2 * S) = omega (arith, few) in
        let kinds : path_kind (K.active m) (suc T) ≡ not (path_kind (K.active l) (suc T + t)) =
        kinds_meet (K.active v) (K.active c) (K.active l) (K.active m) s s' (suc T) t (e + (S + S + (suc T + suc T) + 2))
        (walk_kind K cutting.turns s u v x l walk) (walk_kind K cutting.turns s' d c y m walk')
        (kind ∙ cutting.turns c d (cutting.both d c edge')) count in
        both_ways l m x y t low low' leaf leaf' first second room kinds (e + (S + S + (suc T + suc T) + 2)) s s' u v c d (cutting.both u v edge) (cutting.both d c edge')
        walk walk' count
