-- Two trees of each of which an edge is taken away, and whose ends are joined across: this is a network of two trees again.
use Rattle.std.proofs.Common.{◌≡◌, ℕ, zero, suc, ◌≤◌, ◌<◌, Bool, true, false, cond, eqb, map, length, refl, sym, ap, ◌∙◌, subst, ◌⊎◌, inl, inr, arith}
use Rattle.std.specs.Prelude.{Contains, ◌&&◌, not}
use Rattle.std.proofs.lemmas.Bool.{false≢true}
use Rattle.std.proofs.lemmas.List.{length-map}
use Rattle.re_gap.proofs.Members.{different_map}
use Rattle.re_gap.proofs.Trees.{IsTree}
use Rattle.re_labels.proofs.Membership.{Contains-map_cases}
use Rattle.re_labels.proofs.Tests.{and-true, eqb-same, eqb-true, not_not, true-and}
use Rattle.re_layers.proofs.Balls.{ball_before, ball_first, ball_none, ball_own}
use Rattle.re_layers.proofs.Filters.{either}
use Rattle.re_labels.proofs.Tests.{eqb-apart}
use Rattle.re_labels.proofs.Membership.{Contains-map}
use Rattle.re_layers.proofs.NodeNumbers.{kind, kind_number, number, number_of, number_same, place, place_number}
use Rattle.re_layers.specs.Networks.{Network, ball}

not_own : (b : Bool) → not b ≡ b → ⊥
not_own true e = false≢true e
not_own false e = false≢true (sym e)

pub other_side : (b : Bool) (i j : ℕ) → number (not b) i ≡ number b j → ⊥
other_side b i j e = not_own b (sym (kind_number (not b) i) ∙ (ap kind e ∙ kind_number b j))

not_swap : (x y : Bool) → x ≡ not y → y ≡ not x
not_swap x y e = sym (ap not e ∙ not_not y)

module _ (G : Bool → Network) (child root : Bool → ℕ) where
  -- where the edge from i to w leads
  pub cross : Bool → ℕ → ℕ → ℕ
  cross b i w =
      cond (eqb i (child b) && eqb w (root b)) (number (not b) (root (not b)))
      (cond (eqb i (root b) && eqb w (child b)) (number (not b) (child (not b))) (number b w))

  -- the nodes of the tree b are number b; the child of each of the two edges gets the root of the other one
  abbrev pub crossed : Network
  crossed = record {
    active = λ v. (G (kind v)).active (place v);
    near = λ v. map (cross (kind v) (place v)) ((G (kind v)).near (place v));
  }

  pub active_number : (b : Bool) (i : ℕ) → crossed.active (number b i) ≡ (G b).active i
  active_number b i = ap (λ c. (G c).active (place (number b i))) (kind_number b i) ∙ ap (G b).active (place_number b i)

  near_number : (b : Bool) (i : ℕ) → crossed.near (number b i) ≡ map (cross b i) ((G b).near i)
  near_number b i =
      ap (λ c. map (cross c (place (number b i))) ((G c).near (place (number b i)))) (kind_number b i)
      ∙ ap (λ j. map (cross b j) ((G b).near j)) (place_number b i)

  -- an edge that isn't taken away
  pub IsKept : Bool → ℕ → ℕ → Type 0
  IsKept b i w = (i ≡ child b → w ≡ root b → ⊥) × (i ≡ root b → w ≡ child b → ⊥)

  pub kept_of : (b : Bool) (i w : ℕ) → (i ≡ child b → w ≡ root b → ⊥) → (i ≡ root b → w ≡ child b → ⊥) → IsKept b i w
  unfolding IsKept
  kept_of b i w first second = (first, second)

  IsCross : Bool → ℕ → ℕ → Type 0
  IsCross b i w = ((i ≡ child b) × (w ≡ root b) × (cross b i w ≡ number (not b) (root (not b))))
      ⊎ (((i ≡ root b) × (w ≡ child b) × (cross b i w ≡ number (not b) (child (not b)))) ⊎ (IsKept b i w × (cross b i w ≡ number b w)))

  cross_cases : (b : Bool) (i w : ℕ) → IsCross b i w
  unfolding cross IsKept IsCross
  cross_cases b i w = by (eqb i (child b) && eqb w (root b)) (eqb i (root b) && eqb w (child b)) refl refl
    where
      not_both : (x y c e : ℕ) → (eqb x c && eqb y e) ≡ false → x ≡ c → y ≡ e → ⊥
      not_both x y c e test own other =
          false≢true (sym test ∙ true-and (eqb x c) (eqb y e) (subst (λ z. eqb x z ≡ true) own (eqb-same x))
          (subst (λ z. eqb y z ≡ true) other (eqb-same y)))

      by : (s t : Bool) → (eqb i (child b) && eqb w (root b)) ≡ s → (eqb i (root b) && eqb w (child b)) ≡ t → IsCross b i w
      by true t e f = let (own, other) = and-true (eqb i (child b)) (eqb w (root b)) e in
          inl (
            eqb-true i (child b) own,
            eqb-true w (root b) other,
            ap (λ s. cond s (number (not b) (root (not b)))
                (cond (eqb i (root b) && eqb w (child b)) (number (not b) (child (not b))) (number b w))) e,
          )
      by false true e f = let (own, other) = and-true (eqb i (root b)) (eqb w (child b)) f in
          inr (inl (
            eqb-true i (root b) own,
            eqb-true w (child b) other,
            ap (λ s. cond s (number (not b) (root (not b)))
                (cond (eqb i (root b) && eqb w (child b)) (number (not b) (child (not b))) (number b w))) e
                ∙ ap (λ t. cond t (number (not b) (child (not b))) (number b w)) f,
          ))
      by false false e f =
          inr (inr (
            (not_both i w (child b) (root b) e, not_both i w (root b) (child b) f),
            ap (λ s. cond s (number (not b) (root (not b)))
                (cond (eqb i (root b) && eqb w (child b)) (number (not b) (child (not b))) (number b w))) e
                ∙ ap (λ t. cond t (number (not b) (child (not b))) (number b w)) f,
          ))

  cross_kept : (b : Bool) (i w : ℕ) → IsKept b i w → cross b i w ≡ number b w
  unfolding IsKept IsCross
  cross_kept b i w kept = elim (cross_cases b i w) [
    | inl c ↦ absurd (kept.0 c.0 c.1)
    | inr rest ↦ elim rest [ inl c ↦ absurd (kept.1 c.0 c.1) | inr c ↦ c.1 ]
  ]

  near_in : (b : Bool) (i w : ℕ) → Contains ((G b).near i) w → Contains (crossed.near (number b i)) (cross b i w)
  near_in b i w on = subst (λ near. Contains near (cross b i w)) (sym (near_number b i)) (Contains-map (cross b i) ((G b).near i) w on)

  near_out : (b : Bool) (i v : ℕ) → Contains (crossed.near (number b i)) v → (w : ℕ) × Contains ((G b).near i) w × (cross b i w ≡ v)
  near_out b i v on = Contains-map_cases (cross b i) ((G b).near i) v (subst (λ near. Contains near v) (near_number b i) on)

  pub near_kept : (b : Bool) (i w : ℕ) → IsKept b i w → Contains ((G b).near i) w → Contains (crossed.near (number b i)) (number b w)
  near_kept b i w kept on = subst (Contains (crossed.near (number b i))) (cross_kept b i w kept) (near_in b i w on)

  -- a node whose edges all stay
  kept_at : (b : Bool) (i w : ℕ) → (i ≡ child b → ⊥) → (i ≡ root b → ⊥) → IsKept b i w
  unfolding IsKept
  kept_at b i w one two = ((λ e f. one e), (λ e f. two e))

  -- ---- balls that hold none of the four ends
  pub Avoids : Bool → ℕ → ℕ → Type 0
  Avoids b k u = (x : ℕ) → Contains (ball (G b) k u) x → (x ≡ child b → ⊥) × (x ≡ root b → ⊥)

  pub avoids_of : (b : Bool) (k u : ℕ) → ((x : ℕ) → Contains (ball (G b) k u) x → (x ≡ child b → ⊥) × (x ≡ root b → ⊥)) → Avoids b k u
  unfolding Avoids
  avoids_of b k u each = each

  pub avoids_at : (b : Bool) (k u x : ℕ) → Avoids b k u → Contains (ball (G b) k u) x → (x ≡ child b → ⊥) × (x ≡ root b → ⊥)
  unfolding Avoids
  avoids_at b k u x avoids held = avoids x held

  avoids_next : (b : Bool) (k u w : ℕ) → Avoids b (suc k) u → Contains ((G b).near u) w → Avoids b k w
  unfolding Avoids
  avoids_next b k u w avoids on x held = avoids x (ball_before (G b) k u w x on held)

  pub kept_near : (b : Bool) (k u x w : ℕ) → Avoids b k u → Contains (ball (G b) k u) x → Contains ((G b).near x) w
      → Contains (crossed.near (number b x)) (number b w)
  kept_near b k u x w avoids held on = let (one, two) = avoids_at b k u x avoids held in near_kept b x w (kept_at b x w one two) on

  pub kept_near_back : (b : Bool) (k u x w : ℕ) → Avoids b k u → Contains (ball (G b) k u) x
      → Contains (crossed.near (number b x)) (number b w) → Contains ((G b).near x) w
  kept_near_back b k u x w avoids held on =
      let (one, two) = avoids_at b k u x avoids held in
      let (y, at, e) = near_out b x (number b w) on in
      subst (Contains ((G b).near x)) (number_same b y w (sym (cross_kept b x y (kept_at b x y one two)) ∙ e)) at

  pub ball_in : (b : Bool) (k u z : ℕ) → Avoids b k u → Contains (ball (G b) k u) z → Contains (ball crossed k (number b u)) (number b z)
  ball_in b zero u z avoids held = subst (λ y. Contains (ball crossed zero (number b u)) (number b y)) (ball_none (G b) u z held)
      (ball_own crossed zero (number b u))
  ball_in b (suc k) u z avoids held = elim (ball_first (G b) k u z held) [
    | inl e ↦ subst (λ y. Contains (ball crossed (suc k) (number b u)) (number b y)) e (ball_own crossed (suc k) (number b u))
    | inr first ↦
        (let (w, on, at) = first in
        ball_before crossed k (number b u) (number b w) (number b z) (kept_near b (suc k) u u w avoids (ball_own (G b) (suc k) u) on)
        (ball_in b k w z (avoids_next b k u w avoids on) at))
  ]

  pub ball_out : (b : Bool) (k u v : ℕ) → Avoids b k u → Contains (ball crossed k (number b u)) v → (z : ℕ)
      × Contains (ball (G b) k u) z × (number b z ≡ v)
  ball_out b zero u v avoids held = (u, ball_own (G b) zero u, ball_none crossed (number b u) v held)
  ball_out b (suc k) u v avoids held = elim (ball_first crossed k (number b u) v held) [
    | inl e ↦ (u, ball_own (G b) (suc k) u, e)
    | inr first ↦
        (let (x, on, at) = first in
        let (w, there, e) = near_out b u x on in
        let (one, two) = avoids_at b (suc k) u u avoids (ball_own (G b) (suc k) u) in
        let same : number b w ≡ x = sym (cross_kept b u w (kept_at b u w one two)) ∙ e in
        let (z, held', f) = ball_out b k w v (avoids_next b k u w avoids there)
        (subst (λ y. Contains (ball crossed k y) v) (sym same) at) in
        (z, ball_before (G b) k u w z there held', f))
  ]

  -- ---- a tree again
  module _ {a p : ℕ} (tree : (b : Bool) → IsTree a p (G b)) (cut : (b : Bool) → Contains ((G b).near (child b)) (root b))
      (least : (b : Bool) → (tree b).rank (root b) ≡ 0)
      (kinds : (b : Bool) → (G (not b)).active (root (not b)) ≡ not ((G b).active (child b))) where
    cut_up : (b : Bool) → (root b ≡ (tree b).up (child b)) × ((tree b).rank (root b) < (tree b).rank (child b))
    cut_up b = elim ((tree b).edge (child b) (root b) (cut b)) [
      | inl high ↦ high
      | inr high ↦ absurd (let less = high.1 in let low = least b in omega (arith, less, low))
    ]

    ends_apart : (b : Bool) → child b ≡ root b → ⊥
    ends_apart b e = let less = (cut_up b).1 in let same = ap (tree b).rank e in omega (arith, less, same)

    pub cross_child : (b : Bool) → Contains (crossed.near (number b (child b))) (number (not b) (root (not b)))
    unfolding IsKept IsCross
    cross_child b = elim (cross_cases b (child b) (root b)) [
      | inl c ↦ subst (Contains (crossed.near (number b (child b)))) c.2 (near_in b (child b) (root b) (cut b))
      | inr rest ↦ elim rest [ inl c ↦ absurd (ends_apart b c.0) | inr c ↦ absurd (c.0.0 refl refl) ]
    ]

    pub cross_root : (b : Bool) → Contains (crossed.near (number b (root b))) (number (not b) (child (not b)))
    unfolding IsKept IsCross
    cross_root b = elim (cross_cases b (root b) (child b)) [
      | inl c ↦ absurd (ends_apart b (sym c.0))
      | inr rest ↦ elim rest [
        | inl c ↦ subst (Contains (crossed.near (number b (root b)))) c.2
            (near_in b (root b) (child b) ((tree b).both (child b) (root b) (cut b)))
        | inr c ↦ absurd (c.0.1 refl refl)
      ]
    ]

    child_kinds : (b : Bool) → (G (not b)).active (child (not b)) ≡ not ((G b).active (root b))
    child_kinds b =
        not_swap ((G b).active (root b)) ((G (not b)).active (child (not b)))
        (subst (λ c. (G c).active (root c) ≡ not ((G (not b)).active (child (not b)))) (not_not b) (kinds (not b)))

    crossed_turns : (b : Bool) (i w : ℕ) → Contains ((G b).near i) w → crossed.active (cross b i w) ≡ not ((G b).active i)
    unfolding IsCross
    crossed_turns b i w on = elim (cross_cases b i w) [
      | inl c ↦ ap crossed.active c.2 ∙ (active_number (not b) (root (not b)) ∙ (kinds b ∙ ap (λ z. not ((G b).active z)) (sym c.0)))
      | inr rest ↦ elim rest [
        | inl c ↦ ap crossed.active c.2
            ∙ (active_number (not b) (child (not b)) ∙ (child_kinds b ∙ ap (λ z. not ((G b).active z)) (sym c.0)))
        | inr c ↦ ap crossed.active c.1 ∙ (active_number b w ∙ (tree b).turns i w on)
      ]
    ]

    crossed_both : (b : Bool) (i w : ℕ) → Contains ((G b).near i) w → Contains (crossed.near (cross b i w)) (number b i)
    unfolding IsKept IsCross
    crossed_both b i w on = elim (cross_cases b i w) [
      | inl c ↦ subst (λ z. Contains (crossed.near z) (number b i)) (sym c.2)
          (subst (λ z. Contains (crossed.near (number (not b) (root (not b)))) (number b z)) (sym c.0)
          (subst (λ k. Contains (crossed.near (number (not b) (root (not b)))) (number k (child k))) (not_not b) (cross_root (not b))))
      | inr rest ↦ elim rest [
        | inl c ↦ subst (λ z. Contains (crossed.near z) (number b i)) (sym c.2)
            (subst (λ z. Contains (crossed.near (number (not b) (child (not b)))) (number b z)) (sym c.0)
            (subst (λ k. Contains (crossed.near (number (not b) (child (not b)))) (number k (root k))) (not_not b) (cross_child (not b))))
        | inr c ↦ subst (λ z. Contains (crossed.near z) (number b i)) (sym c.1)
            (near_kept b w i ((λ e f. c.0.1 f e), (λ e f. c.0.0 f e)) ((tree b).both i w on))
      ]
    ]

    one_way : (b : Bool) (i x y : ℕ) → cross b i x ≡ cross b i y → x ≡ y
    unfolding IsCross
    one_way b i x y same = elim (cross_cases b i x) [
      | inl c ↦ elim (cross_cases b i y) [
        | inl e ↦ c.1 ∙ sym e.1
        | inr rest ↦ elim rest [
          | inl e ↦ absurd (ends_apart b (sym c.0 ∙ e.0))
          | inr e ↦ absurd (other_side b (root (not b)) y (sym c.2 ∙ (same ∙ e.1)))
        ]
      ]
      | inr first ↦ elim first [
        | inl c ↦ elim (cross_cases b i y) [
          | inl e ↦ absurd (ends_apart b (sym e.0 ∙ c.0))
          | inr rest ↦ elim rest [
            | inl e ↦ c.1 ∙ sym e.1
            | inr e ↦ absurd (other_side b (child (not b)) y (sym c.2 ∙ (same ∙ e.1)))
          ]
        ]
        | inr c ↦ elim (cross_cases b i y) [
          | inl e ↦ absurd (other_side b (root (not b)) x (sym e.2 ∙ (sym same ∙ c.1)))
          | inr rest ↦ elim rest [
            | inl e ↦ absurd (other_side b (child (not b)) x (sym e.2 ∙ (sym same ∙ c.1)))
            | inr e ↦ number_same b x y (sym c.1 ∙ (same ∙ e.1))
          ]
        ]
      ]
    ]

    -- ---- the way up
    rank_of : ℕ → ℕ
    rank_of v = (tree (kind v)).rank (place v)

    rank_number : (b : Bool) (i : ℕ) → rank_of (number b i) ≡ (tree b).rank i
    unfolding rank_of
    rank_number b i = ap (λ c. (tree c).rank (place (number b i))) (kind_number b i) ∙ ap (tree b).rank (place_number b i)

    up_by : Bool → ℕ → ℕ
    up_by b i = cond (eqb i (child b)) (number (not b) (root (not b))) (number b ((tree b).up i))

    up_of : ℕ → ℕ
    up_of v = up_by (kind v) (place v)

    up_number : (b : Bool) (i : ℕ) → up_of (number b i) ≡ up_by b i
    unfolding up_of
    up_number b i = ap (λ c. up_by c (place (number b i))) (kind_number b i) ∙ ap (up_by b) (place_number b i)

    up_child : (b : Bool) → up_by b (child b) ≡ number (not b) (root (not b))
    unfolding up_by
    up_child b = ap (λ s. cond s (number (not b) (root (not b))) (number b ((tree b).up (child b)))) (eqb-same (child b))

    up_other : (b : Bool) (i : ℕ) → (i ≡ child b → ⊥) → up_by b i ≡ number b ((tree b).up i)
    unfolding up_by
    up_other b i ne = ap (λ s. cond s (number (not b) (root (not b))) (number b ((tree b).up i))) (eqb-apart i (child b) ne)

    lower_by : (b : Bool) (i : ℕ) → rank_of (up_by b i) ≤ (tree b).rank i
    lower_by b i = elim (either (eqb i (child b))) [
      | inl e ↦
          (let same : up_by b i ≡ number (not b) (root (not b)) = ap (up_by b) (eqb-true i (child b) e) ∙ up_child b in
          let none : rank_of (up_by b i) ≡ 0 = ap rank_of same ∙ (rank_number (not b) (root (not b)) ∙ least (not b)) in
          omega (arith, none))
      | inr e ↦
          (let same : up_by b i ≡ number b ((tree b).up i) =
          up_other b i (λ own. false≢true (sym e ∙ subst (λ z. eqb i z ≡ true) own (eqb-same i))) in
          let low = (tree b).lower i in
          let rank = ap rank_of same ∙ rank_number b ((tree b).up i) in
          omega (arith, low, rank))
    ]

    AnEdge : ℕ → ℕ → Type 0
    AnEdge v w = ((w ≡ up_of v) × (rank_of w < rank_of v)) ⊎ ((v ≡ up_of w) × (rank_of v < rank_of w))

    crossed_edge : (b : Bool) (i w : ℕ) → Contains ((G b).near i) w → AnEdge (number b i) (cross b i w)
    unfolding AnEdge IsCross IsKept
    crossed_edge b i w on = elim (cross_cases b i w) [
      | inl c ↦
          (let up' : up_of (number b i) ≡ number (not b) (root (not b)) = up_number b i ∙ (ap (up_by b) c.0 ∙ up_child b) in
          let low = ap rank_of c.2 ∙ (rank_number (not b) (root (not b)) ∙ least (not b)) in
          let high = rank_number b i ∙ ap (tree b).rank c.0 in
          let less = (cut_up b).1 in
          inl (c.2 ∙ sym up', omega (arith, low, high, less)))
      | inr rest ↦ elim rest [
        | inl c ↦
            (let up' : up_of (cross b i w) ≡ number b (root b) = ap up_of c.2
            ∙ (up_number (not b) (child (not b)) ∙ (up_child (not b) ∙ ap (λ k. number k (root k)) (not_not b))) in
            let low = rank_number b i ∙ (ap (tree b).rank c.0 ∙ least b) in
            let high = ap rank_of c.2 ∙ rank_number (not b) (child (not b)) in
            let less = (cut_up (not b)).1 in
            inr (ap (number b) c.0 ∙ sym up', omega (arith, low, high, less)))
        | inr c ↦ elim ((tree b).edge i w on) [
          | inl high ↦
              (let up' : up_of (number b i) ≡ number b w =
              up_number b i ∙ (up_other b i (λ e. c.0.0 e (high.0 ∙ (ap (tree b).up e ∙ sym (cut_up b).0)))
              ∙ ap (number b) (sym high.0)) in
              let low = ap rank_of c.1 ∙ rank_number b w in
              let own = rank_number b i in
              let less = high.1 in
              inl (c.1 ∙ sym up', omega (arith, low, own, less)))
          | inr high ↦
              (let up' : up_of (cross b i w) ≡ number b i =
              ap up_of c.1 ∙ (up_number b w ∙
              (up_other b w (λ e. c.0.1 (high.0 ∙ (ap (tree b).up e ∙ sym (cut_up b).0)) e) ∙ ap (number b) (sym high.0))) in
              let low = ap rank_of c.1 ∙ rank_number b w in
              let own = rank_number b i in
              let less = high.1 in
              inr (sym up', omega (arith, low, own, less)))
        ]
      ]
    ]

    pub crossed_tree : IsTree a p crossed
    unfolding AnEdge rank_of up_of
    crossed_tree = record {
      degrees = λ v. (
          let count : length (crossed.near v) ≡ length ((G (kind v)).near (place v)) = length-map ((G (kind v)).near (place v))
          (cross (kind v) (place v)) in
          let most = (tree (kind v)).degrees (place v) in
          omega (arith, count, most));
      turns = λ v w on. (
          let (x, at, e) = Contains-map_cases (cross (kind v) (place v)) ((G (kind v)).near (place v)) w on in
          subst (λ z. crossed.active z ≡ not (crossed.active v)) e (crossed_turns (kind v) (place v) x at));
      both = λ v w on. (
          let (x, at, e) = Contains-map_cases (cross (kind v) (place v)) ((G (kind v)).near (place v)) w on in
          subst (λ z. Contains (crossed.near z) v) e
          (subst (λ z. Contains (crossed.near (cross (kind v) (place v) x)) z) (number_of v) (crossed_both (kind v) (place v) x at)));
      differ = λ v.
          different_map (cross (kind v) (place v)) ((G (kind v)).near (place v)) (λ x y at there. one_way (kind v) (place v) x y)
          ((tree (kind v)).differ (place v));
      rank = rank_of;
      up = up_of;
      lower = λ v. lower_by (kind v) (place v);
      edge = λ v w on. (
          let (x, at, e) = Contains-map_cases (cross (kind v) (place v)) ((G (kind v)).near (place v)) w on in
          subst (λ z. AnEdge v z) e (subst (λ z. AnEdge z (cross (kind v) (place v) x)) (number_of v)
          (crossed_edge (kind v) (place v) x at)));
    }
