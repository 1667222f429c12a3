-- Balls: they hold the ends of all walks, also of those that turn back; so they grow hop by hop, are symmetric, and have boundedly many nodes.
use Rattle.std.proofs.Common.{◌≡◌, ℕ, zero, suc, ◌+◌, ◌*◌, ◌≤◌, Bool, true, false, not, [], length, refl, sym, ap, subst, arith, ◌⊎◌, inl, inr, suc-add}
use Rattle.std.specs.Prelude.{Contains, ◌==◌, flat_map, if◌then◌else◌}
use Rattle.std.proofs.Math.Nat.{mul-le-mul_right}
use Rattle.std.proofs.lemmas.Bool.{eqb-true}
use Rattle.re_labels.proofs.Membership.{Contains-cases, Contains-filter, Contains-filter_cases, Contains-flat_map, Contains-flat_map_cases, Contains-here, Contains-later, Contains-none, length-filter_most}
use Rattle.re_layers.proofs.Membership.{length-pieces}
use Rattle.re_layers.specs.Networks.{IsForest, Network, ball, branch, others}

-- ---- the neighbours but one
pub others_near : (G : Network) (u v w : ℕ) → Contains (others G u v) w → Contains (G.near v) w
others_near G u v w held = (Contains-filter_cases (λ w. not (w == u)) (G.near v) w held).0

-- a neighbour is that one or one of the others
pub others_cases : (G : Network) (u v w : ℕ) → Contains (G.near v) w → (w ≡ u) ⊎ Contains (others G u v) w
others_cases G u v w held = by (w == u) refl
  where
    by : (b : Bool) → (w == u) ≡ b → (w ≡ u) ⊎ Contains (others G u v) w
    by true e = inl (eqb-true w u e)
    by false e = inr (Contains-filter (λ w. not (w == u)) (G.near v) w held (ap not e))

-- ---- branches
pub branch_more : (G : Network) (k u v w : ℕ) → Contains (branch G k u v) w → Contains (branch G (suc k) u v) w
branch_more G zero u v w held = elim (Contains-cases w v [] held) [
  | inl e ↦ subst (λ z. Contains (branch G 1 u z) w) e (Contains-here w _)
  | inr none ↦ absurd (Contains-none w none)
]
branch_more G (suc k) u v w held = elim (Contains-cases w v (flat_map (λ x. branch G k v x) (others G u v)) held) [
  | inl e ↦ subst (λ z. Contains (branch G (suc (suc k)) u z) w) e (Contains-here w _)
  | inr there ↦
      let (x, near, at) = Contains-flat_map_cases (λ x. branch G k v x) (others G u v) w there in
      Contains-later w v (flat_map (λ x. branch G (suc k) v x) (others G u v)) (Contains-flat_map (λ x. branch G (suc k) v x) (others G u v) x w near (branch_more G k v x w at))
]

pub branch_ball : (G : Network) (k u v w : ℕ) → Contains (branch G k u v) w → Contains (ball G k v) w
branch_ball G zero u v w held = held
branch_ball G (suc k) u v w held = elim (Contains-cases w v (flat_map (λ x. branch G k v x) (others G u v)) held) [
  | inl e ↦ subst (λ z. Contains (ball G (suc k) z) w) e (Contains-here w _)
  | inr there ↦
      let (x, near, at) = Contains-flat_map_cases (λ x. branch G k v x) (others G u v) w there in
      Contains-later w v (flat_map (λ x. branch G k v x) (G.near v)) (Contains-flat_map (λ x. branch G k v x) (G.near v) x w (others_near G u v x near) at)
]

-- ---- balls
pub ball_own : (G : Network) (k v : ℕ) → Contains (ball G k v) v
ball_own G zero v = Contains-here v []
ball_own G (suc k) v = Contains-here v (flat_map (λ w. branch G k v w) (G.near v))

pub ball_none : (G : Network) (v w : ℕ) → Contains (ball G zero v) w → v ≡ w
ball_none G v w held = elim (Contains-cases w v [] held) [ inl e ↦ sym e | inr none ↦ absurd (Contains-none w none) ]

-- what a ball holds is its centre, or in a ball of one hop less around a neighbour
pub ball_first : (G : Network) (k v w : ℕ) → Contains (ball G (suc k) v) w → (v ≡ w) ⊎ ((x : ℕ) × Contains (G.near v) x × Contains (ball G k x) w)
ball_first G k v w held = elim (Contains-cases w v (flat_map (λ x. branch G k v x) (G.near v)) held) [
  | inl e ↦ inl (sym e)
  | inr there ↦ (let (x, near, at) = Contains-flat_map_cases (λ x. branch G k v x) (G.near v) w there in inr (x, near, branch_ball G k v x w at))
]

pub ball_more : (G : Network) (k v w : ℕ) → Contains (ball G k v) w → Contains (ball G (suc k) v) w
ball_more G zero v w held = subst (λ z. Contains (ball G 1 v) z) (ball_none G v w held) (ball_own G 1 v)
ball_more G (suc k) v w held = elim (Contains-cases w v (flat_map (λ x. branch G k v x) (G.near v)) held) [
  | inl e ↦ subst (λ z. Contains (ball G (suc (suc k)) v) z) (sym e) (ball_own G (suc (suc k)) v)
  | inr there ↦
      let (x, near, at) = Contains-flat_map_cases (λ x. branch G k v x) (G.near v) w there in
      Contains-later w v (flat_map (λ x. branch G (suc k) v x) (G.near v)) (Contains-flat_map (λ x. branch G (suc k) v x) (G.near v) x w near (branch_more G k v x w at))
]

-- a hop in front: the walk goes on, or turns back and is shorter by two hops
pub ball_before : (G : Network) (k v x w : ℕ) → Contains (G.near v) x → Contains (ball G k x) w → Contains (ball G (suc k) v) w
ball_before G k v x w near held = enter k w (into k held)
  where
    -- in the branch that goes on from v, or back at v
    into : (k : ℕ) → Contains (ball G k x) w → Contains (branch G k v x) w ⊎ Contains (ball G k v) w
    into zero held = inl held
    into (suc j) held = elim (Contains-cases w x (flat_map (λ y. branch G j x y) (G.near x)) held) [
      | inl e ↦ inl (subst (λ z. Contains (branch G (suc j) v z) w) e (Contains-here w _))
      | inr there ↦
          let (y, by, at) = Contains-flat_map_cases (λ y. branch G j x y) (G.near x) w there in
          elim (others_cases G v x y by) [
            | inl e ↦ inr (ball_more G j v w (subst (λ z. Contains (ball G j z) w) e (branch_ball G j x y w at)))
            | inr other ↦ inl (Contains-later w x (flat_map (λ y. branch G j x y) (others G v x)) (Contains-flat_map (λ y. branch G j x y) (others G v x) y w other at))
          ]
    ]

    enter : (k w : ℕ) → Contains (branch G k v x) w ⊎ Contains (ball G k v) w → Contains (ball G (suc k) v) w
    enter k w (inl on) = Contains-later w v (flat_map (λ x. branch G k v x) (G.near v)) (Contains-flat_map (λ x. branch G k v x) (G.near v) x w near on)
    enter k w (inr back) = ball_more G k v w back

-- a hop behind
pub ball_step : (G : Network) (k v w x : ℕ) → Contains (ball G k v) w → Contains (G.near w) x → Contains (ball G (suc k) v) x
ball_step G zero v w x held near =
    ball_before G zero v x x (subst (λ z. Contains (G.near z) x) (sym (ball_none G v w held)) near) (ball_own G zero x)
ball_step G (suc k) v w x held near = elim (ball_first G k v w held) [
  | inl e ↦ more (ball_before G k v x x (subst (λ z. Contains (G.near z) x) (sym e) near) (ball_own G k x))
  | inr first ↦ (let (y, at, rest) = first in ball_before G (suc k) v y x at (ball_step G k y w x rest near))
]
  where
    more : Contains (ball G (suc k) v) x → Contains (ball G (suc (suc k)) v) x
    more = ball_more G (suc k) v x

pub ball_near : (G : Network) (k v w : ℕ) → Contains (G.near v) w → Contains (ball G (suc k) v) w
ball_near G k v w near = ball_before G k v w w near (ball_own G k w)

pub ball_most : (G : Network) (j k v w : ℕ) → j ≤ k → Contains (ball G j v) w → Contains (ball G k v) w
ball_most G zero zero v w l held = held
ball_most G zero (suc k) v w l held = ball_more G k v w (ball_most G zero k v w (omega arith) held)
ball_most G (suc j) zero v w l held = absurd (omega arith)
ball_most G (suc j) (suc k) v w l held = elim (ball_first G j v w held) [
  | inl e ↦ subst (λ z. Contains (ball G (suc k) v) z) e (ball_own G (suc k) v)
  | inr first ↦ (let (x, near, rest) = first in ball_before G k v x w near (ball_most G j k x w (omega (arith, l)) rest))
]

-- a walk behind another
pub ball_join : (G : Network) (j k v w x : ℕ) → Contains (ball G j v) w → Contains (ball G k w) x → Contains (ball G (j + k) v) x
ball_join G zero k v w x held next =
    ball_most G k (zero + k) v x (omega arith) (subst (λ z. Contains (ball G k z) x) (sym (ball_none G v w held)) next)
ball_join G (suc j) k v w x held next = elim (ball_first G j v w held) [
  | inl e ↦ ball_most G k (suc j + k) v x (omega arith) (subst (λ z. Contains (ball G k z) x) (sym e) next)
  | inr first ↦
      let (y, near, rest) = first in
      subst (λ n. Contains (ball G n v) x) (sym (suc-add j k)) (ball_before G (j + k) v y x near (ball_join G j k y w x rest next))
]

-- the way back
pub ball_back : (G : Network) → ((v w : ℕ) → Contains (G.near v) w → Contains (G.near w) v)
    → (k v w : ℕ) → Contains (ball G k v) w → Contains (ball G k w) v
ball_back G both zero v w held = subst (λ z. Contains (ball G zero z) v) (ball_none G v w held) (ball_own G zero v)
ball_back G both (suc k) v w held = elim (ball_first G k v w held) [
  | inl e ↦ subst (λ z. Contains (ball G (suc k) z) v) e (ball_own G (suc k) v)
  | inr first ↦ (let (x, near, rest) = first in ball_step G k w x v (ball_back G both k x w rest) (both v x near))
]

-- ---- how many nodes there are in balls
-- at most so many within k hops, where nodes have at most m neighbours
abbrev pub ball_size : ℕ → ℕ → ℕ
ball_size m zero = 1
ball_size m (suc k) = suc (m * ball_size m k)

length-branch : (G : Network) (m : ℕ) → ((v : ℕ) → length (G.near v) ≤ m) → (k u v : ℕ) → length (branch G k u v) ≤ ball_size m k
length-branch G m few zero u v = omega arith
length-branch G m few (suc k) u v =
    let pieces : length (flat_map (λ w. branch G k v w) (others G u v)) ≤ length (others G u v) * ball_size m k =
    length-pieces (λ w. branch G k v w) (ball_size m k) (others G u v) (λ w held. length-branch G m few k v w) in
    let fewer : length (others G u v) ≤ length (G.near v) = length-filter_most (λ w. not (w == u)) (G.near v) in
    let more : length (others G u v) * ball_size m k ≤ m * ball_size m k = mul-le-mul_right (ball_size m k) (omega (arith, fewer, few v)) in
    omega (arith, pieces, more)

pub length-ball : (G : Network) (m : ℕ) → ((v : ℕ) → length (G.near v) ≤ m) → (k v : ℕ) → length (ball G k v) ≤ ball_size m k
length-ball G m few zero v = omega arith
length-ball G m few (suc k) v =
    let pieces : length (flat_map (λ w. branch G k v w) (G.near v)) ≤ length (G.near v) * ball_size m k =
    length-pieces (λ w. branch G k v w) (ball_size m k) (G.near v) (λ w held. length-branch G m few k v w) in
    let more : length (G.near v) * ball_size m k ≤ m * ball_size m k = mul-le-mul_right (ball_size m k) (few v) in
    omega (arith, pieces, more)

pub degree_most : {a p N : ℕ} (G : Network) → IsForest a p N G → (v : ℕ) → length (G.near v) ≤ a + p
degree_most {a} {p} G is v = by (G.active v) (is.degrees v)
  where
    by : (b : Bool) → length (G.near v) ≤ (if b then a else p) → length (G.near v) ≤ a + p
    by true l = omega arith
    by false l = omega arith

pub length-ball_forest : {a p N : ℕ} (G : Network) → IsForest a p N G → (k v : ℕ) → length (ball G k v) ≤ ball_size (a + p) k
length-ball_forest {a} {p} G is k v = length-ball G (a + p) (degree_most G is) k v
