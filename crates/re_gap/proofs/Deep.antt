-- Walks down from the root of a tree in which each node has two neighbours at least: they go on without end, and lead far from the root.
use Rattle.std.proofs.Common.{◌≡◌, ℕ, zero, suc, ◌+◌, ◌≤◌, ◌<◌, List, [], ◌∷◌, length, refl, sym, ap, ◌∙◌, subst, inl, inr, arith}
use Rattle.std.specs.Prelude.{Contains}
use Rattle.std.proofs.lemmas.Bool.Decides.{eqb_tells}
use Rattle.re_forests.proofs.TreeWalks.{Walk}
use Rattle.re_gap.proofs.Rerooted.{IsRootedAt}
use Rattle.re_layers.proofs.Balls.{ball_back, ball_first, ball_none}
use Rattle.re_labels.proofs.Membership.{Contains-here, Contains-later}
use Rattle.re_layers.specs.Networks.{AreDifferent, Network, ball}

-- of two different neighbours one is another than u
pub other_one : (xs : List ℕ) (u : ℕ) → AreDifferent xs → 2 ≤ length xs → (w : ℕ) × Contains xs w × (w ≡ u → ⊥)
other_one [] u d l = absurd (omega arith)
other_one (x ∷ []) u d l = absurd (omega arith)
other_one (x ∷ y ∷ xs) u d l = elim (eqb_tells x u) [
  | inr t ↦ (x, Contains-here x (y ∷ xs), t.1)
  | inl t ↦ (y, Contains-later y x (y ∷ xs) (Contains-here y xs), λ e. d.0 (subst (Contains (y ∷ xs)) (e ∙ sym t.1) (Contains-here y xs)))
]

module _ {a p : ℕ} {G : Network} {r : ℕ} (rooted : IsRootedAt a p G r) where
  -- i steps up from x
  over : ℕ → ℕ → ℕ
  over zero x = x
  over (suc i) x = over i (rooted.tree.up x)

  over_next : (i x : ℕ) → over (suc i) x ≡ rooted.tree.up (over i x)
  unfolding over
  over_next zero x = refl
  over_next (suc i) x = over_next i (rooted.tree.up x)

  over_root : (i : ℕ) → over i r ≡ r
  unfolding over
  over_root zero = refl
  over_root (suc i) = ap (over i) rooted.stays ∙ over_root i

  -- k steps up lead to the root from all that k hops from it show
  over_ball : (k z : ℕ) → Contains (ball G k z) r → over k z ≡ r
  unfolding over
  over_ball zero z held = ball_none G z r held
  over_ball (suc k) z held = elim (ball_first G k z r held) [
    | inl e ↦ ap (over (suc k)) e ∙ over_root (suc k)
    | inr first ↦ by first.0 first.1 (over_ball k first.0 first.2)
  ]
    where
      by : (x : ℕ) → Contains (G.near z) x → over k x ≡ r → over (suc k) z ≡ r
      by x on e = elim (rooted.tree.edge z x on) [
        | inl high ↦ ap (over k) (sym high.0) ∙ e
        | inr high ↦
            ap (over (suc k)) high.0
            ∙ (over_next (suc k) x ∙ (ap rooted.tree.up (over_next k x ∙ (ap rooted.tree.up e ∙ rooted.stays)) ∙ rooted.stays))
      ]

  -- more than i steps up lead to the root
  pub IsDeep : ℕ → ℕ → Type 0
  IsDeep i y = (j : ℕ) → j ≤ i → over j y ≡ r → ⊥

  pub deep_far : (i k y : ℕ) → IsDeep i y → k ≤ i → Contains (ball G k r) y → ⊥
  unfolding IsDeep
  deep_far i k y deep low held = deep k low (over_ball k y (ball_back G rooted.tree.both k r y held))

  -- ---- edges that lead down
  abbrev pub Down : ℕ → ℕ → Type 0
  Down u v = Contains (G.near u) v × (u ≡ rooted.tree.up v) × (rooted.tree.rank u < rooted.tree.rank v)

  pub down_first : (v : ℕ) → Contains (G.near r) v → Down r v
  down_first v on = elim (rooted.tree.edge r v on) [
    | inl high ↦ absurd (let less = high.1 in let low = rooted.least in omega (arith, less, low))
    | inr high ↦ (on, high.0, high.1)
  ]

  pub down_next : (u v w : ℕ) → Down u v → Contains (G.near v) w → (w ≡ u → ⊥) → Down v w
  down_next u v w down on ne = elim (rooted.tree.edge v w on) [
    | inl high ↦ absurd (ne (high.0 ∙ sym down.1))
    | inr high ↦ (on, high.0, high.1)
  ]

  pub deep_first : (v : ℕ) → Contains (G.near r) v → IsDeep 0 v
  unfolding IsDeep over
  deep_first v on zero low e =
      let down = down_first v on in let less = down.2 in let same = ap rooted.tree.rank e in omega (arith, less, same)
  deep_first v on (suc j) low e = absurd (omega (arith, low))

  pub deep_next : (i u v : ℕ) → Down u v → IsDeep i u → IsDeep (suc i) v
  unfolding IsDeep over
  deep_next i u v down deep zero low e =
      let less = down.2 in let same = ap rooted.tree.rank e in let least = rooted.least in omega (arith, less, same, least)
  deep_next i u v down deep (suc j) low e = deep j (omega (arith, low)) (ap (over j) down.1 ∙ e)

  -- ---- a walk down through m nodes
  pub descent : (least : (v : ℕ) → 2 ≤ length (G.near v)) (m i u v : ℕ) → Down u v → IsDeep i v
      → (x : ℕ) × (y : ℕ) × Walk G m u v x y × Down x y × IsDeep (i + m) y
  descent least zero i u v down deep = (u, v, (refl, refl), down, subst (λ n. IsDeep n v) (let e : i ≡ i + zero = omega arith in e) deep)
  descent least (suc m) i u v down deep =
      let (w, on, ne) = other_one (G.near v) u (rooted.tree.differ v) (least v) in
      let next = down_next u v w down on ne in
      let (x, y, walk, last, far) = descent least m (suc i) v w next (deep_next i v w next deep) in
      (x, y, (w, on, ne, walk), last, subst (λ n. IsDeep n y) (let e : suc i + m ≡ i + suc m = omega arith in e) far)

  -- a walk down through m nodes, and an edge on, all of it as far from the root as it may be
  pub record IsArm (m n : ℕ) : Type 0 where
    pub before : ℕ
    pub inner : ℕ
    pub outer : ℕ
    pub walk : Walk G m r n before inner
    pub edge : Contains (G.near inner) outer
    pub ne : outer ≡ before → ⊥
    pub higher : rooted.tree.rank inner < rooted.tree.rank outer
    pub inner_far : (k : ℕ) → k ≤ m → Contains (ball G k r) inner → ⊥
    pub outer_far : (k : ℕ) → k ≤ m → Contains (ball G k r) outer → ⊥

  pub arm : (least : (v : ℕ) → 2 ≤ length (G.near v)) (m n : ℕ) → Contains (G.near r) n → IsArm m n
  arm least m n on =
      let (u, x, walk, down, deep) = descent least m 0 r n (down_first n on) (deep_first n on) in
      let (y, at, ne) = other_one (G.near x) u (rooted.tree.differ x) (least x) in
      let next = down_next u x y down at ne in
      let deep' = deep_next (0 + m) x y next deep in record {
        before = u;
        inner = x;
        outer = y;
        walk = walk;
        edge = at;
        ne = ne;
        higher = next.2;
        inner_far = λ k low held. deep_far (0 + m) k x deep (omega (arith, low)) held;
        outer_far = λ k low held. deep_far (suc (0 + m)) k y deep' (omega (arith, low)) held;
      }

  -- ranks rise along a walk down
  pub walk_ranks : (n u v x y : ℕ) → Down u v → Walk G n u v x y → rooted.tree.rank v ≤ rooted.tree.rank y
  walk_ranks zero u v x y down walk = let same = ap rooted.tree.rank walk.1 in omega (arith, same)
  walk_ranks (suc n) u v x y down walk =
      let next = down_next u v walk.0 down walk.1 walk.2 in
      let rest = walk_ranks n v walk.0 x y next walk.3 in
      let less = next.2 in
      omega (arith, rest, less)
