-- Clear walks: their nodes stand where they lead, and in a forest they are different.
use Rattle.std.proofs.Common.{◌≡◌, ℕ, zero, suc, ◌≤◌, ◌<◌, Bool, true, [], ◌∷◌, length, get_or, refl, sym, ap, ◌∙◌, subst, arith}
use Rattle.std.specs.Prelude.{Contains, flat_map}
use Rattle.re_layers.specs.Networks.{IsForest, Network, ball, branch, others}
use Rattle.re_layers.proofs.Different.{never_back}
use Rattle.re_layers.proofs.Peeling.{clear, next, onward, trail}
use Rattle.re_layers.proofs.Ways.{clear_alive, clear_next, onward_cases}
use Rattle.re_labels.proofs.Membership.{Contains-flat_map, Contains-here, Contains-later}
use Rattle.re_layers.proofs.Balls.{ball_before, ball_own, others_near}

module _ (G : Network) (alive : ℕ → Bool) where
  -- the node at a place of the walk
  unfoldable pub node : ℕ → ℕ → ℕ → ℕ → ℕ
  node k x v i = get_or (trail G alive k x v) i 0

  pub length-trail : (k x v : ℕ) → length (trail G alive k x v) ≡ suc (suc k)
  unfolding trail
  length-trail zero x v = refl
  length-trail (suc k) x v = ap suc (length-trail k v (next G alive x v))

  pub node_first : (k x v : ℕ) → node k x v 0 ≡ x
  unfolding trail node
  node_first zero x v = refl
  node_first (suc k) x v = refl

  pub node_later : (k x v i : ℕ) → node (suc k) x v (suc i) ≡ node k v (next G alive x v) i
  unfolding trail node
  node_later k x v i = refl

  pub node_second : (k x v : ℕ) → node k x v 1 ≡ v
  unfolding trail node
  node_second zero x v = refl
  node_second (suc k) x v = node_first k v (next G alive x v)

  -- the only way on from an inner node leads to the one behind it
  pub trail_onward : (k x v i : ℕ) → clear G alive k x v ≡ true → i < k
      → (onward G alive (node k x v i) (node k x v (suc i)) ≡ node k x v (suc (suc i)) ∷ []) × (alive (node k x v (suc i)) ≡ true)
  trail_onward zero x v i h l = absurd (omega arith)
  trail_onward (suc k) x v zero h l =
      rw (node_first (suc k) x v, node_later k x v 1, node_second (suc k) x v, node_second k v (next G alive x v)) ((clear_next G alive k x v h).0, clear_alive G alive (suc k) x v h)
  trail_onward (suc k) x v (suc i) h l =
      let (one, lives) = trail_onward k v (next G alive x v) i (clear_next G alive k x v h).1 (omega arith) in
      rw (node_later k x v i, node_later k x v (suc i), node_later k x v (suc (suc i))) (one, lives)

  -- all from v on are alive
  pub trail_alive : (k x v i : ℕ) → clear G alive k x v ≡ true → i ≤ k → alive (node k x v (suc i)) ≡ true
  trail_alive k x v zero h l = rw (node_second k x v) (clear_alive G alive k x v h)
  trail_alive zero x v (suc i) h l = absurd (omega arith)
  trail_alive (suc k) x v (suc i) h l = rw (node_later k x v (suc i)) (trail_alive k v (next G alive x v) i (clear_next G alive k x v h).1 (omega arith))

  next_held : (k x v : ℕ) → clear G alive (suc k) x v ≡ true → Contains (others G x v) (next G alive x v)
  next_held k x v h =
      (onward_cases G alive x v (next G alive x v)
      (subst (λ ys. Contains ys (next G alive x v)) (sym (clear_next G alive k x v h).0) (Contains-here (next G alive x v) []))).0

  -- so many hops lead there
  pub trail_near : (k x v i : ℕ) → clear G alive k x v ≡ true → i ≤ k → Contains (ball G i v) (node k x v (suc i))
  trail_near k x v zero h l = rw (node_second k x v) (ball_own G 0 v)
  trail_near zero x v (suc i) h l = absurd (omega arith)
  trail_near (suc k) x v (suc i) h l =
      rw (node_later k x v (suc i)) (ball_before G i v (next G alive x v) (node k v (next G alive x v) (suc i)) (others_near G x v (next G alive x v) (next_held k x v h)) (trail_near k v (next G alive x v) i (clear_next G alive k x v h).1 (omega arith)))

  -- and they never turn back
  pub trail_branch : (k x v i : ℕ) → clear G alive k x v ≡ true → i ≤ k → Contains (branch G i x v) (node k x v (suc i))
  trail_branch k x v zero h l = rw (node_second k x v) (Contains-here v [])
  trail_branch zero x v (suc i) h l = absurd (omega arith)
  trail_branch (suc k) x v (suc i) h l =
      rw (node_later k x v (suc i))
      (Contains-later (node k v (next G alive x v) (suc i)) v (flat_map (λ w. branch G i v w) (others G x v))
      (Contains-flat_map (λ w. branch G i v w) (others G x v) (next G alive x v) (node k v (next G alive x v) (suc i)) (next_held k x v h)
      (trail_branch k v (next G alive x v) i (clear_next G alive k x v h).1 (omega arith))))

  -- so they lead to different nodes
  pub trail_apart : {a p N : ℕ} → IsForest a p N G → (k x v i j : ℕ) → Contains (G.near x) v → clear G alive k x v ≡ true → i < j → j ≤ suc k
      → node k x v i ≡ node k x v j → ⊥
  trail_apart is k x v i zero on h low high e = absurd (omega arith)
  trail_apart is k x v zero (suc j) on h low high e =
      never_back is j x v (node k x v (suc j)) on (trail_branch k x v j h (omega arith)) (sym (node_first k x v) ∙ e)
  trail_apart is zero x v (suc i) (suc j) on h low high e = absurd (omega arith)
  trail_apart is (suc k) x v (suc i) (suc j) on h low high e =
      trail_apart is k v (next G alive x v) i j (others_near G x v (next G alive x v) (next_held k x v h)) (clear_next G alive k x v h).1 (omega arith) (omega arith)
      (sym (node_later k x v i) ∙ (e ∙ node_later k x v j))
