-- Rounds of rake and compress are local.
use Rattle.std.proofs.Common.{◌≡◌, ℕ, zero, suc, ◌+◌, ◌*◌, ◌%◌, ◌≤◌, Bool, cond, eqb, List, [], ◌∷◌, length, get_or, refl, ap, ◌∙◌, arith}
use Rattle.std.specs.Prelude.{Contains, filter, flat_map, ◌&&◌, not}
use Rattle.std.proofs.Math.Nat.{mul-le-mul_right}
use Rattle.re_layers.specs.Networks.{AreSame, IsLocal, Network, ball}
use Rattle.re_layers.proofs.LastSteps.{layer, layer_upto, path}
use Rattle.re_layers.proofs.Locality.{same_active, same_ball, same_fewer, same_near}
use Rattle.re_labels.proofs.Membership.{Contains-filter_cases, Contains-here, filter-alike, flat_map-alike}
use Rattle.re_layers.proofs.Peeling.{any_below, claim, claim_on, clear, leading, living, next, onward, owned, removed, trail, walk_from}
use Rattle.re_layers.proofs.Rounds.{Plan, alive, chosen, path_at, period, raked, removed_at}

both_same : {b b' c c' d d' : Bool} → b ≡ b' → c ≡ c' → d ≡ d' → (b && (c && d)) ≡ (b' && (c' && d'))
both_same e f g = cc

-- ---- one step
-- two networks, and which nodes are alive and chosen in each: the same within T hops
module _ (G H : Network) (T : ℕ) (alive alive' : ℕ → Bool) (agree : (v : ℕ) → AreSame T G H v → alive v ≡ alive' v) where
  living_same : (n v : ℕ) → suc T ≤ n → AreSame n G H v → living G alive v ≡ living H alive' v
  living_same zero v l same = absurd (omega arith)
  living_same (suc n) v l same =
      filter-alike alive alive' (G.near v) (λ w on. agree w (same_fewer G H T n w (omega arith) (same_near G H n v w same on))) ∙ ap (filter alive') same.1

  onward_same : (n x v : ℕ) → suc T ≤ n → AreSame n G H v → onward G alive x v ≡ onward H alive' x v
  onward_same n x v l same = ap (filter (λ w. not (eqb w x))) (living_same n v l same)

  -- the next node stays or is a neighbour
  next_same : (n x v : ℕ) → AreSame (suc n) G H v → AreSame n G H (next G alive x v)
  next_same n x v same = at (onward G alive x v) (λ w held. (Contains-filter_cases alive (G.near v) w (Contains-filter_cases (λ w. not (eqb w x)) (living G alive v) w held).0).0)
    where
      at : (ys : List ℕ) → ((w : ℕ) → Contains ys w → Contains (G.near v) w) → AreSame n G H (get_or ys 0 v)
      at [] from = same_fewer G H n (suc n) v (omega arith) same
      at (y ∷ ys) from = same_near G H n v y same (from y (Contains-here y ys))

  trail_same : (k n x v : ℕ) → k + T ≤ n → AreSame n G H v → trail G alive k x v ≡ trail H alive' k x v
  unfolding trail
  trail_same zero n x v l same = refl
  trail_same (suc k) zero x v l same = absurd (omega arith)
  trail_same (suc k) (suc n) x v l same =
      let rest : trail G alive k v (next G alive x v) ≡ trail H alive' k v (next G alive x v) = trail_same k n v (next G alive x v) (omega (arith, l)) (next_same n x v same) in
      let step : next G alive x v ≡ next H alive' x v = ap (λ ys. get_or ys 0 v) (onward_same (suc n) x v (omega (arith, l)) same) in
      ap (λ ys. x ∷ ys) (rest ∙ ap (trail H alive' k v) step)

  clear_same : (k n x v : ℕ) → k + T ≤ n → AreSame n G H v → clear G alive k x v ≡ clear H alive' k x v
  unfolding clear
  clear_same zero n x v l same = agree v (same_fewer G H T n v (omega (arith, l)) same)
  clear_same (suc k) zero x v l same = absurd (omega arith)
  clear_same (suc k) (suc n) x v l same =
      let ways : onward G alive x v ≡ onward H alive' x v = onward_same (suc n) x v (omega (arith, l)) same in
      let rest : clear G alive k v (next G alive x v) ≡ clear H alive' k v (next G alive x v) = clear_same k n v (next G alive x v) (omega (arith, l)) (next_same n x v same) in
      let step : next G alive x v ≡ next H alive' x v = ap (λ ys. get_or ys 0 v) ways in
      both_same (agree v (same_fewer G H T (suc n) v (omega (arith, l)) same)) (ap (λ ys. eqb (length ys) 1) ways) (rest ∙ ap (clear H alive' k v) step)

  module _ (chosen chosen' : ℕ → Bool) (agree_chosen : (v : ℕ) → AreSame T G H v → chosen v ≡ chosen' v) (k : ℕ) where
    claim_same : (n u : ℕ) → suc k + T ≤ n → AreSame n G H u → claim G alive chosen k u ≡ claim H alive' chosen' k u
    unfolding claim
    claim_same n u l same =
        walk (filter (λ x. chosen u && clear G alive k x u) (living G alive u))
        ∙ ap (walk_from H alive' k u) (
        filter-alike (λ x. chosen u && clear G alive k x u) (λ x. chosen' u && clear H alive' k x u) (living G alive u) (λ x on. fits x)
        ∙ ap (filter (λ x. chosen' u && clear H alive' k x u)) (living_same n u (omega (arith, l)) same))
      where
        walk : (xs : List ℕ) → walk_from G alive k u xs ≡ walk_from H alive' k u xs
        walk [] = refl
        walk (x ∷ xs) = ap (λ own. own ∷ []) (trail_same k n x u (omega (arith, l)) same)

        fits : (x : ℕ) → (chosen u && clear G alive k x u) ≡ (chosen' u && clear H alive' k x u)
        fits x =
            let one : chosen u ≡ chosen' u = agree_chosen u (same_fewer G H T n u (omega (arith, l)) same) in
            let other : clear G alive k x u ≡ clear H alive' k x u = clear_same k n x u (omega (arith, l)) same in
            cc

    pub owned_same : (n v : ℕ) → k + (suc k + T) ≤ n → AreSame n G H v → owned G alive chosen k v ≡ owned H alive' chosen' k v
    unfolding owned claim_on
    owned_same n v l same =
        let (balls, within) = same_ball G H k (suc k + T) v (same_fewer G H (k + (suc k + T)) n v l same) in
        ap leading (
        flat_map-alike (claim_on G alive chosen k v) (claim_on H alive' chosen' k v) (ball G k v)
        (λ u at. ap (filter (λ own. any_below (λ i. eqb (get_or own (suc i) 0) v) k)) (claim_same (suc k + T) u (omega arith) (within u at)))
        ∙ ap (flat_map (claim_on H alive' chosen' k v)) balls)

    pub removed_same : (raked raked' : ℕ → Bool) (n v : ℕ) → k + (suc k + T) ≤ n → raked v ≡ raked' v → AreSame n G H v
        → removed G alive chosen raked k v ≡ removed H alive' chosen' raked' k v
    unfolding removed
    removed_same raked raked' n v l kind same =
        let paths : owned G alive chosen k v ≡ owned H alive' chosen' k v = owned_same n v l same in
        let lives : living G alive v ≡ living H alive' v = living_same n v (omega (arith, l)) same in
        rw (paths, lives, kind) refl

-- ---- all steps
module _ (p : Plan) (R : ℕ) (local : IsLocal R p.colour) where
  -- so many hops decide what happens in a step, where so many decided the step before
  abbrev hops : ℕ → ℕ
  hops s = R + s * suc (2 * p.inner)

  chosen_same : (G H : Network) (s n v : ℕ) → R ≤ n → AreSame n G H v → chosen p G s v ≡ chosen p H s v
  chosen_same G H s n v l same = ap (λ q. eqb q (s % period p)) (local G H v (same_fewer G H R n v l same))

  raked_same : (G H : Network) (s n v : ℕ) → AreSame n G H v → raked p G s v ≡ raked p H s v
  raked_same G H s n v same = ap (λ b. eqb (cond b p.colours (p.colours + 1)) (s % period p)) (same_active G H n v same)

  alive_same : (G H : Network) (s v : ℕ) → AreSame (hops s) G H v → alive p G s v ≡ alive p H s v
  unfolding alive
  alive_same G H zero v same = refl
  alive_same G H (suc s) v same = at (λ w at. alive_same G H s w at)
    where
      more : hops (suc s) ≡ p.inner + (suc p.inner + hops s)
      more = grind arith

      at : ((w : ℕ) → AreSame (hops s) G H w → alive p G s w ≡ alive p H s w)
          → (alive p G s v && not (removed_at p G s v)) ≡ (alive p H s v && not (removed_at p H s v))
      at before =
          let here : alive p G s v ≡ alive p H s v = before v (same_fewer G H (hops s) (hops (suc s)) v (omega (arith, more)) same) in
          let gone : removed_at p G s v ≡ removed_at p H s v =
          removed_same G H (hops s) (alive p G s) (alive p H s) before (chosen p G s) (chosen p H s) (λ w at. chosen_same G H s (hops s) w (omega arith) at) p.inner
          (raked p G s) (raked p H s) (hops (suc s)) v (omega (arith, more)) (raked_same G H s (hops (suc s)) v same) same in
          rw (here, gone) refl

  hops_rise : (s t : ℕ) → s ≤ t → hops s ≤ hops t
  hops_rise s t l = let more : s * suc (2 * p.inner) ≤ t * suc (2 * p.inner) = mul-le-mul_right (suc (2 * p.inner)) l in omega (arith, more)

  layer_same : (G H : Network) (M n v : ℕ) → hops M ≤ n → AreSame n G H v → layer p M G v ≡ layer p M H v
  unfolding layer
  layer_same G H zero n v l same = refl
  layer_same G H (suc M) n v l same =
      let here : alive p G (suc M) v ≡ alive p H (suc M) v = alive_same G H (suc M) v (same_fewer G H (hops (suc M)) n v l same) in
      let rest : layer p M G v ≡ layer p M H v = layer_same G H M n v (let rise = hops_rise M (suc M) (omega arith) in omega (arith, l, rise)) same in
      cc

  pub layer_local : (M n : ℕ) → hops (suc M) ≤ n → IsLocal n (layer p M)
  layer_local M n l G H v same = layer_same G H M n v (let rise = hops_rise M (suc M) (omega arith) in omega (arith, l, rise)) same

  pub path_local : (M n : ℕ) → hops (suc M) ≤ n → IsLocal n (path p M)
  unfolding path
  path_local M n l G H v same = one ∙ ap (λ s. path_at p H s v) (layer_local M n l G H v same)
    where
      s : ℕ
      s = layer p M G v

      more : hops (suc s) ≡ p.inner + (suc p.inner + hops s)
      more = grind arith

      one : path_at p G s v ≡ path_at p H s v
      one =
          let rise = hops_rise (suc s) (suc M) (let upto = layer_upto p G M v in omega (arith, upto)) in
          owned_same G H (hops s) (alive p G s) (alive p H s) (λ w at. alive_same G H s w at) (chosen p G s) (chosen p H s)
          (λ w at. chosen_same G H s (hops s) w (omega arith) at) p.inner n v (omega (arith, l, rise, more)) same
