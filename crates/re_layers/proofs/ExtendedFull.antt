-- In the extension of a forest the surroundings of the nodes of the forest are full.
use Rattle.std.proofs.Common.{◌≡◌, ℕ, zero, suc, ◌+◌, ◌*◌, ◌≤◌, ◌<◌, Bool, true, false, eqb, leb, length, refl, sym, ap, ◌∙◌, subst, ◌⊎◌, inl, inr, arith}
use Rattle.std.specs.Prelude.{Contains, filter}
use Rattle.std.proofs.Math.Nat.{mul-le-mul_right}
use Rattle.std.proofs.lemmas.Bool.{false≢true, le-leb}
use Rattle.std.proofs.lemmas.Bool.Decides.{eqb_tells}
use Rattle.re_layers.proofs.Extending.{active_id, count_left, extended, full_first, id, missing, near_at, near_cases, near_id, not_own, of_kind, passes, passes_back, tree, zero_id}
use Rattle.re_layers.proofs.Filters.{either, filter_all}
use Rattle.re_layers.proofs.Full.{cut, cut_near, spread}
use Rattle.re_layers.proofs.NodeNumbers.{kind}
use Rattle.re_layers.proofs.RegularTrees.{reach, reach_more, up, up_lower, whole_both, whole_full, whole_low, whole_ups}
use Rattle.re_layers.specs.Full.{IsFull}
use Rattle.re_layers.specs.Networks.{Network}

module _ (m : Bool → ℕ) (some : (k : Bool) → 1 ≤ m k) where
  abbrev M : Bool → Bool → ℕ
  M act k = m (of_kind act k)

  abbrev some_of : (act k : Bool) → 1 ≤ M act k
  some_of act k = some (of_kind act k)

  abbrev pub far : ℕ → ℕ
  far s = reach m some s

  far_of : (act : Bool) (s : ℕ) → reach (M act) (some_of act) s ≡ far s
  far_of true s = refl
  far_of false s = ap (λ x. (x + 2) * (2 * s + 2)) (let e : m false + m true ≡ m true + m false = omega arith in e)

  tree_low : (act : Bool) (c c' s : ℕ) → c < s → Contains ((tree m some act).near c) c' → c' < far s
  tree_low act c c' s low on = subst (λ x. c' < x) (far_of act s) (whole_low (M act) (some_of act) c c' s low on)

  far_more : (s : ℕ) → s ≤ far s
  far_more s = reach_more m some s

  far_some : (s : ℕ) → 1 ≤ s → 1 ≤ far s
  far_some s l = let more = far_more s in omega (arith, more, l)

  spread_far : (r s : ℕ) → s ≤ spread far r s
  spread_far zero s = far_more s
  spread_far (suc r) s = let one = far_more s in let rest = spread_far r (far s) in omega (arith, one, rest)

  far_spread : (r s : ℕ) → far s ≤ spread far r s
  far_spread zero s = omega arith
  far_spread (suc r) s = spread_far r (far s)

  module _ (W : ℕ) (G : Network) (few : (v : ℕ) → length (G.near v) ≤ suc (m (G.active v))) where
    abbrev tree_at : ℕ → Network
    tree_at v = tree m some (G.active v)

    abbrev up_at : ℕ → ℕ → ℕ
    up_at v c = up (M (G.active v)) (some_of (G.active v)) c

    above : ℕ → ℕ → ℕ → ℕ
    above v zero c = c
    above v (suc i) c = above v i (up_at v c)

    -- edges of node 0 that aren't left
    abbrev IsDropped : ℕ → ℕ → Type 0
    IsDropped v d = Contains ((tree_at v).near 0) d × (passes (missing m some W G v) 0 d ≡ false)

    -- nodes that hang at v
    IsGood : ℕ → ℕ → Type 0
    IsGood v c = (i : ℕ) → IsDropped v (above v i c) → ⊥

    above_first : (v i : ℕ) → above v i 0 ≡ 0
    unfolding above
    above_first v zero = refl
    above_first v (suc i) =
        let less = up_lower (M (G.active v)) (some_of (G.active v)) 0 in
        let top : up_at v 0 ≡ 0 = omega (arith, less) in
        ap (above v i) top ∙ above_first v i

    good_first : (v : ℕ) → IsGood v 0
    unfolding IsGood
    good_first v i dropped = not_own m some W G v 0 (subst (Contains ((tree_at v).near 0)) (above_first v i) dropped.0)

    good_next : (v c c' : ℕ) → IsGood v c → Contains ((tree_at v).near c) c' → passes (missing m some W G v) c c' ≡ true → IsGood v c'
    unfolding IsGood above
    good_next v c c' good on ok = elim (whole_ups (M (G.active v)) (some_of (G.active v)) c c' on) [
      | inl q ↦ λ i dropped. good (suc i) (subst (λ x. IsDropped v (above v i x)) q.0 dropped)
      | inr q ↦ λ i. below i q.0
    ]
      where
        below : (i : ℕ) → c ≡ up_at v c' → IsDropped v (above v i c') → ⊥
        below zero e dropped = elim (whole_ups (M (G.active v)) (some_of (G.active v)) 0 c' dropped.0) [
          | inl h ↦ (let less = h.1 in omega (arith, less))
          | inr h ↦
              (let top : c ≡ 0 = e ∙ sym h.0 in
              let passed : passes (missing m some W G v) 0 c' ≡ true = subst (λ x. passes (missing m some W G v) x c' ≡ true) top ok in
              false≢true (sym dropped.1 ∙ passed))
        ]
        below (suc i) e dropped = good i (subst (λ x. IsDropped v (above v i x)) (sym e) dropped)

    -- at each of them no port is free
    full_at : (v c : ℕ) → IsGood v c → length (near_at m some W G v c) ≡ suc (m (of_kind (G.active v) (kind c)))
    unfolding IsGood above
    full_at v c good = elim (eqb_tells c 0) [
      | inl t ↦ subst (λ x. length (near_at m some W G v x) ≡ suc (m (of_kind (G.active v) (kind x)))) (sym t.1) (full_first m some W G v (few v))
      | inr t ↦
          count_left m some W G v c t.1
          ∙ ap length (filter_all (passes (missing m some W G v) c) ((tree_at v).near c) (λ c' on. passed t.0 c' on (eqb_tells c' 0)))
          ∙ whole_full (M (G.active v)) (some_of (G.active v)) c
    ]
      where
        passed : eqb c 0 ≡ false → (c' : ℕ) → Contains ((tree_at v).near c) c' → ((eqb c' 0 ≡ true) × (c' ≡ 0)) ⊎ ((eqb c' 0 ≡ false) × (c' ≡ 0 → ⊥))
            → passes (missing m some W G v) c c' ≡ true
        passed e c' on (inr (b, other)) = rw (e, b) refl
        passed e c' on (inl (b, top)) = elim (either (passes (missing m some W G v) 0 c)) [
          | inl ok ↦ ap (passes (missing m some W G v) c) top ∙ passes_back (missing m some W G v) c 0 ∙ ok
          | inr fails ↦ absurd (good 0 (whole_both (M (G.active v)) (some_of (G.active v)) c 0 (subst (Contains ((tree_at v).near c)) top on), fails))
        ]

    -- ---- below a bound
    id_low : (v c s : ℕ) → v < W → c < s → id m some W G v c < s * W
    id_low v c s low less =
        let more : suc c * W ≤ s * W = mul-le-mul_right W (let l : suc c ≤ s = omega (arith, less) in l) in
        let one : suc c * W ≡ c * W + W = omega arith in
        omega (arith, more, one, low)

    near_low : (v c w s : ℕ) → v < W → c < s → Contains (near_at m some W G v c) w → w < far s * W
    near_low v c w s low less held = elim (near_cases m some W G v c w held) [
      | inl q ↦
          (let inside = q.1 in
          let more : 1 * W ≤ far s * W = mul-le-mul_right W (far_some s (omega (arith, less))) in
          omega (arith, inside, more))
      | inr q ↦ (let (c', on, ok, e) = q in
          let there = id_low v c' (far s) low (tree_low (G.active v) c c' s less on) in
          omega (arith, e, there))
    ]

    module _ (N : ℕ) where
      near_whole : (v c s : ℕ) → v < W → c < s → far s * W ≤ N → (cut N (extended m some W G)).near (id m some W G v c) ≡ near_at m some W G v c
      near_whole v c s low less most =
          let own = id_low v c s low less in
          let more : s * W ≤ far s * W = mul-le-mul_right W (far_more s) in
          cut_near N (extended m some W G) (id m some W G v c) (omega (arith, own, more, most))
          ∙ ap (filter (λ w. leb (suc w) N)) (near_id m some W G v c low)
          ∙ filter_all (λ w. leb (suc w) N) (near_at m some W G v c)
          (λ w held. le-leb (suc w) N (let there = near_low v c w s low less held in omega (arith, there, most)))

      here : (v c s : ℕ) → v < W → IsGood v c → c < s → far s * W ≤ N
          → length ((cut N (extended m some W G)).near (id m some W G v c)) ≡ suc (m ((extended m some W G).active (id m some W G v c)))
      here v c s low good less most =
          ap length (near_whole v c s low less most) ∙ full_at v c good ∙ ap (λ k. suc (m k)) (sym (active_id m some W G v c low))

      full_by : (r v c s : ℕ) → v < W → IsGood v c → c < s → spread far r s * W ≤ N
          → IsFull (λ k. suc (m k)) (cut N (extended m some W G)) r (id m some W G v c)
      full_by zero v c s low good less most = here v c s low good less most
      full_by (suc r) v c s low good less most = (
        here v c s low good less enough,
        λ w held. next w (λ u d low' good' less'. full_by r u d (far s) low' good' less' most)
            (near_cases m some W G v c w (subst (λ xs. Contains xs w) (near_whole v c s low less enough) held)),
      )
        where
          enough : far s * W ≤ N
          enough = let more : far s * W ≤ spread far r (far s) * W = mul-le-mul_right W (spread_far r (far s)) in omega (arith, more, most)

          next : (w : ℕ) → ((u d : ℕ) → u < W → IsGood u d → d < far s → IsFull (λ k. suc (m k)) (cut N (extended m some W G)) r (id m some W G u d))
              → ((c ≡ 0) × (w < W) × Contains (G.near v) w)
              ⊎ ((c' : ℕ) × Contains ((tree_at v).near c) c' × (passes (missing m some W G v) c c' ≡ true) × (w ≡ id m some W G v c'))
              → IsFull (λ k. suc (m k)) (cut N (extended m some W G)) r w
          next w before (inl (e, low', on)) =
              subst (λ x. IsFull (λ k. suc (m k)) (cut N (extended m some W G)) r x) (zero_id m some W G w)
              (before w 0 low' (good_first w) (far_some s (omega (arith, less))))
          next w before (inr (c', on, ok, e)) =
              subst (λ x. IsFull (λ k. suc (m k)) (cut N (extended m some W G)) r x) (sym e)
              (before v c' low (good_next v c c' good on ok) (tree_low (G.active v) c c' s less on))

      -- nodes of the forest
      pub extended_full : (r v : ℕ) → v < W → spread far r 1 * W ≤ N → IsFull (λ k. suc (m k)) (cut N (extended m some W G)) r v
      extended_full r v low most =
          subst (λ x. IsFull (λ k. suc (m k)) (cut N (extended m some W G)) r x) (zero_id m some W G v)
          (full_by r v 0 1 low (good_first v) (omega arith) most)

      pub real_near : (r v : ℕ) → v < W → spread far r 1 * W ≤ N → (cut N (extended m some W G)).near v ≡ near_at m some W G v 0
      real_near r v low most =
          let more : far 1 * W ≤ spread far r 1 * W = mul-le-mul_right W (far_spread r 1) in
          subst (λ x. (cut N (extended m some W G)).near x ≡ near_at m some W G v 0) (zero_id m some W G v)
          (near_whole v 0 1 low (omega arith) (omega (arith, more, most)))
