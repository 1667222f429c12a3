-- The extension of a forest is a forest; and it shows as much as the forest does.
use Rattle.std.proofs.Common.{◌≡◌, ℕ, zero, suc, ◌+◌, ◌*◌, ◌/◌, ◌%◌, ◌≤◌, ◌<◌, Bool, true, false, cond, eqb, leb, List, [], length, refl, sym, ap, ◌∙◌, subst, ◌⊎◌, inl, inr, arith}
use Rattle.std.specs.Prelude.{Contains, filter, if◌then◌else◌}
use Rattle.std.proofs.Math.Nat.{mod-lt}
use Rattle.std.proofs.lemmas.Bool.{cond-false}
use Rattle.std.proofs.lemmas.Bool.Decides.{eqb_tells}
use Rattle.std.proofs.lemmas.Nat.{div-add-mod', div-mul-add, mod-mul-add}
use Rattle.re_layers.proofs.Different.{near_different}
use Rattle.re_layers.proofs.Extending.{active_id, apart_at, both_at, extended, few_at, id, missing, near_at, near_cases, near_id, of_kind, passes, tree, turns_at, zero_id}
use Rattle.re_layers.proofs.Full.{cut, cut_cases, cut_different, cut_fewer, cut_held}
use Rattle.re_layers.proofs.Locality.{same_less, same_near}
use Rattle.re_labels.proofs.Membership.{AllByRecursion-from_contains}
use Rattle.re_layers.proofs.NodeNumbers.{kind}
use Rattle.re_layers.proofs.RegularTrees.{up, up_lower, whole_ups}
use Rattle.re_layers.proofs.Rooted.{ball_different}
use Rattle.re_layers.proofs.Rooting.{IsRooting, forest_rooting}
use Rattle.re_layers.specs.Networks.{AreSame, IsForest, Network}

module _ (m : Bool → ℕ) (some : (k : Bool) → 1 ≤ m k) (W : ℕ) (pos : 0 < W) where
  module _ (G : Network) {N : ℕ} (is : IsForest (suc (m true)) (suc (m false)) N G) (enough : N ≤ W) {R : ℕ} {rank up_in : ℕ → ℕ} (r : IsRooting G R rank up_in) where
    abbrev E : Network
    E = extended m some W G

    abbrev node : ℕ → ℕ → ℕ
    node v c = id m some W G v c

    abbrev tree_up : ℕ → ℕ → ℕ
    tree_up v c = up (λ k. m (of_kind (G.active v) k)) (λ k. some (of_kind (G.active v) k)) c

    abbrev rank_at : ℕ → ℕ → ℕ
    rank_at v c = cond (eqb c 0) (rank v) (R + c)

    abbrev up_at : ℕ → ℕ → ℕ
    up_at v c = cond (eqb c 0) (up_in v) (node v (tree_up v c))

    abbrev rank_of : ℕ → ℕ
    rank_of x = rank_at (x % W) (x / W)

    abbrev up_of : ℕ → ℕ
    up_of x = up_at (x % W) (x / W)

    rank_node : (v c : ℕ) → v < W → rank_of (node v c) ≡ rank_at v c
    rank_node v c low = ap (λ u. rank_at u ((c * W + v) / W)) (mod-mul-add c W v low) ∙ ap (rank_at v) (div-mul-add c W v low)

    up_node : (v c : ℕ) → v < W → up_of (node v c) ≡ up_at v c
    up_node v c low = ap (λ u. up_at u ((c * W + v) / W)) (mod-mul-add c W v low) ∙ ap (up_at v) (div-mul-add c W v low)

    rank_real : (v : ℕ) → v < W → rank_of v ≡ rank v
    rank_real v low = subst (λ x. rank_of x ≡ rank v) (zero_id m some W G v) (rank_node v 0 low)

    up_real : (v : ℕ) → v < W → up_of v ≡ up_in v
    up_real v low = subst (λ x. up_of x ≡ up_in v) (zero_id m some W G v) (up_node v 0 low)

    rank_less : (v c c' : ℕ) → c' < c → rank_at v c' < R + c
    rank_less v c c' l = at (eqb c' 0)
      where
        at : (b : Bool) → cond b (rank v) (R + c') < R + c
        at true = let low = r.below v in omega (arith, low)
        at false = omega (arith, l)

    rank_high : (v c : ℕ) → (c ≡ 0 → ⊥) → rank_at v c ≡ R + c
    rank_high v c other = elim (eqb_tells c 0) [ inl t ↦ absurd (other t.1) | inr t ↦ cond-false (eqb c 0) (rank v) (R + c) t.0 ]

    up_high : (v c : ℕ) → (c ≡ 0 → ⊥) → up_at v c ≡ node v (tree_up v c)
    up_high v c other = elim (eqb_tells c 0) [ inl t ↦ absurd (other t.1) | inr t ↦ cond-false (eqb c 0) (up_in v) (node v (tree_up v c)) t.0 ]

    up_low : (v : ℕ) → v < W → up_in v < W
    up_low v low = elim (r.stays v) [
      | inl e ↦ subst (λ x. x < W) (sym e) low
      | inr on ↦ (let less = (is.below v (up_in v) on).1 in omega (arith, less, enough))
    ]

    lower_at : (v c : ℕ) → v < W → rank_of (up_at v c) ≤ rank_at v c
    lower_at v c low = at (eqb c 0)
      where
        most : rank_at v (tree_up v c) ≤ R + c
        most =
            let less = up_lower (λ k. m (of_kind (G.active v) k)) (λ k. some (of_kind (G.active v) k)) c in
            let one = rank_less v (suc c) (tree_up v c) (omega (arith, less)) in omega (arith, one)

        at : (b : Bool) → rank_of (cond b (up_in v) (node v (tree_up v c))) ≤ cond b (rank v) (R + c)
        at true = let e = rank_real (up_in v) (up_low v low) in let less = r.lower v in omega (arith, e, less)
        at false = let e = rank_node v (tree_up v c) low in omega (arith, e, most)

    AnEdge : ℕ → ℕ → Type 0
    AnEdge x w = ((w ≡ up_of x) × (rank_of w < rank_of x)) ⊎ ((x ≡ up_of w) × (rank_of x < rank_of w))

    hang : (v c c' : ℕ) → v < W → c' ≡ tree_up v c → c' < c → (node v c' ≡ up_of (node v c)) × (rank_of (node v c') < rank_of (node v c))
    hang v c c' low e less =
        let other : c ≡ 0 → ⊥ = λ z. omega (arith, less, z) in
        let one = rank_node v c low in
        let two = rank_node v c' low in
        let high = rank_high v c other in
        let under = rank_less v c c' less in
        (ap (node v) e ∙ sym (up_high v c other) ∙ sym (up_node v c low), omega (arith, one, two, high, under))

    edge_at : (v c w : ℕ) → v < W → Contains (near_at m some W G v c) w → AnEdge (node v c) w
    unfolding AnEdge
    edge_at v c w low held = elim (near_cases m some W G v c w held) [
      | inl q ↦ (let (e, low', on) = q in
          subst (λ x. AnEdge (node v x) w) (sym e) (subst (λ y. AnEdge y w) (sym (zero_id m some W G v)) (real low' (r.edge v w on))))
      | inr q ↦ (let (c', on, ok, e) = q in
          subst (λ x. AnEdge (node v c) x) (sym e) (elim (whole_ups (λ k. m (of_kind (G.active v) k)) (λ k. some (of_kind (G.active v) k)) c c' on) [
            | inl h ↦ inl (hang v c c' low h.0 h.1)
            | inr h ↦ inr (hang v c' c low h.0 h.1)
          ]))
    ]
      where
        real : w < W → ((w ≡ up_in v) × (rank w < rank v)) ⊎ ((v ≡ up_in w) × (rank v < rank w)) → AnEdge v w
        real low' (inl (e, less)) = inl (e ∙ sym (up_real v low), (let one = rank_real v low in let two = rank_real w low' in omega (arith, one, two, less)))
        real low' (inr (e, less)) = inr (e ∙ sym (up_real w low'), (let one = rank_real v low in let two = rank_real w low' in omega (arith, one, two, less)))

    part : (x : ℕ) → node (x % W) (x / W) ≡ x
    part x = div-add-mod' x W

    edge : (x w : ℕ) → Contains (E.near x) w → AnEdge x w
    edge x w held = subst (λ y. AnEdge y w) (part x) (edge_at (x % W) (x / W) w (mod-lt x pos) held)

    ports : (k : Bool) → (if k then suc (m true) else suc (m false)) ≡ suc (m k)
    ports true = refl
    ports false = refl

    pub few : (v : ℕ) → length (G.near v) ≤ suc (m (G.active v))
    few v = subst (λ n. length (G.near v) ≤ n) (ports (G.active v)) (is.degrees v)

    extended_forest_by : (M : ℕ) → IsForest (suc (m true)) (suc (m false)) M (cut M E)
    unfolding AnEdge
    extended_forest_by M = record {
      degrees = λ x.
          (let fewer = cut_fewer M E x in
          let most = few_at m some W G (x % W) (x / W) (few (x % W)) in
          let same = ports (E.active x) in
          omega (arith, fewer, most, same));
      below = λ x w held. (let c = cut_cases M E x w held in (c.0, c.1));
      turns = λ x w held. turns_at m some W G is.turns (x % W) (x / W) w (mod-lt x pos) (cut_cases M E x w held).2;
      both = λ x w held. (let c = cut_cases M E x w held in
          cut_held M E w x c.1 c.0 (subst (Contains (E.near w)) (part x) (both_at m some W G is.both (x % W) (x / W) w (mod-lt x pos) c.2)));
      acyclic = ball_different (cut M E) rank_of up_of (λ x. lower_at (x % W) (x / W) (mod-lt x pos))
          (λ x w held. edge x w (cut_cases M E x w held).2)
          (λ x. cut_different M E x (apart_at m some W G (near_different is) (x % W) (x / W) (mod-lt x pos)));
    }

  pub extended_forest : (G : Network) {N : ℕ} → IsForest (suc (m true)) (suc (m false)) N G → N ≤ W → (M : ℕ)
      → IsForest (suc (m true)) (suc (m false)) M (cut M (extended m some W G))
  extended_forest G is enough M = let (most, rank, up_in, r) = forest_rooting is in extended_forest_by G is enough r M

  -- ---- what is shown
  module _ (G H : Network) where
    near_same : (v c : ℕ) → G.active v ≡ H.active v → G.near v ≡ H.near v → near_at m some W G v c ≡ near_at m some W H v c
    near_same v c e f =
        ap (λ (near : List ℕ). near_at m some W (record { active = λ x. G.active v; near = λ x. near }) v c) f
        ∙ ap (λ (act : Bool). near_at m some W (record { active = λ x. act; near = λ x. H.near v }) v c) e

    same_at : (T v : ℕ) → v < W → AreSame T G H v → (c : ℕ) → AreSame T (extended m some W G) (extended m some W H) (id m some W G v c)
    same_at zero v low same c = active_id m some W G v c low ∙ ap (λ act. of_kind act (kind c)) same ∙ sym (active_id m some W H v c low)
    same_at (suc T) v low same c = (
      active_id m some W G v c low ∙ ap (λ act. of_kind act (kind c)) same.0 ∙ sym (active_id m some W H v c low),
      near_id m some W G v c low ∙ near_same v c same.0 same.1 ∙ sym (near_id m some W H v c low),
      AllByRecursion-from_contains (λ w. AreSame T (extended m some W G) (extended m some W H) w) ((extended m some W G).near (id m some W G v c))
          (λ w held. next w (λ u low' s d. same_at T u low' s d) (near_cases m some W G v c w (subst (λ xs. Contains xs w) (near_id m some W G v c low) held))),
    )
      where
        next : (w : ℕ) → ((u : ℕ) → u < W → AreSame T G H u → (d : ℕ) → AreSame T (extended m some W G) (extended m some W H) (id m some W G u d))
            → ((c ≡ 0) × (w < W) × Contains (G.near v) w)
            ⊎ ((c' : ℕ) × Contains ((tree m some (G.active v)).near c) c' × (passes (missing m some W G v) c c' ≡ true) × (w ≡ id m some W G v c'))
            → AreSame T (extended m some W G) (extended m some W H) w
        next w before (inl (e, low', on)) =
            subst (λ x. AreSame T (extended m some W G) (extended m some W H) x) (zero_id m some W G w) (before w low' (same_near G H T v w same on) 0)
        next w before (inr (c', on, ok, e)) =
            subst (λ x. AreSame T (extended m some W G) (extended m some W H) x) (sym e) (before v low (same_less G H T v same) c')

    pub extended_same : (T v : ℕ) → v < W → AreSame T G H v → AreSame T (extended m some W G) (extended m some W H) v
    extended_same T v low same = subst (λ x. AreSame T (extended m some W G) (extended m some W H) x) (zero_id m some W G v) (same_at T v low same 0)

pub cut_same : (M : ℕ) (G H : Network) (T v : ℕ) → AreSame T G H v → AreSame T (cut M G) (cut M H) v
cut_same M G H zero v same = same
cut_same M G H (suc T) v same = (
  same.0,
  ap (λ (near : List ℕ). cond (leb (suc v) M) (filter (λ w. leb (suc w) M) near) []) same.1,
  AllByRecursion-from_contains (λ w. AreSame T (cut M G) (cut M H) w) ((cut M G).near v)
      (λ w held. cut_same M G H T w (same_near G H T v w same (cut_cases M G v w held).2)),
)
