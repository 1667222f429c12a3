-- Each node of a tree may be its root: the edges on the way up from it are turned.
use Rattle.std.proofs.Common.{◌≡◌, ℕ, zero, suc, ◌≤◌, ◌<◌, Bool, true, false, cond, eqb, sym, ap, ◌∙◌, subst, ◌⊎◌, inl, inr, arith}
use Rattle.std.specs.Prelude.{Contains}
use Rattle.std.proofs.lemmas.Bool.{false≢true}
use Rattle.re_gap.proofs.Trees.{IsTree}
use Rattle.re_labels.proofs.Tests.{eqb-same, eqb-true}
use Rattle.re_layers.proofs.Filters.{either}
use Rattle.re_labels.proofs.Tests.{eqb-apart}
use Rattle.re_layers.proofs.FreeNumbers.{Contains-holds, holds, holds-Contains}
use Rattle.re_layers.specs.Networks.{Network}

-- w is above v
abbrev pub IsAbove : (ℕ → ℕ) → (ℕ → ℕ) → ℕ → ℕ → Type 0
IsAbove rank up v w = (w ≡ up v) × (rank w < rank v)

-- a tree whose root is r
pub record IsRootedAt (a p : ℕ) (G : Network) (r : ℕ) : Type 0 where
  pub tree : IsTree a p G
  pub least : tree.rank r ≡ 0
  pub stays : tree.up r ≡ r

module _ {a p : ℕ} {G : Network} (tree : IsTree a p G) where
  -- another way up, by which each edge leads up from one of its ends
  turned_tree : (rank up : ℕ → ℕ) → ((v : ℕ) → rank (up v) ≤ rank v)
      → ((v w : ℕ) → Contains (G.near v) w → IsAbove tree.rank tree.up v w → IsAbove rank up v w ⊎ IsAbove rank up w v) → IsTree a p G
  turned_tree rank up lower each = record {
    degrees = tree.degrees;
    turns = tree.turns;
    both = tree.both;
    differ = tree.differ;
    rank = rank;
    up = up;
    lower = lower;
    edge = λ v w on. elim (tree.edge v w on) [
      | inl high ↦ each v w on high
      | inr high ↦ elim (each w v (tree.both v w on) high) [ inl e ↦ inr e | inr e ↦ inl e ]
    ];
  }

  -- ---- a node without a neighbour above it
  module _ (r : ℕ) (top : Contains (G.near r) (tree.up r) → ⊥) where
    top_rank : ℕ → ℕ
    top_rank v = cond (eqb v r) 0 (suc (tree.rank v))

    top_up : ℕ → ℕ
    top_up v = cond (eqb v r) r (tree.up v)

    top_own : (top_rank r ≡ 0) × (top_up r ≡ r)
    unfolding top_rank top_up
    top_own = (ap (λ b. cond b 0 (suc (tree.rank r))) (eqb-same r), ap (λ b. cond b r (tree.up r)) (eqb-same r))

    top_other : (v : ℕ) → (v ≡ r → ⊥) → (top_rank v ≡ suc (tree.rank v)) × (top_up v ≡ tree.up v)
    unfolding top_rank top_up
    top_other v ne = (ap (λ b. cond b 0 (suc (tree.rank v))) (eqb-apart v r ne), ap (λ b. cond b r (tree.up v)) (eqb-apart v r ne))

    top_most : (v : ℕ) → top_rank v ≤ suc (tree.rank v)
    unfolding top_rank
    top_most v = by (eqb v r)
      where
        by : (b : Bool) → cond b 0 (suc (tree.rank v)) ≤ suc (tree.rank v)
        by true = omega arith
        by false = omega arith

    top_lower : (v : ℕ) → top_rank (top_up v) ≤ top_rank v
    top_lower v = elim (either (eqb v r)) [
      | inl e ↦ (let same : v ≡ r = eqb-true v r e in
          subst (λ z. top_rank (top_up z) ≤ top_rank z) (sym same) (subst (λ z. top_rank z ≤ top_rank r) (sym top_own.1) (omega arith)))
      | inr e ↦ (let other = top_other v (λ same. false≢true (sym e ∙ (subst (λ z. eqb z r ≡ true) (sym same) (eqb-same r)))) in
          let most = top_most (tree.up v) in
          let low = tree.lower v in
          let own = other.0 in
          subst (λ z. top_rank z ≤ top_rank v) (sym other.1) (omega (arith, most, low, own)))
    ]

    top_edge : (v w : ℕ) → Contains (G.near v) w → IsAbove tree.rank tree.up v w → IsAbove top_rank top_up v w
        ⊎ IsAbove top_rank top_up w v
    top_edge v w on high =
        let ne : v ≡ r → ⊥ = λ e. top (subst (λ z. Contains (G.near z) (tree.up z)) e (subst (Contains (G.near v)) high.0 on)) in
        let (own, above) = top_other v ne in
        let less = high.1 in
        let most = top_most w in
        inl (high.0 ∙ sym above, omega (arith, own, less, most))

    top_tree : IsRootedAt a p G r
    unfolding turned_tree
    top_tree = record { tree = turned_tree top_rank top_up top_lower top_edge; least = top_own.0; stays = top_own.1 }

  -- ---- a neighbour of the root
  module _ (u r : ℕ) (least : tree.rank u ≡ 0) (on : Contains (G.near r) u) where
    under : (u ≡ tree.up r) × (tree.rank u < tree.rank r)
    under = elim (tree.edge r u on) [
      | inl high ↦ high
      | inr high ↦ absurd (let less = high.1 in omega (arith, less, least))
    ]

    flip_rank : ℕ → ℕ
    flip_rank v = cond (eqb v r) 0 (cond (eqb v u) 1 (suc (suc (tree.rank v))))

    flip_up : ℕ → ℕ
    flip_up v = cond (eqb v r) r (cond (eqb v u) r (tree.up v))

    apart : u ≡ r → ⊥
    apart e = let less = under.1 in let same = ap tree.rank e in omega (arith, less, same)

    at_r : (flip_rank r ≡ 0) × (flip_up r ≡ r)
    unfolding flip_rank flip_up
    at_r = (
      ap (λ b. cond b 0 (cond (eqb r u) 1 (suc (suc (tree.rank r))))) (eqb-same r),
      ap
          (λ b. cond b r (cond (eqb r u) r (tree.up r))) (eqb-same r),
    )

    at_u : (flip_rank u ≡ 1) × (flip_up u ≡ r)
    unfolding flip_rank flip_up
    at_u = (
      ap (λ b. cond b 0 (cond (eqb u u) 1 (suc (suc (tree.rank u))))) (eqb-apart u r apart)
          ∙ ap (λ b. cond b 1 (suc (suc (tree.rank u)))) (eqb-same u),
      ap (λ b. cond b r (cond (eqb u u) r (tree.up u))) (eqb-apart u r apart) ∙ ap (λ b. cond b r (tree.up u)) (eqb-same u),
    )

    at_other : (v : ℕ) → (v ≡ r → ⊥) → (v ≡ u → ⊥) → (flip_rank v ≡ suc (suc (tree.rank v))) × (flip_up v ≡ tree.up v)
    unfolding flip_rank flip_up
    at_other v ne ne' = (
      ap (λ b. cond b 0 (cond (eqb v u) 1 (suc (suc (tree.rank v))))) (eqb-apart v r ne)
          ∙ ap (λ b. cond b 1 (suc (suc (tree.rank v)))) (eqb-apart v u ne'),
      ap (λ b. cond b r (cond (eqb v u) r (tree.up v))) (eqb-apart v r ne) ∙ ap (λ b. cond b r (tree.up v)) (eqb-apart v u ne'),
    )

    cases : (v : ℕ) → (v ≡ r) ⊎ ((v ≡ u) ⊎ ((v ≡ r → ⊥) × (v ≡ u → ⊥)))
    cases v = elim (either (eqb v r)) [
      | inl e ↦ inl (eqb-true v r e)
      | inr e ↦ elim (either (eqb v u)) [
        | inl f ↦ inr (inl (eqb-true v u f))
        | inr f ↦ inr (inr (not_at v r e, not_at v u f))
      ]
    ]
      where
        not_at : (x y : ℕ) → eqb x y ≡ false → x ≡ y → ⊥
        not_at x y e same = false≢true (sym e ∙ (subst (λ z. eqb z y ≡ true) (sym same) (eqb-same y)))

    flip_most : (v : ℕ) → flip_rank v ≤ suc (suc (tree.rank v))
    flip_most v = elim (cases v) [
      | inl e ↦ (let own = at_r.0 in let same = ap flip_rank e in omega (arith, own, same))
      | inr rest ↦ elim rest [
        | inl e ↦ (let own = at_u.0 in let same = ap flip_rank e in omega (arith, own, same))
        | inr other ↦ (let own = (at_other v other.0 other.1).0 in omega (arith, own))
      ]
    ]

    flip_lower : (v : ℕ) → flip_rank (flip_up v) ≤ flip_rank v
    flip_lower v = elim (cases v) [
      | inl e ↦ (let to : flip_up v ≡ r = ap flip_up e ∙ at_r.1 in let same = ap flip_rank to in let own = at_r.0 in
          omega (arith, same, own))
      | inr rest ↦ elim rest [
        | inl e ↦ (let to : flip_up v ≡ r = ap flip_up e ∙ at_u.1 in let same = ap flip_rank to in let own = at_r.0 in
            omega (arith, same, own))
        | inr other ↦
            (let (own, above) = at_other v other.0 other.1 in
            let same = ap flip_rank above in
            let most = flip_most (tree.up v) in
            let low = tree.lower v in
            omega (arith, own, same, most, low))
      ]
    ]

    flip_edge : (v w : ℕ) → Contains (G.near v) w → IsAbove tree.rank tree.up v w → IsAbove flip_rank flip_up v w
        ⊎ IsAbove flip_rank flip_up w v
    flip_edge v w at high = elim (cases v) [
      | inl e ↦
          (let same : w ≡ u = high.0 ∙ (ap tree.up e ∙ sym under.0) in
          let first = ap flip_rank e ∙ at_r.0 in
          let second = ap flip_rank same ∙ at_u.0 in
          inr (e ∙ (sym at_u.1 ∙ ap flip_up (sym same)), omega (arith, first, second)))
      | inr rest ↦ elim rest [
        | inl e ↦ absurd (let less = high.1 in let same = ap tree.rank e in omega (arith, less, same, least))
        | inr other ↦
            (let (own, above) = at_other v other.0 other.1 in
            let less = high.1 in
            let most = flip_most w in
            inl (high.0 ∙ sym above, omega (arith, own, less, most)))
      ]
    ]

    flip_tree : IsRootedAt a p G r
    unfolding turned_tree
    flip_tree = record { tree = turned_tree flip_rank flip_up flip_lower flip_edge; least = at_r.0; stays = at_r.1 }

rooted_by : {a p : ℕ} {G : Network} (n : ℕ) (tree : IsTree a p G) (r : ℕ) → tree.rank r ≤ n → IsRootedAt a p G r
rooted_by {G = G} zero tree r low = top_tree tree r (λ held. at held (tree.edge r (tree.up r) held))
  where
    at : Contains (G.near r) (tree.up r) → ((tree.up r ≡ tree.up r) × (tree.rank (tree.up r) < tree.rank r))
        ⊎ ((r ≡ tree.up (tree.up r)) × (tree.rank r < tree.rank (tree.up r))) → ⊥
    at held (inl high) = let less = high.1 in omega (arith, less, low)
    at held (inr high) = let less = high.1 in let most = tree.lower r in omega (arith, less, most)
rooted_by {G = G} (suc n) tree r low = elim (either (holds (G.near r) (tree.up r))) [
  | inr none ↦ top_tree tree r (λ held. false≢true (sym none ∙ Contains-holds (G.near r) (tree.up r) held))
  | inl some ↦
      (let held : Contains (G.near r) (tree.up r) = holds-Contains (G.near r) (tree.up r) some in
      let less : tree.rank (tree.up r) < tree.rank r = at (tree.edge r (tree.up r) held) in
      let above = rooted_by n tree (tree.up r) (omega (arith, less, low)) in
      flip_tree above.tree (tree.up r) r above.least held)
]
  where
    at : ((tree.up r ≡ tree.up r) × (tree.rank (tree.up r) < tree.rank r))
        ⊎ ((r ≡ tree.up (tree.up r)) × (tree.rank r < tree.rank (tree.up r)))
        → tree.rank (tree.up r) < tree.rank r
    at (inl high) = high.1
    at (inr high) = absurd (let less = high.1 in let most = tree.lower r in omega (arith, less, most))

pub rooted_at : {a p : ℕ} {G : Network} (tree : IsTree a p G) (r : ℕ) → IsRootedAt a p G r
rooted_at tree r = rooted_by (tree.rank r) tree r (omega arith)
