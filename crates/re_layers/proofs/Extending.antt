-- A network extended: at each node with free ports hang trees without end, so that none of its ports stay free. Node c of the trees at v is c * W + v.
use Rattle.std.proofs.Common.{◌≡◌, ℕ, zero, suc, ◌+◌, ◌-◌, ◌*◌, ◌/◌, ◌%◌, ◌≤◌, ◌<◌, Bool, true, false, cond, eqb, leb, List, [], ◌∷◌, ◌++◌, length, map, refl, sym, ap, ◌∙◌, subst, ◌⊎◌, inl, inr, arith, length-append}
use Rattle.std.specs.Prelude.{Contains, filter, not}
use Rattle.std.proofs.Math.Nat.{mul-le-mul_right}
use Rattle.std.proofs.lemmas.Bool.{le-leb, leb-true}
use Rattle.std.proofs.lemmas.Bool.Decides.{eqb_tells}
use Rattle.std.proofs.lemmas.List.{length-map}
use Rattle.std.proofs.lemmas.List.Elements.{Contains-append_cases, Contains-append_left, Contains-append_right}
use Rattle.std.proofs.lemmas.Nat.{div-mul-add, mod-mul-add}
use Rattle.re_layers.proofs.Different.{Different-filter}
use Rattle.re_labels.proofs.Membership.{Contains-cases, Contains-filter, Contains-filter_cases, Contains-map, Contains-none, length-filter_most}
use Rattle.re_layers.proofs.NodeNumbers.{kind, place}
use Rattle.re_layers.proofs.RegularTrees.{first_places, whole, whole_apart, whole_both, whole_full, whole_turns, whole_ups}
use Rattle.re_layers.proofs.Rooted.{Different-append}
use Rattle.re_layers.specs.Networks.{AreDifferent, Network}

map_cases : (f : ℕ → ℕ) (xs : List ℕ) (y : ℕ) → Contains (map f xs) y → (x : ℕ) × Contains xs x × (y ≡ f x)
map_cases f [] y held = absurd (Contains-none y held)
map_cases f (x ∷ xs) y held = elim (Contains-cases y (f x) (map f xs) held) [
  | inl e ↦ (x, (zero, omega arith, refl), e)
  | inr later ↦ (let (z, (k, low, at), e) = map_cases f xs y later in (z, (suc k, omega arith, at), e))
]

Different-map : (f : ℕ → ℕ) → ((x y : ℕ) → f x ≡ f y → x ≡ y) → (xs : List ℕ) → AreDifferent xs → AreDifferent (map f xs)
Different-map f one [] d = tt
Different-map f one (x ∷ xs) d = (
  λ held. (let (y, at, e) = map_cases f xs (f x) held in d.0 (subst (Contains xs) (sym (one x y e)) at)),
  Different-map f one xs d.1,
)

-- in the trees at an active node kinds are as in the regular tree; at a passive one the other way round
abbrev pub of_kind : Bool → Bool → Bool
of_kind act k = cond act k (not k)

pub of_kind-true : (act : Bool) → of_kind act true ≡ act
of_kind-true true = refl
of_kind-true false = refl

pub of_kind-not : (act k : Bool) → of_kind act (not k) ≡ not (of_kind act k)
of_kind-not true k = refl
of_kind-not false k = refl

-- whether an edge of the tree is left, where d of those of node 0 are
abbrev pub passes : ℕ → ℕ → ℕ → Bool
passes d c c' = cond (eqb c 0) (leb (suc (place c')) d) (cond (eqb c' 0) (leb (suc (place c)) d) true)

pub passes_back : (d c c' : ℕ) → passes d c c' ≡ passes d c' c
passes_back d c c' = elim (eqb_tells c 0) [
  | inl t ↦ elim (eqb_tells c' 0) [
    | inl t' ↦ rw (t.0, t'.0) (ap (λ x. leb (suc (place x)) d) (t'.1 ∙ sym t.1))
    | inr t' ↦ rw (t.0, t'.0) refl
  ]
  | inr t ↦ elim (eqb_tells c' 0) [
    | inl t' ↦ rw (t.0, t'.0) refl
    | inr t' ↦ rw (t.0, t'.0) refl
  ]
]

module _ (m : Bool → ℕ) (some : (k : Bool) → 1 ≤ m k) where
  abbrev pub tree : Bool → Network
  tree act = whole (λ k. m (of_kind act k)) (λ k. some (of_kind act k))

  module _ (W : ℕ) (G : Network) where
    abbrev pub inside : ℕ → List ℕ
    inside v = filter (λ w. leb (suc w) W) (G.near v)

    abbrev pub missing : ℕ → ℕ
    missing v = suc (m (G.active v)) - length (inside v)

    abbrev pub left : ℕ → ℕ → List ℕ
    left v c = filter (passes (missing v) c) ((tree (G.active v)).near c)

    abbrev pub id : ℕ → ℕ → ℕ
    id v c = c * W + v

    abbrev pub near_at : ℕ → ℕ → List ℕ
    near_at v c = cond (eqb c 0) (inside v) [] ++ map (λ c'. id v c') (left v c)

    abbrev pub extended : Network
    extended = record { active = λ x. of_kind (G.active (x % W)) (kind (x / W)); near = λ x. near_at (x % W) (x / W) }

    pub zero_id : (v : ℕ) → id v 0 ≡ v
    zero_id v = omega arith

    pub near_id : (v c : ℕ) → v < W → extended.near (id v c) ≡ near_at v c
    near_id v c low = ap (λ u. near_at u ((c * W + v) / W)) (mod-mul-add c W v low) ∙ ap (near_at v) (div-mul-add c W v low)

    pub near_real : (v : ℕ) → v < W → extended.near v ≡ near_at v 0
    near_real v low = subst (λ x. extended.near x ≡ near_at v 0) (zero_id v) (near_id v 0 low)

    pub active_id : (v c : ℕ) → v < W → extended.active (id v c) ≡ of_kind (G.active v) (kind c)
    active_id v c low =
        ap (λ u. of_kind (G.active u) (kind ((c * W + v) / W))) (mod-mul-add c W v low) ∙ ap (λ x. of_kind (G.active v) (kind x)) (div-mul-add c W v low)

    pub active_real : (v : ℕ) → v < W → extended.active v ≡ G.active v
    active_real v low = subst (λ x. extended.active x ≡ of_kind (G.active v) true) (zero_id v) (active_id v 0 low) ∙ of_kind-true (G.active v)

    id_one : (v c c' : ℕ) → v < W → id v c ≡ id v c' → c ≡ c'
    id_one v c c' low e = sym (div-mul-add c W v low) ∙ ap (λ x. x / W) e ∙ div-mul-add c' W v low

    -- ---- the neighbours of a node
    pub near_cases : (v c w : ℕ) → Contains (near_at v c) w → ((c ≡ 0) × (w < W) × Contains (G.near v) w)
        ⊎ ((c' : ℕ) × Contains ((tree (G.active v)).near c) c' × (passes (missing v) c c' ≡ true) × (w ≡ id v c'))
    near_cases v c w held = elim (Contains-append_cases (cond (eqb c 0) (inside v) []) (map (λ c'. id v c') (left v c)) w held) [
      | inl here ↦ inl (real (eqb_tells c 0) here)
      | inr there ↦
          (let (c', at, e) = map_cases (λ c'. id v c') (left v c) w there in
          let (on, ok) = Contains-filter_cases (passes (missing v) c) ((tree (G.active v)).near c) c' at in
          inr (c', on, ok, e))
    ]
      where
        real : ((eqb c 0 ≡ true) × (c ≡ 0)) ⊎ ((eqb c 0 ≡ false) × (c ≡ 0 → ⊥)) → Contains (cond (eqb c 0) (inside v) []) w → (c ≡ 0) × (w < W) × Contains (G.near v) w
        real (inl (b, e)) here =
            let (on, low) = Contains-filter_cases (λ x. leb (suc x) W) (G.near v) w (subst (λ t. Contains (cond t (inside v) []) w) b here) in (e, leb-true (suc w) W low, on)
        real (inr (b, e)) here = absurd (Contains-none w (subst (λ t. Contains (cond t (inside v) []) w) b here))

    pub near_inside : (v w : ℕ) → w < W → Contains (G.near v) w → Contains (near_at v 0) w
    near_inside v w low on =
        Contains-append_left (inside v) (map (λ c'. id v c') (left v 0)) w (Contains-filter (λ x. leb (suc x) W) (G.near v) w on (le-leb (suc w) W low))

    pub near_tree : (v c c' : ℕ) → Contains ((tree (G.active v)).near c) c' → passes (missing v) c c' ≡ true → Contains (near_at v c) (id v c')
    near_tree v c c' on ok =
        Contains-append_right (cond (eqb c 0) (inside v) []) (map (λ x. id v x) (left v c)) (id v c')
        (Contains-map (λ x. id v x) (left v c) c' (Contains-filter (passes (missing v) c) ((tree (G.active v)).near c) c' on ok))

    pub both_at : ((v w : ℕ) → Contains (G.near v) w → Contains (G.near w) v) → (v c w : ℕ) → v < W → Contains (near_at v c) w → Contains (extended.near w) (id v c)
    both_at both v c w low held = elim (near_cases v c w held) [
      | inl r ↦ (let (e, low', on) = r in
          subst (λ x. Contains (extended.near w) (id v x)) (sym e) (subst (λ xs. Contains xs (id v 0)) (sym (near_real w low'))
          (subst (Contains (near_at w 0)) (sym (zero_id v)) (near_inside w v low (both v w on)))))
      | inr r ↦ (let (c', on, ok, e) = r in
          subst (λ x. Contains (extended.near x) (id v c)) (sym e) (subst (λ xs. Contains xs (id v c)) (sym (near_id v c' low))
          (near_tree v c' c (whole_both (λ k. m (of_kind (G.active v) k)) (λ k. some (of_kind (G.active v) k)) c c' on) (sym (passes_back (missing v) c c') ∙ ok))))
    ]

    pub turns_at : ((v w : ℕ) → Contains (G.near v) w → G.active w ≡ not (G.active v)) → (v c w : ℕ) → v < W → Contains (near_at v c) w
        → extended.active w ≡ not (of_kind (G.active v) (kind c))
    turns_at turns v c w low held = elim (near_cases v c w held) [
      | inl r ↦ (let (e, low', on) = r in
          active_real w low' ∙ turns v w on ∙ ap not (sym (of_kind-true (G.active v))) ∙ ap (λ x. not (of_kind (G.active v) (kind x))) (sym e))
      | inr r ↦ (let (c', on, ok, e) = r in
          ap extended.active e ∙ active_id v c' low
          ∙ ap (of_kind (G.active v)) (whole_turns (λ k. m (of_kind (G.active v) k)) (λ k. some (of_kind (G.active v) k)) c c' on)
          ∙ of_kind-not (G.active v) (kind c))
    ]

    pub not_own : (v c : ℕ) → Contains ((tree (G.active v)).near c) c → ⊥
    not_own v c on = elim (whole_ups (λ k. m (of_kind (G.active v) k)) (λ k. some (of_kind (G.active v) k)) c c on) [
      | inl r ↦ (let less = r.1 in omega (arith, less))
      | inr r ↦ (let less = r.1 in omega (arith, less))
    ]

    pub apart_at : ((v : ℕ) → AreDifferent (G.near v)) → (v c : ℕ) → v < W → AreDifferent (near_at v c)
    apart_at apart v c low =
        Different-append (cond (eqb c 0) (inside v) []) (map (λ c'. id v c') (left v c)) (first (eqb c 0))
        (Different-map (λ c'. id v c') (λ x y e. id_one v x y low e) (left v c)
        (Different-filter (passes (missing v) c) ((tree (G.active v)).near c) (whole_apart (λ k. m (of_kind (G.active v) k)) (λ k. some (of_kind (G.active v) k)) c)))
        (λ w here there. disjoint w (near_cases v c w (Contains-append_left (cond (eqb c 0) (inside v) []) (map (λ c'. id v c') (left v c)) w here)) here there)
      where
        first : (b : Bool) → AreDifferent (cond b (inside v) [])
        first true = Different-filter (λ w. leb (suc w) W) (G.near v) (apart v)
        first false = tt

        within : (b : Bool) (w : ℕ) → Contains (cond b (inside v) []) w → w < W
        within true w here = leb-true (suc w) W (Contains-filter_cases (λ x. leb (suc x) W) (G.near v) w here).1
        within false w here = absurd (Contains-none w here)

        disjoint : (w : ℕ) → ((c ≡ 0) × (w < W) × Contains (G.near v) w)
            ⊎ ((c' : ℕ) × Contains ((tree (G.active v)).near c) c' × (passes (missing v) c c' ≡ true) × (w ≡ id v c'))
            → Contains (cond (eqb c 0) (inside v) []) w → Contains (map (λ c'. id v c') (left v c)) w → ⊥
        disjoint w _ here there = at (eqb_tells c 0) (map_cases (λ c'. id v c') (left v c) w there)
          where
            at : ((eqb c 0 ≡ true) × (c ≡ 0)) ⊎ ((eqb c 0 ≡ false) × (c ≡ 0 → ⊥)) → (c' : ℕ) × Contains (left v c) c' × (w ≡ id v c') → ⊥
            at (inr (b, e)) r = Contains-none w (subst (λ t. Contains (cond t (inside v) []) w) b here)
            at (inl (b, e)) (zero, on, is) =
                not_own v c (subst (Contains ((tree (G.active v)).near c)) (sym e) (Contains-filter_cases (passes (missing v) c) ((tree (G.active v)).near c) zero on).0)
            at (inl (b, e)) (suc c', on, is) =
                let less = within (eqb c 0) w here in
                let more : 1 * W ≤ suc c' * W = mul-le-mul_right W (let one : 1 ≤ suc c' = omega arith in one) in
                omega (arith, less, more, is)

    -- ---- how many they are
    pub full_first : (v : ℕ) → length (G.near v) ≤ suc (m (G.active v)) → length (near_at v 0) ≡ suc (m (of_kind (G.active v) true))
    full_first v most =
        let act : Bool = G.active v in
        let root : m (of_kind act true) ≡ m act = ap m (of_kind-true act) in
        let fewer = length-filter_most (λ w. leb (suc w) W) (G.near v) in
        let both : length (near_at v 0) ≡ length (inside v) + length (map (λ c'. id v c') (left v 0)) = length-append (inside v) (map (λ c'. id v c') (left v 0)) in
        let same : length (map (λ c'. id v c') (left v 0)) ≡ length (left v 0) = length-map (left v 0) (λ c'. id v c') in
        let count : length (left v 0) ≡ missing v =
        first_places (λ k. m (of_kind act k)) (λ k. some (of_kind act k)) (missing v) (omega (arith, root)) in
        omega (arith, root, fewer, both, same, count, most)

    pub count_left : (v c : ℕ) → (c ≡ 0 → ⊥) → length (near_at v c) ≡ length (left v c)
    count_left v c other = elim (eqb_tells c 0) [
      | inl t ↦ absurd (other t.1)
      | inr t ↦ ap (λ b. length (cond b (inside v) [] ++ map (λ c'. id v c') (left v c))) t.0 ∙ length-map (left v c) (λ c'. id v c')
    ]

    pub few_at : (v c : ℕ) → length (G.near v) ≤ suc (m (G.active v)) → length (near_at v c) ≤ suc (m (of_kind (G.active v) (kind c)))
    few_at v c most = elim (eqb_tells c 0) [
      | inl t ↦ subst (λ x. length (near_at v x) ≤ suc (m (of_kind (G.active v) (kind x)))) (sym t.1) (let all = full_first v most in omega (arith, all))
      | inr t ↦
          (let count = count_left v c t.1 in
          let fewer = length-filter_most (passes (missing v) c) ((tree (G.active v)).near c) in
          let all = whole_full (λ k. m (of_kind (G.active v) k)) (λ k. some (of_kind (G.active v) k)) c in
          omega (arith, count, fewer, all))
    ]
