-- Branches of a forest of degrees 2 and 2 are paths; behind a node with two neighbours they have at most N - 2 nodes, so all of them is seen.
use Rattle.std.proofs.Common.{◌++◌, ◌≡◌, ℕ, zero, suc, ◌+◌, ◌≤◌, ◌<◌, Bool, true, false, cond, not, List, [], ◌∷◌, length, length-append, refl, sym, ap, ◌∙◌, subst, arith, inl, inr, ◌⊎◌}
use Rattle.std.specs.Prelude.{Contains, ◌==◌, filter, flat_map}
use Rattle.std.proofs.lemmas.Bool.Decides.{eqb_tells}
use Rattle.std.proofs.lemmas.List.{append-nil}
use Rattle.std.proofs.lemmas.List.Elements.{Contains-append_cases, Contains-append_right}
use Rattle.re_labels.proofs.Membership.{Contains-cases, Contains-filter_cases, Contains-flat_map_cases, Contains-here, Contains-later, Contains-none}
use Rattle.re_labels.proofs.Tests.{eqb-apart, eqb-same}
use Rattle.re_layers.specs.Networks.{AreDifferent, IsForest, Network, branch, others}
use Rattle.re_layers.proofs.Different.{pigeonhole}

-- ---- lists in which nothing stands twice
pub different_apart : (xs ys : List ℕ) → AreDifferent (xs ++ ys) → (x : ℕ) → Contains xs x → Contains ys x → ⊥
different_apart [] ys d x left right = Contains-none x left
different_apart (z ∷ xs) ys d x left right = elim (Contains-cases x z xs left) [
  | inl e ↦ d.0 (subst (Contains (xs ++ ys)) e (Contains-append_right xs ys x right))
  | inr there ↦ different_apart xs ys d.1 x there right
]

-- ---- the neighbours but one of at most two
one_left : (u : ℕ) (near : List ℕ) → length near ≤ 2 → Contains near u
    → (filter (λ w. not (w == u)) near ≡ []) ⊎ ((w : ℕ) × Contains near w × (filter (λ w. not (w == u)) near ≡ w ∷ []))
one_left u [] few held = absurd (Contains-none u held)
one_left u (p ∷ q ∷ r ∷ near) few held = absurd (omega (arith, few))
one_left u (p ∷ []) few held = elim (Contains-cases u p [] held) [
  | inl e ↦ inl (subst (λ z. filter (λ w. not (w == z)) (p ∷ []) ≡ []) (sym e) (rw (eqb-same p) refl))
  | inr none ↦ absurd (Contains-none u none)
]
one_left u (p ∷ q ∷ []) few held = elim (eqb_tells p u) [
  | inl s ↦ elim (eqb_tells q u) [
    | inl t ↦ inl (rw (s.0, t.0) refl)
    | inr t ↦ inr (q, Contains-later q p (q ∷ []) (Contains-here q []), rw (s.0, t.0) refl)
  ]
  | inr s ↦ elim (eqb_tells q u) [
    | inl t ↦ inr (p, Contains-here p (q ∷ []), rw (s.0, t.0) refl)
    | inr t ↦ absurd (elim (Contains-cases u p (q ∷ []) held) [
      | inl e ↦ s.1 (sym e)
      | inr there ↦ elim (Contains-cases u q [] there) [ inl e ↦ t.1 (sym e) | inr none ↦ Contains-none u none ]
    ])
  ]
]

pub branch_first : (G : Network) (k u v : ℕ) → (rest : List ℕ) × (branch G k u v ≡ v ∷ rest)
branch_first G zero u v = ([], refl)
branch_first G (suc k) u v = (flat_map (λ w. branch G k v w) (others G u v), refl)

module _ (N : ℕ) (G : Network) (forest : IsForest 2 2 N G) where
  few : (v : ℕ) → length (G.near v) ≤ 2
  few v = by (G.active v) (forest.degrees v)
    where
      by : (b : Bool) → length (G.near v) ≤ cond b 2 2 → length (G.near v) ≤ 2
      by true l = l
      by false l = l

  -- a branch that is shorter than its hops has ended
  ended : (k u v : ℕ) → Contains (G.near v) u → length (branch G k u v) ≤ k → branch G (suc k) u v ≡ branch G k u v
  ended zero u v near short = absurd (omega (arith, short))
  ended (suc k) u v near short = elim (one_left u (G.near v) (few v) near) [
    | inl none ↦ ap (λ l. v ∷ flat_map (λ w. branch G (suc k) v w) l) none ∙ sym (ap (λ l. v ∷ flat_map (λ w. branch G k v w) l) none)
    | inr one ↦
        let (w, held, is) = one in
        let long : length (v ∷ flat_map (λ w. branch G k v w) (others G u v)) ≡ suc (length (branch G k v w)) =
        ap (λ l. length (v ∷ flat_map (λ w. branch G k v w) l)) is ∙ ap (λ l. suc (length l)) (append-nil (branch G k v w)) in
        let less : length (branch G k v w) ≤ k = omega (arith, long, short) in
        ap (λ l. v ∷ flat_map (λ w. branch G (suc k) v w) l) is ∙ (ap (λ l. v ∷ (l ++ [])) (ended k v w (forest.both v w held) less) ∙ sym (ap (λ l. v ∷ flat_map (λ w. branch G k v w) l) is))
  ]

  branch_below : (k u v : ℕ) → v < N → (x : ℕ) → Contains (branch G k u v) x → x < N
  branch_below zero u v low x held = elim (Contains-cases x v [] held) [ inl e ↦ subst (λ z. z < N) (sym e) low | inr none ↦ absurd (Contains-none x none) ]
  branch_below (suc k) u v low x held = elim (Contains-cases x v (flat_map (λ w. branch G k v w) (others G u v)) held) [
    | inl e ↦ subst (λ z. z < N) (sym e) low
    | inr there ↦
        let (w, near, at) = Contains-flat_map_cases (λ w. branch G k v w) (others G u v) x there in
        branch_below k v w (forest.below v w (Contains-filter_cases (λ w. not (w == u)) (G.near v) w near).0).1 x at
  ]

  -- ---- a node with two neighbours
  module _ (x a b : ℕ) (near : G.near x ≡ a ∷ b ∷ []) where
    both_pieces : (k : ℕ) → AreDifferent (branch G k x a ++ (branch G k x b ++ []))
    both_pieces k = subst (λ l. AreDifferent (flat_map (λ w. branch G k x w) l)) near (forest.acyclic x (suc k)).1

    pub pieces_apart : (k z : ℕ) → Contains (branch G k x a) z → Contains (branch G k x b) z → ⊥
    pieces_apart k z left right =
        different_apart (branch G k x a) (branch G k x b) (subst (λ l. AreDifferent (branch G k x a ++ l)) (append-nil (branch G k x b)) (both_pieces k)) z left right

    neighbours_apart : a ≡ b → ⊥
    neighbours_apart e = pieces_apart zero a (Contains-here a []) (subst (λ z. Contains (z ∷ []) a) e (Contains-here a []))

    beside_a : Contains (G.near a) x
    beside_a = forest.both x a (subst (λ l. Contains l a) (sym near) (Contains-here a (b ∷ [])))

    beside_b : Contains (G.near b) x
    beside_b = forest.both x b (subst (λ l. Contains l b) (sym near) (Contains-later b a (b ∷ []) (Contains-here b [])))

    -- both branches and the node itself have at most N nodes
    count : (k : ℕ) → suc (length (branch G k x a) + length (branch G k x b)) ≤ N
    count k =
        let all : length (x ∷ (branch G k x a ++ (branch G k x b ++ []))) ≤ N = pigeonhole N (x ∷ (branch G k x a ++ (branch G k x b ++ [])))
        (subst (λ l. AreDifferent (x ∷ flat_map (λ w. branch G k x w) l)) near (forest.acyclic x (suc k))) low in
        let sum : length (branch G k x a ++ (branch G k x b ++ [])) ≡ length (branch G k x a) + length (branch G k x b ++ []) = length-append (branch G k x a) (branch G k x b ++ []) in
        let same : length (branch G k x b ++ []) ≡ length (branch G k x b) = ap length (append-nil (branch G k x b)) in
        omega (arith, all, sum, same)
      where
        low : (z : ℕ) → Contains (x ∷ (branch G k x a ++ (branch G k x b ++ []))) z → z < N
        low z held = elim (Contains-cases z x (branch G k x a ++ (branch G k x b ++ [])) held) [
          | inl e ↦ subst (λ y. y < N) (sym e) (forest.below a x beside_a).1
          | inr there ↦ elim (Contains-append_cases (branch G k x a) (branch G k x b ++ []) z there) [
            | inl left ↦ branch_below k x a (forest.below a x beside_a).0 z left
            | inr right ↦ branch_below k x b (forest.below b x beside_b).0 z (subst (λ l. Contains l z) (append-nil (branch G k x b)) right)
          ]
        ]

    pub three : 3 ≤ N
    three = count zero

    some_first : (k u v : ℕ) → 1 ≤ length (branch G k u v)
    some_first k u v = let (rest, is) = branch_first G k u v in subst (λ l. 1 ≤ length l) (sym is) (omega arith)

    -- away from a neighbour a branch goes on as that behind the other one
    pub branch_on : (k : ℕ) → N ≡ suc (suc k) → branch G (suc k) a x ≡ x ∷ branch G (suc k) x b
    branch_on k e =
        let rest : others G a x ≡ b ∷ [] = ap (λ l. filter (λ w. not (w == a)) l) near ∙ rw (eqb-same a, eqb-apart b a (λ e. neighbours_apart (sym e))) refl in
        let few_behind : length (branch G k x b) ≤ k = omega (arith, count k, some_first k x a, e) in
        ap (λ l. x ∷ flat_map (λ w. branch G k x w) l) rest ∙ (ap (λ l. x ∷ l) (append-nil (branch G k x b)) ∙ ap (λ l. x ∷ l) (sym (ended k x b beside_b few_behind)))

    pub branch_back : (k : ℕ) → N ≡ suc (suc k) → branch G (suc k) b x ≡ x ∷ branch G (suc k) x a
    branch_back k e =
        let rest : others G b x ≡ a ∷ [] = ap (λ l. filter (λ w. not (w == b)) l) near ∙ rw (eqb-apart a b neighbours_apart, eqb-same b) refl in
        let few_behind : length (branch G k x a) ≤ k = omega (arith, count k, some_first k x b, e) in
        ap (λ l. x ∷ flat_map (λ w. branch G k x w) l) rest ∙ (ap (λ l. x ∷ l) (append-nil (branch G k x a)) ∙ ap (λ l. x ∷ l) (sym (ended k x a beside_a few_behind)))
