-- A network each of whose edges leads up from one of its ends, to a lower rank: no walk that never turns back comes to a node twice.
use Rattle.std.proofs.Common.{◌≡◌, ℕ, zero, suc, ◌≤◌, ◌<◌, true, eqb, List, [], ◌∷◌, ◌++◌, refl, sym, ap, ◌∙◌, subst, ◌⊎◌, inl, inr, arith}
use Rattle.std.specs.Prelude.{Contains, flat_map, not}
use Rattle.std.proofs.lemmas.List.Elements.{Contains-append_cases}
use Rattle.re_layers.proofs.Balls.{others_near}
use Rattle.re_layers.proofs.Different.{Different-filter}
use Rattle.re_labels.proofs.Tests.{eqb-same, not-true}
use Rattle.re_labels.proofs.Membership.{Contains-cases, Contains-filter_cases, Contains-flat_map_cases, Contains-here, Contains-later, Contains-none}
use Rattle.re_layers.specs.Networks.{AreDifferent, Network, ball, branch, others}
use Rattle.std.proofs.lemmas.Bool.{false≢true}

-- ---- lists joined of pieces that share nothing
pub Different-append : (xs ys : List ℕ) → AreDifferent xs → AreDifferent ys → ((x : ℕ) → Contains xs x → Contains ys x → ⊥) → AreDifferent (xs ++ ys)
Different-append [] ys d e apart = e
Different-append (x ∷ xs) ys d e apart = (
  λ held. elim (Contains-append_cases xs ys x held) [ inl here ↦ d.0 here | inr there ↦ apart x (Contains-here x xs) there ],
  Different-append xs ys d.1 e (λ y here. apart y (Contains-later y x xs here)),
)

Different-flat_map : (f : ℕ → List ℕ) (xs : List ℕ) → AreDifferent xs → ((x : ℕ) → Contains xs x → AreDifferent (f x))
    → ((x y z : ℕ) → Contains xs x → Contains xs y → (x ≡ y → ⊥) → Contains (f x) z → Contains (f y) z → ⊥) → AreDifferent (flat_map f xs)
Different-flat_map f [] d each apart = tt
Different-flat_map f (x ∷ xs) d each apart =
    Different-append (f x) (flat_map f xs) (each x (Contains-here x xs))
    (Different-flat_map f xs d.1 (λ y held. each y (Contains-later y x xs held))
    (λ y y' z held held'. apart y y' z (Contains-later y x xs held) (Contains-later y' x xs held')))
    (λ z here later. (let (y, held, there) = Contains-flat_map_cases f xs z later in
    apart x y z (Contains-here x xs) (Contains-later y x xs held) (λ e. d.0 (subst (Contains xs) (sym e) held)) here there))

pub others_other : (G : Network) (u v w : ℕ) → Contains (others G u v) w → w ≡ u → ⊥
others_other G u v w held e =
    let passes : not (eqb w u) ≡ true = (Contains-filter_cases (λ x. not (eqb x u)) (G.near v) w held).1 in
    let same : eqb w u ≡ true = subst (λ x. eqb w x ≡ true) e (eqb-same w) in
    false≢true (sym (not-true (eqb w u) passes) ∙ same)

-- ---- up from node to node
module _ (G : Network) (rank : ℕ → ℕ) (up : ℕ → ℕ) (lower : (x : ℕ) → rank (up x) ≤ rank x)
    (edge : (v w : ℕ) → Contains (G.near v) w → ((w ≡ up v) × (rank w < rank v)) ⊎ ((v ≡ up w) × (rank v < rank w)))
    (apart : (v : ℕ) → AreDifferent (G.near v)) where
  above : ℕ → ℕ → ℕ
  above zero x = x
  above (suc i) x = above i (up x)

  abbrev IsUnder : ℕ → ℕ → Type 0
  IsUnder w x = (i : ℕ) × (above i x ≡ w)

  above_next : (i x : ℕ) → above (suc i) x ≡ up (above i x)
  unfolding above
  above_next zero x = refl
  above_next (suc i) x = above_next i (up x)

  under_next : (v w x : ℕ) → v ≡ up w → IsUnder w x → IsUnder v x
  under_next v w x e (i, at) = (suc i, above_next i x ∙ ap up at ∙ sym e)

  above_lower : (i x : ℕ) → rank (above i x) ≤ rank x
  unfolding above
  above_lower zero x = omega arith
  above_lower (suc i) x = let rest = above_lower i (up x) in let one = lower x in omega (arith, rest, one)

  under_lower : (w x : ℕ) → IsUnder w x → rank w ≤ rank x
  under_lower w x (i, at) = subst (λ y. rank y ≤ rank x) at (above_lower i x)

  under_own : (x : ℕ) → IsUnder x x
  unfolding above
  under_own x = (zero, refl)

  -- of two nodes above one, one is above the other
  in_line : (i j x w u : ℕ) → above i x ≡ w → above j x ≡ u → IsUnder w u ⊎ IsUnder u w
  unfolding above
  in_line zero j x w u e f = inr (j, subst (λ y. above j y ≡ u) e f)
  in_line (suc i) zero x w u e f = inl (suc i, subst (λ y. above (suc i) y ≡ w) f e)
  in_line (suc i) (suc j) x w u e f = in_line i j (up x) w u e f

  level : (v w u : ℕ) → v ≡ up u → rank v < rank w → IsUnder w u → w ≡ u
  unfolding above
  level v w u e less (zero, at) = sym at
  level v w u e less (suc i, at) = let most : rank w ≤ rank (up u) = under_lower w (up u) (i, at) in let same : rank v ≡ rank (up u) = ap rank e in absurd (omega (arith, most, same, less))

  same_level : (v w u x : ℕ) → v ≡ up w → v ≡ up u → rank v < rank w → rank v < rank u → IsUnder w x → IsUnder u x → w ≡ u
  same_level v w u x e f low also (i, at) (j, there) = elim (in_line i j x w u at there) [
    | inl under ↦ level v w u f low under
    | inr under ↦ sym (level v u w e also under)
  ]

  -- ---- where walks go
  downward : (k v w x : ℕ) → v ≡ up w → rank v < rank w → Contains (branch G k v w) x → IsUnder w x
  downward zero v w x e less held = elim (Contains-cases x w [] held) [
    | inl same ↦ subst (IsUnder w) (sym same) (under_own w)
    | inr none ↦ absurd (Contains-none x none)
  ]
  downward (suc k) v w x e less held = elim (Contains-cases x w (flat_map (λ y. branch G k w y) (others G v w)) held) [
    | inl same ↦ subst (IsUnder w) (sym same) (under_own w)
    | inr later ↦ (let (y, there, at) = Contains-flat_map_cases (λ y. branch G k w y) (others G v w) x later in
        elim (edge w y (others_near G v w y there)) [
          | inl back ↦ absurd (others_other G v w y there (back.0 ∙ sym e))
          | inr on ↦ under_next w y x on.0 (downward k w y x on.0 on.1 at)
        ])
  ]

  not_high : (u v x : ℕ) → rank v < rank u → x ≡ v → IsUnder u x → ⊥
  not_high u v x less e under = let most = under_lower u x under in let same : rank x ≡ rank v = ap rank e in omega (arith, most, same, less)

  upward : (k u v x : ℕ) → v ≡ up u → rank v < rank u → Contains (branch G k u v) x → IsUnder u x → ⊥
  upward zero u v x e less held under = elim (Contains-cases x v [] held) [
    | inl same ↦ not_high u v x less same under
    | inr none ↦ Contains-none x none
  ]
  upward (suc k) u v x e less held under = elim (Contains-cases x v (flat_map (λ y. branch G k v y) (others G u v)) held) [
    | inl same ↦ not_high u v x less same under
    | inr later ↦ (let (y, there, at) = Contains-flat_map_cases (λ y. branch G k v y) (others G u v) x later in
        elim (edge v y (others_near G u v y there)) [
          | inl on ↦ upward k v y x on.0 on.1 at (under_next v u x e under)
          | inr down ↦ others_other G u v y there (same_level v y u x down.0 e down.1 less (downward k v y x down.0 down.1 at) under)
        ])
  ]

  not_both : (k v w u x : ℕ) → Contains (G.near v) w → Contains (G.near v) u → (w ≡ u → ⊥) → Contains (branch G k v w) x → Contains (branch G k v u) x → ⊥
  not_both k v w u x on also other at there = elim (edge v w on) [
    | inl high ↦ elim (edge v u also) [
      | inl high' ↦ other (high.0 ∙ sym high'.0)
      | inr low' ↦ upward k v w x high.0 high.1 at (under_next v u x low'.0 (downward k v u x low'.0 low'.1 there))
    ]
    | inr low ↦ elim (edge v u also) [
      | inl high' ↦ upward k v u x high'.0 high'.1 there (under_next v w x low.0 (downward k v w x low.0 low.1 at))
      | inr low' ↦ other (same_level v w u x low.0 low'.0 low.1 low'.1 (downward k v w x low.0 low.1 at) (downward k v u x low'.0 low'.1 there))
    ]
  ]

  not_back : (k v w : ℕ) → Contains (G.near v) w → Contains (branch G k v w) v → ⊥
  not_back k v w on at = elim (edge v w on) [
    | inl high ↦ upward k v w v high.0 high.1 at (under_own v)
    | inr low ↦ (let most = under_lower w v (downward k v w v low.0 low.1 at) in let less = low.1 in omega (arith, most, less))
  ]

  -- ---- nothing stands twice
  joined : (k v : ℕ) (ways : List ℕ) → AreDifferent ways → ((w : ℕ) → Contains ways w → Contains (G.near v) w)
      → ((w : ℕ) → AreDifferent (branch G k v w)) → AreDifferent (v ∷ flat_map (λ w. branch G k v w) ways)
  joined k v ways d within each = (
    λ held. (let (w, on, at) = Contains-flat_map_cases (λ w. branch G k v w) ways v held in not_back k v w (within w on) at),
    Different-flat_map (λ w. branch G k v w) ways d (λ w on. each w) (λ w u x on also other. not_both k v w u x (within w on) (within u also) other),
  )

  alone : (v : ℕ) → AreDifferent (v ∷ [])
  alone v = (Contains-none v, tt)

  branch_different : (k u v : ℕ) → AreDifferent (branch G k u v)
  branch_different zero u v = alone v
  branch_different (suc k) u v =
      joined k v (others G u v) (Different-filter (λ w. not (eqb w u)) (G.near v) (apart v)) (others_near G u v) (λ w. branch_different k v w)

  pub ball_different : (v k : ℕ) → AreDifferent (ball G k v)
  ball_different v zero = alone v
  ball_different v (suc k) = joined k v (G.near v) (apart v) (λ w on. on) (λ w. branch_different k v w)
