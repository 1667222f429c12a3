-- Branches of a forest hold different nodes, so no more than there are, and longer ones hold more.
use Rattle.std.proofs.Common.{◌++◌, ◌≡◌, ℕ, zero, suc, ◌+◌, ◌≤◌, ◌<◌, Bool, true, false, cond, eqb, List, [], ◌∷◌, length, refl, sym, ap, ◌∙◌, subst, arith, inl, inr, length-append}
use Rattle.std.specs.Prelude.{Contains, flat_map, filter, not}
use Rattle.std.proofs.lemmas.Bool.Decides.{eqb_tells}
use Rattle.std.proofs.lemmas.List.Elements.{Contains-append_left, Contains-append_right}
use Rattle.re_layers.specs.Networks.{AreDifferent, IsForest, Network, branch, others}
use Rattle.re_labels.proofs.Membership.{Contains-cases, Contains-filter_cases, Contains-flat_map, Contains-flat_map_cases, Contains-here, Contains-later, Contains-none}
use Rattle.re_labels.proofs.Tests.{eqb-true, not-true}
use Rattle.re_layers.proofs.Balls.{others_near}

-- ---- lists in which nothing stands twice
pub Different-filter : (test : ℕ → Bool) (xs : List ℕ) → AreDifferent xs → AreDifferent (filter test xs)
Different-filter test [] d = tt
Different-filter test (x ∷ xs) d = at (test x) (Different-filter test xs d.1)
  where
    at : (b : Bool) → AreDifferent (filter test xs) → AreDifferent (cond b (x ∷ filter test xs) (filter test xs))
    at true rest = (λ held. d.0 (Contains-filter_cases test xs x held).0, rest)
    at false rest = rest

Different-left : (xs ys : List ℕ) → AreDifferent (xs ++ ys) → AreDifferent xs
Different-left [] ys d = tt
Different-left (x ∷ xs) ys d = (λ held. d.0 (Contains-append_left xs ys x held), Different-left xs ys d.1)

Different-right : (xs ys : List ℕ) → AreDifferent (xs ++ ys) → AreDifferent ys
Different-right [] ys d = d
Different-right (x ∷ xs) ys d = Different-right xs ys d.1

Different-piece : (f : ℕ → List ℕ) (xs : List ℕ) (x : ℕ) → Contains xs x → AreDifferent (flat_map f xs) → AreDifferent (f x)
Different-piece f [] x held d = absurd (Contains-none x held)
Different-piece f (y ∷ xs) x held d = elim (Contains-cases x y xs held) [
  | inl e ↦ subst (λ z. AreDifferent (f z)) (sym e) (Different-left (f y) (flat_map f xs) d)
  | inr later ↦ Different-piece f xs x later (Different-right (f y) (flat_map f xs) d)
]

-- what stands in one part stands not in the other
pub Different-apart : (xs ys : List ℕ) (z : ℕ) → AreDifferent (xs ++ ys) → Contains xs z → Contains ys z → ⊥
Different-apart [] ys z d here there = Contains-none z here
Different-apart (x ∷ xs) ys z d here there = elim (Contains-cases z x xs here) [
  | inl e ↦ d.0 (subst (Contains (xs ++ ys)) e (Contains-append_right xs ys z there))
  | inr later ↦ Different-apart xs ys z d.1 later there
]

-- without one number a list has at most one less
left_all : (x : ℕ) (xs : List ℕ) → (Contains xs x → ⊥) → length (filter (λ w. not (eqb w x)) xs) ≡ length xs
left_all x [] none = refl
left_all x (y ∷ xs) none = at (eqb y x) refl (left_all x xs (λ held. none (Contains-later x y xs held)))
  where
    at : (b : Bool) → eqb y x ≡ b → length (filter (λ w. not (eqb w x)) xs) ≡ length xs
        → length (cond (not b) (y ∷ filter (λ w. not (eqb w x)) xs) (filter (λ w. not (eqb w x)) xs)) ≡ suc (length xs)
    at true e rest = absurd (none (subst (Contains (y ∷ xs)) (eqb-true y x e) (Contains-here y xs)))
    at false e rest = ap suc rest

pub left_most : (x : ℕ) (xs : List ℕ) → AreDifferent xs → length xs ≤ suc (length (filter (λ w. not (eqb w x)) xs))
left_most x [] d = omega arith
left_most x (y ∷ xs) d = at (eqb y x) refl (left_most x xs d.1)
  where
    at : (b : Bool) → eqb y x ≡ b → length xs ≤ suc (length (filter (λ w. not (eqb w x)) xs))
        → suc (length xs) ≤ suc (length (cond (not b) (y ∷ filter (λ w. not (eqb w x)) xs) (filter (λ w. not (eqb w x)) xs)))
    at true e rest = let all = left_all x xs (λ held. d.0 (subst (Contains xs) (sym (eqb-true y x e)) held)) in omega (arith, all)
    at false e rest = omega (arith, rest)

-- different numbers below N are at most N
pub pigeonhole : (N : ℕ) (xs : List ℕ) → AreDifferent xs → ((x : ℕ) → Contains xs x → x < N) → length xs ≤ N
pigeonhole zero [] d low = omega arith
pigeonhole zero (x ∷ xs) d low = absurd (let l = low x (Contains-here x xs) in omega (arith, l))
pigeonhole (suc N) xs d low =
    let most = left_most N xs d in
    let rest : length (filter (λ w. not (eqb w N)) xs) ≤ N =
    pigeonhole N (filter (λ w. not (eqb w N)) xs) (Different-filter (λ w. not (eqb w N)) xs d) (λ x held. lower x (Contains-filter_cases (λ w. not (eqb w N)) xs x held)) in
    omega (arith, most, rest)
  where
    lower : (x : ℕ) → Contains xs x × (not (eqb x N) ≡ true) → x < N
    lower x (held, passes) = elim (eqb_tells x N) [
      | inl t ↦ absurd (let no : eqb x N ≡ false = not-true (eqb x N) passes in let yes : eqb x N ≡ true = t.0 in cc)
      | inr t ↦ (let l = low x held in let other : x ≡ N → ⊥ = t.1 in omega (arith, l, other))
    ]

-- ---- lengths of joined lists
pub length-piece : (f : ℕ → List ℕ) (xs : List ℕ) (x : ℕ) → Contains xs x → length (f x) ≤ length (flat_map f xs)
length-piece f [] x held = absurd (Contains-none x held)
length-piece f (y ∷ xs) x held = let both : length (f y ++ flat_map f xs) ≡ length (f y) + length (flat_map f xs) = length-append (f y) (flat_map f xs) in
    elim (Contains-cases x y xs held) [
      | inl e ↦ (let same : length (f y) ≡ length (f x) = ap (λ z. length (f z)) (sym e) in omega (arith, both, same))
      | inr later ↦ (let rest = length-piece f xs x later in omega (arith, both, rest))
    ]

pub length-two_pieces : (f : ℕ → List ℕ) (xs : List ℕ) (x y : ℕ) → Contains xs x → Contains xs y → (x ≡ y → ⊥) → length (f x) + length (f y) ≤ length (flat_map f xs)
length-two_pieces f [] x y held there other = absurd (Contains-none x held)
length-two_pieces f (z ∷ xs) x y held there other = let both : length (f z ++ flat_map f xs) ≡ length (f z) + length (flat_map f xs) = length-append (f z) (flat_map f xs) in
    elim (Contains-cases x z xs held) [
      | inl e ↦ elim (Contains-cases y z xs there) [
        | inl e' ↦ absurd (other (e ∙ sym e'))
        | inr later ↦
            (let same : length (f z) ≡ length (f x) = ap (λ w. length (f w)) (sym e) in
            let rest = length-piece f xs y later in
            omega (arith, both, same, rest))
      ]
      | inr at ↦ elim (Contains-cases y z xs there) [
        | inl e' ↦
            (let same : length (f z) ≡ length (f y) = ap (λ w. length (f w)) (sym e') in
            let rest = length-piece f xs x at in
            omega (arith, both, same, rest))
        | inr later ↦ (let rest = length-two_pieces f xs x y at later other in omega (arith, both, rest))
      ]
    ]

length-pieces_le : (f g : ℕ → List ℕ) (xs : List ℕ) → ((x : ℕ) → length (f x) ≤ length (g x)) → length (flat_map f xs) ≤ length (flat_map g xs)
length-pieces_le f g [] each = omega arith
length-pieces_le f g (x ∷ xs) each =
    let one : length (f x ++ flat_map f xs) ≡ length (f x) + length (flat_map f xs) = length-append (f x) (flat_map f xs) in
    let other : length (g x ++ flat_map g xs) ≡ length (g x) + length (flat_map g xs) = length-append (g x) (flat_map g xs) in
    let rest = length-pieces_le f g xs each in
    let here = each x in
    omega (arith, one, other, rest, here)

-- ---- branches
pub branch_some : (G : Network) (k u v : ℕ) → 1 ≤ length (branch G k u v)
branch_some G zero u v = omega arith
branch_some G (suc k) u v = omega arith

pub branch_longer : (G : Network) (k j u v : ℕ) → k ≤ j → length (branch G k u v) ≤ length (branch G j u v)
branch_longer G zero j u v l = branch_some G j u v
branch_longer G (suc k) zero u v l = absurd (omega arith)
branch_longer G (suc k) (suc j) u v l =
    let rest : length (flat_map (λ w. branch G k v w) (others G u v)) ≤ length (flat_map (λ w. branch G j v w) (others G u v)) =
    length-pieces_le (λ w. branch G k v w) (λ w. branch G j v w) (others G u v) (λ w. branch_longer G k j v w (omega arith)) in
    omega (arith, rest)

module _ {a p N : ℕ} {G : Network} (is : IsForest a p N G) where
  pub near_different : (v : ℕ) → AreDifferent (G.near v)
  near_different v = at (G.near v) (is.acyclic v 1).1
    where
      at : (xs : List ℕ) → AreDifferent (flat_map (λ w. branch G zero v w) xs) → AreDifferent xs
      at [] d = tt
      at (x ∷ xs) d = (λ held. d.0 (Contains-flat_map (λ w. branch G zero v w) xs x x held (Contains-here x [])), at xs d.1)

  pub branch_below : (k u v x : ℕ) → v < N → Contains (branch G k u v) x → x < N
  branch_below zero u v x low held = elim (Contains-cases x v [] held) [
    | inl e ↦ subst (λ w. w < N) (sym e) low
    | inr none ↦ absurd (Contains-none x none)
  ]
  branch_below (suc k) u v x low held = elim (Contains-cases x v (flat_map (λ w. branch G k v w) (others G u v)) held) [
    | inl e ↦ subst (λ w. w < N) (sym e) low
    | inr later ↦
        (let (w, there, at) = Contains-flat_map_cases (λ w. branch G k v w) (others G u v) x later in
        branch_below k v w x (is.below v w (others_near G u v w there)).1 at)
  ]

  -- a branch of a forest has at most as many nodes as there are
  pub branch_short : (k u v : ℕ) → Contains (G.near u) v → length (branch G k u v) ≤ N
  branch_short k u v on =
      pigeonhole N (branch G k u v) (Different-piece (λ w. branch G k u w) (G.near u) v on (is.acyclic u (suc k)).1)
      (λ x held. branch_below k u v x (is.below u v on).1 held)

  -- a walk that never turns back doesn't come to its first node again
  pub never_back : (k u v x : ℕ) → Contains (G.near u) v → Contains (branch G k u v) x → u ≡ x → ⊥
  never_back k u v x on held e =
      (is.acyclic u (suc k)).0 (Contains-flat_map (λ w. branch G k u w) (G.near u) v u on (subst (Contains (branch G k u v)) (sym e) held))
