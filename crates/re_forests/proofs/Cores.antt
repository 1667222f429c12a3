-- Filled networks: their edges, their parts, and the walks in them to leaves.
use Rattle.std.proofs.Common.{◌≡◌, ℕ, zero, suc, ◌+◌, ◌*◌, ◌%◌, ◌≤◌, ◌<◌, Bool, true, false, cond, List, [], ◌∷◌, ◌++◌, map, refl, sym, ◌∙◌, ap, subst, arith}
use Rattle.std.specs.Prelude.{Contains, if◌then◌else◌}
use Rattle.std.proofs.Math.Nat.{mod-eq_of_lt, mul-le-mul_right}
use Rattle.std.proofs.lemmas.Bool.{le-leb}
use Rattle.std.proofs.lemmas.List.Elements.{Contains-append_right}
use Rattle.std.proofs.lemmas.Nat.{mod-mul-add}
use Rattle.re_forests.proofs.Cuts.{IsCutting}
use Rattle.re_forests.proofs.Growing.{IsHanging-star, active_filled, filled, filled_cutting, fills, missing, near_filled, room, star, star_kids, star_kind, star_under}
use Rattle.re_forests.proofs.Hung.{Step, down, inner, near_at, near_of_step, step_of, up}
use Rattle.re_forests.proofs.TreeWalks.{Walk, walk_edge, walk_in, walk_one_more}
use Rattle.re_labels.proofs.Membership.{Contains-count_from, Contains-here, Contains-map}
use Rattle.re_layers.specs.Networks.{Network}

-- from each edge, in each of its directions, one comes to a leaf through at most S nodes
abbrev pub ToLeaves : Network → ℕ → Type 0
ToLeaves G S = (u v : ℕ) → Contains (G.near u) v → (s : ℕ) × (s ≤ S) × (x : ℕ) × (y : ℕ) × Walk G s u v x y × (G.near y ≡ x ∷ [])

module _ (a p : ℕ) where
  pub filled_edge : (K : Network) (Q : ℕ) → 0 < Q → IsCutting a p Q K → (v w : ℕ) → Contains (K.near v) w → Contains ((filled a p K Q).near v) w
  filled_edge K Q some is v w held =
      let (l, m) = is.below v w held in
      near_of_step K Q star star_kids star_kind star_under (room a p K) IsHanging-star some v w (inner l m held)

  steps : (K : Network) (Q : ℕ) → 0 < Q → IsCutting a p Q K → (x y : ℕ) → Contains ((filled a p K Q).near x) y → Step K Q star (room a p K) x y
  steps K Q some is = step_of K Q star star_kids star_kind star_under (room a p K) IsHanging-star some is.below

  -- a leaf gets a neighbour, which is a leaf now
  next_leaf : (K : Network) (Q : ℕ) → 0 < Q → 2 ≤ a → 2 ≤ p → (x y : ℕ) → y < Q → K.near y ≡ x ∷ [] → Contains ((filled a p K Q).near y) (1 * Q + y)
  next_leaf K Q some two two' x y l e =
      subst (λ near. Contains near (1 * Q + y)) (sym (near_filled a p K Q some y l))
      (Contains-append_right (K.near y) (map (λ j. j * Q + y) (star_kids (room a p K y) zero)) (1 * Q + y)
      (Contains-map (λ j. j * Q + y) (star_kids (room a p K y) zero) 1 (Contains-count_from 1 (room a p K y) 1 (omega arith) (let r = some_room in omega arith))))
    where
      wide : (b : Bool) → 2 ≤ (if b then a else p)
      wide true = two
      wide false = two'

      some_room : 1 ≤ room a p K y
      some_room = subst (λ near. 1 ≤ missing (if K.active y then a else p) near) (sym e) (let w = wide (K.active y) in omega arith)

  leaf_near : (K : Network) (Q : ℕ) → 0 < Q → (i v : ℕ) → v < Q → suc i ≤ room a p K v → (filled a p K Q).near (suc i * Q + v) ≡ v ∷ []
  leaf_near K Q some i v l le =
      near_at K Q star star_kids star_kind star_under (room a p K) IsHanging-star some (suc i) v l
      ∙ ap (λ b. cond b ((star i * Q + v) ∷ []) [] ++ []) (le-leb (suc i) (room a p K v) le)
      ∙ ap (λ z. z ∷ []) (let e : star i * Q + v ≡ v = omega arith in e)

  module _ (two : 2 ≤ a) (two' : 2 ≤ p) (six : a ≤ 6) (six' : p ≤ 6) where
    to_leaves_filled : (K : Network) (Q S : ℕ) → 0 < Q → IsCutting a p Q K → ToLeaves K S → ToLeaves (filled a p K Q) (2 + S)
    to_leaves_filled K Q S some is each u v held = by u v (steps K Q some is u v held)
      where
        onward : (u v : ℕ) → Contains (K.near u) v → (s : ℕ) × (s ≤ 1 + S) × (x : ℕ) × (y : ℕ) × Walk (filled a p K Q) s u v x y × ((filled a p K Q).near y ≡ x ∷ [])
        onward u v at =
            let (s, le, x, y, walk, leaf) = each u v at in
            let edge : Contains (K.near x) y = walk_edge K s u v x y at walk in
            let (l, m) = is.below x y edge in
            let new = next_leaf K Q some two two' x y m leaf in
            let room_y : suc 0 ≤ room a p K y = some_room x y leaf in (
              suc s,
              omega arith,
              y,
              1 * Q + y,
              walk_one_more (filled a p K Q) s u v x y (1 * Q + y) (walk_in K (filled a p K Q) (filled_edge K Q some is) s u v x y walk) new (λ e. omega arith),
              leaf_near K Q some 0 y m room_y,
            )
          where
            wide : (b : Bool) → 2 ≤ (if b then a else p)
            wide true = two
            wide false = two'

            some_room : (x y : ℕ) → K.near y ≡ x ∷ [] → 1 ≤ room a p K y
            some_room x y e = subst (λ near. 1 ≤ missing (if K.active y then a else p) near) (sym e) (let w = wide (K.active y) in omega arith)

        first_of_near : (d : ℕ) (xs : List ℕ) → 1 ≤ missing d xs → (x : ℕ) × Contains xs x
        first_of_near d [] some = absurd (omega arith)
        first_of_near d (x ∷ xs) some = (x, Contains-here x xs)

        by : (u v : ℕ) → Step K Q star (room a p K) u v
            → (s : ℕ) × (s ≤ 2 + S) × (x : ℕ) × (y : ℕ) × Walk (filled a p K Q) s u v x y × ((filled a p K Q).near y ≡ x ∷ [])
        by u v (inner l m at) = let (s, le, x, y, walk, leaf) = onward u v at in (s, omega arith, x, y, walk, leaf)
        by u v (down i w l le e f) =
            let g : u ≡ w = omega arith in (
              zero,
              omega arith,
              u,
              v,
              (refl, refl),
              ap (filled a p K Q).near e ∙ leaf_near K Q some i w l le ∙ ap (λ z. z ∷ []) (sym g),
            )
        by u v (up i w l le e f) =
            let g : v ≡ w = omega arith in
            let (x, at) = first_of_near (if K.active w then a else p) (K.near w) (omega arith) in
            let (s, le', x', y, walk, leaf) = onward w x at in
            let (low, low') = is.below w x at in
            let big : 1 * Q ≤ suc i * Q = mul-le-mul_right Q (omega arith) in (
              suc s,
              omega arith,
              x',
              y,
              (
                x,
                subst (λ z. Contains ((filled a p K Q).near z) x) (sym g) (filled_edge K Q some is w x at),
                λ h. omega (arith, big),
                subst (λ z. Walk (filled a p K Q) s z x x' y) (sym g) walk,
              ),
              leaf,
            )

    pub to_leaves : (n : ℕ) (K : Network) (Q S : ℕ) → 0 < Q → IsCutting a p Q K → ToLeaves K S → ToLeaves (fills a p n K Q) (2 * n + S)
    to_leaves zero K Q S some is each u v held =
        let (s, le, x, y, walk, leaf) = each u v held in (s, omega arith, x, y, walk, leaf)
    to_leaves (suc n) K Q S some is each u v held =
        let (s, le, x, y, walk, leaf) = to_leaves n (filled a p K Q) (7 * Q) (2 + S) (omega arith) (filled_cutting a p two two' six six' K Q some is) (to_leaves_filled K Q S some is each) u v held in
        (s, omega arith, x, y, walk, leaf)

    pub fills_edge : (n : ℕ) (K : Network) (Q : ℕ) → 0 < Q → IsCutting a p Q K → (v w : ℕ) → Contains (K.near v) w → Contains ((fills a p n K Q).near v) w
    fills_edge zero K Q some is v w held = held
    fills_edge (suc n) K Q some is v w held =
        fills_edge n (filled a p K Q) (7 * Q) (omega arith) (filled_cutting a p two two' six six' K Q some is) v w (filled_edge K Q some is v w held)

    pub fills_active : (n : ℕ) (K : Network) (Q v : ℕ) → 0 < Q → v < Q → (fills a p n K Q).active v ≡ K.active v
    fills_active zero K Q v some l = refl
    fills_active (suc n) K Q v some l = fills_active n (filled a p K Q) (7 * Q) v (omega arith) (omega arith) ∙ active_filled a p K Q some v l

-- ---- parts of the network
abbrev pub part_filled : ℕ → ℕ → (ℕ → Bool) → ℕ → Bool
part_filled zero Q part = part
part_filled (suc n) Q part = part_filled n (7 * Q) (λ x. part (x % Q))

pub part_inner : (n Q : ℕ) (part : ℕ → Bool) (v : ℕ) → v < Q → part_filled n Q part v ≡ part v
part_inner zero Q part v l = refl
part_inner (suc n) Q part v l = part_inner n (7 * Q) (λ x. part (x % Q)) v (omega arith) ∙ ap part (mod-eq_of_lt l)

module _ (a p : ℕ) (two : 2 ≤ a) (two' : 2 ≤ p) (six : a ≤ 6) (six' : p ≤ 6) where
  pub part_kept : (n : ℕ) (K : Network) (Q : ℕ) (part : ℕ → Bool) → 0 < Q → IsCutting a p Q K → ((v w : ℕ) → Contains (K.near v) w → part v ≡ part w)
      → (v w : ℕ) → Contains ((fills a p n K Q).near v) w → part_filled n Q part v ≡ part_filled n Q part w
  part_kept zero K Q part some is kept v w held = kept v w held
  part_kept (suc n) K Q part some is kept v w held =
      part_kept n (filled a p K Q) (7 * Q) (λ x. part (x % Q)) (omega arith) (filled_cutting a p two two' six six' K Q some is)
      (λ v w at. by v w (steps a p K Q some is v w at)) v w held
    where
      by : (x y : ℕ) → Step K Q star (room a p K) x y → part (x % Q) ≡ part (y % Q)
      by x y (inner l m at) = ap part (mod-eq_of_lt l) ∙ kept x y at ∙ sym (ap part (mod-eq_of_lt m))
      by x y (up i v l le e f) =
          ap (λ z. part (z % Q)) e ∙ ap part (mod-mul-add (suc i) Q v l) ∙ sym (ap (λ z. part (z % Q)) f ∙ ap part (mod-mul-add (star i) Q v l))
      by x y (down i v l le e f) =
          ap (λ z. part (z % Q)) f ∙ ap part (mod-mul-add (star i) Q v l) ∙ sym (ap (λ z. part (z % Q)) e ∙ ap part (mod-mul-add (suc i) Q v l))
