-- The places that are seen from a node of a forest: each is seen once.
use Rattle.std.proofs.Common.{◌≡◌, ℕ, zero, suc, ◌≤◌, ◌<◌, List, [], ◌∷◌, length, get_or, refl, sym, ◌∙◌, ap, subst, arith, ◌⊎◌, inl, inr}
use Rattle.std.specs.Prelude.{Contains, ◌==◌, flat_map, if◌then◌else◌, not}
use Rattle.std.proofs.lemmas.Bool.{ne_eqb}
use Rattle.std.proofs.lemmas.List.Elements.{Contains-get_or}
use Rattle.re_forests.proofs.Filled.{port}
use Rattle.re_forests.proofs.Ports.{near_differ, port_at}
use Rattle.re_forests.proofs.OnceLists.{IsOnce, dropped, dropped_other, once_count, once_dropped, once_pieces, pieces_apart}
use Rattle.re_forests.proofs.Places.{Place, back_of, back_past, back_real, beyond, by_port, kind_of, next_of, next_past, next_real, real}
use Rattle.re_labels.specs.Lists.{count_from}
use Rattle.re_labels.proofs.Membership.{Contains-cases, Contains-filter, Contains-flat_map, Contains-flat_map_cases, Contains-here, Contains-later, Contains-none}
use Rattle.re_layers.specs.Networks.{IsForest, Network, branch, others}

-- how far behind the forest a place is thought, and behind which node
abbrev pub size : Place → ℕ
size (real v) = 0
size (beyond u i) = suc (size u)

abbrev pub root : Place → ℕ
root (real v) = v
root (beyond u i) = root u

-- z is y or thought behind it
abbrev pub Under : Place → Place → Type 0
Under y (real v) = real v ≡ y
Under y (beyond u i) = (beyond u i ≡ y) ⊎ Under y u

under_self : (x : Place) → Under x x
under_self (real v) = refl
under_self (beyond u i) = inl refl

parent : Place → Place → Place
parent other (real v) = other
parent other (beyond u i) = u

last : Place → ℕ
last (real v) = 0
last (beyond u i) = i

under_parent : (x : Place) (k : ℕ) (z : Place) → Under (beyond x k) z → Under x z
unfolding parent
under_parent x k (real v) under = absurd (cc)
under_parent x k (beyond u i) (inl e) = inr (subst (λ y. Under x y) (sym (ap (parent x) e)) (under_self x))
under_parent x k (beyond u i) (inr under) = inr (under_parent x k u under)

under_size : (y z : Place) → Under y z → size y ≤ size z
under_size y (real v) under = let e : 0 ≡ size y = ap size under in omega arith
under_size y (beyond u i) (inl e) = let same : suc (size u) ≡ size y = ap size e in omega arith
under_size y (beyond u i) (inr under) = let less = under_size y u under in omega arith

under_root : (y z : Place) → Under y z → root z ≡ root y
under_root y (real v) under = ap root under
under_root y (beyond u i) (inl e) = ap root e
under_root y (beyond u i) (inr under) = under_root y u under

under_one : (y y' z : Place) → Under y z → Under y' z → size y ≡ size y' → y ≡ y'
under_one y y' (real v) under under' same = sym under ∙ under'
under_one y y' (beyond u i) (inl e) (inl e') same = sym e ∙ e'
under_one y y' (beyond u i) (inl e) (inr under) same =
    let less = under_size y' u under in let here : suc (size u) ≡ size y = ap size e in absurd (omega arith)
under_one y y' (beyond u i) (inr under) (inl e) same =
    let less = under_size y u under in let here : suc (size u) ≡ size y' = ap size e in absurd (omega arith)
under_one y y' (beyond u i) (inr under) (inr under') same = under_one y y' u under under' same

siblings_apart : (x : Place) (j k : ℕ) (z : Place) → Under (beyond x j) z → Under (beyond x k) z → j ≡ k
unfolding last
siblings_apart x j k z under under' = ap last (under_one (beyond x j) (beyond x k) z under under' refl)

module _ (a p : ℕ) (G : Network) where
  abbrev pub ports : Place → List ℕ
  ports x = count_from 0 (if kind_of G x then a else p)

  -- all that is seen in t steps by these ports of x, without turning back
  abbrev pub seen : ℕ → Place → List ℕ → List Place
  seen zero x ks = []
  seen (suc t) x ks = flat_map (λ k. next_of G x k ∷ seen t (next_of G x k) (dropped (back_of G x k) (ports (next_of G x k)))) ks

  -- what is seen by one port
  abbrev pub piece : ℕ → Place → ℕ → List Place
  piece t x k = next_of G x k ∷ seen t (next_of G x k) (dropped (back_of G x k) (ports (next_of G x k)))

  piece_is : (t : ℕ) (x y : Place) (k q : ℕ) → next_of G x k ≡ y → back_of G x k ≡ q → piece t x k ≡ y ∷ seen t y (dropped q (ports y))
  piece_is t x y k q next back = ap (λ z. z ∷ seen t z (dropped (back_of G x k) (ports z))) next ∙ ap (λ j. y ∷ seen t y (dropped j (ports y))) back

  piece_deep : (t : ℕ) (u : Place) (i k : ℕ) → (k ≡ 0 → ⊥) → piece t (beyond u i) k ≡ beyond (beyond u i) k ∷ seen t (beyond (beyond u i) k) (dropped 0 (ports (beyond (beyond u i) k)))
  piece_deep t u i zero some = absurd (some refl)
  piece_deep t u i (suc k) some = refl

  -- ---- behind a port without a neighbour
  deep_port : (y : Place) (k : ℕ) → Contains (dropped 0 (ports y)) k → k ≡ 0 → ⊥
  deep_port y k held e = dropped_other 0 0 (if kind_of G y then a else p) k held (omega arith)

  deep_piece : (t : ℕ) (u : Place) (i k : ℕ) (z : Place)
      → ((z : Place) → Contains (seen t (beyond (beyond u i) k) (dropped 0 (ports (beyond (beyond u i) k)))) z → (j : ℕ) × Under (beyond (beyond (beyond u i) k) j) z)
      → (k ≡ 0 → ⊥) → Contains (piece t (beyond u i) k) z → Under (beyond (beyond u i) k) z
  deep_piece t u i k z behind some held =
      elim (Contains-cases z (beyond (beyond u i) k) (seen t (beyond (beyond u i) k) (dropped 0 (ports (beyond (beyond u i) k)))) (subst (λ l. Contains l z) (piece_deep t u i k some) held)) [
        | inl e ↦ subst (λ y. Under (beyond (beyond u i) k) y) (sym e) (under_self (beyond (beyond u i) k))
        | inr later ↦ (let (j, under) = behind z later in under_parent (beyond (beyond u i) k) j z under)
      ]

  deep_under : (t : ℕ) (u : Place) (i : ℕ) (z : Place) → Contains (seen t (beyond u i) (dropped 0 (ports (beyond u i)))) z → (k : ℕ) × Under (beyond (beyond u i) k) z
  deep_under zero u i z held = absurd (Contains-none z held)
  deep_under (suc t) u i z held =
      let (k, there, at) = Contains-flat_map_cases (λ k. piece t (beyond u i) k) (dropped 0 (ports (beyond u i))) z held in
      (k, deep_piece t u i k z (λ z more. deep_under t (beyond u i) k z more) (deep_port (beyond u i) k there) at)

  deep_once : (t : ℕ) (u : Place) (i : ℕ) → IsOnce (beyond u i ∷ seen t (beyond u i) (dropped 0 (ports (beyond u i))))
  deep_once t u i = (
    λ held. (let (k, under) = deep_under t u i (beyond u i) held in let less = under_size (beyond (beyond u i) k) (beyond u i) under in absurd (omega arith)),
    rest t u i,
  )
    where
      rest : (t : ℕ) (u : Place) (i : ℕ) → IsOnce (seen t (beyond u i) (dropped 0 (ports (beyond u i))))
      rest zero u i = tt
      rest (suc t) u i =
          once_pieces (λ k. piece t (beyond u i) k) (dropped 0 (ports (beyond u i))) (once_dropped 0 (ports (beyond u i)) (once_count 0 (if kind_of G (beyond u i) then a else p)))
          (λ k held. subst (λ l. IsOnce l) (sym (piece_deep t u i k (deep_port (beyond u i) k held))) (
            (λ again. (let (j, under) = deep_under t (beyond u i) k (beyond (beyond u i) k) again in let less = under_size (beyond (beyond (beyond u i) k) j) (beyond (beyond u i) k) under in absurd (omega arith))),
            rest t (beyond u i) k,
          ))
          (λ j k z held held' other at at'.
          other (siblings_apart (beyond u i) j k z (deep_piece t u i j z (λ z more. deep_under t (beyond u i) j z more) (deep_port (beyond u i) j held) at) (deep_piece t u i k z (λ z more. deep_under t (beyond u i) k z more) (deep_port (beyond u i) k held') at')))

-- ---- in the forest
module _ {N : ℕ} (a p : ℕ) (G : Network) (forest : IsForest a p N G) where
  -- what is seen by a port of a node: places behind it in the forest, or thought behind it
  abbrev InPiece : ℕ → ℕ → ℕ → Place → Type 0
  InPiece t w k z = ((k < length (G.near w)) × Contains (branch G t w (get_or (G.near w) k 0)) (root z)) ⊎ ((length (G.near w) ≤ k) × Under (beyond (real w) k) z)

  held : (w k : ℕ) → k < length (G.near w) → Contains (G.near w) (get_or (G.near w) k 0)
  held w k low = Contains-get_or (G.near w) k 0 low

  -- the node itself isn't behind its ports
  not_behind : (t w x : ℕ) → Contains (G.near w) x → Contains (branch G t w x) w → ⊥
  not_behind t w x near at = (forest.acyclic w (suc t)).0 (Contains-flat_map (λ x. branch G t w x) (G.near w) x w near at)

  own_branch : (t u v : ℕ) → Contains (branch G t u v) v
  own_branch zero u v = Contains-here v []
  own_branch (suc t) u v = Contains-here v (flat_map (λ w. branch G t v w) (others G u v))

  piece_real : (t w k : ℕ) → k < length (G.near w)
      → piece a p G t (real w) k ≡ real (get_or (G.near w) k 0) ∷ seen a p G t (real (get_or (G.near w) k 0)) (dropped (port (G.near (get_or (G.near w) k 0)) w) (ports a p G (real (get_or (G.near w) k 0))))
  piece_real t w k low = piece_is a p G t (real w) (real (get_or (G.near w) k 0)) k (port (G.near (get_or (G.near w) k 0)) w) (next_real G w k low) (back_real G w k low)

  piece_past : (t w k : ℕ) → length (G.near w) ≤ k → piece a p G t (real w) k ≡ beyond (real w) k ∷ seen a p G t (beyond (real w) k) (dropped 0 (ports a p G (beyond (real w) k)))
  piece_past t w k past = piece_is a p G t (real w) (beyond (real w) k) k 0 (next_past G w k past) (back_past G w k past)

  -- what stands behind a port of a neighbour but that to w stands behind the port to it
  deeper : (t w k j : ℕ) (z : Place) → k < length (G.near w) → Contains (dropped (port (G.near (get_or (G.near w) k 0)) w) (ports a p G (real (get_or (G.near w) k 0)))) j
      → InPiece t (get_or (G.near w) k 0) j z → Contains (branch G (suc t) w (get_or (G.near w) k 0)) (root z)
  deeper t w k j z low there (inl (less, at)) =
      let other : get_or (G.near (get_or (G.near w) k 0)) j 0 ≡ w → ⊥ = λ e.
      dropped_other (port (G.near (get_or (G.near w) k 0)) w) 0 (if G.active (get_or (G.near w) k 0) then a else p) j there
      (let same : port (G.near (get_or (G.near w) k 0)) w ≡ j = subst (λ v. port (G.near (get_or (G.near w) k 0)) v ≡ j) e (port_at (G.near (get_or (G.near w) k 0)) j (near_differ G forest (get_or (G.near w) k 0)) less) in omega arith) in
      Contains-later (root z) (get_or (G.near w) k 0) (flat_map (λ v. branch G t (get_or (G.near w) k 0) v) (others G w (get_or (G.near w) k 0)))
      (Contains-flat_map (λ v. branch G t (get_or (G.near w) k 0) v) (others G w (get_or (G.near w) k 0)) (get_or (G.near (get_or (G.near w) k 0)) j 0) (root z)
      (Contains-filter (λ v. not (v == w)) (G.near (get_or (G.near w) k 0)) (get_or (G.near (get_or (G.near w) k 0)) j 0) (held (get_or (G.near w) k 0) j less)
      (ap not (ne_eqb (get_or (G.near (get_or (G.near w) k 0)) j 0) w other))) at)
  deeper t w k j z low there (inr (past, under)) =
      subst (λ v. Contains (branch G (suc t) w (get_or (G.near w) k 0)) v) (sym (under_root (beyond (real (get_or (G.near w) k 0)) j) z under)) (own_branch (suc t) w (get_or (G.near w) k 0))

  -- what is seen by a port to a neighbour
  abbrev behind_near : ℕ → ℕ → ℕ → List Place
  behind_near t w k = seen a p G t (real (get_or (G.near w) k 0)) (dropped (port (G.near (get_or (G.near w) k 0)) w) (ports a p G (real (get_or (G.near w) k 0))))

  near_piece : (t w k : ℕ) (z : Place) → k < length (G.near w) → ((j : ℕ) → Contains (piece a p G t (real (get_or (G.near w) k 0)) j) z → InPiece t (get_or (G.near w) k 0) j z)
      → Contains (real (get_or (G.near w) k 0) ∷ behind_near (suc t) w k) z → Contains (branch G (suc t) w (get_or (G.near w) k 0)) (root z)
  near_piece t w k z low again at = elim (Contains-cases z (real (get_or (G.near w) k 0)) (behind_near (suc t) w k) at) [
    | inl e ↦ subst (λ v. Contains (branch G (suc t) w (get_or (G.near w) k 0)) v) (sym (ap root e)) (own_branch (suc t) w (get_or (G.near w) k 0))
    | inr later ↦
        let (j, there, more) = Contains-flat_map_cases (λ j. piece a p G t (real (get_or (G.near w) k 0)) j)
        (dropped (port (G.near (get_or (G.near w) k 0)) w) (ports a p G (real (get_or (G.near w) k 0)))) z later in
        deeper t w k j z low there (again j more)
  ]

  far_piece : (t w k : ℕ) (z : Place) → length (G.near w) ≤ k → Contains (piece a p G t (real w) k) z → Under (beyond (real w) k) z
  far_piece t w k z past at =
      elim (Contains-cases z (beyond (real w) k) (seen a p G t (beyond (real w) k) (dropped 0 (ports a p G (beyond (real w) k)))) (subst (λ l. Contains l z) (piece_past t w k past) at)) [
        | inl e ↦ subst (λ y. Under (beyond (real w) k) y) (sym e) (under_self (beyond (real w) k))
        | inr later ↦ (let (j, under) = deep_under a p G t (real w) k z later in under_parent (beyond (real w) k) j z under)
      ]

  in_piece : (t w k : ℕ) (z : Place) → Contains (piece a p G t (real w) k) z → InPiece t w k z
  in_piece zero w k z at =
      by_port k (length (G.near w))
      (λ low. elim (Contains-cases z (real (get_or (G.near w) k 0)) [] (subst (λ l. Contains l z) (piece_real zero w k low) at)) [
        | inl e ↦ inl (low, subst (λ v. Contains (branch G zero w (get_or (G.near w) k 0)) v) (sym (ap root e)) (own_branch zero w (get_or (G.near w) k 0)))
        | inr later ↦ absurd (Contains-none z later)
      ])
      (λ past. inr (past, far_piece zero w k z past at))
  in_piece (suc t) w k z at =
      by_port k (length (G.near w))
      (λ low. inl (low, near_piece t w k z low (λ j more. in_piece t (get_or (G.near w) k 0) j z more) (subst (λ l. Contains l z) (piece_real (suc t) w k low) at)))
      (λ past. inr (past, far_piece (suc t) w k z past at))

  clash : (t w j k : ℕ) (z : Place) → (j ≡ k → ⊥) → InPiece t w j z → InPiece t w k z → ⊥
  clash t w j k z other (inl (low, at)) (inl (low', at')) =
      pieces_apart (λ x. branch G t w x) (G.near w) (get_or (G.near w) j 0) (get_or (G.near w) k 0) (root z) (forest.acyclic w (suc t)).1 (held w j low) (held w k low')
      (λ e. other (sym (port_at (G.near w) j (near_differ G forest w) low) ∙ ap (port (G.near w)) e ∙ port_at (G.near w) k (near_differ G forest w) low')) at at'
  clash t w j k z other (inl (low, at)) (inr (past, under)) =
      not_behind t w (get_or (G.near w) j 0) (held w j low) (subst (λ v. Contains (branch G t w (get_or (G.near w) j 0)) v) (under_root (beyond (real w) k) z under) at)
  clash t w j k z other (inr (past, under)) (inl (low, at)) =
      not_behind t w (get_or (G.near w) k 0) (held w k low) (subst (λ v. Contains (branch G t w (get_or (G.near w) k 0)) v) (under_root (beyond (real w) j) z under) at)
  clash t w j k z other (inr (past, under)) (inr (past', under')) = other (siblings_apart (real w) j k z under under')

  flat_once : (t w : ℕ) (ks : List ℕ) → IsOnce ks → ((k : ℕ) → IsOnce (piece a p G t (real w) k)) → IsOnce (real w ∷ flat_map (λ k. piece a p G t (real w) k) ks)
  flat_once t w ks once each = (
    λ again. (let (k, there, at) = Contains-flat_map_cases (λ k. piece a p G t (real w) k) ks (real w) again in itself k (in_piece t w k (real w) at)),
    once_pieces (λ k. piece a p G t (real w) k) ks once (λ k there. each k) (λ j k z there there' other at at'. clash t w j k z other (in_piece t w j z at) (in_piece t w k z at')),
  )
    where
      itself : (k : ℕ) → InPiece t w k (real w) → ⊥
      itself k (inl (low, at)) = not_behind t w (get_or (G.near w) k 0) (held w k low) at
      itself k (inr (past, under)) = absurd (cc)

  piece_once : (t w k : ℕ) → IsOnce (piece a p G t (real w) k)
  piece_once zero w k =
      by_port k (length (G.near w))
      (λ low. subst (λ l. IsOnce l) (sym (piece_real zero w k low)) (Contains-none (real (get_or (G.near w) k 0)), tt))
      (λ past. subst (λ l. IsOnce l) (sym (piece_past zero w k past)) (deep_once a p G zero (real w) k))
  piece_once (suc t) w k =
      by_port k (length (G.near w))
      (λ low. subst (λ l. IsOnce l) (sym (piece_real (suc t) w k low))
      (flat_once t (get_or (G.near w) k 0) (dropped (port (G.near (get_or (G.near w) k 0)) w) (ports a p G (real (get_or (G.near w) k 0))))
      (once_dropped (port (G.near (get_or (G.near w) k 0)) w) (ports a p G (real (get_or (G.near w) k 0))) (once_count 0 (if G.active (get_or (G.near w) k 0) then a else p)))
      (λ j. piece_once t (get_or (G.near w) k 0) j)))
      (λ past. subst (λ l. IsOnce l) (sym (piece_past (suc t) w k past)) (deep_once a p G (suc t) (real w) k))

  -- a node and what it sees, each once
  pub seen_once : (t w : ℕ) → IsOnce (real w ∷ seen a p G t (real w) (ports a p G (real w)))
  seen_once zero w = (Contains-none (real w), tt)
  seen_once (suc t) w = flat_once t w (ports a p G (real w)) (once_count 0 (if G.active w then a else p)) (λ k. piece_once t w k)
