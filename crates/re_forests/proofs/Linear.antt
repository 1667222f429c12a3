-- What hasn't two levels of labels takes at least the order of N rounds.
use Rattle.std.proofs.Common.{◌≡◌, ℕ, zero, suc, ◌+◌, ◌*◌, ◌≤◌, ◌<◌, Bool, true, false, eqb, ltb, [], ◌∷◌, refl, sym, ◌∙◌, ap, arith}
use Rattle.std.specs.Prelude.{Contains, if◌then◌else◌}
use Rattle.std.proofs.Math.Nat.{mul-le-mul_right}
use Rattle.re_forests.proofs.Cores.{ToLeaves, fills_edge, part_filled, part_inner, part_kept, to_leaves}
use Rattle.re_forests.proofs.Cuts.{IsCutting}
use Rattle.re_forests.proofs.Growing.{fills, fills_cutting, full_around, grown, path_kind}
use Rattle.re_forests.proofs.Levels.{two_levels}
use Rattle.re_forests.proofs.Link.{back, link, link_cutting, linked_of, Linked, new, old}
use Rattle.re_forests.specs.OnForests.{SolvableOnForests}
use Rattle.re_forests.specs.Trimmed.{HasTwoLevels, LinearLaw}
use Rattle.re_labels.proofs.Membership.{Contains-here, Contains-none}
use Rattle.re_layers.specs.Networks.{Network}

-- ---- two edges, from 0 to 1 and from 2 to 3
abbrev empty : Network
empty = record { active = path_kind true; near = λ x. [] }

abbrev one_edge : Network
one_edge = link empty 0 1

abbrev two_edges : Network
two_edges = link one_edge 2 3

none : (x y : ℕ) → Contains (empty.near x) y → ⊥
none x y held = Contains-none y held

data Between (x y : ℕ) : Type 0 where
  first : x ≡ 0 → y ≡ 1 → Between x y
  first_back : x ≡ 1 → y ≡ 0 → Between x y
  second : x ≡ 2 → y ≡ 3 → Between x y
  second_back : x ≡ 3 → y ≡ 2 → Between x y

between_one : (x y : ℕ) → Linked empty 0 1 x y → Between x y
between_one x y (old held) = absurd (none x y held)
between_one x y (new e f) = first e f
between_one x y (back e f) = first_back e f

between : (x y : ℕ) → Linked one_edge 2 3 x y → Between x y
between x y (old held) = between_one x y (linked_of empty 0 1 x y held)
between x y (new e f) = second e f
between x y (back e f) = second_back e f

same_part : (part : ℕ → Bool) → part 0 ≡ part 1 → part 2 ≡ part 3 → (x y : ℕ) → Between x y → part x ≡ part y
same_part part e f x y (first g h) = ap part g ∙ e ∙ sym (ap part h)
same_part part e f x y (first_back g h) = ap part g ∙ sym e ∙ sym (ap part h)
same_part part e f x y (second g h) = ap part g ∙ f ∙ sym (ap part h)
same_part part e f x y (second_back g h) = ap part g ∙ sym f ∙ sym (ap part h)

leaf_at : (x y : ℕ) → Between x y → two_edges.near y ≡ x ∷ []
leaf_at x y (first g h) = ap two_edges.near h ∙ ap (λ z. z ∷ []) (sym g)
leaf_at x y (first_back g h) = ap two_edges.near h ∙ ap (λ z. z ∷ []) (sym g)
leaf_at x y (second g h) = ap two_edges.near h ∙ ap (λ z. z ∷ []) (sym g)
leaf_at x y (second_back g h) = ap two_edges.near h ∙ ap (λ z. z ∷ []) (sym g)

edges_leaves : ToLeaves two_edges 0
edges_leaves u v held = (0, omega arith, u, v, (refl, refl), leaf_at u v (between u v (linked_of one_edge 2 3 u v held)))

module _ (a p : ℕ) (two : 2 ≤ a) (two' : 2 ≤ p) where
  wide : (b : Bool) → 0 < (if b then a else p)
  wide true = omega arith
  wide false = omega arith

  empty_cutting : IsCutting a p 4 empty
  empty_cutting = record {
    degrees = λ v. omega arith;
    below = λ v w held. absurd (none v w held);
    turns = λ v w held. absurd (none v w held);
    both = λ v w held. absurd (none v w held);
    once = λ v. tt;
    cuts = λ v w held. absurd (none v w held);
  }

  one_cutting : IsCutting a p 4 one_edge
  one_cutting =
      link_cutting empty 0 1 (λ x. eqb x 0) refl refl (λ x y held. absurd (none x y held)) a p 4 empty_cutting (omega arith) (omega arith) refl
      (wide (path_kind true 0)) (wide (path_kind true 1))

  edges_cutting : IsCutting a p 4 two_edges
  edges_cutting =
      link_cutting one_edge 2 3 (λ x. eqb x 2) refl refl (λ x y held. kept x y (linked_of empty 0 1 x y held)) a p 4 one_cutting (omega arith) (omega arith) refl
      (wide (path_kind true 2)) (wide (path_kind true 3))
    where
      kept : (x y : ℕ) → Linked empty 0 1 x y → eqb x 2 ≡ eqb y 2
      kept x y (old held) = absurd (none x y held)
      kept x y (new e f) = ap (λ z. eqb z 2) e ∙ sym (ap (λ z. eqb z 2) f)
      kept x y (back e f) = ap (λ z. eqb z 2) e ∙ sym (ap (λ z. eqb z 2) f)

-- ---- how many nodes there are
grown_some : (n Q : ℕ) → 0 < Q → 0 < grown n Q
grown_some zero Q some = some
grown_some (suc n) Q some = grown_some n (7 * Q) (omega arith)

grown_times : (n x Q : ℕ) → grown n (x * Q) ≡ x * grown n Q
grown_times zero x Q = refl
grown_times (suc n) x Q = ap (grown n) (let e : 7 * (x * Q) ≡ x * (7 * Q) = grind arith in e) ∙ grown_times n x (7 * Q)

enough_nodes : (T k : ℕ) → T + suc k ≤ suc k * (T + 4)
enough_nodes T zero = omega arith
enough_nodes T (suc k) =
    let less = enough_nodes T k in
    let one : suc (suc k) * (T + 4) ≡ suc k * (T + 4) + (T + 4) = grind arith in
    omega (arith, less, one)

-- so many nodes are enough
total : (n Q S T N : ℕ) → (suc (suc (suc (2 * S))) * grown n Q) * (T + 4) ≤ N → grown n (suc (suc T + suc (2 * S)) * Q) ≤ N
total n Q S T N le =
    let g : ℕ = grown n Q in
    let is : grown n (suc (suc T + suc (2 * S)) * Q) ≡ suc (suc T + suc (2 * S)) * grown n Q = grown_times n (suc (suc T + suc (2 * S))) Q in
    let sum : suc (suc T + suc (2 * S)) ≤ suc (suc (suc (2 * S))) * (T + 4) = (let e = enough_nodes T (suc (suc (2 * S))) in omega (arith, e)) in
    let more : suc (suc T + suc (2 * S)) * grown n Q ≤ (suc (suc (suc (2 * S))) * (T + 4)) * grown n Q = mul-le-mul_right (grown n Q) sum in
    let turned : (suc (suc (suc (2 * S))) * (T + 4)) * grown n Q ≡ (suc (suc (suc (2 * S))) * grown n Q) * (T + 4) = swapped (suc (suc (suc (2 * S)))) (T + 4) (grown n Q) in
    omega (arith, is, more, turned, le)
  where
    swapped : (x y z : ℕ) → (x * y) * z ≡ (x * z) * y
    swapped x y z = grind arith

pub linear : LinearLaw
linear problem is =
    let two = is.active.least in
    let two' = is.passive.least in (
      suc (suc (suc (2 * (2 * suc problem.labels + 0)))) * grown (suc problem.labels) (grown (suc problem.labels) 4),
      λ N T le (algorithm, local, solves). found N T (total (suc problem.labels) (grown (suc problem.labels) 4) (2 * suc problem.labels + 0) T N le) (algorithm, local, solves),
    )
  where
    found : (N T : ℕ) → grown (suc problem.labels) (suc (suc T + suc (2 * (2 * suc problem.labels + 0))) * grown (suc problem.labels) 4) ≤ N → SolvableOnForests problem N T → HasTwoLevels problem
    found N T big (algorithm, local, solves) =
        let start : IsCutting problem.active.degree problem.passive.degree 4 two_edges = edges_cutting problem.active.degree problem.passive.degree is.active.least is.passive.least in
        let edge : (v w : ℕ) → Contains (two_edges.near v) w → Contains ((fills problem.active.degree problem.passive.degree (suc problem.labels) two_edges 4).near v) w =
        fills_edge problem.active.degree problem.passive.degree is.active.least is.passive.least is.active.most is.passive.most (suc problem.labels) two_edges 4 (omega arith) start in
        two_levels problem is (fills problem.active.degree problem.passive.degree (suc problem.labels) two_edges 4) (grown (suc problem.labels) 4)
        (grown_some (suc problem.labels) 4 (omega arith))
        (fills_cutting problem.active.degree problem.passive.degree is.active.least is.passive.least is.active.most is.passive.most (suc problem.labels) two_edges 4 (omega arith) start)
        (2 * suc problem.labels + 0) N T big algorithm local solves
        (part_filled (suc problem.labels) 4 (λ x. ltb x 2))
        (part_kept problem.active.degree problem.passive.degree is.active.least is.passive.least is.active.most is.passive.most (suc problem.labels) two_edges 4 (λ x. ltb x 2)
        (omega arith) start (λ x y held. same_part (λ x. ltb x 2) refl refl x y (between x y (linked_of one_edge 2 3 x y held))))
        (to_leaves problem.active.degree problem.passive.degree is.active.least is.passive.least is.active.most is.passive.most (suc problem.labels) two_edges 4 0 (omega arith) start edges_leaves)
        2 3 (edge 2 3 (Contains-here 3 [])) (part_inner (suc problem.labels) 4 (λ x. ltb x 2) 2 (omega arith))
        0 1 (edge 0 1 (Contains-here 1 [])) (part_inner (suc problem.labels) 4 (λ x. ltb x 2) 0 (omega arith))
        (full_around problem.active.degree problem.passive.degree is.active.least is.passive.least is.active.most is.passive.most problem.labels two_edges 4 0 1 (omega arith) start (Contains-here 1 []))
