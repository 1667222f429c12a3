-- Path networks are forests of degrees 2 and 2.
use Rattle.std.proofs.Common.{◌≡◌, ℕ, zero, suc, ◌≤◌, ◌<◌, Bool, true, false, not, List, [], ◌∷◌, length, sym, ap, ◌∙◌, subst, arith, inl, inr, ◌⊎◌}
use Rattle.std.specs.Prelude.{Contains, ◌==◌, flat_map, if◌then◌else◌, nat_le}
use Rattle.std.proofs.lemmas.Bool.Decides.{eqb_tells}
use Rattle.re_forests.proofs.Leads.{after}
use Rattle.re_forests.proofs.Rounds.{after_not}
use Rattle.re_labels.proofs.Membership.{Contains-cases, Contains-filter_cases, Contains-flat_map_cases, Contains-here, Contains-later, Contains-none}
use Rattle.re_labels.proofs.Tests.{not_not}
use Rattle.re_layers.specs.Networks.{AreDifferent, IsForest, Network, ball, branch, others}
use Rattle.re_layers.proofs.Rooted.{Different-append, others_other}
use Rattle.re_layers.proofs.Different.{Different-filter}
use Rattle.re_forests.proofs.PathNetworks.{active_at, beside, near_cases, near_different, near_has, near_of, ordered, path_network, place, place_below}

-- ---- lists in which nothing stands twice
pub different_pieces : (f : ℕ → List ℕ) (ws : List ℕ) → AreDifferent ws → ((w : ℕ) → Contains ws w → AreDifferent (f w))
    → ((v w x : ℕ) → Contains ws v → Contains ws w → Contains (f v) x → Contains (f w) x → v ≡ w) → AreDifferent (flat_map f ws)
different_pieces f [] d each apart = tt
different_pieces f (w ∷ ws) d each apart =
    Different-append (f w) (flat_map f ws) (each w (Contains-here w ws)) (different_pieces f ws d.1 (λ v held. each v (Contains-later v w ws held))
    (λ u v x first second left right. apart u v x (Contains-later u w ws first) (Contains-later v w ws second) left right))
    (λ x own other.
    (let (v, held, at) = Contains-flat_map_cases f ws x other in
    d.0 (subst (Contains ws) (sym (apart w v x (Contains-here w ws) (Contains-later v w ws held) own at)) held)))

module _ (id : ℕ → ℕ) (n : ℕ) (first : Bool) (two : 2 ≤ n) (different : (p q : ℕ) → p < n → q < n → id p ≡ id q → p ≡ q) where
  abbrev G : Network
  G = path_network id n first

  -- ---- walks that never turn back go on in one direction
  onward : (p w : ℕ) → suc p < n → Contains (others G (id p) (id (suc p))) w → (suc (suc p) < n) × (w ≡ id (suc (suc p)))
  onward p w low held =
      let (q, l, is, which) = near_of id n first two different (suc p) w low (Contains-filter_cases (λ w. not (w == id p)) (G.near (id (suc p))) w held).0 in
      elim which [
        | inl e ↦ (omega (arith, l, e), is ∙ ap id e)
        | inr e ↦ absurd (others_other G (id p) (id (suc p)) w held (is ∙ ap id (let f : q ≡ p = omega (arith, e) in f)))
      ]

  backward : (p w : ℕ) → suc p < n → Contains (others G (id (suc p)) (id p)) w → (q : ℕ) × (p ≡ suc q) × (w ≡ id q)
  backward p w low held =
      let (q, l, is, which) = near_of id n first two different p w (omega arith) (Contains-filter_cases (λ w. not (w == id (suc p))) (G.near (id p)) w held).0 in
      elim which [ inl e ↦ absurd (others_other G (id (suc p)) (id p) w held (is ∙ ap id e)) | inr e ↦ (q, e, is) ]

  up : (k p w : ℕ) → suc p < n → Contains (branch G k (id p) (id (suc p))) w → (q : ℕ) × (suc p ≤ q) × (q < n) × (w ≡ id q)
  up zero p w low held = elim (Contains-cases w (id (suc p)) [] held) [ inl e ↦ (suc p, omega arith, low, e) | inr none ↦ absurd (Contains-none w none) ]
  up (suc k) p w low held = elim (Contains-cases w (id (suc p)) (flat_map (λ x. branch G k (id (suc p)) x) (others G (id p) (id (suc p)))) held) [
    | inl e ↦ (suc p, omega arith, low, e)
    | inr there ↦
        let (x, near, at) = Contains-flat_map_cases (λ x. branch G k (id (suc p)) x) (others G (id p) (id (suc p))) w there in
        let (more, is) = onward p x low near in
        let (q, l, short, e) = up k (suc p) w more (subst (λ z. Contains (branch G k (id (suc p)) z) w) is at) in
        (q, omega (arith, l), short, e)
  ]

  down : (k p w : ℕ) → suc p < n → Contains (branch G k (id (suc p)) (id p)) w → (q : ℕ) × (q ≤ p) × (w ≡ id q)
  down zero p w low held = elim (Contains-cases w (id p) [] held) [ inl e ↦ (p, omega arith, e) | inr none ↦ absurd (Contains-none w none) ]
  down (suc k) p w low held = elim (Contains-cases w (id p) (flat_map (λ x. branch G k (id p) x) (others G (id (suc p)) (id p))) held) [
    | inl e ↦ (p, omega arith, e)
    | inr there ↦
        let (x, near, at) = Contains-flat_map_cases (λ x. branch G k (id p) x) (others G (id (suc p)) (id p)) w there in
        let (q, less, is) = backward p x low near in
        let (r, l, e) = down k q w (omega (arith, less, low)) (subst (λ z. Contains (branch G k (id z) (id q)) w) less (subst (λ z. Contains (branch G k (id p) z) w) is at)) in
        (r, omega (arith, l, less), e)
  ]

  up_different : (k p : ℕ) → suc p < n → AreDifferent (branch G k (id p) (id (suc p)))
  up_different zero p low = (λ held. Contains-none (id (suc p)) held, tt)
  up_different (suc k) p low = (
    λ held.
        (let (x, near, at) = Contains-flat_map_cases (λ x. branch G k (id (suc p)) x) (others G (id p) (id (suc p))) (id (suc p)) held in
        let (more, is) = onward p x low near in
        let (q, l, short, e) = up k (suc p) (id (suc p)) more (subst (λ z. Contains (branch G k (id (suc p)) z) (id (suc p))) is at) in
        let f : suc p ≡ q = different (suc p) q low short e in
        absurd (omega (arith, f, l))),
    different_pieces (λ x. branch G k (id (suc p)) x) (others G (id p) (id (suc p))) (Different-filter (λ w. not (w == id p)) (G.near (id (suc p))) (near_different id n first two different (suc p) low))
        (λ w near. (let (more, is) = onward p w low near in subst (λ z. AreDifferent (branch G k (id (suc p)) z)) (sym is) (up_different k (suc p) more)))
        (λ v w x left right _ _. (onward p v low left).1 ∙ sym (onward p w low right).1),
  )

  down_different : (k p : ℕ) → suc p < n → AreDifferent (branch G k (id (suc p)) (id p))
  down_different zero p low = (λ held. Contains-none (id p) held, tt)
  down_different (suc k) p low = (
    λ held.
        (let (x, near, at) = Contains-flat_map_cases (λ x. branch G k (id p) x) (others G (id (suc p)) (id p)) (id p) held in
        let (q, less, is) = backward p x low near in
        let (r, l, e) = down k q (id p) (omega (arith, less, low)) (subst (λ z. Contains (branch G k (id z) (id q)) (id p)) less (subst (λ z. Contains (branch G k (id p) z) (id p)) is at)) in
        let f : p ≡ r = different p r (omega arith) (omega (arith, l, less, low)) e in
        absurd (omega (arith, f, l, less))),
    different_pieces (λ x. branch G k (id p) x) (others G (id (suc p)) (id p)) (Different-filter (λ w. not (w == id (suc p))) (G.near (id p)) (near_different id n first two different p (omega arith)))
        (λ w near.
        (let (q, less, is) = backward p w low near in
        subst (λ z. AreDifferent (branch G k (id p) z)) (sym is) (subst (λ z. AreDifferent (branch G k (id z) (id q))) (sym less) (down_different k q (omega (arith, less, low))))))
        (λ v w x left right _ _. one v w (backward p v low left) (backward p w low right)),
  )
    where
      one : (v w : ℕ) → (q : ℕ) × (p ≡ suc q) × (v ≡ id q) → (q : ℕ) × (p ≡ suc q) × (w ≡ id q) → v ≡ w
      one v w (q, e, is) (r, f, also) = is ∙ (ap id (let g : q ≡ r = omega (arith, e, f) in g) ∙ sym also)

  -- what is in a piece of a ball: nodes on one side
  abbrev Piece : ℕ → ℕ → ℕ → Type 0
  Piece p w x = ((w ≡ id (suc p)) × ((r : ℕ) × (suc p ≤ r) × (r < n) × (x ≡ id r))) ⊎ ((q : ℕ) × (p ≡ suc q) × (w ≡ id q) × ((r : ℕ) × (r ≤ q) × (x ≡ id r)))

  piece : (k p w x : ℕ) → p < n → Contains (G.near (id p)) w → Contains (branch G k (id p) w) x → Piece p w x
  piece k p w x low near held =
      let (q, l, is, which) = near_of id n first two different p w low near in
      elim which [
        | inl e ↦ inl (is ∙ ap id e, up k p x (omega (arith, l, e)) (subst (λ z. Contains (branch G k (id p) z) x) (is ∙ ap id e) held))
        | inr e ↦ inr (q, e, is, down k q x (omega (arith, low, e)) (subst (λ z. Contains (branch G k (id z) (id q)) x) e (subst (λ z. Contains (branch G k (id p) z) x) is held)))
      ]

  piece_different : (k p w : ℕ) → p < n → Contains (G.near (id p)) w → AreDifferent (branch G k (id p) w)
  piece_different k p w low near =
      let (q, l, is, which) = near_of id n first two different p w low near in
      elim which [
        | inl e ↦ subst (λ z. AreDifferent (branch G k (id p) z)) (sym (is ∙ ap id e)) (up_different k p (omega (arith, l, e)))
        | inr e ↦ subst (λ z. AreDifferent (branch G k (id p) z)) (sym is) (subst (λ z. AreDifferent (branch G k (id z) (id q))) (sym e) (down_different k q (omega (arith, low, e))))
      ]

  piece_apart : (p v w x : ℕ) → p < n → Piece p v x → Piece p w x → v ≡ w
  piece_apart p v w x low (inl (e, _)) (inl (f, _)) = e ∙ sym f
  piece_apart p v w x low (inl (e, (r, l, short, is))) (inr (q, f, to, (s, less, also))) =
      let same : r ≡ s = different r s short (omega (arith, less, f, low)) (sym is ∙ also) in
      absurd (omega (arith, same, l, less, f))
  piece_apart p v w x low (inr (q, f, to, (s, less, also))) (inl (e, (r, l, short, is))) =
      let same : r ≡ s = different r s short (omega (arith, less, f, low)) (sym is ∙ also) in
      absurd (omega (arith, same, l, less, f))
  piece_apart p v w x low (inr (q, e, is, _)) (inr (r, f, also, _)) = is ∙ (ap id (let g : q ≡ r = omega (arith, e, f) in g) ∙ sym also)

  piece_without : (p w : ℕ) → p < n → Piece p w (id p) → ⊥
  piece_without p w low (inl (e, (r, l, short, is))) =
      let same : p ≡ r = different p r low short is in
      absurd (omega (arith, same, l))
  piece_without p w low (inr (q, f, to, (s, less, also))) =
      let same : p ≡ s = different p s low (omega (arith, less, f, low)) also in
      absurd (omega (arith, same, less, f))

  ball_at : (k p : ℕ) → p < n → AreDifferent (ball G (suc k) (id p))
  ball_at k p low = (
    λ held. (let (w, near, at) = Contains-flat_map_cases (λ w. branch G k (id p) w) (G.near (id p)) (id p) held in piece_without p w low (piece k p w (id p) low near at)),
    different_pieces (λ w. branch G k (id p) w) (G.near (id p)) (near_different id n first two different p low) (λ w near. piece_different k p w low near)
        (λ v w x first second left right. piece_apart p v w x low (piece k p v x low first left) (piece k p w x low second right)),
  )

  ball_different : (k v : ℕ) → AreDifferent (ball G k v)
  ball_different zero v = (λ held. Contains-none v held, tt)
  ball_different (suc k) v = elim (eqb_tells (id (place id n v)) v) [
    | inl t ↦ subst (λ z. AreDifferent (ball G (suc k) z)) t.1 (ball_at k (place id n v) (place_below id n first two different n v (omega arith)))
    | inr t ↦ rw t.0 (λ held. Contains-none v held, tt)
  ]

  -- ---- the path is a forest
  few : (v : ℕ) → length (G.near v) ≤ 2
  few v = by (id (place id n v) == v)
    where
      least : (p : ℕ) → length (beside id n p) ≤ 2
      least zero = omega arith
      least (suc p) = at (nat_le (suc (suc (suc p))) n)
        where
          pair : (b : Bool) → length (if b then id p ∷ id (suc (suc p)) ∷ [] else id (suc (suc p)) ∷ id p ∷ []) ≤ 2
          pair true = omega arith
          pair false = omega arith

          at : (b : Bool) → length (if b then ordered (id p) (id (suc (suc p))) else id p ∷ []) ≤ 2
          at true = pair (nat_le (id p) (id (suc (suc p))))
          at false = omega arith

      by : (b : Bool) → length (if b then beside id n (place id n v) else []) ≤ 2
      by true = least (place id n v)
      by false = omega arith

  few_of : (b : Bool) (m : ℕ) → m ≤ 2 → m ≤ (if b then 2 else 2)
  few_of true m l = l
  few_of false m l = l

  other_kind : (p q : ℕ) → (q ≡ suc p) ⊎ (p ≡ suc q) → after first q ≡ not (after first p)
  other_kind p q (inl e) = ap (after first) e ∙ after_not first p
  other_kind p q (inr e) = sym (ap not (ap (after first) e ∙ after_not first q) ∙ not_not (after first q))

  pub path_forest : (N : ℕ) → ((p : ℕ) → p < n → id p < N) → IsForest 2 2 N G
  path_forest N below = record {
    degrees = λ v. few_of (G.active v) (length (G.near v)) (few v);
    below = λ v w held.
        (let (p, low, own, (q, short, is, which)) = near_cases id n first two different v w held in
        (subst (λ z. z < N) (sym own) (below p low), subst (λ z. z < N) (sym is) (below q short)));
    turns = λ v w held.
        (let (p, low, own, (q, short, is, which)) = near_cases id n first two different v w held in
        ap G.active is ∙ (active_at id n first two different q short ∙ (other_kind p q which ∙ sym (ap not (ap G.active own ∙ active_at id n first two different p low)))));
    both = λ v w held.
        (let (p, low, own, (q, short, is, which)) = near_cases id n first two different v w held in
        subst (λ z. Contains (G.near z) v) (sym is) (subst (λ z. Contains (G.near (id q)) z) (sym own) (near_has id n first two different q p short low (elim which [ inl e ↦ inr e | inr e ↦ inl e ]))));
    acyclic = λ v k. ball_different k v;
  }
