-- The nodes of a path of one layer in a forest: they differ, their kinds alternate, and each has both ends near.
use Rattle.std.proofs.Common.{◌≡◌, ℕ, zero, suc, ◌+◌, ◌-◌, ◌*◌, ◌<◌, eqb, List, [], ◌∷◌, get_or, refl, sym, ap, ◌∙◌, subst, inl, inr, arith}
use Rattle.std.specs.Prelude.{Contains, flat_map, not}
use Rattle.std.proofs.lemmas.Bool.{eq-eqb, ne_eqb}
use Rattle.std.proofs.lemmas.List.Sums.{position_or_len_is}
use Rattle.re_forests.proofs.Filled.{port}
use Rattle.re_forests.proofs.Walks.{turned, turned-not}
use Rattle.re_layers.proofs.Balls.{ball_before, ball_most, ball_near, others_cases}
use Rattle.re_labels.proofs.Membership.{Contains-flat_map, Contains-here, Contains-later}
use Rattle.re_layers.specs.Layers.{IsPath}
use Rattle.re_layers.specs.Networks.{IsForest, Network, ball, branch, others}

module _ {a p N : ℕ} (G : Network) (forest : IsForest a p N G) (l : ℕ) (layer : ℕ → ℕ) (path : ℕ → List ℕ) (own : List ℕ) (height : ℕ)
    (is : IsPath G l layer path own height) where
  abbrev node : ℕ → ℕ
  node i = get_or own i 0

  ahead : (k : ℕ) → k < 2 * l + 2 → Contains (G.near (node k)) (node (suc k))
  ahead zero low = forest.both (node 1) (node 0) (is.before 0 (omega arith))
  ahead (suc k) low = is.behind k (omega arith)

  not_back : (k : ℕ) → k < 2 * l + 1 → Contains (others G (node k) (node (suc k))) (node (suc (suc k)))
  not_back k low = elim (others_cases G (node k) (node (suc k)) (node (suc (suc k))) (is.behind k low)) [
    | inl e ↦ absurd (is.apart k low (sym e))
    | inr there ↦ there
  ]

  on_branch : (t k j : ℕ) → j ≡ suc (k + t) → j < 2 * l + 3 → Contains (branch G t (node k) (node (suc k))) (node j)
  on_branch zero k j e low =
      let f : suc k ≡ j = omega arith in subst (λ i. Contains (node (suc k) ∷ []) (node i)) f (Contains-here (node (suc k)) [])
  on_branch (suc t) k j e low =
      Contains-later (node j) (node (suc k)) (flat_map (λ w. branch G t (node (suc k)) w) (others G (node k) (node (suc k))))
      (Contains-flat_map (λ w. branch G t (node (suc k)) w) (others G (node k) (node (suc k))) (node (suc (suc k))) (node j)
      (not_back k (omega arith)) (on_branch t (suc k) j (omega arith) low))

  pub different : (k j : ℕ) → k < j → j < 2 * l + 3 → node k ≡ node j → ⊥
  different k j less low e =
      let t : ℕ = j - suc k in
      let there : Contains (flat_map (λ w. branch G t (node k) w) (G.near (node k))) (node j) =
      Contains-flat_map (λ w. branch G t (node k) w) (G.near (node k)) (node (suc k)) (node j) (ahead k (omega arith)) (on_branch t k j (omega arith) low) in
      (forest.acyclic (node k) (suc t)).0 (subst (Contains (flat_map (λ w. branch G t (node k) w) (G.near (node k)))) (sym e) there)

  pub port_own : (i : ℕ) → i < 2 * l + 1 → port own (node (suc i)) ≡ suc i
  port_own i low =
      let count = is.count in
      position_or_len_is (λ w. eqb w (node (suc i))) own (suc i) 0 (omega (arith, count))
      (λ k less. ne_eqb (node k) (node (suc i)) (different k (suc i) less (omega arith))) (λ _. eq-eqb (node (suc i)) (node (suc i)) refl)

  -- ---- both ends are near
  first_near : (i : ℕ) → i < 2 * l + 1 → Contains (ball G (suc i) (node (suc i))) (node 0)
  first_near zero low = ball_near G 0 (node 1) (node 0) (is.before 0 low)
  first_near (suc i) low = ball_before G (suc i) (node (suc (suc i))) (node (suc i)) (node 0) (is.before (suc i) low) (first_near i (omega arith))

  last_near : (t i j : ℕ) → j ≡ suc (suc (i + t)) → j < 2 * l + 3 → Contains (ball G (suc t) (node (suc i))) (node j)
  last_near zero i j e low =
      let f : suc (suc i) ≡ j = omega arith in
      subst (λ k. Contains (ball G 1 (node (suc i))) (node k)) f (ball_near G 0 (node (suc i)) (node (suc (suc i))) (is.behind i (omega arith)))
  last_near (suc t) i j e low =
      ball_before G (suc t) (node (suc i)) (node (suc (suc i))) (node j) (is.behind i (omega arith)) (last_near t (suc i) j (omega arith) low)

  pub first_within : (i : ℕ) → i < 2 * l + 1 → Contains (ball G (suc (2 * l)) (node (suc i))) (node 0)
  first_within i low = ball_most G (suc i) (suc (2 * l)) (node (suc i)) (node 0) (omega arith) (first_near i low)

  pub last_within : (i : ℕ) → i < 2 * l + 1 → Contains (ball G (suc (2 * l)) (node (suc i))) (node (suc (suc (2 * l))))
  last_within i low =
      ball_most G (suc (2 * l - i)) (suc (2 * l)) (node (suc i)) (node (suc (suc (2 * l)))) (omega arith)
      (last_near (2 * l - i) i (suc (suc (2 * l))) (omega arith) (omega arith))

  -- ---- the kinds alternate
  pub kind_first : (i : ℕ) → i < 2 * l + 1 → turned i (G.active (node (suc i))) ≡ G.active (node 1)
  kind_first zero low = refl
  kind_first (suc i) low =
      let e : G.active (node (suc i)) ≡ not (G.active (node (suc (suc i)))) = forest.turns (node (suc (suc i))) (node (suc i)) (is.before (suc i) low) in
      ap (turned i) (sym e) ∙ kind_first i (omega arith)

  pub kind_at : (i : ℕ) → i < 2 * l + 1 → turned i (G.active (node 1)) ≡ G.active (node (suc i))
  kind_at zero low = refl
  kind_at (suc i) low =
      turned-not i (G.active (node 1)) ∙ ap not (kind_at i (omega arith)) ∙ sym (forest.turns (node (suc i)) (node (suc (suc i))) (is.behind i (omega arith)))
