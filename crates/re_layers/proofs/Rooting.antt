-- Each forest is rooted: layers without paths say for each edge which of its ends it leads up from.
use Rattle.std.proofs.Common.{◌≡◌, ℕ, zero, suc, ◌-◌, ◌*◌, ◌≤◌, ◌<◌, leb, List, [], ◌∷◌, length, refl, sym, ap, ◌⊎◌, inl, inr, arith}
use Rattle.std.specs.Prelude.{Contains}
use Rattle.std.proofs.lemmas.Bool.{cases_lt, le-leb, leb-true}
use Rattle.re_labels.proofs.Membership.{AllByRecursion-contains, Contains-filter, Contains-filter_cases, Contains-here}
use Rattle.re_layers.proofs.Raking.{raked_layers}
use Rattle.re_layers.specs.Layers.{IsLayered, upper}
use Rattle.re_layers.specs.Networks.{IsForest, Network}

first_or : ℕ → List ℕ → ℕ
first_or v [] = v
first_or v (w ∷ ws) = w

only : (v : ℕ) (ws : List ℕ) (w : ℕ) → length ws ≤ 1 → Contains ws w → w ≡ first_or v ws
unfolding first_or
only v [] w few (k, low, e) = absurd (omega arith)
only v (u ∷ []) w few (zero, low, e) = sym e
only v (u ∷ []) w few (suc k, low, e) = absurd (omega arith)
only v (u ∷ x ∷ ws) w few held = absurd (omega (arith, few))

some_or : (v : ℕ) (ws : List ℕ) → (first_or v ws ≡ v) ⊎ Contains ws (first_or v ws)
unfolding first_or
some_or v [] = inl refl
some_or v (w ∷ ws) = inr (Contains-here w ws)

-- up leads to lower ranks, which are below most, and each edge leads up from one of its ends
pub record IsRooting (G : Network) (most : ℕ) (rank up : ℕ → ℕ) : Type 0 where
  pub below : (v : ℕ) → rank v < most
  pub lower : (v : ℕ) → rank (up v) ≤ rank v
  pub stays : (v : ℕ) → (up v ≡ v) ⊎ Contains (G.near v) (up v)
  pub edge : (v w : ℕ) → Contains (G.near v) w → ((w ≡ up v) × (rank w < rank v)) ⊎ ((v ≡ up w) × (rank v < rank w))

module _ {a p N M : ℕ} {G : Network} (is : IsForest a p N G) {layer : ℕ → ℕ} {path : ℕ → List ℕ} (layered : IsLayered G 0 M layer path)
    (none : (v : ℕ) → path v ≡ []) where
  rooting : IsRooting G (suc M) (λ v. M - layer v) (λ v. first_or v (upper G layer v))
  rooting = record {
    below = λ v. omega arith;
    lower = λ v. elim (some_or v (upper G layer v)) [
      | inl e ↦ (let same : layer (first_or v (upper G layer v)) ≡ layer v = ap layer e in omega (arith, same))
      | inr held ↦ (let high : layer v ≤ layer (first_or v (upper G layer v)) =
          leb-true (layer v) (layer (first_or v (upper G layer v)))
          (Contains-filter_cases (λ w. leb (layer v) (layer w)) (G.near v) (first_or v (upper G layer v)) held).1 in omega (arith, high))
    ];
    stays = λ v. elim (some_or v (upper G layer v)) [
      | inl e ↦ inl e
      | inr held ↦ inr (Contains-filter_cases (λ w. leb (layer v) (layer w)) (G.near v) (first_or v (upper G layer v)) held).0
    ];
    edge = λ v w on. (let low = layered.below v in let low' = layered.below w in elim (cases_lt (layer v) (layer w)) [
      | inl less ↦ inl (above v w on less, omega (arith, less, low, low'))
      | inr more ↦
          (let other : layer w ≡ layer v → ⊥ = AllByRecursion-contains (λ u. layer u ≡ layer v → ⊥) (G.near v) w (layered.raked v (none v)).1 on in
          let less : layer w < layer v = omega (arith, more, other) in
          inr (above w v (is.both v w on) less, omega (arith, less, low, low')))
    ]);
  }
    where
      above : (v w : ℕ) → Contains (G.near v) w → layer v < layer w → w ≡ first_or v (upper G layer v)
      above v w on less =
          only v (upper G layer v) w (layered.raked v (none v)).0
          (Contains-filter (λ u. leb (layer v) (layer u)) (G.near v) w on (le-leb (layer v) (layer w) (omega (arith, less))))

pub forest_rooting : {a p N : ℕ} {G : Network} → IsForest a p N G → (most : ℕ) × (rank : ℕ → ℕ) × (up : ℕ → ℕ) × IsRooting G most rank up
forest_rooting {a} {p} {N} {G} is =
    let (layer, path, local_layer, local_path, layered) = raked_layers a p N in
    let (good, none) = layered G is in
    (suc (9 * suc N), (λ v. 9 * suc N - layer G v), (λ v. first_or v (upper G (layer G) v)), rooting is good none)
