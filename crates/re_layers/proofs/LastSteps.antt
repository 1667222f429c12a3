-- The last step at which a node is alive, which is its layer.
use Rattle.std.proofs.Common.{◌≡◌, ℕ, zero, suc, ◌≤◌, ◌<◌, Bool, true, false, cond, List, refl, sym, ◌∙◌, subst, arith, inl, inr}
use Rattle.std.specs.Prelude.{nat_le}
use Rattle.std.proofs.lemmas.Bool.{false≢true, le-leb, lt-leb}
use Rattle.re_layers.specs.Networks.{Network}
use Rattle.re_layers.proofs.Rounds.{Plan, alive, alive_first, alive_later, path_at}
use Rattle.re_layers.proofs.Filters.{either, le_cases}

-- the last step, of at most M, at which a node is alive
unfoldable pub layer : Plan → ℕ → Network → ℕ → ℕ
layer p zero G v = 0
layer p (suc M) G v = cond (alive p G (suc M) v) (suc M) (layer p M G v)

unfoldable pub path : Plan → ℕ → Network → ℕ → List ℕ
path p M G v = path_at p G (layer p M G v) v

module _ (p : Plan) (G : Network) where
  pub layer_alive : (M v : ℕ) → alive p G (layer p M G v) v ≡ true
  unfolding layer
  layer_alive zero v = alive_first p G v
  layer_alive (suc M) v = at (alive p G (suc M) v) refl (layer_alive M v)
    where
      at : (b : Bool) → alive p G (suc M) v ≡ b → alive p G (layer p M G v) v ≡ true → alive p G (cond b (suc M) (layer p M G v)) v ≡ true
      at true e rest = e
      at false e rest = rest

  pub layer_high : (M v t : ℕ) → t ≤ M → alive p G t v ≡ true → t ≤ layer p M G v
  unfolding layer
  layer_high zero v t l lives = l
  layer_high (suc M) v t l lives = at (alive p G (suc M) v) refl (λ l'. layer_high M v t l' lives)
    where
      at : (b : Bool) → alive p G (suc M) v ≡ b → (t ≤ M → t ≤ layer p M G v) → t ≤ cond b (suc M) (layer p M G v)
      at true e rest = l
      at false e rest = elim (le_cases t M l) [
        | inl l' ↦ rest l'
        | inr same ↦ absurd (let lives' : alive p G (suc M) v ≡ true = subst (λ i. alive p G i v ≡ true) same lives in false≢true (sym e ∙ lives'))
      ]

  pub layer_upto : (M v : ℕ) → layer p M G v ≤ M
  unfolding layer
  layer_upto zero v = omega arith
  layer_upto (suc M) v = at (alive p G (suc M) v) (layer_upto M v)
    where
      at : (b : Bool) → layer p M G v ≤ M → cond b (suc M) (layer p M G v) ≤ suc M
      at true l = omega arith
      at false l = omega (arith, l)

  pub layer_below : (M v : ℕ) → alive p G M v ≡ false → layer p M G v < M
  layer_below M v dead =
      let upto = layer_upto M v in
      let other : layer p M G v ≡ M → ⊥ = λ e. (let lives : alive p G M v ≡ true = subst (λ i. alive p G i v ≡ true) e (layer_alive M v) in false≢true (sym dead ∙ lives)) in
      omega (arith, upto, other)

  pub layer_is : (M v s : ℕ) → s < M → alive p G s v ≡ true → alive p G (suc s) v ≡ false → layer p M G v ≡ s
  layer_is M v s l lives dead =
      let low = layer_high M v s (omega (arith, l)) lives in
      let high : suc s ≤ layer p M G v → ⊥ =
      λ h. false≢true (sym dead ∙ alive_later p G v (suc s) (layer p M G v) h (layer_alive M v)) in
      omega (arith, low, high)

  pub layer_dead : (M v : ℕ) → layer p M G v < M → alive p G (suc (layer p M G v)) v ≡ false
  layer_dead M v l = elim (either (alive p G (suc (layer p M G v)) v)) [
    | inl lives ↦ absurd (let high = layer_high M v (suc (layer p M G v)) l lives in omega (arith, high))
    | inr dead ↦ dead
  ]

  -- those in no lower layer are those that are alive at its step
  pub layer_tells : (M w s : ℕ) → s ≤ M → nat_le s (layer p M G w) ≡ alive p G s w
  layer_tells M w s l = elim (either (alive p G s w)) [
    | inl lives ↦ le-leb s (layer p M G w) (layer_high M w s l lives) ∙ sym lives
    | inr dead ↦
        (let low : layer p M G w < s = layer_less dead in
        lt-leb s (layer p M G w) low ∙ sym dead)
  ]
    where
      layer_less : alive p G s w ≡ false → layer p M G w < s
      layer_less dead =
          let high : s ≤ layer p M G w → ⊥ = λ h. false≢true (sym dead ∙ alive_later p G w s (layer p M G w) h (layer_alive M w)) in
          omega (arith, high)
