-- Walks in hypergraphs.
use Rattle.std.proofs.Common.{◌≡◌, ℕ, ◌+◌, ◌≤◌, sym, subst, arith}
use Rattle.re_local.specs.Hypergraphs.{Hyper, On, Walk, one, step}

module _ {V : Type 0} {r : ℕ} {hyper : Hyper V} where
  pub walk_some : {k e l : ℕ} {x y : V} → Walk r hyper k e l x y → 1 ≤ k
  walk_some (one on off apart) = omega arith
  walk_some (step on off apart other walk) = let l = walk_some walk in omega arith

  pub walk_first : {k e l : ℕ} {x y : V} → Walk r hyper k e l x y → On r hyper e x
  walk_first (one on off apart) = on
  walk_first (step on off apart other walk) = on

  pub walk_last : {k e l : ℕ} {x y : V} → Walk r hyper k e l x y → On r hyper l y
  walk_last (one on off apart) = off
  walk_last (step on off apart other walk) = walk_last walk

  -- two walks one after the other
  pub joined : {k e l : ℕ} {x y : V} {j f m : ℕ} {z : V} → Walk r hyper k e l x y → Walk r hyper j f m y z → (l ≡ f → ⊥) → Walk r hyper (k + j) e m x z
  joined {j = j} {m = m} {z = z} (one {edge = e} {x = x} on off apart) more other =
      subst (λ n. Walk r hyper n e m x z) (omega arith) (step on off apart other more)
  joined {j = j} {m = m} {z = z} (step {k = k} {edge = e} {x = x} on off apart differ walk) more other =
      subst (λ n. Walk r hyper n e m x z) (omega arith) (step on off apart differ (joined walk more other))

  -- the walk back
  pub turned : {k e l : ℕ} {x y : V} → Walk r hyper k e l x y → Walk r hyper k l e y x
  turned (one on off apart) = one off on (λ e. apart (sym e))
  turned (step {k = k} {edge = e} {last = l} {x = x} {z = z} on off apart differ walk) =
      subst (λ n. Walk r hyper n l e z x) (omega arith) (joined (turned walk) (one off on (λ e. apart (sym e))) (λ e. differ (sym e)))
