-- One edge more: where no two of its points are near, no closed walk gets short.
use Rattle.std.proofs.Common.{◌≡◌, ℕ, zero, suc, ◌+◌, ◌≤◌, ◌<◌, refl, sym, ◌∙◌, ap, subst, arith, lt_of_not-le}
use Rattle.re_local.proofs.Balls.{Near, near_joined, near_more, near_walk, stay}
use Rattle.re_local.specs.Hypergraphs.{Hyper, IsHyper, IsSparse, On, Walk, one, step}

-- the points of the new edge, number 0, and behind it those of the old ones
abbrev pub new_first : (ℕ → ℕ) → (ℕ → ℕ → ℕ) → ℕ → ℕ → ℕ
new_first points at zero p = points p
new_first points at (suc e) p = at e p

abbrev pub extended : (ℕ → ℕ) → Hyper ℕ → Hyper ℕ
extended points hyper = record { edges = suc hyper.edges; at = new_first points hyper.at }

pub IsHyper-extended : (r n : ℕ) (points : ℕ → ℕ) (hyper : Hyper ℕ) → IsHyper r n hyper → ((p : ℕ) → p < r → points p < n)
    → ((p q : ℕ) → p < r → q < r → points p ≡ points q → p ≡ q)
    → IsHyper r n (extended points hyper)
IsHyper-extended r n points hyper is small apart = record { below = below; apart = different }
  where
    below : (e p : ℕ) → e < suc hyper.edges → p < r → new_first points hyper.at e p < n
    below zero p el pl = small p pl
    below (suc e) p el pl = is.below e p (omega arith) pl

    different : (e p q : ℕ) → e < suc hyper.edges → p < r → q < r → new_first points hyper.at e p ≡ new_first points hyper.at e q → p ≡ q
    different zero p q el pl ql same = apart p q pl ql same
    different (suc e) p q el pl ql same = is.apart e p q (omega arith) pl ql same

module _ (r g : ℕ) (points : ℕ → ℕ) (hyper : Hyper ℕ) (sparse : IsSparse r g hyper)
    (far : (p q : ℕ) → p < r → q < r → Near r hyper g (points p) (points q) → points p ≡ points q) where
  -- a point of the new edge
  abbrev New : ℕ → Type 0
  New x = (p : ℕ) × (p < r) × (points p ≡ x)

  far_apart : {k x y : ℕ} → New x → New y → Near r hyper k x y → k ≤ g → x ≡ y
  far_apart {x = x} {y = y} (p, pl, is) (q, ql, js) near l =
      sym is ∙ (far p q pl ql (subst (λ x. Near r hyper g x (points q)) (sym is) (subst (Near r hyper g x) (sym js) (near_more near l))) ∙ js)

  -- a walk of up to g steps is one of the old hypergraph, or it uses the new edge once, at its beginning or later
  data Shape : ℕ → ℕ → ℕ → ℕ → Type 0 where
    old : {k e f x y : ℕ} → Walk r hyper k e f x y → Shape k (suc e) x y
    begins : {k x v y j : ℕ} → New x → New v → (x ≡ v → ⊥) → Near r hyper j v y → suc j ≤ k → Shape k zero x y
    later : {k i e f x u v y j : ℕ} → Walk r hyper i e f x u → New u → New v → (u ≡ v → ⊥)
        → Near r hyper j v y → i + suc j ≤ k → Shape k (suc e) x y

  on_new : {x : ℕ} → On r (extended points hyper) zero x → New x
  on_new (l, p, pl, is) = (p, pl, is)

  on_old : {e x : ℕ} → On r (extended points hyper) (suc e) x → On r hyper e x
  on_old (l, p, pl, is) = (omega arith, p, pl, is)

  first_step : (e : ℕ) {x y : ℕ} → On r (extended points hyper) e x → On r (extended points hyper) e y → (x ≡ y → ⊥) → Shape 1 e x y
  first_step zero on off apart = begins {j = 0} (on_new on) (on_new off) apart stay (omega arith)
  first_step (suc e) on off apart = old (one (on_old on) (on_old off) apart)

  next_step : {k next x y z : ℕ} (e : ℕ) → On r (extended points hyper) e x → On r (extended points hyper) e y → (x ≡ y → ⊥) → (e ≡ next → ⊥)
      → suc k ≤ g → Shape k next y z → Shape (suc k) e x z
  next_step zero on off apart other short (old walk) = begins (on_new on) (on_new off) apart (near_walk walk) (omega arith)
  next_step zero on off apart other short (begins new new' apart' near l) = absurd (other refl)
  next_step {y = y} zero on off apart other short (later {i = i} {e = e} {f = f} walk new new' apart' near l) =
      let same = far_apart (on_new off) new (near_walk walk) (omega arith) in
      let long = sparse i e f y (subst (Walk r hyper i e f y) (sym same) walk) in
      absurd (omega (arith, long, short, l))
  next_step (suc e) on off apart other short (old walk) = old (step (on_old on) (on_old off) apart (λ same. other (ap (λ e. suc e) same)) walk)
  next_step (suc e) on off apart other short (begins new new' apart' near l) = later (one (on_old on) (on_old off) apart) new new' apart' near (omega arith)
  next_step (suc e) on off apart other short (later walk new new' apart' near l) =
      later (step (on_old on) (on_old off) apart (λ same. other (ap (λ e. suc e) same)) walk) new new' apart' near (omega arith)

  shape : {k e f x y : ℕ} → Walk r (extended points hyper) k e f x y → k ≤ g → Shape k e x y
  shape (one {edge = e} on off apart) short = first_step e on off apart
  shape (step {edge = e} on off apart other walk) short = next_step e on off apart other short (shape walk (omega arith))

  stays_open : {k e x y : ℕ} → Shape k e x y → x ≡ y → k ≤ g → ⊥
  stays_open (old {k = k} {e = e} {f = f} {x = x} walk) same short =
      let long = sparse k e f x (subst (Walk r hyper k e f x) (sym same) walk) in omega (arith, long, short)
  stays_open (begins {v = v} {j = j} new new' apart near l) same short =
      apart (sym (far_apart new' new (subst (Near r hyper j v) (sym same) near) (omega arith)))
  stays_open (later {u = u} {v = v} {j = j} walk new new' apart near l) same short =
      apart (sym (far_apart new' new (near_joined (subst (Near r hyper j v) (sym same) near) (near_walk walk)) (omega arith)))

  pub extended_sparse : IsSparse r g (extended points hyper)
  extended_sparse k e f x walk = lt_of_not-le (λ short. stays_open (shape walk short) refl short)
