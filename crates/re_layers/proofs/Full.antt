-- The part of a network below N; and nodes around which all nodes within r hops have all their neighbours there.
use Rattle.std.proofs.Common.{◌≡◌, ℕ, zero, suc, ◌≤◌, ◌<◌, Bool, true, false, cond, leb, [], length, refl, sym, ap, ◌∙◌, subst, arith}
use Rattle.std.specs.Prelude.{Contains, filter}
use Rattle.std.proofs.lemmas.Bool.{cond-true, leb-true, le-leb}
use Rattle.re_layers.proofs.Different.{Different-filter}
use Rattle.re_layers.proofs.Filters.{filter_all}
use Rattle.re_labels.proofs.Membership.{Contains-filter, Contains-filter_cases, Contains-none, length-filter_most}
use Rattle.re_layers.specs.Full.{IsFull}
use Rattle.re_layers.specs.Networks.{AreDifferent, Network}

abbrev pub cut : ℕ → Network → Network
cut N G = record { active = G.active; near = λ v. cond (leb (suc v) N) (filter (λ w. leb (suc w) N) (G.near v)) [] }

module _ (N : ℕ) (G : Network) where
  pub cut_near : (v : ℕ) → v < N → (cut N G).near v ≡ filter (λ w. leb (suc w) N) (G.near v)
  cut_near v low = cond-true (leb (suc v) N) (filter (λ w. leb (suc w) N) (G.near v)) [] (le-leb (suc v) N low)

  pub cut_held : (v w : ℕ) → v < N → w < N → Contains (G.near v) w → Contains ((cut N G).near v) w
  cut_held v w low also held =
      subst (λ xs. Contains xs w) (sym (cut_near v low)) (Contains-filter (λ w. leb (suc w) N) (G.near v) w held (le-leb (suc w) N also))

  pub cut_cases : (v w : ℕ) → Contains ((cut N G).near v) w → (v < N) × (w < N) × Contains (G.near v) w
  cut_cases v w held = at (leb (suc v) N) refl held
    where
      at : (b : Bool) → leb (suc v) N ≡ b → Contains (cond b (filter (λ w. leb (suc w) N) (G.near v)) []) w → (v < N) × (w < N) × Contains (G.near v) w
      at true e there = let (on, passes) = Contains-filter_cases (λ w. leb (suc w) N) (G.near v) w there in (leb-true (suc v) N e, leb-true (suc w) N passes, on)
      at false e there = absurd (Contains-none w there)

  pub cut_fewer : (v : ℕ) → length ((cut N G).near v) ≤ length (G.near v)
  cut_fewer v = at (leb (suc v) N)
    where
      at : (b : Bool) → length (cond b (filter (λ w. leb (suc w) N) (G.near v)) []) ≤ length (G.near v)
      at true = length-filter_most (λ w. leb (suc w) N) (G.near v)
      at false = omega arith

  pub cut_different : (v : ℕ) → AreDifferent (G.near v) → AreDifferent ((cut N G).near v)
  cut_different v d = at (leb (suc v) N)
    where
      at : (b : Bool) → AreDifferent (cond b (filter (λ w. leb (suc w) N) (G.near v)) [])
      at true = Different-filter (λ w. leb (suc w) N) (G.near v) d
      at false = tt

pub full_here : (count : Bool → ℕ) (G : Network) (r v : ℕ) → IsFull count G r v → length (G.near v) ≡ count (G.active v)
full_here count G zero v h = h
full_here count G (suc r) v h = h.0

pub full_less : (count : Bool → ℕ) (G : Network) (r v : ℕ) → IsFull count G (suc r) v → IsFull count G r v
full_less count G zero v h = h.0
full_less count G (suc r) v h = (h.0, λ w on. full_less count G r w (h.1 w on))

-- where nodes below s have their neighbours below reach s, the nodes within r hops of them are below spread r s
abbrev pub spread : (ℕ → ℕ) → ℕ → ℕ → ℕ
spread reach zero s = reach s
spread reach (suc r) s = spread reach r (reach s)

module _ (count : Bool → ℕ) (G : Network) (reach : ℕ → ℕ) (more : (s : ℕ) → s ≤ reach s) (near : (v w s : ℕ) → v < s → Contains (G.near v) w → w < reach s)
    (all : (v : ℕ) → length (G.near v) ≡ count (G.active v)) where
  spread_more : (r s : ℕ) → s ≤ spread reach r s
  spread_more zero s = more s
  spread_more (suc r) s = let one = more s in let rest = spread_more r (reach s) in omega (arith, one, rest)

  near_whole : (N v s : ℕ) → v < s → s ≤ N → reach s ≤ N → (cut N G).near v ≡ G.near v
  near_whole N v s low most far =
      cut_near N G v (omega (arith, low, most)) ∙ filter_all (λ w. leb (suc w) N) (G.near v)
      (λ w on. le-leb (suc w) N (let there = near v w s low on in omega (arith, there, far)))

  pub full_cut : (N r v s : ℕ) → v < s → spread reach r s ≤ N → IsFull count (cut N G) r v
  full_cut N zero v s low far = ap length (near_whole N v s low (let one = more s in omega (arith, one, far)) far) ∙ all v
  full_cut N (suc r) v s low far =
      let one : reach s ≤ N = let rest = spread_more r (reach s) in omega (arith, rest, far) in
      let whole : (cut N G).near v ≡ G.near v = near_whole N v s low (let least = more s in omega (arith, least, one)) one in (
        ap length whole ∙ all v,
        λ w on. full_cut N r w (reach s) (near v w s low (subst (λ xs. Contains xs w) whole on)) far,
      )
