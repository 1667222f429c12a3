-- Raking alone takes away all nodes of a forest in as many rounds as there are nodes: layers without paths.
use Rattle.std.proofs.Common.{◌≡◌, ℕ, zero, suc, ◌*◌, ◌%◌, ◌≤◌, ◌<◌, true, false, List, [], ◌∷◌, length, refl, sym, ap, ◌∙◌, subst, arith, inl, inr}
use Rattle.std.specs.Prelude.{Contains, flat_map}
use Rattle.std.proofs.Math.Nat.{mod-lt}
use Rattle.std.proofs.lemmas.Bool.{false≢true}
use Rattle.re_layers.proofs.Claims.{claim_cases, owned_cases}
use Rattle.re_layers.proofs.Different.{Different-filter, branch_short, branch_some, left_most, length-piece, near_different}
use Rattle.re_labels.proofs.Tests.{eqb-true}
use Rattle.re_layers.proofs.Filters.{either}
use Rattle.re_layers.proofs.LastSteps.{layer, path}
use Rattle.re_layers.proofs.Layered.{layered}
use Rattle.re_layers.proofs.LocalRounds.{layer_local, path_local}
use Rattle.re_labels.proofs.Membership.{Contains-here}
use Rattle.re_layers.proofs.Peeling.{living, onward}
use Rattle.re_layers.proofs.Rounds.{Plan, alive, chosen, dead_later, path_at, round_rakes}
use Rattle.re_layers.proofs.Ways.{onward_cases}
use Rattle.re_layers.specs.Layers.{IsLayered}
use Rattle.re_layers.specs.Networks.{IsForest, IsLocal, Network, branch, others}

-- no step compresses: a round has two steps, and no colour is that of either
abbrev plan : Plan
plan = record { colour = λ G v. 2; colours = 0; inner = 1 }

never : (G : Network) (s u : ℕ) → chosen plan G s u ≡ true → ⊥
never G s u h = let low : s % 2 < 2 = mod-lt s (omega arith) in let same : 2 ≡ s % 2 = eqb-true 2 (s % 2) h in omega (arith, low, same)

no_path : (G : Network) (s v : ℕ) → path_at plan G s v ≡ []
no_path G s v = elim (owned_cases G (alive plan G s) (chosen plan G s) 1 v) [
  | inl none ↦ none
  | inr o ↦ absurd (never G s o.claimer (claim_cases G (alive plan G s) (chosen plan G s) 1 o.claimer (path_at plan G s v) o.claimed).chosen_is)
]

module _ {a p N : ℕ} {G : Network} (is : IsForest a p N G) where
  -- where a node is alive after r rounds, some branch with it has more than r nodes
  growth : (r x v : ℕ) → Contains (G.near x) v → alive plan G (r * 2) v ≡ true → suc r ≤ length (branch G r x v)
  growth zero x v on lives = branch_some G zero x v
  growth (suc r) x v on lives = at (onward G (alive plan G (r * 2)) x v) refl (λ y there here. growth r v y there here)
    where
      at : (ys : List ℕ) → onward G (alive plan G (r * 2)) x v ≡ ys
          → ((y : ℕ) → Contains (G.near v) y → alive plan G (r * 2) y ≡ true → suc r ≤ length (branch G r v y)) → suc (suc r) ≤ length (branch G (suc r) x v)
      at [] e before =
          let most : length (living G (alive plan G (r * 2)) v) ≤ suc (length (onward G (alive plan G (r * 2)) x v)) =
          left_most x (living G (alive plan G (r * 2)) v) (Different-filter (alive plan G (r * 2)) (G.near v) (near_different is v)) in
          let count : length (onward G (alive plan G (r * 2)) x v) ≡ 0 = ap length e in
          let dead : alive plan G (suc r * 2) v ≡ false = round_rakes plan G r v (omega (arith, most, count)) in
          absurd (false≢true (sym dead ∙ lives))
      at (y ∷ ys) e before =
          let held : Contains (onward G (alive plan G (r * 2)) x v) y = subst (λ ys. Contains ys y) (sym e) (Contains-here y ys) in
          let (other, there, here) = onward_cases G (alive plan G (r * 2)) x v y held in
          let rest = before y there here in
          let more : length (branch G r v y) ≤ length (flat_map (λ w. branch G r v w) (others G x v)) = length-piece (λ w. branch G r v w) (others G x v) y other in
          omega (arith, rest, more)

  all_gone : (v : ℕ) → alive plan G (suc N * 2) v ≡ false
  all_gone v = at (G.near v) refl
    where
      at : (xs : List ℕ) → G.near v ≡ xs → alive plan G (suc N * 2) v ≡ false
      at [] e =
          let none : length (living G (alive plan G (0 * 2)) v) ≤ 1 = rw e (omega arith) in
          dead_later plan G v (1 * 2) (suc N * 2) (omega arith) (round_rakes plan G 0 v none)
      at (x ∷ xs) e = elim (either (alive plan G (suc N * 2) v)) [
        | inl lives ↦
            (let on : Contains (G.near x) v = is.both v x (subst (λ ys. Contains ys x) (sym e) (Contains-here x xs)) in
            let large : suc (suc N) ≤ length (branch G (suc N) x v) = growth (suc N) x v on lives in
            let small : length (branch G (suc N) x v) ≤ N = branch_short is (suc N) x v on in
            absurd (omega (arith, large, small)))
        | inr dead ↦ dead
      ]

-- layers without paths: as many as there are nodes, found in as many rounds, up to a constant
pub raked_layers : (a p N : ℕ) → (layer : Network → ℕ → ℕ) × (path : Network → ℕ → List ℕ) × IsLocal (9 * suc N) layer × IsLocal (9 * suc N) path
    × ((G : Network) → IsForest a p N G → IsLayered G 0 (9 * suc N) (layer G) (path G) × ((v : ℕ) → path G v ≡ []))
unfolding path
raked_layers a p N = (
  layer plan (suc N * 2),
  path plan (suc N * 2),
  layer_local plan 0 (λ G H v same. refl) (suc N * 2) (9 * suc N) (omega arith),
  path_local plan 0 (λ G H v same. refl) (suc N * 2) (9 * suc N) (omega arith),
  λ G is. (
    layered plan G is (λ s u w near one other. absurd (never G s u one)) (λ s u v one kind. never G s u one) (suc N * 2) 0 refl (all_gone is) (9 * suc N) (omega arith),
    λ v. no_path G (layer plan (suc N * 2) G v) v,
  ),
)
