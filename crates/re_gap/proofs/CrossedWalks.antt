-- Walks down in a tree that don't come to the far end of the edge that is taken away are walks in what is crossed.
use Rattle.std.proofs.Common.{◌≡◌, ℕ, zero, suc, ◌<◌, Bool, sym, ap, ◌∙◌, ◌⊎◌, inl, inr, arith}
use Rattle.re_forests.proofs.TreeWalks.{Walk}
use Rattle.re_gap.proofs.Crossed.{IsKept, crossed, kept_of, near_kept}
use Rattle.re_gap.proofs.Deep.{Down, down_next, walk_ranks}
use Rattle.re_gap.proofs.Rerooted.{IsRootedAt}
use Rattle.re_layers.proofs.NodeNumbers.{number, number_same}
use Rattle.re_layers.specs.Networks.{Network}

module _ (G : Bool → Network) (child root : Bool → ℕ) (b : Bool) (end : ℕ) (is_end : (end ≡ child b) ⊎ (end ≡ root b)) where
  pub kept_before : (v w : ℕ) → (v ≡ end → ⊥) → (w ≡ end → ⊥) → IsKept G child root b v w
  kept_before v w own other =
      kept_of G child root b v w
      (λ e f. elim is_end [ inl c ↦ own (e ∙ sym c) | inr c ↦ other (f ∙ sym c) ])
      (λ e f. elim is_end [ inl c ↦ other (f ∙ sym c) | inr c ↦ own (e ∙ sym c) ])

  pub walk_crossed : {a p r : ℕ} (rooted : IsRootedAt a p (G b) r) (n u v x y : ℕ) → Down rooted u v
      → rooted.tree.rank y < rooted.tree.rank end
      → Walk (G b) n u v x y → Walk (crossed G child root) n (number b u) (number b v) (number b x) (number b y)
  walk_crossed rooted zero u v x y down less walk = (ap (number b) walk.0, ap (number b) walk.1)
  walk_crossed rooted (suc n) u v x y down less walk =
      let (w, on, ne, rest) = walk in
      let next = down_next rooted u v w down on ne in
      let most = walk_ranks rooted n v w x y next rest in
      let up = next.2 in (
        number b w,
        near_kept G child root b v w
            (kept_before v w (λ e. (let same = ap rooted.tree.rank e in omega (arith, same, most, up, less)))
            (λ e. (let same = ap rooted.tree.rank e in omega (arith, same, most, less)))) on,
        (λ e. ne (number_same b w u e)),
        walk_crossed rooted n v w x y next less rest,
      )
