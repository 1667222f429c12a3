-- Views of a graph with ports fit where around each node stand colours that its side allows.
use Rattle.std.proofs.Common.{◌≡◌, ℕ, zero, suc, ◌+◌, ◌≤◌, ◌<◌, Bool, not, List, [], ◌∷◌, ◌++◌, map, sym, subst, arith}
use Rattle.std.proofs.Math.Bool.{not-not}
use Rattle.std.proofs.lemmas.List.{append-nil}
use Rattle.re_labels.proofs.Rearranging.{Rearranged-sym}
use Rattle.re_forests.proofs.Views.{IsPorted, Ported, child, child_at-view, payload, payload-back, row, view}
use Rattle.re_given.proofs.Fitting.{FitsAround-others, Rearranged-front}
use Rattle.re_given.specs.InputViews.{FitsAround}
use Rattle.re_labels.specs.Lists.{count_from}
use Rattle.re_labels.proofs.Goodness.{Has-Rearranged}
use Rattle.re_labels.specs.Constraints.{Constraint, Has}
use Rattle.re_laws.specs.Trees.{others}

module _ {X : Type 0} (P : Ported X ℕ) (good : X → Type 0) (is : IsPorted P good) (side : Bool → Constraint)
    (around : (x : X) → good x → Has (side (P.active x)) (map (payload P x) (count_from 0 (P.degree (P.active x))))) where
  -- the branch behind a port fits where the neighbour's view does
  branch_fits : (t : ℕ) (x : X) (k : ℕ) → good x → k < P.degree (P.active x)
      → FitsAround (side (P.active (P.next x k))) (side (not (P.active (P.next x k)))) [] (view P t (P.next x k))
      → FitsAround (side (not (P.active x))) (side (P.active x)) (payload P x k ∷ []) (others (P.back x k) (view P t (P.next x k)))
  branch_fits zero x k ok low fits = tt
  branch_fits (suc t) x k ok low fits =
      let y = P.next x k in
      let turns : P.active y ≡ not (P.active x) = is.turns x k ok low in
      let less : P.back x k < P.degree (P.active y) = subst (λ b. P.back x k < P.degree b) (sym turns) (is.within x k ok low) in
      let behind : FitsAround (side (P.active y)) (side (not (P.active y))) (payload P y (P.back x k) ∷ []) (others (P.back x k) (view P (suc t) y)) =
      (FitsAround-others (side (P.active y)) (side (not (P.active y))) [] (P.back x k) (child P (λ z. view P t z) y (P.back x k)) (view P (suc t) y) (child_at-view P t y (P.back x k) less) fits).1 in
      subst (λ label. FitsAround (side (not (P.active x))) (side (P.active x)) (label ∷ []) (others (P.back x k) (view P (suc t) y))) (payload-back P good is x k ok low)
      (subst (λ b. FitsAround (side (not (P.active x))) (side b) (payload P y (P.back x k) ∷ []) (others (P.back x k) (view P (suc t) y))) (not-not (P.active x))
      (subst (λ b. FitsAround (side b) (side (not b)) (payload P y (P.back x k) ∷ []) (others (P.back x k) (view P (suc t) y))) turns behind))

  row_fits : (t : ℕ) (x : X) → good x → ((y : X) → good y → FitsAround (side (P.active y)) (side (not (P.active y))) [] (view P t y))
      → (k n : ℕ) (seen : List ℕ) → k + n ≤ P.degree (P.active x) → Has (side (P.active x)) (map (payload P x) (count_from k n) ++ seen)
      → FitsAround (side (P.active x)) (side (not (P.active x))) seen (row P (λ y. view P t y) x k n)
  row_fits t x ok each k zero seen low has = has
  row_fits t x ok each k (suc n) seen low has = (
    branch_fits t x k ok (omega arith) (each (P.next x k) (is.stays x k ok (omega arith))),
    row_fits t x ok each (suc k) n (payload P x k ∷ seen) (omega arith)
        (Has-Rearranged (side (P.active x)) (Rearranged-sym (Rearranged-front (map (payload P x) (count_from (suc k) n)) (payload P x k) seen)) has),
  )

  pub view_fits : (t : ℕ) (x : X) → good x → FitsAround (side (P.active x)) (side (not (P.active x))) [] (view P t x)
  view_fits zero x ok = tt
  view_fits (suc t) x ok = row_fits t x ok (λ y fine. view_fits t y fine) 0 (P.degree (P.active x)) [] (omega arith)
      (subst (Has (side (P.active x))) (sym (append-nil (map (payload P x) (count_from 0 (P.degree (P.active x)))))) (around x ok))
