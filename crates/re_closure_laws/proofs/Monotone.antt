-- Larger lines have larger combinations; so what comes from some lines lies below a closed list, where these do.
use Rattle.std.proofs.Common.{◌≡◌, ℕ, zero, suc, ◌<◌, List, [], ◌∷◌, length, sym, ◌∙◌, subst, inl, inr, arith}
use Rattle.std.specs.Prelude.{Contains}
use Rattle.re_labels.proofs.Placing.{Rearranged-placed, placed-Rearranged}
use Rattle.re_labels.proofs.Rearranging.{AllZip-Rearranged, Rearranged-sym, length-AllZip, length-Rearranged}
use Rattle.re_labels.specs.Orders.{placements}
use Rattle.re_labels.specs.Rearranging.{Rearranged, chained}
use Rattle.re_labels.specs.Rows.{IsUnder, combined, meets, placed}
use Rattle.re_labels.proofs.Membership.{Contains-In, In-Contains}
use Rattle.re_labels.proofs.Sets.{IsIn-meet, IsIn-meet_cases, IsIn-union, IsIn-union_cases}
use Rattle.re_labels.specs.Sets.{IsWithin, meet, union}
use Rattle.re_labels.proofs.Closure.{combined_along}
use Rattle.re_labels.specs.GoodRows.{IsDominated}
use Rattle.re_boxes.proofs.BoxLaw.{same_shape}
use Rattle.re_closure_laws.proofs.Unders.{dominated_moved, dominated_under}
use Rattle.re_closure_laws.specs.Closures.{IsGenerated}
use Rattle.re_closure_laws.specs.Closures.IsGenerated.{combine, move, start}
use Rattle.re_closure_laws.specs.Laws.{GeneratedLaw}
use Rattle.re_closure_laws.specs.Lines.{AreClosed}

meet_more : (s t v w : List ℕ) → IsWithin s v → IsWithin t w → IsWithin (meet s t) (meet v w)
meet_more s t v w h k x i = let two = IsIn-meet_cases s t x i in IsIn-meet v w x (h x two.0) (k x two.1)

union_more : (s t v w : List ℕ) → IsWithin s v → IsWithin t w → IsWithin (union s t) (union v w)
union_more s t v w h k x i = elim (IsIn-union_cases s t x i) [ inl a ↦ IsIn-union v w x (inl (h x a)) | inr b ↦ IsIn-union v w x (inr (k x b)) ]

meets_more : (r u q t : List (List ℕ)) → IsUnder r q → IsUnder u t → length r ≡ length u → IsUnder (meets r u) (meets q t)
meets_more [] u [] t h k e = tt
meets_more [] u (v ∷ q) t h k e = absurd h
meets_more (s ∷ r) [] q t h k e = absurd (omega arith)
meets_more (s ∷ r) (w ∷ u) [] t h k e = absurd h
meets_more (s ∷ r) (w ∷ u) (v ∷ q) [] h k e = absurd k
meets_more (s ∷ r) (w ∷ u) (v ∷ q) (y ∷ t) h k e = (meet_more s w v y h.0 k.0, meets_more r u q t h.1 k.1 (omega arith))

pub combined_more : (i : ℕ) (r u q t : List (List ℕ)) → IsUnder r q → IsUnder u t → length r ≡ length u → IsUnder (combined i r u) (combined i q t)
combined_more i [] u [] t h k e = tt
combined_more i [] u (v ∷ q) t h k e = absurd h
combined_more i (s ∷ r) [] q t h k e = absurd (omega arith)
combined_more i (s ∷ r) (w ∷ u) [] t h k e = absurd h
combined_more i (s ∷ r) (w ∷ u) (v ∷ q) [] h k e = absurd k
combined_more zero (s ∷ r) (w ∷ u) (v ∷ q) (y ∷ t) h k e = (union_more s w v y h.0 k.0, meets_more r u q t h.1 k.1 (omega arith))
combined_more (suc i) (s ∷ r) (w ∷ u) (v ∷ q) (y ∷ t) h k e = (meet_more s w v y h.0 k.0, combined_more i r u q t h.1 k.1 (omega arith))

module _ (d : ℕ) (starts lines : List (List (List ℕ))) (count : (line : List (List ℕ)) → Contains lines line → length line ≡ d) (closed : AreClosed d lines)
    (first : (line : List (List ℕ)) → Contains starts line → IsDominated lines line) where
  -- a combination of lines in any orders
  combined_closed : (line other r u : List (List ℕ)) (i : ℕ) → Contains lines line → Contains lines other → Rearranged line r → Rearranged other u → i < d → IsDominated lines (combined i r u)
  combined_closed line other r u i held there p q low =
      let er : length line ≡ length r = length-Rearranged p in
      let eu : length other ≡ length u = length-Rearranged q in
      let el = count line held in
      let eo = count other there in
      let m = combined_along (Rearranged-sym p) i (omega arith) u (same_shape r u (omega arith)) in
      let o = placed-Rearranged other m.0 (chained q m.2) in
      let listed : Contains (placements d) o.0 = subst (λ k. Contains (placements k) o.0) eo (In-Contains o.0 (placements (length other)) o.1) in
      let j_low : m.1 < d = subst (λ k. m.1 < k) el m.5 in
      dominated_moved lines (combined m.1 line m.0) (combined i r u) (Rearranged-sym m.3)
      (subst (λ w. IsDominated lines (combined m.1 line w)) (sym o.2) (closed line other o.0 m.1 held there listed j_low))

  pub all_dominated : {line : List (List ℕ)} → IsGenerated d starts line → IsDominated lines line
  all_dominated (start held) = first _ held
  all_dominated (combine {line = line} {other = other} {order = order} {i = i} g k listed low) = go (all_dominated g) (all_dominated k)
    where
      go : IsDominated lines line → IsDominated lines other → IsDominated lines (combined i line (placed other order))
      go (top, held, (r, p, under)) (over, there, (u, q, below)) =
          let e : length other ≡ d = length-AllZip IsWithin other u below ∙ sym (length-Rearranged q) ∙ count over there in
          let el : length line ≡ d = length-AllZip IsWithin line r under ∙ sym (length-Rearranged p) ∙ count top held in
          let moved = Rearranged-placed other order (Contains-In order (placements (length other)) (subst (λ m. Contains (placements m) order) (sym e) listed)) in
          let along = AllZip-Rearranged IsWithin moved u below in
          dominated_under lines (combined i r along.0) (combined i line (placed other order))
          (combined_more i line (placed other order) r along.0 under along.2 (el ∙ sym e ∙ length-Rearranged moved))
          (combined_closed top over r along.0 i held there p (chained q along.1) low)
  all_dominated (move {line = line} {other = other} g p) = dominated_moved lines line other p (all_dominated g)

pub generated_law : GeneratedLaw
generated_law d starts lines count closed first line g = all_dominated d starts lines count closed first g
