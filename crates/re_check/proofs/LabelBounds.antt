-- Labels below a number, and what labels go up to.
use Rattle.std.proofs.Common.{◌≡◌, ℕ, ◌-◌, ◌<◌, Bool, true, false, not, eqb, List, [], ◌∷◌, length, Option, Some, None, refl, sym, ap, ◌∙◌, subst, inl, inr, arith}
use Rattle.std.specs.Prelude.{IsTrue, ◌↔◌}
use Rattle.std.specs.List.{AllByRecursion}
use Rattle.std.specs.Option.{is_some}
use Rattle.std.proofs.lemmas.Bool.{cases_lt}
use Rattle.re_labels.proofs.Membership.{AllByRecursion-contains, AllByRecursion-from_contains}
use Rattle.re_labels.proofs.Tests.{eqb-true}
use Rattle.re_labels.specs.Sets.{IsIn, IsLabelSet, after_of}
use Rattle.re_boxes.proofs.LabelsAbove.{next_above, nothing_above}
use Rattle.re_boxes.proofs.Parting.{empty_set}
use Rattle.re_boxes.proofs.Walks.{always, never}

pub none_below : (s : List ℕ) (n : ℕ) (r : Bool) → r ≡ eqb (length s) 0 → n ≡ 0 → IsTrue r ↔ IsLabelSet n s
none_below s n r e z = (
  (λ t. subst (IsLabelSet n) (sym (empty_set s (eqb-true (length s) 0 (sym e ∙ t)))) (tt, tt)),
  (λ set. e ∙ empty s set.1),
)
  where
    empty : (s : List ℕ) → AllByRecursion (λ x. x < n) s → eqb (length s) 0 ≡ true
    empty [] h = refl
    empty (x ∷ s) h = let l = h.0 in absurd (omega (arith, l, z))

turned : (r b : Bool) → b ≡ not r → not b ≡ r
turned true b e = ap not e
turned false b e = ap not e

pub below_last : (s : List ℕ) (n : ℕ) (o : Option ℕ) (r : Bool) → IsLabelSet 128 s → (n ≡ 0 → ⊥) → o ≡ after_of s (n - 1) → is_some o ≡ not r → IsTrue r ↔ IsLabelSet n s
below_last s n None r set some e f = subst (λ b. IsTrue b ↔ IsLabelSet n s) (turned r false f) (always (set.0, AllByRecursion-from_contains (λ x. x < n) s (λ x i. low x i)))
  where
    low : (x : ℕ) → IsIn x s → x < n
    low x i = elim (cases_lt x n) [
      | inl h ↦ h
      | inr h ↦ absurd (nothing_above s (n - 1) x (sym e) i (omega (arith, h, some)))
    ]
below_last s n (Some y) r set some e f = subst (λ b. IsTrue b ↔ IsLabelSet n s) (turned r true f) (never (λ low.
    let a = next_above s (n - 1) y set.0 (sym e) in
    let below : y < n = AllByRecursion-contains (λ x. x < n) s y low.1 a.held in
    let above = a.above in
    omega (arith, below, above, some)))
