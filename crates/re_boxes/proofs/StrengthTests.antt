-- The labels at least as strong as a label go up, and so does each label by itself.
use Rattle.re_labels.proofs.Strengths.{Contains-Pick, Pick-Contains}
use Rattle.std.proofs.Common.{List, [], append_assoc, cond, eqb, false, inl, inr, refl, subst, sym, true, ℕ, ◌++◌, ◌<◌, ◌∷◌, ◌≡◌}
use Rattle.std.specs.List.{AllZip}
use Rattle.re_labels.proofs.Placing.{Pick, Rearranged-Pick, here, picked, there}
use Rattle.re_labels.proofs.Rearranging.{Rearranged-refl, Rearranged-sym}
use Rattle.re_labels.proofs.Sorting.{Rearranged-sorted}
use Rattle.re_labels.specs.Configs.{replaced, sorted}
use Rattle.re_labels.specs.Rearranging.{Rearranged, chained, kept, swapped}
use Rattle.re_labels.proofs.Tests.{eqb-same, eqb-true}
use Rattle.re_labels.specs.Sets.{IsIn}
use Rattle.re_labels.proofs.Goodness.{Has-Rearranged}
use Rattle.re_labels.specs.Constraints.{Constraint, Has}
use Rattle.re_labels.specs.Strength.{IsAtLeastAsStrong}
use Rattle.re_boxes.specs.Strength.{IsAbove, StrengthLaw}

-- ---- one label in place of another
replaced_order : (x y : ℕ) {xs rest : List ℕ} → Pick x xs rest → Rearranged (replaced x y xs) (y ∷ rest)
replaced_order x y (here {xs = ys}) = rw (eqb-same x) (Rearranged-refl (y ∷ ys))
replaced_order x y (there {y = z} {xs = zs} {ys = ys} k) =
    elim (eqb z x) as (λ b. eqb z x ≡ b → Rearranged (cond b (y ∷ zs) (z ∷ replaced x y zs)) (y ∷ z ∷ ys)) [
      | true ↦ λ e. kept (subst (λ w. Rearranged zs (w ∷ ys)) (sym (eqb-true z x e)) (Rearranged-Pick k))
      | false ↦ λ e. chained (kept (replaced_order x y k)) swapped
    ] refl

to_front : (x : ℕ) (p q : List ℕ) → Rearranged (p ++ x ∷ q) (x ∷ p ++ q)
to_front x [] q = Rearranged-refl (x ∷ q)
to_front x (z ∷ p) q = chained (kept (to_front x p q)) swapped

module _ (constraint : Constraint) where
  -- a stronger label beside some others
  stronger_first : (x y : ℕ) (rest : List ℕ) → IsAtLeastAsStrong constraint y x → Has constraint (x ∷ rest) → Has constraint (y ∷ rest)
  stronger_first x y rest strong has =
      let a = picked (Rearranged-sorted (x ∷ rest)) here in
      Has-Rearranged constraint (chained (replaced_order x y a.1) (kept (Rearranged-sym a.2)))
      (strong (sorted (x ∷ rest)) has (Contains-Pick x (sorted (x ∷ rest)) a.0 a.1))

  pub stronger_anywhere : (x y : ℕ) (p q : List ℕ) → IsAtLeastAsStrong constraint y x → Has constraint (p ++ x ∷ q) → Has constraint (p ++ y ∷ q)
  stronger_anywhere x y p q strong has =
      Has-Rearranged constraint (Rearranged-sym (to_front y p q)) (stronger_first x y (p ++ q) strong (Has-Rearranged constraint (to_front x p q) has))

  pub IsAtLeastAsStrong-trans : (x y z : ℕ) → IsAtLeastAsStrong constraint y x → IsAtLeastAsStrong constraint z y → IsAtLeastAsStrong constraint z x
  IsAtLeastAsStrong-trans x y z one two config held has =
      let a = Pick-Contains x config has in
      Has-Rearranged constraint (Rearranged-sym (replaced_order x z a.1))
      (stronger_first y z a.0 two (Has-Rearranged constraint (replaced_order x y a.1) (one config held has)))

-- ---- each label of a configuration in turn
-- configurations stay when one label goes up, so they stay when each does
pub keeps_by_one : (constraint : Constraint) (ups : ℕ → List ℕ) → ((p q : List ℕ) (x y : ℕ) → IsIn y (ups x) → Has constraint (p ++ x ∷ q) → Has constraint (p ++ y ∷ q))
    → (p c e : List ℕ) → AllZip (λ x y. IsIn y (ups x)) c e → Has constraint (p ++ c) → Has constraint (p ++ e)
keeps_by_one constraint ups one p [] [] h k = k
keeps_by_one constraint ups one p [] (y ∷ e) h k = absurd h
keeps_by_one constraint ups one p (x ∷ c) [] h k = absurd h
keeps_by_one constraint ups one p (x ∷ c) (y ∷ e) h k =
    subst (Has constraint) (append_assoc p (y ∷ []) e)
    (keeps_by_one constraint ups one (p ++ y ∷ []) c e h.1 (subst (Has constraint) (sym (append_assoc p (y ∷ []) c)) (one p c x y h.0 k)))

pub strength_law : StrengthLaw
strength_law constraint n ups exact = record {
  holds = λ x. (exact x x).1 (inl refl);
  goes_on = λ x y i z j. (exact x z).1 (chain x y z ((exact x y).0 i) ((exact y z).0 j));
  keeps = λ c e h k. keeps_by_one constraint ups one [] c e h k;
}
  where
    chain : (x y z : ℕ) → IsAbove constraint n y x → IsAbove constraint n z y → IsAbove constraint n z x
    chain x y z (inl e) b = subst (λ w. IsAbove constraint n z w) e b
    chain x y z (inr a) (inl e) = inr (subst (λ w. (x < n) × (w < n) × IsAtLeastAsStrong constraint w x) (sym e) a)
    chain x y z (inr a) (inr b) = inr (a.0, b.1, IsAtLeastAsStrong-trans constraint x y z a.2 b.2)

    one : (p q : List ℕ) (x y : ℕ) → IsIn y (ups x) → Has constraint (p ++ x ∷ q) → Has constraint (p ++ y ∷ q)
    one p q x y i has = elim ((exact x y).0 i) [
      | inl e ↦ subst (λ w. Has constraint (p ++ w ∷ q)) (sym e) has
      | inr a ↦ stronger_anywhere constraint x y p q a.2 has
    ]

-- ---- each label by itself
