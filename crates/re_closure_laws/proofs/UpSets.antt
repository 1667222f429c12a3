-- The sets of maximal rows hold, with each label, those at least as strong.
use Rattle.std.proofs.Common.{◌≡◌, ℕ, ◌<◌, true, false, cond, ltb, List, [], ◌∷◌, refl, sym, ◌∙◌, subst, inl, inr, arith}
use Rattle.std.specs.Prelude.{Contains, ◌↔◌}
use Rattle.std.proofs.lemmas.Bool.Decides.{nat_tests}
use Rattle.re_labels.specs.Rows.{set_at}
use Rattle.re_labels.proofs.Membership.{Contains-In, Contains-cases, Contains-here, Contains-none}
use Rattle.re_labels.specs.Sets.{IsIn, IsWithin}
use Rattle.re_labels.proofs.MaxRows.{max_rows-IsMaximal}
use Rattle.re_labels.proofs.MaxSets.{max_sets-from}
use Rattle.re_labels.proofs.Strengths.{IsAtLeastAsStrong-refl, IsIn-up_set, IsIn-up_set_cases}
use Rattle.re_labels.specs.Constraints.{Constraint, IsConstraint}
use Rattle.re_labels.specs.GoodRows.{max_rows, max_sets}
use Rattle.re_labels.specs.Strength.{up_set}
use Rattle.re_boxes.proofs.Grown.{grown_is_up, maximal_is_grown}
use Rattle.re_boxes.proofs.StrengthTests.{strength_law}
use Rattle.re_boxes.specs.Strength.{HasStronger, IsAbove}
use Rattle.re_labels.proofs.Searching.{same_read}

module _ (K : Constraint) (n : ℕ) (is : IsConstraint n K) where
  -- the labels at least as strong, and of a number that is no label itself alone
  abbrev pub ups : ℕ → List ℕ
  ups x = cond (ltb x n) (up_set K x n) (x ∷ [])

  pub own_up : (x : ℕ) → x < n → IsIn x (up_set K x n)
  own_up x low = IsIn-up_set K x x n low (IsAtLeastAsStrong-refl K n x is)

  pub exact : HasStronger K n ups
  exact x y = elim (ltb x n) as (λ b. ltb x n ≡ b → IsIn y (cond b (up_set K x n) (x ∷ [])) ↔ IsAbove K n y x) [
    | true ↦ λ e.
        let low : x < n = grind (arith, nat_tests) in (
          (λ i. let two = IsIn-up_set_cases K x y n i in inr (low, two.0, two.1)),
          (λ above. elim above [
            | inl same ↦ subst (λ w. IsIn w (up_set K x n)) (sym same) (own_up x low)
            | inr three ↦ IsIn-up_set K x y n three.1 three.2
          ]),
        )
    | false ↦ λ e. (
      (λ i. elim (Contains-cases y x [] i) [ inl same ↦ inl same | inr k ↦ absurd (Contains-none y k) ]),
      (λ above. elim above [
        | inl same ↦ subst (λ w. IsIn w (x ∷ [])) (sym same) (Contains-here x [])
        | inr three ↦ absurd (let low : x < n = three.0 in grind (arith, nat_tests))
      ]),
    )
  ] refl

  pub to_ups : (x y : ℕ) → x < n → IsIn y (up_set K x n) → IsIn y (cond (ltb x n) (up_set K x n) (x ∷ []))
  to_ups x y low i = let two = IsIn-up_set_cases K x y n i in (exact x y).1 (inr (low, two.0, two.1))

  pub max_set_up : (set : List ℕ) → Contains (max_sets K n) set → (x : ℕ) → x < n → IsIn x set → IsWithin (up_set K x n) set
  max_set_up set held x x_low i y j =
      let (row, at, (k, low, e)) = max_sets-from K n set held in
      let m = max_rows-IsMaximal K n row (Contains-In row (max_rows K n) at) in
      let same : set_at row k ≡ set = same_read row k [] set low ∙ e in
      subst (IsIn y) same
      (grown_is_up K ups n row (strength_law K n ups exact) m.good (maximal_is_grown K n row m) k x y low (IsIn-up_set_cases K x y n j).0
      (subst (IsIn x) (sym same) i) (to_ups x y x_low j))
