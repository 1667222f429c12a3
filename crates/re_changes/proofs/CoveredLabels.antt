-- The labels that occur with a covered label occur without it too.
use Rattle.std.proofs.Common.{◌≡◌, ℕ, zero, suc, ◌+◌, Bool, true, false, not, cond, eqb, ◌||◌, List, [], ◌∷◌, refl, ap, ◌∙◌, arith, inl, inr}
use Rattle.std.specs.Prelude.{Contains}
use Rattle.re_labels.proofs.Placing.{Rearranged-Pick}
use Rattle.re_labels.proofs.Rearranging.{Contains-Rearranged, Rearranged-sym}
use Rattle.re_labels.proofs.Sorting.{Rearranged-sorted, times-Perm}
use Rattle.re_labels.specs.Configs.{replaced, sorted}
use Rattle.re_labels.specs.Rearranging.{Rearranged, chained}
use Rattle.re_labels.proofs.Membership.{Contains-cases, Contains-filter, Contains-later}
use Rattle.re_labels.proofs.Sets.{has-IsIn}
use Rattle.re_labels.proofs.Tests.{eqb-apart, eqb-same}
use Rattle.re_labels.specs.Sets.{has}
use Rattle.re_problem.specs.NamedProblems.{OccursIn}
use Rattle.re_labels.proofs.Strengths.{Pick-Contains, replaced_order}
use Rattle.re_labels.specs.Constraints.{Constraint}
use Rattle.re_labels.specs.Strength.{IsAtLeastAsStrong, constraint_without}

-- how often the label stands in a list
abbrev times : ℕ → List ℕ → ℕ
times a [] = 0
times a (x ∷ xs) = cond (eqb x a) 1 0 + times a xs

times-more : (a : ℕ) (xs : List ℕ) → times a (a ∷ xs) ≡ suc (times a xs)
times-more a xs = let e = ap (λ b. cond b 1 0 + times a xs) (eqb-same a) in omega arith

times-other : (a b : ℕ) (xs : List ℕ) → (b ≡ a → ⊥) → times a (b ∷ xs) ≡ times a xs
times-other a b xs apart = let e = ap (λ t. cond t 1 0 + times a xs) (eqb-apart b a apart) in omega arith

absent-times : (a : ℕ) (xs : List ℕ) → times a xs ≡ 0 → has xs a ≡ false
absent-times a [] e = refl
absent-times a (x ∷ xs) e = go (eqb x a) refl e (absent-times a xs)
  where
    go : (t : Bool) → eqb x a ≡ t → cond t 1 0 + times a xs ≡ 0 → (times a xs ≡ 0 → has xs a ≡ false) → (t || has xs a) ≡ false
    go true d h rest = absurd (omega arith)
    go false d h rest = rest (omega arith)

there-times : (a n : ℕ) (xs : List ℕ) → times a xs ≡ suc n → has xs a ≡ true
there-times a n [] e = absurd (omega arith)
there-times a n (x ∷ xs) e = go (eqb x a) refl e (there-times a n xs)
  where
    go : (t : Bool) → eqb x a ≡ t → cond t 1 0 + times a xs ≡ suc n → (times a xs ≡ suc n → has xs a ≡ true) → (t || has xs a) ≡ true
    go true d h rest = refl
    go false d h rest = rest (omega arith)

module _ (constraint : Constraint) (a b x : ℕ) (apart : b ≡ a → ⊥) (other : x ≡ a → ⊥) (strong : IsAtLeastAsStrong constraint b a) where
  without-times : (k : ℕ) (config : List ℕ) → Contains constraint.configs config → Contains config x → times a config ≡ k → OccursIn (constraint_without a constraint) x
  without-times zero config held has_x e =
      (config, Contains-filter (λ config. not (has config a)) constraint.configs config held (ap not (absent-times a config e)), has_x)
  without-times (suc k) config held has_x e =
      let has_a = has-IsIn config a (there-times a k config e) in
      let (rest, pick) = Pick-Contains a config has_a in
      let whole : times a config ≡ suc (times a rest) = times-Perm a (Rearranged-Pick pick) ∙ times-more a rest in
      let order : Rearranged (sorted (replaced a b config)) (b ∷ rest) = chained (Rearranged-sym (Rearranged-sorted (replaced a b config))) (replaced_order a b pick) in
      let less : times a (sorted (replaced a b config)) ≡ k = (let s = times-Perm a order ∙ times-other a b rest apart in omega arith) in
      let x_rest : Contains rest x = elim (Contains-cases x a rest (Contains-Rearranged x (Rearranged-Pick pick) has_x)) [ inl d ↦ absurd (other d) | inr i ↦ i ] in
      without-times k (sorted (replaced a b config)) (strong config held has_a) (Contains-Rearranged x (Rearranged-sym order) (Contains-later x b rest x_rest)) less

  -- another label that occurs, occurs in a configuration without the covered one
  pub occurs-without : OccursIn constraint x → OccursIn (constraint_without a constraint) x
  occurs-without o = without-times (times a o.0) o.0 o.1 o.2 refl
