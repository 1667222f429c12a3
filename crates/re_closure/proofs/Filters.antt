-- The labels below a number that pass a test, one after another.
use Rattle.std.proofs.Common.{◌≡◌, ℕ, suc, ◌+◌, ◌<◌, Bool, true, false, cond, List, [], ◌∷◌, ◌++◌, filter, ap, refl, sym, ◌∙◌, arith}
use Rattle.std.specs.List.{AllByRecursion}
use Rattle.std.proofs.lemmas.List.Elements.{filter-append}
use Rattle.re_labels.proofs.Membership.{AllByRecursion-from_contains, Contains-filter_cases, count_from-last, count_from_range}
use Rattle.re_labels.specs.Lists.{count_from}
use Rattle.re_labels.specs.Sets.{with_label}
use Rattle.re_labels.proofs.Sets.{with_label-above}

module _ (test : ℕ → Bool) where
  abbrev passing : ℕ → List ℕ
  passing n = filter test (count_from 0 n)

  below : (n : ℕ) → AllByRecursion (λ y. y < n) (filter test (count_from 0 n))
  below n = AllByRecursion-from_contains (λ y. y < n) (filter test (count_from 0 n))
      (λ x held. let range = count_from_range 0 n x (Contains-filter_cases test (count_from 0 n) x held).0 in omega (arith, range.1))

  one_more : (n : ℕ) → filter test (count_from 0 (n + 1)) ≡ filter test (count_from 0 n) ++ cond (test n) (n ∷ []) []
  one_more n =
      let e : n + 1 ≡ suc n = omega arith in
      let z : 0 + n ≡ n = omega arith in
      ap (λ m. filter test (count_from 0 m)) e
      ∙ ap (filter test) (count_from-last 0 n ∙ ap (λ m. count_from 0 n ++ m ∷ []) z)
      ∙ filter-append test (count_from 0 n) (n ∷ [])

  append_none : (xs : List ℕ) → xs ++ [] ≡ xs
  append_none [] = refl
  append_none (x ∷ xs) = ap (λ l. x ∷ l) (append_none xs)

  -- the next label, where it passes
  pub one_in : (left more : List ℕ) (n : ℕ) → test n ≡ true → left ≡ filter test (count_from 0 n) → more ≡ with_label left n → more ≡ filter test (count_from 0 (n + 1))
  one_in left more n passes is e =
      e ∙ ap (λ l. with_label l n) is ∙ with_label-above (filter test (count_from 0 n)) n (below n)
      ∙ sym (one_more n ∙ ap (λ b. filter test (count_from 0 n) ++ cond b (n ∷ []) []) passes)

  -- and where it doesn't
  pub one_out : (left : List ℕ) (n : ℕ) → test n ≡ false → left ≡ filter test (count_from 0 n) → left ≡ filter test (count_from 0 (n + 1))
  one_out left n fails is = is ∙ sym (one_more n ∙ ap (λ b. filter test (count_from 0 n) ++ cond b (n ∷ []) []) fails ∙ append_none (filter test (count_from 0 n)))
