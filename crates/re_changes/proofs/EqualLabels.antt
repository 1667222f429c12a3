-- The least label of each class, where a test of strength is reflexive and goes on from label to label.
use Rattle.std.proofs.Common.{◌≡◌, ℕ, ◌<◌, Bool, true, eqb, List, [], ◌∷◌, refl, sym, ap, ◌∙◌, arith}
use Rattle.std.specs.Prelude.{Contains, unwrap_or, ◌==◌}
use Rattle.re_labels.proofs.Membership.{Contains-count_from, Contains-filter, Contains-filter_cases, Contains-here, Contains-none, filter-alike}
use Rattle.re_labels.proofs.Numbers.{IsLabelSet-count_from, IsLabelSet-filter}
use Rattle.re_labels.proofs.Tests.{and-true, eqb-same, eqb-true, same_tests, true-and}
use Rattle.re_labels.specs.Lists.{count_from}
use Rattle.re_labels.specs.Sets.{IsLabelSet, first_of}
use Rattle.re_changes.proofs.Alike.{below_bound}
use Rattle.re_changes.specs.Classes.{are_equal, class_of, least_equal, least_labels}

first-in : (s : List ℕ) (a x : ℕ) → Contains s x → Contains s (unwrap_or (first_of s) a)
first-in [] a x h = absurd (Contains-none x h)
first-in (y ∷ s) a x h = Contains-here y s

first-alike : (s : List ℕ) (a b x : ℕ) → Contains s x → unwrap_or (first_of s) a ≡ unwrap_or (first_of s) b
first-alike [] a b x h = absurd (Contains-none x h)
first-alike (y ∷ s) a b x h = refl

pub IsLabelSet-least_labels : (strong : ℕ → ℕ → Bool) (n : ℕ) → IsLabelSet n (least_labels strong n)
IsLabelSet-least_labels strong n = IsLabelSet-filter (λ a. least_equal strong n a == a) n (count_from 0 n) (IsLabelSet-count_from 0 n n (omega arith))

pub least_labels-fact : (strong : ℕ → ℕ → Bool) (n a : ℕ) → Contains (least_labels strong n) a → (a < n) × (least_equal strong n a ≡ a)
least_labels-fact strong n a held =
    let two = Contains-filter_cases (λ a. least_equal strong n a == a) (count_from 0 n) a held in
    (below_bound n a two.0, eqb-true (least_equal strong n a) a two.1)

module _ (strong : ℕ → ℕ → Bool) (n : ℕ) (itself : (a : ℕ) → strong a a ≡ true) (chain : (a b c : ℕ) → strong b a ≡ true → strong c b ≡ true → strong c a ≡ true) where
  pub in_class : (a b : ℕ) → b < n → are_equal strong a b ≡ true → Contains (class_of strong n a) b
  in_class a b l e = Contains-filter (are_equal strong a) (count_from 0 n) b (Contains-count_from 0 n b (omega arith) (omega arith)) e

  own_class : (a : ℕ) → a < n → Contains (class_of strong n a) a
  own_class a l = in_class a a l (true-and (strong a a) (strong a a) (itself a) (itself a))

  -- the least label of a class is in it
  pub least-in_class : (a : ℕ) → a < n → (least_equal strong n a < n) × (are_equal strong a (least_equal strong n a) ≡ true)
  least-in_class a l =
      let two = Contains-filter_cases (are_equal strong a) (count_from 0 n) (least_equal strong n a) (first-in (class_of strong n a) a a (own_class a l)) in
      (below_bound n (least_equal strong n a) two.0, two.1)

  pub equal-flip : (a b : ℕ) → are_equal strong a b ≡ true → are_equal strong b a ≡ true
  equal-flip a b e = let two = and-true (strong a b) (strong b a) e in true-and (strong b a) (strong a b) two.1 two.0

  pub equal-chain : (a b c : ℕ) → are_equal strong a b ≡ true → are_equal strong b c ≡ true → are_equal strong a c ≡ true
  equal-chain a b c e d =
      let one = and-true (strong a b) (strong b a) e in
      let two = and-true (strong b c) (strong c b) d in
      true-and (strong a c) (strong c a) (chain c b a two.0 one.0) (chain a b c one.1 two.1)

  -- equal labels have one class, and so one least label
  pub least-same : (a b : ℕ) → a < n → b < n → are_equal strong a b ≡ true → least_equal strong n a ≡ least_equal strong n b
  least-same a b l m e =
      let class : class_of strong n a ≡ class_of strong n b = filter-alike (are_equal strong a) (are_equal strong b) (count_from 0 n)
      (λ x held. same_tests (are_equal strong a x) (are_equal strong b x) (λ h. equal-chain b a x (equal-flip a b e) h) (λ h. equal-chain a b x e h)) in
      ap (λ s. unwrap_or (first_of s) a) class ∙ first-alike (class_of strong n b) a b b (own_class b m)

  -- it is the least of its class itself
  pub least-stays : (a : ℕ) → a < n → Contains (least_labels strong n) (least_equal strong n a)
  least-stays a l =
      let it = least-in_class a l in
      let same : least_equal strong n (least_equal strong n a) ≡ least_equal strong n a = sym (least-same a (least_equal strong n a) l it.0 it.1) in
      Contains-filter (λ a. least_equal strong n a == a) (count_from 0 n) (least_equal strong n a) (Contains-count_from 0 n (least_equal strong n a) (omega arith) (let k = it.0 in omega arith))
      (ap (λ x. eqb x (least_equal strong n a)) same ∙ eqb-same (least_equal strong n a))
