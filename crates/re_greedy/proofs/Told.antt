-- What passive nodes tell active ones in one turn, and the labels for which that stands.
use Rattle.std.proofs.Common.{◌≡◌, ℕ, ◌+◌, ◌-◌, ◌≤◌, ◌<◌, Bool, true, cond, eqb, ltb, ◌&&◌, List, [], ◌∷◌, filter, length, get_or, sym, ap, subst, arith}
use Rattle.std.specs.Prelude.{Contains, not}
use Rattle.std.proofs.lemmas.Bool.Decides.{nat_tests}
use Rattle.std.proofs.lemmas.Bool.{le-ltb}
use Rattle.re_labels.proofs.Membership.{Contains-count_from, Contains-filter, Contains-filter_cases, count_from_range}
use Rattle.re_labels.proofs.Tests.{and-true, below-true, eqb-apart, eqb-same, eqb-true, true-and, true-below}
use Rattle.re_labels.specs.Lists.{count_from}
use Rattle.re_labels.specs.Sets.{has}
use Rattle.re_problem.specs.Problems.{Problem}
use Rattle.re_labels.proofs.Goodness.{Has-has_config, has_config-Has}
use Rattle.re_labels.specs.Constraints.{Constraint, Has, has_config}

module _ (problem : Problem) (partial : List (List ℕ)) (c q : ℕ) where
  abbrev pub n : ℕ
  n = problem.labels

  abbrev pub member : Constraint
  member = record { degree = problem.passive.degree; configs = partial }

  -- what passive nodes tell active ones: labels of the stage, and what nodes of colour q see instead of it
  abbrev pub L : ℕ
  L = n + c + length partial

  abbrev pub told : ℕ → List ℕ
  told y = get_or partial (y - (n + c)) []

  abbrev pub wide_test : ℕ → ℕ → Bool
  wide_test z y = cond (eqb z (n + q)) (not (ltb y (n + c)) && ltb (length (told y)) problem.passive.degree) (eqb y z)

  abbrev pub wide : ℕ → List ℕ
  wide z = filter (wide_test z) (count_from 0 L)

  abbrev pub sets_test : ℕ → ℕ → Bool
  sets_test y z = cond (ltb y (n + c)) (eqb z y) (ltb z n && has_config member (z ∷ told y))

  abbrev pub sets : ℕ → List ℕ
  sets y = filter (sets_test y) (count_from 0 (n + c))

  -- ---- their members
  pub wide_only : (z y : ℕ) → (z ≡ n + q → ⊥) → Contains (wide z) y → y ≡ z
  wide_only z y other held =
      let (listed, passes) = Contains-filter_cases (wide_test z) (count_from 0 L) y held in
      eqb-true y z (subst (λ b. cond b (not (ltb y (n + c)) && ltb (length (told y)) problem.passive.degree) (eqb y z) ≡ true) (eqb-apart z (n + q) other) passes)

  pub wide_itself : (z : ℕ) → (z ≡ n + q → ⊥) → z < n + c → Contains (wide z) z
  wide_itself z other low =
      Contains-filter (wide_test z) (count_from 0 L) z (Contains-count_from 0 L z (omega arith) (omega (arith, low)))
      (subst (λ b. cond b (not (ltb z (n + c)) && ltb (length (told z)) problem.passive.degree) (eqb z z) ≡ true) (sym (eqb-apart z (n + q) other)) (eqb-same z))

  pub wide_cases : (y : ℕ) → Contains (wide (n + q)) y → (n + c ≤ y) × (y < L) × (length (told y) < problem.passive.degree)
  wide_cases y held =
      let (listed, passes) = Contains-filter_cases (wide_test (n + q)) (count_from 0 L) y held in
      let range = (count_from_range 0 L y listed).1 in
      let both : (not (ltb y (n + c)) && ltb (length (told y)) problem.passive.degree) ≡ true =
      subst (λ b. cond b (not (ltb y (n + c)) && ltb (length (told y)) problem.passive.degree) (eqb y (n + q)) ≡ true) (eqb-same (n + q)) passes in
      let (high, fewer) = and-true (not (ltb y (n + c))) (ltb (length (told y)) problem.passive.degree) both in
      let from : n + c ≤ y = grind (arith, nat_tests) in
      (from, omega (arith, range), below-true (length (told y)) problem.passive.degree fewer)

  pub wide_below : (z y : ℕ) → Contains (wide z) y → y < L
  wide_below z y held = let range = (count_from_range 0 L y (Contains-filter_cases (wide_test z) (count_from 0 L) y held).0).1 in omega (arith, range)

  pub wide_there : (y : ℕ) → n + c ≤ y → y < L → length (told y) < problem.passive.degree → Contains (wide (n + q)) y
  wide_there y high low fewer =
      Contains-filter (wide_test (n + q)) (count_from 0 L) y (Contains-count_from 0 L y (omega arith) (omega (arith, low)))
      (subst (λ b. cond b (not (ltb y (n + c)) && ltb (length (told y)) problem.passive.degree) (eqb y (n + q)) ≡ true) (sym (eqb-same (n + q)))
      (true-and (not (ltb y (n + c))) (ltb (length (told y)) problem.passive.degree) (ap not (le-ltb y (n + c) high)) (true-below (length (told y)) problem.passive.degree fewer)))

  pub sets_only : (y z : ℕ) → y < n + c → Contains (sets y) z → z ≡ y
  sets_only y z low held =
      let (listed, passes) = Contains-filter_cases (sets_test y) (count_from 0 (n + c)) z held in
      eqb-true z y (subst (λ b. cond b (eqb z y) (ltb z n && has_config member (z ∷ told y)) ≡ true) (true-below y (n + c) low) passes)

  pub sets_itself : (y : ℕ) → y < n + c → Contains (sets y) y
  sets_itself y low =
      Contains-filter (sets_test y) (count_from 0 (n + c)) y (Contains-count_from 0 (n + c) y (omega arith) (omega (arith, low)))
      (subst (λ b. cond b (eqb y y) (ltb y n && has_config member (y ∷ told y)) ≡ true) (sym (true-below y (n + c) low)) (eqb-same y))

  pub sets_cases : (y z : ℕ) → n + c ≤ y → Contains (sets y) z → (z < n) × Has member (z ∷ told y)
  sets_cases y z high held =
      let (listed, passes) = Contains-filter_cases (sets_test y) (count_from 0 (n + c)) z held in
      let both : (ltb z n && has_config member (z ∷ told y)) ≡ true =
      subst (λ b. cond b (eqb z y) (ltb z n && has_config member (z ∷ told y)) ≡ true) (le-ltb y (n + c) high) passes in
      let (low, has) = and-true (ltb z n) (has_config member (z ∷ told y)) both in
      (below-true z n low, has_config-Has member (z ∷ told y) has)

  pub sets_there : (y z : ℕ) → n + c ≤ y → z < n → Has member (z ∷ told y) → Contains (sets y) z
  sets_there y z high low has =
      Contains-filter (sets_test y) (count_from 0 (n + c)) z (Contains-count_from 0 (n + c) z (omega arith) (omega (arith, low)))
      (subst (λ b. cond b (eqb z y) (ltb z n && has_config member (z ∷ told y)) ≡ true) (sym (le-ltb y (n + c) high))
      (true-and (ltb z n) (has_config member (z ∷ told y)) (true-below z n low) (Has-has_config member (z ∷ told y) has)))
