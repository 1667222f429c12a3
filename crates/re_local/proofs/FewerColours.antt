-- One colour less, and a power of the logarithm of the number of colours, in one hop.
use Rattle.std.proofs.Common.{◌≡◌, ℕ, suc, ◌-◌, ◌*◌, ◌^◌, ◌≤◌, ◌<◌, Bool, true, false, cond, eqb, ltb, ◌&&◌, List, [], ◌∷◌, length, get_or, refl, sym, ◌∙◌, ap, subst, arith, inl, inr}
use Rattle.std.specs.Prelude.{Contains, not, replicate}
use Rattle.std.specs.List.{AllByRecursion, list_all, list_any}
use Rattle.std.proofs.lemmas.Bool.Decides.{nat_tests}
use Rattle.std.proofs.lemmas.Nat.{mul-le}
use Rattle.re_labels.proofs.ChoicesOfRows.{choices-IsChoice}
use Rattle.re_labels.specs.Rows.{IsChoice, choices}
use Rattle.re_local.proofs.Bits.{passes, separating}
use Rattle.re_local.proofs.ColouredHops.{SolvableGiven-coloured}
use Rattle.re_local.proofs.DifferentLabels.{fresh}
use Rattle.re_given.specs.Given.{SolvableGiven}
use Rattle.re_given.specs.Unavoidable.{colouring}
use Rattle.re_local.proofs.Complete.{alike_choice, length-alike}
use Rattle.re_labels.proofs.Membership.{Contains-In, Contains-cases, Contains-here, Contains-later, Contains-none, Distinct-count_from, In-Contains, all-In, all-In_from, any_found, any_true, count_from_range, length-count_from}
use Rattle.re_labels.proofs.LabelPlaces.{get-place_of, place_of-below}
use Rattle.re_labels.proofs.Tests.{and-true, below-true, eqb-apart, eqb-same, eqb-true, true-and}
use Rattle.re_labels.specs.Lists.{count_from, place_of}

-- as many passive places as the degree are no more than one and the neighbours
pub degree_within : (a p : ℕ) → 2 ≤ a → 2 ≤ p → p ≤ a * (p - 1)
degree_within a p a_low p_low =
    let product : 2 * (p - 1) ≤ a * (p - 1) = mul-le 2 (p - 1) a (p - 1) a_low (omega arith) in
    omega (arith, product, p_low)

-- ---- one colour less
-- nodes of the last colour take one that no neighbour has, and the others keep theirs
abbrev suits_less : ℕ → ℕ → ℕ → ℕ → Bool
suits_less c x z v = cond (ltb x c) (eqb z x) (not (eqb z v))

pub SolvableGiven-one_less : (a p c : ℕ) → 2 ≤ a → a ≤ 6 → 2 ≤ p → p ≤ 6 → a * (p - 1) < c → SolvableGiven (colouring a p c) (colouring a p (suc c)) 1
SolvableGiven-one_less a p c a_low a_high p_low p_high many = SolvableGiven-coloured a p c (suc c) a_low a_high p_low p_high (suits_less c) some apart (omega (arith, degree_within a p a_low p_low, many))
  where
    some : (x : ℕ) (near : List ℕ) → x < suc c → length near ≡ a * (p - 1) → ((v : ℕ) → Contains near v → (v < suc c) × (v ≡ x → ⊥))
        → (z : ℕ) × (z < c) × ((v : ℕ) → Contains near v → suits_less c x z v ≡ true)
    some x near low count each = at (ltb x c) refl
      where
        at : (b : Bool) → ltb x c ≡ b → (z : ℕ) × (z < c) × ((v : ℕ) → Contains near v → suits_less c x z v ≡ true)
        at true e = (x, below-true x c e, λ v held. subst (λ b. cond b (eqb x x) (not (eqb x v)) ≡ true) (sym e) (eqb-same x))
        at false e =
            let (z, held, none) = fresh near (count_from 0 c) (Distinct-count_from 0 c) (rw (count, length-count_from 0 c) many) in
            let range = (count_from_range 0 c z held).1 in
            (z, omega (arith, range), λ v there. subst (λ b. cond b (eqb z x) (not (eqb z v)) ≡ true) (sym e) (ap not (eqb-apart z v (λ f. none (subst (Contains near) (sym f) there)))))

    apart : (x v z : ℕ) → (x ≡ v → ⊥) → x < suc c → v < suc c → suits_less c x z v ≡ true → suits_less c v z x ≡ true → ⊥
    apart x v z other l m h g = at (ltb x c) (ltb v c) refl refl h g
      where
        at : (b d : Bool) → ltb x c ≡ b → ltb v c ≡ d → cond b (eqb z x) (not (eqb z v)) ≡ true → cond d (eqb z v) (not (eqb z x)) ≡ true → ⊥
        at true true e f i j = other (sym (eqb-true z x i) ∙ eqb-true z v j)
        at true false e f i j = absurd (cc)
        at false true e f i j = absurd (cc)
        at false false e f i j =
            let high : c ≤ x = grind (arith, nat_tests) in
            let high' : c ≤ v = grind (arith, nat_tests) in
            let same : x ≡ v = omega (arith, l, m, high, high') in
            other same

-- ---- a power of the logarithm
-- tests that a node's colour passes, so that each neighbour's fails one of them
tests_of : (b x : ℕ) (near : List ℕ) → x < 2 ^ b → ((v : ℕ) → Contains near v → (v < 2 ^ b) × (v ≡ x → ⊥))
    → (tests : List ℕ) × (length tests ≡ length near) × AllByRecursion (λ t. t < 2 * b) tests × ((t : ℕ) → Contains tests t → passes t x ≡ true) × ((v : ℕ) → Contains near v → (t : ℕ) × Contains tests t × (passes t v ≡ false))
tests_of b x [] low each = ([], refl, tt, λ t held. absurd (Contains-none t held), λ v held. absurd (Contains-none v held))
tests_of b x (v ∷ near) low each =
    let (v_low, other) = each v (Contains-here v near) in
    let (t, t_low, holds, fails) = separating b x v low v_low (λ e. other (sym e)) in
    let (tests, count, below, pass, fail) = tests_of b x near low (λ w held. each w (Contains-later w v near held)) in (
      t ∷ tests,
      ap suc count,
      (t_low, below),
      λ s held. elim (Contains-cases s t tests held) [ inl e ↦ subst (λ s. passes s x ≡ true) (sym e) holds | inr there ↦ pass s there ],
      λ w held. elim (Contains-cases w v near held) [
        | inl e ↦ (t, Contains-here t tests, subst (λ w. passes t w ≡ false) (sym e) fails)
        | inr there ↦ (let (s, at, it_fails) = fail w there in (s, Contains-later s t tests at, it_fails))
      ],
    )

module _ (d b : ℕ) where
  -- the lists of so many tests, of which a new colour is the place of one
  abbrev test_lists : List (List ℕ)
  test_lists = choices (replicate d (count_from 0 (2 * b)))

  -- the node's colour passes all tests of the new one, and the neighbour's fails one of them
  abbrev suits_tests : ℕ → ℕ → ℕ → Bool
  suits_tests x z v = list_all (λ t. passes t x) (get_or test_lists z []) && list_any (λ t. not (passes t v)) (get_or test_lists z [])

  suits_apart : (x v z : ℕ) → suits_tests x z v ≡ true → suits_tests v z x ≡ true → ⊥
  suits_apart x v z h g =
      let tests : List ℕ = get_or test_lists z [] in
      let one_fails : list_any (λ t. not (passes t v)) tests ≡ true =
      (and-true (list_all (λ t. passes t x) tests) (list_any (λ t. not (passes t v)) tests) h).1 in
      let all_pass : list_all (λ t. passes t v) tests ≡ true = (and-true (list_all (λ t. passes t v) tests) (list_any (λ t. not (passes t x)) tests) g).0 in
      let (t, held, fails) = any_found (λ t. not (passes t v)) tests one_fails in
      let holds : passes t v ≡ true = all-In (λ t. passes t v) tests all_pass t (Contains-In t tests held) in
      absurd (cc)

  suits_some : (x : ℕ) (near : List ℕ) → x < 2 ^ b → length near ≡ d → ((v : ℕ) → Contains near v → (v < 2 ^ b) × (v ≡ x → ⊥))
      → (z : ℕ) × (z < length test_lists) × ((v : ℕ) → Contains near v → suits_tests x z v ≡ true)
  suits_some x near low count each =
      let (tests, number, below, pass, fail) = tests_of b x near low each in
      let listed : Contains test_lists tests =
      choices-IsChoice (replicate d (count_from 0 (2 * b))) tests (subst (λ k. IsChoice tests (replicate k (count_from 0 (2 * b)))) (number ∙ count) (alike_choice (2 * b) tests below)) in
      let is : get_or test_lists (place_of test_lists tests) [] ≡ tests = get-place_of test_lists tests listed in (
        place_of test_lists tests,
        place_of-below test_lists tests listed,
        λ v held.
            let (t, at, fails) = fail v held in
            subst (λ l. (list_all (λ t. passes t x) l && list_any (λ t. not (passes t v)) l) ≡ true) (sym is)
            (true-and (list_all (λ t. passes t x) tests) (list_any (λ t. not (passes t v)) tests) (all-In_from (λ t. passes t x) tests (λ t i. pass t (In-Contains t tests i))) (any_true (λ t. not (passes t v)) tests t at (ap not fails))),
      )

pub SolvableGiven-logarithmic : (a p b N : ℕ) → 2 ≤ a → a ≤ 6 → 2 ≤ p → p ≤ 6 → p ≤ N → N ≤ 2 ^ b
    → SolvableGiven (colouring a p ((2 * b) ^ (a * (p - 1)))) (colouring a p N) 1
SolvableGiven-logarithmic a p b N a_low a_high p_low p_high enough few =
    subst (λ c. SolvableGiven (colouring a p c) (colouring a p N) 1) (length-alike (2 * b) (a * (p - 1)))
    (SolvableGiven-coloured a p (length (test_lists (a * (p - 1)) b)) N a_low a_high p_low p_high (suits_tests (a * (p - 1)) b)
    (λ x near low count each. suits_some (a * (p - 1)) b x near (omega (arith, low, few)) count (λ v held. let (v_low, other) = each v held in (omega (arith, v_low, few), other)))
    (λ x v z other l m h g. suits_apart (a * (p - 1)) b x v z h g) enough)
