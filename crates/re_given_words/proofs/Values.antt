-- Values of the variables by sets that are made, which satisfy what is asked.
use Rattle.std.proofs.Common.{◌≡◌, ℕ, ◌+◌, ◌-◌, ◌*◌, ◌/◌, ◌%◌, ◌<◌, ◌≤◌, Bool, true, false, ◌&&◌, ltb, List, [], ◌∷◌, length, map, get_or, refl, sym, ap, ◌∙◌, arith}
use Rattle.std.specs.Prelude.{Contains}
use Rattle.std.specs.List.{AllByRecursion}
use Rattle.std.proofs.lemmas.List.{get_or_default}
use Rattle.std.proofs.lemmas.List.Elements.{Contains-get_or}
use Rattle.std.proofs.lemmas.Bool.Decides.{nat_tests}
use Rattle.std.proofs.lemmas.Nat.{div-mul-add, mod-mul-add, mul-add-lt}
use Rattle.re_labels.specs.Constraints.{Constraint, Has}
use Rattle.re_labels.specs.Lists.{count_from}
use Rattle.re_labels.specs.Rows.{IsChoice}
use Rattle.re_labels.specs.Sets.{IsIn, has}
use Rattle.re_labels.specs.Strength.{up_set}
use Rattle.re_labels.proofs.Membership.{AllByRecursion-contains, AllByRecursion-from_contains, count_from_range}
use Rattle.re_labels.proofs.Sets.{IsIn-has, has-IsIn}
use Rattle.re_labels.proofs.Strengths.{IsIn-up_set_cases}
use Rattle.re_labels.proofs.Tests.{and-true, true-and, true-below}
use Rattle.re_given_words.specs.Asking.{AreIn, AreMade, IsBad, IsTried, variable}

-- whether each label is in the set at its place
abbrev are_in : (ℕ → List ℕ) → List ℕ → List ℕ → Bool
are_in sets [] [] = true
are_in sets [] (l ∷ labels) = false
are_in sets (s ∷ some) [] = false
are_in sets (s ∷ some) (l ∷ labels) = has (sets s) l && are_in sets some labels

chosen-in : (sets : ℕ → List ℕ) (choice labels : List ℕ) → IsChoice labels (map sets choice) → are_in sets choice labels ≡ true
chosen-in sets [] [] chosen = refl
chosen-in sets [] (l ∷ labels) chosen = absurd chosen
chosen-in sets (s ∷ choice) [] chosen = absurd chosen
chosen-in sets (s ∷ choice) (l ∷ labels) chosen = true-and (has (sets s) l) (are_in sets choice labels) (IsIn-has (sets s) l chosen.0) (chosen-in sets choice labels chosen.1)

not-below : (x z : ℕ) → z ≤ x → ltb x z ≡ false
not-below x z most = grind (arith, nat_tests)

module _ (active passive : Constraint) (n p meetings : ℕ) (choices orders : List (List ℕ)) (sets : ℕ → List ℕ) (made : AreMade active passive n p meetings choices sets) where
  abbrev first : ℕ
  first = meetings * p * n

  abbrev count : ℕ
  count = length orders

  value : Bool → ℕ → Bool
  value true v = has (sets (v / n)) (v % n)
  value false v = are_in sets (get_or choices ((v - first) / count) []) (get_or orders ((v - first) % count) [])

  pub values : ℕ → Bool
  values v = value (ltb v first) v

  value-set : (s l : ℕ) → s < meetings * p → l < n → values (variable n s l) ≡ has (sets s) l
  unfolding values value
  value-set s l low below =
      let inside : s * n + l < meetings * p * n = omega (arith, mul-add-lt s n l (meetings * p) low below) in
      ap (λ b. value b (s * n + l)) (true-below (s * n + l) (meetings * p * n) inside) ∙ (λ i. has (sets (div-mul-add s n l below i)) (mod-mul-add s n l below i))

  value-try : (c k : ℕ) → k < count → values (first + c * count + k) ≡ are_in sets (get_or choices c []) (get_or orders k [])
  unfolding values value
  value-try c k low =
      let v : ℕ = first + c * count + k in
      let behind : first + c * count + k - first ≡ c * count + k = omega arith in
      ap (λ b. value b (first + c * count + k)) (not-below (first + c * count + k) first (omega arith))
      ∙ ap (λ w. are_in sets (get_or choices (w / count) []) (get_or orders (w % count) [])) behind
      ∙ (λ i. are_in sets (get_or choices (div-mul-add c count k low i) []) (get_or orders (mod-mul-add c count k low i) []))

  AreIn-true : (choice order : List ℕ) → AllByRecursion (λ s. s < meetings * p) choice → are_in sets choice order ≡ true → AreIn values n choice order
  AreIn-true [] [] below is = tt
  AreIn-true [] (l ∷ order) below is = cc
  AreIn-true (s ∷ choice) [] below is = cc
  AreIn-true (s ∷ choice) (l ∷ order) below is =
      let (held, rest) = and-true (has (sets s) l) (are_in sets choice order) is in
      let low : l < n = AllByRecursion-contains (λ x. x < n) (sets s) l (made.up_sets s below.0).is_set.1 (has-IsIn (sets s) l held) in
      (value-set s l below.0 low ∙ held, AreIn-true choice order below.1 rest)

  IsChoice-AreIn : (some labels : List ℕ) → AllByRecursion (λ s. s < meetings * p) some → AllByRecursion (λ l. l < n) labels → AreIn values n some labels → IsChoice labels (map sets some)
  IsChoice-AreIn [] [] below low are = tt
  IsChoice-AreIn [] (l ∷ labels) below low are = absurd are
  IsChoice-AreIn (s ∷ some) [] below low are = absurd are
  IsChoice-AreIn (s ∷ some) (l ∷ labels) below low are =
      (has-IsIn (sets s) l (sym (value-set s l below.0 low.0) ∙ are.0), IsChoice-AreIn some labels below.1 low.1 are.1)

  pub rows-met : (bad : List (List ℕ)) → AllByRecursion (IsBad passive n) bad → (k : ℕ) → k < meetings → (tuple : List ℕ) → Contains bad tuple → AreIn values n (count_from (k * p) p) tuple → ⊥
  rows-met bad are k low tuple at in_ =
      let (below, none) = AllByRecursion-contains (IsBad passive n) bad tuple are at in
      let inside : AllByRecursion (λ s. s < meetings * p) (count_from (k * p) p) = AllByRecursion-from_contains (λ s. s < meetings * p) (count_from (k * p) p) (λ s held.
      let (least, most) = count_from_range (k * p) p s held in omega (arith, least, most, mul-add-lt k p (s - k * p) meetings low (omega (arith, least, most)))) in
      none ((made.good k low).choice tuple (IsChoice-AreIn (count_from (k * p) p) tuple inside below in_))

  pub up-met : (set label other : ℕ) → set < meetings * p → label < n → IsIn other (up_set passive label n) → values (variable n set label) ≡ true → values (variable n set other) ≡ true
  up-met set label other low below at held =
      let (other_low, strong) = IsIn-up_set_cases passive label other n at in
      value-set set other low other_low
      ∙ IsIn-has (sets set) other ((made.up_sets set low).up label other (has-IsIn (sets set) label (sym (value-set set label low below) ∙ held)) other_low strong)

  pub tried : ((labels : List ℕ) → Has active labels → Contains orders labels) → (c : ℕ) → c < length choices → IsTried values n (first + c * count) (get_or choices c []) orders
  tried all c low =
      let choice : List ℕ = get_or choices c [] in
      let (below, allowed) = made.choice (get_or choices c []) (Contains-get_or choices c [] low) in
      let (labels, chosen, held) = allowed in
      let (k, k_low, same) = all labels held in
      record {
        some = (k, k_low, value-try c k k_low ∙ ap (are_in sets (get_or choices c [])) (get_or_default orders k [] labels k_low ∙ same) ∙ chosen-in sets (get_or choices c []) labels chosen);
        tried = λ k low held. AreIn-true (get_or choices c []) (get_or orders k []) below (sym (value-try c k low) ∙ held);
      }
