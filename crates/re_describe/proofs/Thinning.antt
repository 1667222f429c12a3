-- The weakest labels of a set.
use Rattle.std.proofs.Common.{◌≡◌, ℕ, ◌<◌, ◌≤◌, ◌-◌, Bool, true, false, not, List, [], ◌∷◌, refl, sym, ap, ◌∙◌, subst, ◌⊎◌, inl, inr, arith, eqb}
use Rattle.std.specs.Prelude.{IsTrue, ◌↔◌, nat_lt}
use Rattle.std.specs.List.{AllByRecursion, list_all}
use Rattle.std.proofs.lemmas.Bool.Decides.{nat_tests}
use Rattle.re_boxes.specs.Boxes.{IsUp}
use Rattle.re_labels.proofs.Membership.{AllByRecursion-contains, Contains-filter, Contains-filter_cases}
use Rattle.re_labels.proofs.Sets.{IsIn-has, has-IsIn}
use Rattle.re_labels.proofs.Tests.{and-true, eqb-same, eqb-true}
use Rattle.re_labels.specs.Sets.{IsIn, IsLabelSet, IsWithin, has, within, without_label}
use Rattle.re_labels.specs.declared.TheConstants.{MAX_LABELS}
use Rattle.re_describe.specs.Meanings.{AreWeakest, IsAbove}

-- ---- tests

pub has_told : (set : List ℕ) (x : ℕ) (r : Bool) → r ≡ has set x → IsTrue r ↔ IsIn x set
has_told set x r is = ((λ t. has-IsIn set x (sym is ∙ t)), (λ i. is ∙ IsIn-has set x i))

all_below : (n : ℕ) (set : List ℕ) → list_all (λ label. nat_lt label n) set ≡ true → AllByRecursion (λ x. x < n) set
all_below n [] e = tt
all_below n (x ∷ set) e =
    let both = and-true (nat_lt x n) (list_all (λ label. nat_lt label n) set) e in
    let told : nat_lt x n ≡ true = both.0 in
    (let l : x < n = grind (arith, nat_tests) in l, all_below n set both.1)

pub fitting_set : (n : ℕ) (set : List ℕ) (fits : Bool) → IsLabelSet MAX_LABELS set → fits ≡ list_all (λ label. nat_lt label n) set → fits ≡ true → IsLabelSet n set
fitting_set n set fits is told fit = (is.0, all_below n set (sym told ∙ fit))

-- ---- one label taken out
same_or : (x y : ℕ) → (x ≡ y) ⊎ (eqb x y ≡ false)
same_or x y = go (eqb x y) refl
  where
    go : (b : Bool) → eqb x y ≡ b → (x ≡ y) ⊎ (eqb x y ≡ false)
    go true e = inl (eqb-true x y e)
    go false e = inr e

pub in_rest : (set : List ℕ) (x label : ℕ) → IsIn x set → (x ≡ label) ⊎ IsIn x (without_label set label)
in_rest set x label held = elim (same_or x label) [ inl e ↦ inl e | inr e ↦ inr (Contains-filter (λ y. not (eqb y label)) set x held (ap not e)) ]

pub of_rest : (set : List ℕ) (x label : ℕ) → IsIn x (without_label set label) → IsIn x set × (x ≡ label → ⊥)
of_rest set x label held =
    let both = Contains-filter_cases (λ y. not (eqb y label)) set x held in
    (both.0, λ e. let same : eqb x label ≡ true = ap (λ y. eqb y label) e ∙ eqb-same label in let gone : not (eqb x label) ≡ false = ap not same in let bad : false ≡ true = sym gone ∙ both.1 in cc)

-- ---- the label that is as strong as another one goes
pub stays_above : (ups : ℕ → List ℕ) (set : List ℕ) (label : ℕ) → ((x : ℕ) → IsUp ups (ups x)) → IsAbove ups (without_label set label) label → (y : ℕ) → IsAbove ups set y → IsAbove ups (without_label set label) y
stays_above ups set label goes above y (x, held, up) = elim (in_rest set x label held) [
  | inl e ↦ (above.0, above.1, goes above.0 label above.2 y (subst (λ z. IsIn y (ups z)) e up))
  | inr rest ↦ (x, rest, up)
]

pub alone_below : (ups : ℕ → List ℕ) (set : List ℕ) (label : ℕ) → (IsAbove ups (without_label set label) label → ⊥) → (x : ℕ) → IsIn x set → IsIn label (ups x) → x ≡ label
alone_below ups set label none x held up = elim (in_rest set x label held) [ inl e ↦ e | inr rest ↦ absurd (none (x, rest, up)) ]

-- ---- down to the first label
below-or : (y label : ℕ) → y < label → (y < label - 1) ⊎ (y ≡ label - 1)
below-or y label l = grind arith

pub apart_on : (ups : ℕ → List ℕ) (kept result : List ℕ) (label : ℕ) → IsWithin result kept
    → ((x : ℕ) → IsIn x kept → IsIn (label - 1) kept → IsIn (label - 1) (ups x) → x ≡ label - 1)
    → ((x y : ℕ) → y < label - 1 → IsIn x result → IsIn y result → IsIn y (ups x) → x ≡ y)
    → (x y : ℕ) → y < label → IsIn x result → IsIn y result → IsIn y (ups x) → x ≡ y
apart_on ups kept result label within here below x y low held other up = elim (below-or y label low) [
  | inl less ↦ below x y less held other up
  | inr e ↦ here x (within x held) (within (label - 1) (subst (λ z. IsIn z result) e other)) (subst (λ z. IsIn z (ups x)) e up) ∙ sym e
]

-- ---- of equally strong labels the least one stays
pub rest_stays : (set : List ℕ) (label : ℕ) (x : ℕ) → IsIn x set → (x ≡ label → ⊥) → IsIn x (without_label set label)
rest_stays set label x held other = elim (in_rest set x label held) [ inl e ↦ absurd (other e) | inr rest ↦ rest ]

pub least_on : (ups : ℕ → List ℕ) (set kept result : List ℕ) (label : ℕ) → IsWithin result kept → ((x : ℕ) → IsIn x set → (x ≡ label - 1 → ⊥) → IsIn x kept)
    → ((x : ℕ) → IsIn x kept → IsIn (label - 1) kept → IsIn (label - 1) (ups x) → x ≡ label - 1)
    → ((x y : ℕ) → x < label - 1 → IsIn x result → IsIn y kept → IsIn x (ups y) → x ≤ y)
    → (x y : ℕ) → x < label → IsIn x result → IsIn y set → IsIn x (ups y) → x ≤ y
least_on ups set kept result label within stays here below x y low held other up = elim (same_or y (label - 1)) [
  | inl e ↦ omega (arith, low, e)
  | inr e ↦
      let there : IsIn y kept = stays y other (λ same. let equal : eqb y (label - 1) ≡ true = ap (λ z. eqb z (label - 1)) same ∙ eqb-same (label - 1) in let bad : false ≡ true = sym e ∙ equal in cc) in
      elim (below-or x label low) [
        | inl less ↦ below x y less held there up
        | inr last ↦
            let one = here y there (subst (λ z. IsIn z kept) last (within x held)) (subst (λ z. IsIn z (ups y)) last up) in
            omega (arith, one, last)
      ]
]

-- ---- all weakest labels
pub weakest_tell : (ups : ℕ → List ℕ) (n : ℕ) (set weakest : List ℕ) → ((x : ℕ) → IsIn x (ups x)) → IsLabelSet n set → IsUp ups set → IsWithin weakest set
    → ((y : ℕ) → IsAbove ups set y → IsAbove ups weakest y) → ((x y : ℕ) → y < n → IsIn x weakest → IsIn y weakest → IsIn y (ups x) → x ≡ y)
    → ((x y : ℕ) → x < n → IsIn x weakest → IsIn y set → IsIn x (ups y) → x ≤ y) → AreWeakest ups set weakest
weakest_tell ups n set weakest holds is closed within whole apart least = record {
  within = within;
  whole = λ y. ((λ held. whole y (y, held, holds y)), (λ above. closed above.0 (within above.0 above.1) y above.2));
  apart = λ x y held other up. apart x y (AllByRecursion-contains (λ z. z < n) set y is.1 (within y other)) held other up;
  least = λ x y held other up. least x y (AllByRecursion-contains (λ z. z < n) set x is.1 (within x held)) held other up;
}
