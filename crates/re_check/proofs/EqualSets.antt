-- Choices from a row in which equal sets stand beside each other.
use Rattle.std.proofs.Common.{◌≡◌, ℕ, ◌<◌, ◌+◌, Bool, true, false, cond, eqb, List, [], ◌∷◌, ◌++◌, length, refl, sym, ap, ◌∙◌, subst, ◌⊎◌, inl, inr, arith, Some, None, append_assoc, append-nil}
use Rattle.std.specs.Prelude.{IsTrue, ◌↔◌}
use Rattle.std.specs.List.{AllByRecursion}
use Rattle.std.proofs.lemmas.Bool.{false≢true}
use Rattle.re_labels.proofs.LeastLabels.{first-is}
use Rattle.re_labels.proofs.Rearranging.{Rearranged-sym}
use Rattle.re_labels.specs.Rearranging.{Rearranged, chained, kept, swapped}
use Rattle.re_labels.specs.Rows.{IsChoice, IsRow}
use Rattle.re_labels.proofs.Membership.{Contains-cases, Contains-here, Contains-later, Contains-none}
use Rattle.re_labels.proofs.Numbers.{number_apart}
use Rattle.re_labels.proofs.Tests.{eqb-true, same_tests}
use Rattle.re_labels.specs.Sets.{IsIn, IsLabelSet, first_of, number, without_label}
use Rattle.re_labels.proofs.Goodness.{Has-Rearranged, IsGood-is_good, is_good-IsGood}
use Rattle.re_labels.specs.Constraints.{Constraint, Has}
use Rattle.re_labels.specs.GoodRows.{is_good}
use Rattle.re_check.proofs.Telling.{tells-same}
use Rattle.re_check.specs.EqualSets.{given_by, narrowed}
use Rattle.re_labels.specs.declared.TheConstants.{MAX_LABELS}

-- ---- the sets behind a set
-- with all of a set left they are what they are
pub narrowed-whole : (set : List ℕ) (others : List (List ℕ)) → IsLabelSet MAX_LABELS set → AllByRecursion (IsLabelSet MAX_LABELS) others → narrowed set set others ≡ others
narrowed-whole set [] is are = refl
narrowed-whole set (next ∷ others) is are = by_test (eqb (number next) (number set)) refl (narrowed-whole set others is are.1)
  where
    by_test : (b : Bool) → eqb (number next) (number set) ≡ b → narrowed set set others ≡ others → cond b (set ∷ narrowed set set others) (next ∷ others) ≡ next ∷ others
    by_test true same rest = let e : next ≡ set = number_apart MAX_LABELS next set are.0 is (eqb-true (number next) (number set) same) in (λ i. sym e i ∷ rest i)
    by_test false other rest = refl

-- a set counts by its number
narrowed-number : (set next left : List ℕ) (others : List (List ℕ)) → number next ≡ number set → narrowed next left others ≡ narrowed set left others
narrowed-number set next left [] same = refl
narrowed-number set next left (s ∷ others) same =
    (λ i. cond (eqb (number s) (same i)) (left ∷ narrowed-number set next left others same i) (s ∷ others))

-- what is left for the next set and those behind it
pub narrowed-next : (set left next : List ℕ) (more : List (List ℕ)) → IsLabelSet MAX_LABELS next → AllByRecursion (IsLabelSet MAX_LABELS) more
    → given_by set left next ∷ narrowed next (given_by set left next) more ≡ narrowed set left (next ∷ more)
narrowed-next set left next more is are = by_test (eqb (number next) (number set)) refl
  where
    by_test : (b : Bool) → eqb (number next) (number set) ≡ b → cond b left next ∷ narrowed next (cond b left next) more ≡ cond b (left ∷ narrowed set left more) (next ∷ more)
    by_test true same = ap (λ l. left ∷ l) (narrowed-number set next left more (eqb-true (number next) (number set) same))
    by_test false other = ap (λ l. next ∷ l) (narrowed-whole next more is are)

-- ---- choices with fewer labels left
narrowed-more : (set left rest : List ℕ) (others : List (List ℕ)) (labels : List ℕ) → ((x : ℕ) → IsIn x rest → IsIn x left) → IsChoice labels (narrowed set rest others) → IsChoice labels (narrowed set left others)
narrowed-more set left rest [] labels to chosen = chosen
narrowed-more set left rest (next ∷ others) labels to chosen = by_test (eqb (number next) (number set)) labels chosen (λ more c. narrowed-more set left rest others more to c)
  where
    by_test : (b : Bool) (labels : List ℕ) → IsChoice labels (cond b (rest ∷ narrowed set rest others) (next ∷ others))
        → ((more : List ℕ) → IsChoice more (narrowed set rest others) → IsChoice more (narrowed set left others)) → IsChoice labels (cond b (left ∷ narrowed set left others) (next ∷ others))
    by_test true [] chosen go = absurd chosen
    by_test true (x ∷ labels) chosen go = (to x chosen.0, go labels chosen.1)
    by_test false labels chosen go = chosen

-- the labels are a choice from what is left without the least label, or with another label before them they are one that
-- begins with the least label, in another order
abbrev IsSplit : ℕ → ℕ → List ℕ → List (List ℕ) → List (List ℕ) → Type 0
IsSplit x label labels fewer all = IsChoice labels fewer ⊎ ((moved : List ℕ) × IsChoice moved all × Rearranged (x ∷ labels) (label ∷ moved))

split : (set rest : List ℕ) (label x : ℕ) (others : List (List ℕ)) (labels : List ℕ) → IsIn x (label ∷ rest) → IsChoice labels (narrowed set (label ∷ rest) others)
    → IsSplit x label labels (narrowed set rest others) (narrowed set (label ∷ rest) others)
split set rest label x [] labels held chosen = inl chosen
split set rest label x (next ∷ others) labels held chosen = by_test (eqb (number next) (number set)) labels chosen (λ more c. split set rest label x others more held c)
  where
    by_test : (b : Bool) (labels : List ℕ) → IsChoice labels (cond b ((label ∷ rest) ∷ narrowed set (label ∷ rest) others) (next ∷ others))
        → ((more : List ℕ) → IsChoice more (narrowed set (label ∷ rest) others) → IsSplit x label more (narrowed set rest others) (narrowed set (label ∷ rest) others))
        → IsSplit x label labels (cond b (rest ∷ narrowed set rest others) (next ∷ others)) (cond b ((label ∷ rest) ∷ narrowed set (label ∷ rest) others) (next ∷ others))
    by_test true [] chosen go = absurd chosen
    by_test true (y ∷ labels) chosen go = elim (Contains-cases y label rest chosen.0) [
      | inl same ↦ inr (x ∷ labels, (held, chosen.1), subst (λ z. Rearranged (x ∷ y ∷ labels) (z ∷ x ∷ labels)) same swapped)
      | inr later ↦ elim (go labels chosen.1) [
        | inl fewer ↦ inl (later, fewer)
        | inr moved ↦ inr (y ∷ moved.0, (chosen.0, moved.1), chained swapped (chained (kept moved.2) swapped))
      ]
    ]
    by_test false labels chosen go = inl chosen

-- ---- one label more
-- each choice is a configuration with the labels that are drawn before it
abbrev pub TakesEach : Constraint → List ℕ → List (List ℕ) → Type 0
TakesEach constraint drawn sets = (labels : List ℕ) → IsChoice labels sets → Has constraint (drawn ++ labels)

drawn-Rearranged : (drawn : List ℕ) {labels moved : List ℕ} → Rearranged labels moved → Rearranged (drawn ++ labels) (drawn ++ moved)
drawn-Rearranged [] r = r
drawn-Rearranged (x ∷ drawn) r = kept (drawn-Rearranged drawn r)

pub takes-none : (constraint : Constraint) (drawn left : List ℕ) (sets : List (List ℕ)) → first_of left ≡ None → TakesEach constraint drawn (left ∷ sets)
takes-none constraint drawn [] sets e [] chosen = absurd chosen
takes-none constraint drawn [] sets e (x ∷ labels) chosen = absurd (Contains-none x chosen.0)
takes-none constraint drawn (y ∷ left) sets e labels chosen = absurd (cc)

pub takes-last : (constraint : Constraint) (next set left : List ℕ) (others : List (List ℕ)) (r : Bool) → length others < 1 → IsTrue r ↔ Has constraint next → IsTrue r ↔ TakesEach constraint next (narrowed set left others)
takes-last constraint next set left [] r none known = tells-same r known (λ held labels chosen. all held labels chosen) (λ each. subst (Has constraint) (append-nil next) (each [] tt))
  where
    all : Has constraint next → (labels : List ℕ) → IsChoice labels [] → Has constraint (next ++ labels)
    all held [] chosen = subst (Has constraint) (sym (append-nil next)) held
    all held (x ∷ labels) chosen = absurd chosen
takes-last constraint next set left (s ∷ others) r none known = absurd (omega arith)

pub takes-again : (constraint : Constraint) (next set left other given : List ℕ) (more others : List (List ℕ)) (r : Bool) → AllByRecursion (IsLabelSet MAX_LABELS) others → other ∷ more ≡ others → given ≡ given_by set left other
    → IsTrue r ↔ TakesEach constraint next (given ∷ narrowed other given more) → IsTrue r ↔ TakesEach constraint next (narrowed set left others)
takes-again constraint next set left other given more others r all whole e known =
    let are : AllByRecursion (IsLabelSet MAX_LABELS) (other ∷ more) = subst (AllByRecursion (IsLabelSet MAX_LABELS)) (sym whole) all in
    subst (λ (sets : List (List ℕ)). IsTrue r ↔ TakesEach constraint next sets)
    (ap (λ g. g ∷ narrowed other g more) e ∙ narrowed-next set left other more are.0 are.1 ∙ ap (narrowed set left) whole) known

module _ (constraint : Constraint) (drawn next set rest : List ℕ) (others : List (List ℕ)) (label : ℕ) (pushed : next ≡ drawn ++ label ∷ []) where
  -- with the label drawn
  with_label : TakesEach constraint next (narrowed set (label ∷ rest) others) → (labels : List ℕ) → IsChoice labels (narrowed set (label ∷ rest) others) → Has constraint (drawn ++ label ∷ labels)
  with_label each labels chosen = subst (Has constraint) (ap (λ l. l ++ labels) pushed ∙ append_assoc drawn (label ∷ []) labels) (each labels chosen)

  takes-all : TakesEach constraint next (narrowed set (label ∷ rest) others) → TakesEach constraint drawn (rest ∷ narrowed set rest others) → TakesEach constraint drawn ((label ∷ rest) ∷ narrowed set (label ∷ rest) others)
  takes-all here later [] chosen = absurd chosen
  takes-all here later (x ∷ labels) chosen = elim (Contains-cases x label rest chosen.0) [
    | inl same ↦ subst (λ y. Has constraint (drawn ++ y ∷ labels)) (sym same) (with_label here labels chosen.1)
    | inr among ↦ elim (split set rest label x others labels chosen.0 chosen.1) [
      | inl fewer ↦ later (x ∷ labels) (among, fewer)
      | inr moved ↦ Has-Rearranged constraint (drawn-Rearranged drawn (Rearranged-sym moved.2)) (with_label here moved.0 moved.1)
    ]
  ]

  takes-label : TakesEach constraint drawn ((label ∷ rest) ∷ narrowed set (label ∷ rest) others) → TakesEach constraint next (narrowed set (label ∷ rest) others)
  takes-label each labels chosen =
      subst (Has constraint) (sym (ap (λ l. l ++ labels) pushed ∙ append_assoc drawn (label ∷ []) labels)) (each (label ∷ labels) (Contains-here label rest, chosen))

  takes-rest : TakesEach constraint drawn ((label ∷ rest) ∷ narrowed set (label ∷ rest) others) → TakesEach constraint drawn (rest ∷ narrowed set rest others)
  takes-rest each [] chosen = absurd chosen
  takes-rest each (x ∷ labels) chosen =
      each (x ∷ labels) (Contains-later x label rest chosen.0, narrowed-more set (label ∷ rest) rest others labels (λ y i. Contains-later y label rest i) chosen.1)

module _ (constraint : Constraint) (drawn next set left : List ℕ) (others : List (List ℕ)) (label : ℕ) (is : IsLabelSet MAX_LABELS left) (found : first_of left ≡ Some label) (pushed : next ≡ drawn ++ label ∷ []) (a : Bool)
    (here : IsTrue a ↔ TakesEach constraint next (narrowed set left others)) where
  parts : left ≡ label ∷ without_label left label
  parts = first-is left label is.0 found

  pub takes-fails : a ≡ false → TakesEach constraint drawn (left ∷ narrowed set left others) → ⊥
  takes-fails fails each =
      let all = subst (λ (l : List ℕ). TakesEach constraint drawn (l ∷ narrowed set l others)) parts each in
      let one = takes-label constraint drawn next set (without_label left label) others label pushed all in
      false≢true (sym fails ∙ here.1 (subst (λ (l : List ℕ). TakesEach constraint next (narrowed set l others)) (sym parts) one))

  pub takes-more : (back rest : List ℕ) (r : Bool) → a ≡ true → back ≡ drawn → rest ≡ without_label left label → IsTrue r ↔ TakesEach constraint back (rest ∷ narrowed set rest others)
      → IsTrue r ↔ TakesEach constraint drawn (left ∷ narrowed set left others)
  takes-more back rest r passes same e known =
      let fewer : IsTrue r ↔ TakesEach constraint drawn (without_label left label ∷ narrowed set (without_label left label) others) =
      subst (λ (l : List ℕ). IsTrue r ↔ TakesEach constraint drawn (l ∷ narrowed set l others)) e (subst (λ (d : List ℕ). IsTrue r ↔ TakesEach constraint d (rest ∷ narrowed set rest others)) same known) in
      let one = subst (λ (l : List ℕ). TakesEach constraint next (narrowed set l others)) parts (here.0 passes) in
      tells-same r fewer
      (λ later. subst (λ (l : List ℕ). TakesEach constraint drawn (l ∷ narrowed set l others)) (sym parts) (takes-all constraint drawn next set (without_label left label) others label pushed one later))
      (λ each. takes-rest constraint drawn next set (without_label left label) others label pushed (subst (λ (l : List ℕ). TakesEach constraint drawn (l ∷ narrowed set l others)) parts each))

-- ---- a row
pub good-row : (constraint : Constraint) (row others : List (List ℕ)) (first drawn : List ℕ) (r : Bool) → length row ≡ constraint.degree → IsRow (length row) MAX_LABELS row → first ∷ others ≡ row → drawn ≡ []
    → IsTrue r ↔ TakesEach constraint drawn (first ∷ narrowed first first others) → r ≡ is_good constraint row
good-row constraint row others first drawn r count is whole none known =
    let are : AllByRecursion (IsLabelSet MAX_LABELS) (first ∷ others) = subst (AllByRecursion (IsLabelSet MAX_LABELS)) (sym whole) (label_sets row is.sets) in
    let same : IsTrue r ↔ TakesEach constraint [] row = subst (λ (sets : List (List ℕ)). IsTrue r ↔ TakesEach constraint [] sets) (ap (λ l. first ∷ l) (narrowed-whole first others are.0 are.1) ∙ whole)
    (subst (λ (d : List ℕ). IsTrue r ↔ TakesEach constraint d (first ∷ narrowed first first others)) none known) in
    same_tests r (is_good constraint row)
    (λ h. IsGood-is_good constraint row (record { count = count; filled = filled row is.sets; choice = same.0 h }))
    (λ h. same.1 (is_good-IsGood constraint row h).choice)
  where
    label_sets : (sets : List (List ℕ)) → AllByRecursion (λ s. IsLabelSet MAX_LABELS s × (0 < length s)) sets → AllByRecursion (IsLabelSet MAX_LABELS) sets
    label_sets [] h = tt
    label_sets (s ∷ sets) h = (h.0.0, label_sets sets h.1)

    filled : (sets : List (List ℕ)) → AllByRecursion (λ s. IsLabelSet MAX_LABELS s × (0 < length s)) sets → AllByRecursion (λ s. 0 < length s) sets
    filled [] h = tt
    filled (s ∷ sets) h = (h.0.1, filled sets h.1)
