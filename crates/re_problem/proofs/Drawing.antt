-- How labels are drawn one after another.
use Rattle.re_labels.proofs.Tests.{same_tests}
use Rattle.std.proofs.Common.{◌≡◌, ℕ, suc, ◌+◌, ◌<◌, ◌≤◌, Bool, true, false, drop, get_or, take, ◌-◌, List, [], ◌∷◌, ◌++◌, length, refl, sym, ap, ◌∙◌, subst, inl, inr, ◌⊎◌, arith, append_assoc, append-nil, length-append}
use Rattle.std.specs.Prelude.{Contains, IsTrue, ◌↔◌}
use Rattle.std.specs.List.{AllByRecursion}
use Rattle.std.proofs.lemmas.Bool.Decides.{eqb_tells}
use Rattle.re_labels.proofs.Rearranging.{Rearranged-refl, length-Rearranged}
use Rattle.re_labels.proofs.Sorting.{AllByRecursion-Rearranged, sorted-Rearranged}
use Rattle.re_labels.specs.Configs.{sorted}
use Rattle.re_labels.specs.Rearranging.{Rearranged, chained, kept, swapped}
use Rattle.re_labels.proofs.Membership.{AllByRecursion-weaker, Contains-cases, Contains-here, Contains-later, Contains-none}
use Rattle.re_problem.proofs.ZeroPlaces.{ShowsZero-shows_zero, shows_zero-ShowsZero}
use Rattle.re_problem.specs.Zero.{shows_zero}
use Rattle.re_labels.specs.Constraints.{Constraint, Has}
use Rattle.re_problem.specs.Drawing.{AlwaysFits}

-- ---- all are drawn
pub fits-full : (constraint : Constraint) (drawn labels : List ℕ) → length drawn ≡ constraint.degree → Has constraint drawn → AlwaysFits constraint drawn labels
fits-full constraint drawn labels full has [] count held = subst (Has constraint) (sym (append-nil drawn)) has
fits-full constraint drawn labels full has (x ∷ more) count held = absurd (omega arith)

pub full-fits : (constraint : Constraint) (drawn labels : List ℕ) → length drawn ≡ constraint.degree → AlwaysFits constraint drawn labels → Has constraint drawn
full-fits constraint drawn labels full fits = subst (Has constraint) (append-nil drawn) (fits [] (omega arith) tt)

-- ---- none can be drawn
pub fits-none : (constraint : Constraint) (drawn : List ℕ) → (length drawn ≡ constraint.degree → ⊥) → AlwaysFits constraint drawn []
fits-none constraint drawn short [] count held = absurd (short (omega arith))
fits-none constraint drawn short (x ∷ more) count held = absurd (Contains-none x held.0)

-- ---- some of the labels
pub fits-within : (constraint : Constraint) (drawn labels others : List ℕ) → ((x : ℕ) → Contains others x → Contains labels x) → AlwaysFits constraint drawn labels → AlwaysFits constraint drawn others
fits-within constraint drawn labels others within fits more count held = fits more count (AllByRecursion-weaker (Contains others) (Contains labels) within more held)

-- ---- orders
Rearranged-append : {X : Type 0} (front : List X) {xs ys : List X} → Rearranged xs ys → Rearranged (front ++ xs) (front ++ ys)
Rearranged-append [] r = r
Rearranged-append (x ∷ front) r = kept (Rearranged-append front r)

-- ---- with the first label once more, or without it
-- a label of a list stands first in another order of it, or nowhere in it
to-front : (x : ℕ) (more : List ℕ) → ((rest : List ℕ) × Rearranged more (x ∷ rest)) ⊎ (Contains more x → ⊥)
to-front x [] = inr (Contains-none x)
to-front x (y ∷ more) = elim (eqb_tells y x) [
  | inl t ↦ inl (more, subst (λ z. Rearranged (y ∷ more) (z ∷ more)) t.1 (Rearranged-refl (y ∷ more)))
  | inr t ↦ elim (to-front x more) [
    | inl r ↦ inl (y ∷ r.0, chained (kept r.1) swapped)
    | inr none ↦ inr (λ held. elim (Contains-cases x y more held) [ inl e ↦ t.1 (sym e) | inr at ↦ none at ])
  ]
]

-- where the labels are these, and all that goes on with the first one fits, and all that does without it
pub fits-step : (constraint : Constraint) (drawn others : List ℕ) (x : ℕ) → AlwaysFits constraint (drawn ++ x ∷ []) (x ∷ others) → AlwaysFits constraint drawn others → AlwaysFits constraint drawn (x ∷ others)
fits-step constraint drawn others x again without more count held = elim (to-front x more) [
  | inl (rest, moved) ↦
      let order : Rearranged (drawn ++ more) ((drawn ++ x ∷ []) ++ rest) = subst (Rearranged (drawn ++ more)) (sym (append_assoc drawn (x ∷ []) rest)) (Rearranged-append drawn moved) in
      let same : sorted ((drawn ++ x ∷ []) ++ rest) ≡ sorted (drawn ++ more) = sym (sorted-Rearranged order) in
      let counted : length (drawn ++ x ∷ []) + length rest ≡ constraint.degree = omega (arith, length-append drawn (x ∷ []), length-Rearranged moved, count) in
      subst (Contains constraint.configs) same (again rest counted (AllByRecursion-Rearranged (Contains (x ∷ others)) moved held).1)
  | inr none ↦ without more count (fewer more held none)
]
  where
    fewer : (more : List ℕ) → AllByRecursion (Contains (x ∷ others)) more → (Contains more x → ⊥) → AllByRecursion (Contains others) more
    fewer [] held none = tt
    fewer (y ∷ more) held none = (
      elim (Contains-cases y x others held.0) [ inl e ↦ absurd (none (subst (Contains (y ∷ more)) e (Contains-here y more))) | inr at ↦ at ],
      fewer more held.1 (λ at. none (Contains-later x y more at)),
    )

pub fits-again : (constraint : Constraint) (drawn others : List ℕ) (x : ℕ) → AlwaysFits constraint drawn (x ∷ others) → AlwaysFits constraint (drawn ++ x ∷ []) (x ∷ others)
fits-again constraint drawn others x fits rest count held =
    subst (Has constraint) (sym (append_assoc drawn (x ∷ []) rest))
    (fits (x ∷ rest) (omega (arith, length-append drawn (x ∷ []), count)) (Contains-here x others, held))

-- ---- what the calls say
both-ways : {P Q : Type 0} (r : Bool) → (Q → P) → (P → Q) → IsTrue r ↔ Q → IsTrue r ↔ P
both-ways r to back known = (λ h. to (known.0 h), λ h. known.1 (back h))

pub says-full : (constraint : Constraint) (drawn labels : List ℕ) (r : Bool) → length drawn ≡ constraint.degree → IsTrue r ↔ Has constraint drawn → IsTrue r ↔ AlwaysFits constraint drawn labels
says-full constraint drawn labels r full known = both-ways r (fits-full constraint drawn labels full) (full-fits constraint drawn labels full) known

pub says-none : (constraint : Constraint) (drawn labels : List ℕ) → (length drawn ≡ constraint.degree → ⊥) → length labels < 1 → IsTrue true ↔ AlwaysFits constraint drawn labels
says-none constraint drawn [] short none = (λ t. fits-none constraint drawn short, λ fits. refl)
says-none constraint drawn (x ∷ labels) short none = absurd (omega arith)

-- all labels but the first, as a pattern has them
pub others-are : (labels : List ℕ) → take (length labels - 1) (drop 1 labels) ≡ drop 1 labels
others-are [] = refl
others-are (x ∷ labels) = ap (λ n. take n labels) (let e : suc (length labels) - 1 ≡ length labels = omega arith in e) ∙ take-all labels
  where
    take-all : (xs : List ℕ) → take (length xs) xs ≡ xs
    take-all [] = refl
    take-all (x ∷ xs) = ap (λ l. x ∷ l) (take-all xs)

pub says-twice : (constraint : Constraint) (drawn labels others : List ℕ) (r : Bool) → others ≡ drop 1 labels → 1 ≤ length labels → 1 ≤ length others → get_or labels 0 0 ≡ get_or others 0 0
    → IsTrue r ↔ AlwaysFits constraint drawn others → IsTrue r ↔ AlwaysFits constraint drawn labels
says-twice constraint drawn [] others r e one more same known = absurd (omega arith)
says-twice constraint drawn (x ∷ labels) others r e one more same known =
    both-ways r (fits-within constraint drawn others (x ∷ labels) shorter) (fits-within constraint drawn (x ∷ labels) others longer) known
  where
    head-in : (others : List ℕ) → 1 ≤ length others → Contains others (get_or others 0 0)
    head-in [] more = absurd (omega arith)
    head-in (y ∷ others) more = Contains-here y others

    shorter : (z : ℕ) → Contains (x ∷ labels) z → Contains others z
    shorter z at = elim (Contains-cases z x labels at) [
      | inl same-label ↦ subst (Contains others) (sym (same-label ∙ same)) (head-in others more)
      | inr there ↦ subst (λ l. Contains l z) (sym e) there
    ]

    longer : (z : ℕ) → Contains others z → Contains (x ∷ labels) z
    longer z at = Contains-later z x labels (subst (λ l. Contains l z) e at)

pub says-both : (constraint : Constraint) (drawn next popped labels others : List ℕ) (a r : Bool) → 1 ≤ length labels → next ≡ drawn ++ get_or labels 0 0 ∷ [] → IsTrue a ↔ AlwaysFits constraint next labels → a ≡ true
    → popped ≡ drawn → others ≡ drop 1 labels → IsTrue r ↔ AlwaysFits constraint popped others → IsTrue r ↔ AlwaysFits constraint drawn labels
says-both constraint drawn next popped [] others a r one pushed again passes back e known = absurd (omega arith)
says-both constraint drawn next popped (x ∷ labels) others a r one pushed again passes back e known =
    both-ways r
    (λ fits. fits-step constraint drawn labels x (subst (λ l. AlwaysFits constraint l (x ∷ labels)) pushed (again.0 passes)) (subst (AlwaysFits constraint drawn) e (subst (λ l. AlwaysFits constraint l others) back fits)))
    (λ fits. subst (λ l. AlwaysFits constraint l others) (sym back) (subst (AlwaysFits constraint drawn) (sym e) (fits-within constraint drawn (x ∷ labels) labels (λ z at. Contains-later z x labels at) fits)))
    known

pub says-fails : (constraint : Constraint) (drawn next labels : List ℕ) (a : Bool) → 1 ≤ length labels → next ≡ drawn ++ get_or labels 0 0 ∷ [] → IsTrue a ↔ AlwaysFits constraint next labels
    → a ≡ false → IsTrue a ↔ AlwaysFits constraint drawn labels
says-fails constraint drawn next [] a one pushed again fails = absurd (omega arith)
says-fails constraint drawn next (x ∷ labels) a one pushed again fails =
    (λ passes. absurd (let d : false ≡ true = sym fails ∙ passes in cc), λ fits. again.1 (subst (λ l. AlwaysFits constraint l (x ∷ labels)) (sym pushed) (fits-again constraint drawn labels x fits)))

-- ---- the whole test
-- nothing is drawn yet
pub says-shows_zero : (passive : Constraint) (drawn labels config : List ℕ) (r : Bool) → drawn ≡ [] → labels ≡ config → IsTrue r ↔ AlwaysFits passive drawn labels → r ≡ shows_zero passive config
says-shows_zero passive drawn labels config r none is known =
    let begun : AlwaysFits passive drawn labels ≡ AlwaysFits passive [] config = λ i. AlwaysFits passive (none i) (is i) in
    same_tests r (shows_zero passive config)
    (λ passes. ShowsZero-shows_zero passive config (λ more count held. subst (λ X. X) begun (known.0 passes) more (omega arith) held))
    (λ passes. known.1 (subst (λ X. X) (sym begun) (λ more count held. shows_zero-ShowsZero passive config passes more (omega arith) held)))
