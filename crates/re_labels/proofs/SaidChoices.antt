-- Walks over the choices of a row, one label after another.
use Rattle.re_labels.proofs.Membership.{all-append}
use Rattle.std.proofs.Common.{◌≡◌, ℕ, suc, ◌<◌, ◌+◌, ◌-◌, Bool, true, false, eqb, ◌&&◌, List, [], ◌∷◌, ◌++◌, length, map, take, refl, sym, ap, ◌∙◌, subst, arith, Some, append_assoc, append-nil, length-append}
use Rattle.std.specs.Prelude.{Contains, IsTrue, ◌↔◌}
use Rattle.std.specs.List.{list_all}
use Rattle.re_labels.proofs.LeastLabels.{first-is}
use Rattle.re_labels.specs.Configs.{sorted}
use Rattle.re_labels.specs.Rows.{choices, is_full}
use Rattle.re_labels.proofs.Tests.{eqb-same, same_tests, and-whole}
use Rattle.re_labels.specs.Lists.{IsRising}
use Rattle.re_labels.specs.Sets.{IsLabelSet, first_of, without_label}
use Rattle.re_labels.proofs.Goodness.{Has-has_config, has_config-Has}
use Rattle.re_labels.specs.Constraints.{Constraint, has_config}
use Rattle.re_labels.specs.GoodRows.{is_good}
use Rattle.re_labels.specs.declared.TheConstants.{MAX_LABELS}

-- ---- one configuration
pub found-is : (constraint : Constraint) (labels config : List ℕ) (r : Bool) → IsTrue r ↔ Contains constraint.configs config → config ≡ sorted labels → r ≡ has_config constraint labels
found-is constraint labels config r known e = same_tests r (has_config constraint labels)
    (λ h. Has-has_config constraint labels (subst (Contains constraint.configs) e (known.0 h)))
    (λ h. known.1 (subst (Contains constraint.configs) (sym e) (has_config-Has constraint labels h)))

-- ---- tests of all elements
pub all-map : {X Y : Type 0} (p : Y → Bool) (f : X → Y) (xs : List X) → list_all p (map f xs) ≡ list_all (λ x. p (f x)) xs
all-map p f [] = refl
all-map p f (x ∷ xs) = ap (λ b. p (f x) && b) (all-map p f xs)

-- ---- the choices with the labels that are drawn before them
abbrev pub each : Constraint → List ℕ → List (List ℕ) → Bool
each constraint drawn sets = list_all (λ labels. has_config constraint (drawn ++ labels)) (choices sets)

-- the sizes of the sets, and their number
abbrev pub weight : List (List ℕ) → ℕ
weight [] = 0
weight (s ∷ sets) = suc (length s + weight sets)

each-step : (constraint : Constraint) (drawn : List ℕ) (x : ℕ) (s : List ℕ) (others : List (List ℕ))
    → each constraint drawn ((x ∷ s) ∷ others) ≡ (each constraint (drawn ++ x ∷ []) others && each constraint drawn (s ∷ others))
each-step constraint drawn x s others =
    all-append (λ labels. has_config constraint (drawn ++ labels)) (map (λ labels. x ∷ labels) (choices others)) (choices (s ∷ others))
    ∙ ap (λ b. b && each constraint drawn (s ∷ others))
    (all-map (λ labels. has_config constraint (drawn ++ labels)) (λ labels. x ∷ labels) (choices others)
    ∙ (λ i. list_all (λ labels. has_config constraint (sym (append_assoc drawn (x ∷ []) labels) i)) (choices others)))

pub each-last : (constraint : Constraint) (next : List ℕ) (others : List (List ℕ)) (a : Bool) → length others < 1 → a ≡ has_config constraint next → a ≡ each constraint next others
each-last constraint next [] a none e = e ∙ ap (has_config constraint) (sym (append-nil next)) ∙ sym (and-whole (has_config constraint (next ++ [])))
each-last constraint next (s ∷ others) a none e = absurd (omega arith)

-- all labels but the last
pub popped-is : (drawn next popped : List ℕ) (x : ℕ) → next ≡ drawn ++ x ∷ [] → popped ≡ take (length next - 1) next → popped ≡ drawn
popped-is drawn next popped x pushed rest = rest ∙ ap (λ l. take (length l - 1) l) pushed ∙ front drawn
  where
    take-front : (x : ℕ) (xs : List ℕ) → take (length xs) (xs ++ x ∷ []) ≡ xs
    take-front x [] = refl
    take-front x (y ∷ xs) = ap (λ l. y ∷ l) (take-front x xs)

    front : (drawn : List ℕ) → take (length (drawn ++ x ∷ []) - 1) (drawn ++ x ∷ []) ≡ drawn
    front drawn = let e : length (drawn ++ x ∷ []) - 1 ≡ length drawn = omega (arith, length-append drawn (x ∷ [])) in ap (λ n. take n (drawn ++ x ∷ [])) e ∙ take-front x drawn

-- ---- one label more
module _ (constraint : Constraint) (drawn next first : List ℕ) (others : List (List ℕ)) (label : ℕ) (set : IsLabelSet MAX_LABELS first)
    (found : first_of first ≡ Some label) (pushed : next ≡ drawn ++ label ∷ []) (a : Bool) (here : a ≡ each constraint next others) where
  whole : each constraint drawn (first ∷ others) ≡ (a && each constraint drawn (without_label first label ∷ others))
  whole =
      ap (λ s. each constraint drawn (s ∷ others)) (first-is first label set.0 found) ∙ each-step constraint drawn label (without_label first label) others
      ∙ ap (λ l. each constraint l others && each constraint drawn (without_label first label ∷ others)) (sym pushed)
      ∙ ap (λ b. b && each constraint drawn (without_label first label ∷ others)) (sym here)

  pub each-fails : a ≡ false → false ≡ each constraint drawn (first ∷ others)
  each-fails fails = sym (whole ∙ ap (λ b. b && each constraint drawn (without_label first label ∷ others)) fails)

  pub each-more : (back rest : List ℕ) (r : Bool) → a ≡ true → back ≡ drawn → rest ≡ without_label first label → r ≡ each constraint back (rest ∷ others) → r ≡ each constraint drawn (first ∷ others)
  each-more back rest r passes same is e =
      e ∙ (λ i. each constraint (same i) (is i ∷ others)) ∙ sym (whole ∙ ap (λ b. b && each constraint drawn (without_label first label ∷ others)) passes)

-- the rest of the sets, once the least label is done, is less
pub rest-lighter : (first : List ℕ) (others : List (List ℕ)) (label : ℕ) → IsRising (λ x y. x < y) first → first_of first ≡ Some label → weight (without_label first label ∷ others) < weight (first ∷ others)
rest-lighter first others label h e = let l = ap length (first-is first label h e) in omega (arith, l)

-- ---- rows
pub good-by_each : (constraint : Constraint) (row : List (List ℕ)) (r : Bool) → length row ≡ constraint.degree → is_full row ≡ true → r ≡ list_all (has_config constraint) (choices row) → r ≡ is_good constraint row
good-by_each constraint row r count full e =
    e ∙ sym ((λ i. (eqb (length row) (sym count i) && full i) && list_all (has_config constraint) (choices row))
    ∙ ap (λ b. (b && true) && list_all (has_config constraint) (choices row)) (eqb-same (length row)))
