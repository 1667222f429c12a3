-- What covers another label still covers it when a third one is left out.
use Rattle.std.proofs.Common.{◌≡◌, ℕ, zero, suc, ◌<◌, ◌≤◌, ◌+◌, ◌-◌, Bool, true, false, not, cond, eqb, ltb, List, [], ◌∷◌, length, map, get_or, Some, inl, inr, refl, sym, ap, ◌∙◌, subst, arith}
use Rattle.std.specs.Prelude.{Contains, filter, nat_lt}
use Rattle.std.proofs.lemmas.Bool.{false≢true}
use Rattle.std.proofs.lemmas.Bool.Decides.{nat_tests}
use Rattle.std.proofs.lemmas.List.Elements.{Contains-get_or}
use Rattle.std.proofs.lemmas.Simd.{map-map}
use Rattle.std.proofs.lemmas.List.{get_or-map, get_or_default, get_or_past, map-id}
use Rattle.re_labels.proofs.Rearranging.{Contains-Rearranged, Rearranged-map, Rearranged-sym}
use Rattle.re_labels.proofs.Sorting.{Rearranged-sorted, sorted_map}
use Rattle.re_labels.specs.Configs.{image_at, sorted}
use Rattle.re_labels.proofs.Membership.{Contains-In, Contains-cases, Contains-filter, Contains-filter_cases, Contains-later, Contains-none, get_or-count_from, length-count_from, length-map', map-alike}
use Rattle.re_labels.proofs.Sets.{IsIn-has, IsIn-meet_cases, has-IsIn}
use Rattle.re_labels.proofs.Tests.{eqb-apart}
use Rattle.re_labels.specs.Lists.{count_from}
use Rattle.re_labels.specs.Sets.{IsIn, after_of, has, meet}
use Rattle.re_problem.specs.NamedProblems.{NamedProblem, unnamed}
use Rattle.re_problem.specs.Problems.{IsProblem}
use Rattle.re_boxes.proofs.Rests.{strong-rests}
use Rattle.re_labels.proofs.ConstraintImages.{IsConstraint-image, IsConstraint-without, back-held, config-below, image-held}
use Rattle.re_labels.proofs.Goodness.{Has-Rearranged}
use Rattle.re_labels.proofs.Strengths.{IsIn-up_set_cases, stronger_first}
use Rattle.re_labels.specs.Constraints.{Constraint, Has, IsConstraint, images_of}
use Rattle.re_labels.specs.Strength.{IsAtLeastAsStrong, constraint_without, up_set}
use Rattle.re_changes.proofs.Counted.{find-first, length-map_counted}
use Rattle.re_changes.proofs.Numbering.{number_at}
use Rattle.re_changes.specs.Renumbering.{constraint_image, number_among}
use Rattle.re_changes.proofs.KeptRounds.{same-held}
use Rattle.re_changes.proofs.MergedLabels.{covers-fact, covers-test}
use Rattle.re_changes.proofs.TrimmedProblems.{IsLabelSet-all_but, by-covered, found, image-without, labels-left, of-all_but}
use Rattle.re_changes.specs.Merging.{covers}
use Rattle.re_changes.specs.Trimming.{IsKnown, all_but, first_covered, is_covered, named_without}

-- ---- one constraint
module _ (named : NamedProblem) (a : ℕ) (constraint : Constraint) (is : IsConstraint (length named.names) constraint) where
  abbrev numbers : List ℕ
  numbers = map (number_among (all_but a (length named.names))) (count_from 0 (length named.names))

  abbrev label_at : ℕ → ℕ
  label_at k = get_or (all_but a (length named.names)) k 0

  IsConstraint-left : IsConstraint (length (all_but a (length named.names))) (constraint_image numbers (constraint_without a constraint))
  IsConstraint-left = IsConstraint-image numbers (constraint_without a constraint) (length named.names) (length (all_but a (length named.names)))
      (IsConstraint-without constraint (length named.names) a is) (labels-left named a constraint is)

  -- the labels that stay, in place of their numbers
  back-has : (labels : List ℕ) → Has (constraint_image numbers (constraint_without a constraint)) labels → Has (constraint_without a constraint) (map (λ k. get_or (all_but a (length named.names)) k 0) labels)
  back-has labels held = Has-Rearranged (constraint_without a constraint) (Rearranged-map (λ k. get_or (all_but a (length named.names)) k 0) (Rearranged-sym (Rearranged-sorted labels)))
      (back-held numbers (constraint_without a constraint) (λ k. get_or (all_but a (length named.names)) k 0)
      (same-held named a constraint is (IsConstraint-without constraint (length named.names) a is)) (sorted labels) held)

  on-has : (labels : List ℕ) → Has (constraint_without a constraint) labels → Has (constraint_image numbers (constraint_without a constraint)) (map (image_at numbers) labels)
  on-has labels held = subst (Contains (images_of numbers (constraint_without a constraint))) (sorted_map (image_at numbers) labels) (image-held numbers (constraint_without a constraint) (sorted labels) held)

  -- another label comes in place of the first one
  other-first : (x y : ℕ) (rest : List ℕ) → (y ≡ a → ⊥) → IsAtLeastAsStrong constraint y x → Has (constraint_without a constraint) (x ∷ rest) → Has (constraint_without a constraint) (y ∷ rest)
  other-first x y rest apart strong held =
      let two = Contains-filter_cases (λ config. not (has config a)) constraint.configs (sorted (x ∷ rest)) held in
      let there : Has constraint (y ∷ rest) = stronger_first constraint x y rest strong two.0 in
      Contains-filter (λ config. not (has config a)) constraint.configs (sorted (y ∷ rest)) there (absent two.1 (has (sorted (y ∷ rest)) a) refl)
    where
      absent : not (has (sorted (x ∷ rest)) a) ≡ true → (b : Bool) → has (sorted (y ∷ rest)) a ≡ b → not (has (sorted (y ∷ rest)) a) ≡ true
      absent none false e = ap not e
      absent none true e = elim (Contains-cases a y rest (Contains-Rearranged a (Rearranged-sym (Rearranged-sorted (y ∷ rest))) (has-IsIn (sorted (y ∷ rest)) a e))) [
        | inl same ↦ absurd (apart (sym same))
        | inr i ↦ absurd (false≢true (sym (ap not (IsIn-has (sorted (x ∷ rest)) a (Contains-Rearranged a (Rearranged-sorted (x ∷ rest)) (Contains-later a x rest i)))) ∙ none))
      ]

  -- the label of a number stays, and has the number
  stays-at : (k : ℕ) → k < length (all_but a (length named.names)) → (label_at k < length named.names) × (label_at k ≡ a → ⊥)
  stays-at k l = of-all_but a (length named.names) (label_at k) (Contains-In (label_at k) (all_but a (length named.names)) (Contains-get_or (all_but a (length named.names)) k 0 l))

  number-back : (k : ℕ) → k < length (all_but a (length named.names)) → image_at numbers (label_at k) ≡ k
  number-back k l = image-without named a (label_at k) (stays-at k l).0 ∙ number_at (all_but a (length named.names)) k (IsLabelSet-all_but a (length named.names)).0 l

  numbers-back : (rest : List ℕ) → ((x : ℕ) → Contains rest x → x < length (all_but a (length named.names))) → map (image_at numbers) (map label_at rest) ≡ rest
  numbers-back rest below = map-map (image_at numbers) label_at rest ∙ map-alike (λ k. image_at numbers (label_at k)) (λ k. k) rest (λ x held. number-back x (below x held)) ∙ map-id rest

  -- one label is still as strong as another one
  strong-left : (k j : ℕ) → k < length (all_but a (length named.names)) → j < length (all_but a (length named.names)) → IsAtLeastAsStrong constraint (label_at j) (label_at k)
      → IsAtLeastAsStrong (constraint_image numbers (constraint_without a constraint)) j k
  strong-left k j l m strong = strong-rests (constraint_image numbers (constraint_without a constraint)) (length (all_but a (length named.names))) k j IsConstraint-left (λ rest done.
      let other = other-first (label_at k) (label_at j) (map label_at rest) (stays-at j m).1 strong (back-has (k ∷ rest) done) in
      let same : map (image_at numbers) (label_at j ∷ map label_at rest) ≡ j ∷ rest = λ i. number-back j m i ∷ numbers-back rest (below rest done) i in
      subst (Has (constraint_image numbers (constraint_without a constraint))) same (on-has (label_at j ∷ map label_at rest) other))
    where
      below : (rest : List ℕ) → Has (constraint_image numbers (constraint_without a constraint)) (k ∷ rest) → (x : ℕ) → Contains rest x → x < length (all_but a (length named.names))
      below rest done x held = config-below (length (all_but a (length named.names))) (constraint_image numbers (constraint_without a constraint)) IsConstraint-left (sorted (k ∷ rest)) x
          (Contains-In (sorted (k ∷ rest)) (images_of numbers (constraint_without a constraint)) done)
          (Contains-In x (sorted (k ∷ rest)) (Contains-Rearranged x (Rearranged-sorted (k ∷ rest)) (Contains-later x k rest held)))

-- ---- where label 0 is left out, each label has the number before it
all_above : (i m : ℕ) → filter (λ y. not (eqb y 0)) (count_from (suc i) m) ≡ count_from (suc i) m
all_above i zero = refl
all_above i (suc m) =
    ap (λ b. cond (not b) (suc i ∷ filter (λ y. not (eqb y 0)) (count_from (suc (suc i)) m)) (filter (λ y. not (eqb y 0)) (count_from (suc (suc i)) m))) (eqb-apart (suc i) 0 (λ e. omega (arith, e)))
    ∙ ap (λ l. suc i ∷ l) (all_above (suc i) m)

label-above : (n k : ℕ) → suc k < n → (k < length (all_but 0 n)) × (get_or (all_but 0 n) k 0 ≡ suc k)
label-above zero k l = absurd (omega arith)
label-above (suc m) k l =
    let same : all_but 0 (suc m) ≡ count_from 1 m = all_above 0 m in
    let count = ap length same ∙ length-count_from 1 m in
    (omega (arith, count), ap (λ l. get_or l k 0) same ∙ get_or-count_from 1 m k 0 (omega arith) ∙ omega arith)

module _ (named : NamedProblem) (is : IsProblem (unnamed named)) where
  covers-above : (x y : ℕ) → suc x < length named.names → suc y < length named.names → covers (unnamed named) (suc y) (suc x) ≡ true
      → (x < length (named_without 0 named).names) × (y < length (named_without 0 named).names) × (covers (unnamed (named_without 0 named)) y x ≡ true)
  covers-above x y l m h =
      let at_x = label-above (length named.names) x l in
      let at_y = label-above (length named.names) y m in
      let count = length-map' (λ label. get_or named.names label []) (all_but 0 (length named.names)) in
      let two = covers-fact (unnamed named) (suc y) (suc x) h in (
        omega (arith, count, at_x.0),
        omega (arith, count, at_y.0),
        covers-test (unnamed (named_without 0 named)) y x (
          strong-left named 0 named.active is.active x y at_x.0 at_y.0 (subst (λ z. IsAtLeastAsStrong named.active z (get_or (all_but 0 (length named.names)) x 0)) (sym at_y.1) (subst (IsAtLeastAsStrong named.active (suc y)) (sym at_x.1) two.0)),
          strong-left named 0 named.passive is.passive x y at_x.0 at_y.0 (subst (λ z. IsAtLeastAsStrong named.passive z (get_or (all_but 0 (length named.names)) x 0)) (sym at_y.1) (subst (IsAtLeastAsStrong named.passive (suc y)) (sym at_x.1) two.1)),
        ),
      )

  -- ---- what is known
  -- one label more has been passed
  pub known-passed : (passed : ℕ) (sets : List (List ℕ)) → IsKnown passed sets named → IsKnown (passed + 1) sets (named_without 0 named)
  known-passed passed sets known x y i =
      let one : passed + 1 + y ≡ passed + suc y = omega arith in
      let other : passed + 1 + x ≡ passed + suc x = omega arith in
      let (l, m, h) = known (suc x) (suc y) (subst (λ k. IsIn (passed + suc y) (get_or sets k [])) other (subst (λ k. IsIn k (get_or sets (passed + 1 + x) [])) one i)) in
      covers-above x y l m h

  -- the first label that hasn't been passed is covered by a later one
  pub known-first : (passed later : ℕ) (sets : List (List ℕ)) → IsKnown passed sets named → passed < later → IsIn later (get_or sets passed []) → first_covered (unnamed named) ≡ Some 0
  known-first passed later sets known above i =
      let zero_more : passed ≡ passed + 0 = omega arith in
      let apart_by : later ≡ passed + (later - passed) = omega (arith, above) in
      let (l, m, h) = known 0 (later - passed) (subst (λ k. IsIn (passed + (later - passed)) (get_or sets k [])) zero_more (subst (λ k. IsIn k (get_or sets passed [])) apart_by i)) in
      find-first (is_covered (unnamed named)) (length named.names) 0 l (by-covered (unnamed named) 0 (later - passed) m (λ e. omega (arith, e, above)) h) (λ j n. absurd (omega (arith, n)))

-- all that was found
pub known-whole : (named : NamedProblem) (sets : List (List ℕ))
    → sets ≡ map (λ a. meet (up_set named.active a (length named.names)) (up_set named.passive a (length named.names))) (count_from 0 (length named.names)) → IsKnown 0 sets named
known-whole named sets e x y i =
    let f : ℕ → List ℕ = λ a. meet (up_set named.active a (length named.names)) (up_set named.passive a (length named.names)) in
    let all : length sets ≡ length named.names = ap length e ∙ length-map_counted f (length named.names) in
    let plain : (k : ℕ) → 0 + k ≡ k = λ k. omega arith in
    let here : IsIn y (get_or sets x []) = subst (λ k. IsIn y (get_or sets k [])) (plain x) (subst (λ k. IsIn k (get_or sets (0 + x) [])) (plain y) i) in
    go f all here (ltb x (length named.names)) refl
  where
    go : (f : ℕ → List ℕ) → length sets ≡ length named.names → IsIn y (get_or sets x []) → (b : Bool) → ltb x (length named.names) ≡ b
        → (x < length named.names) × (y < length named.names) × (covers (unnamed named) y x ≡ true)
    go f all here true t =
        let l : x < length named.names = grind (arith, nat_tests) in
        let at : get_or sets x [] ≡ meet (up_set named.active x (length named.names)) (up_set named.passive x (length named.names)) =
        ap (λ l. get_or l x []) e ∙ get_or-map (λ a. meet (up_set named.active a (length named.names)) (up_set named.passive a (length named.names))) (count_from 0 (length named.names)) x 0 [] (let c = length-count_from 0 (length named.names) in omega (arith, c, l))
        ∙ ap (λ k. meet (up_set named.active k (length named.names)) (up_set named.passive k (length named.names))) (get_or-count_from 0 (length named.names) x 0 l ∙ omega arith) in
        let two = IsIn-meet_cases (up_set named.active x (length named.names)) (up_set named.passive x (length named.names)) y (subst (IsIn y) at here) in
        let active = IsIn-up_set_cases named.active x y (length named.names) two.0 in
        let passive = IsIn-up_set_cases named.passive x y (length named.names) two.1 in
        (l, active.0, covers-test (unnamed named) y x (active.1, passive.1))
    go f all here false t =
        let over : length sets ≤ x = grind (arith, nat_tests) in
        absurd (Contains-none y (subst (IsIn y) (get_or_past sets x [] over) here))

-- past all sets nothing is known
pub known-nothing : (named : NamedProblem) (sets : List (List ℕ)) (passed : ℕ) → length sets ≤ passed → IsKnown passed sets named
known-nothing named sets passed over x y i = absurd (Contains-none (passed + y) (subst (IsIn (passed + y)) (get_or_past sets (passed + x) [] (omega (arith, over))) i))

-- the label that comes after another one in a set
after-in : (s : List ℕ) (x y : ℕ) → after_of s x ≡ Some y → (x < y) × IsIn y s
after-in s x y e =
    let two = found (nat_lt x) s y e in
    (let t = two.1 in grind (arith, nat_tests), two.0)

pub after-read : (sets : List (List ℕ)) (x y : ℕ) (set : List ℕ) → x < length sets → set ≡ get_or sets x set → after_of set x ≡ Some y → (x < y) × IsIn y (get_or sets x [])
after-read sets x y set l read e =
    let same : set ≡ get_or sets x [] = read ∙ get_or_default sets x set [] l in
    after-in (get_or sets x []) x y (ap (λ s. after_of s x) (sym same) ∙ e)
