-- Where degrees, counts or the images of the first labels show that one problem isn't the other under other labels, no images make it that.
use Rattle.std.proofs.Common.{◌≡◌, ℕ, ◌<◌, ◌≤◌, Bool, true, false, cond, not, leb, ltb, ◌&&◌, ◌||◌, List, [], ◌∷◌, ◌++◌, length, map, Option, None, Some, inl, inr, refl, sym, ap, ◌∙◌, arith}
use Rattle.std.specs.Prelude.{find, if◌then◌else◌, is_none, option_map}
use Rattle.std.specs.List.{AllByRecursion}
use Rattle.std.proofs.lemmas.Bool.{false≢true}
use Rattle.std.proofs.lemmas.Bool.Decides.{nat_tests}
use Rattle.std.proofs.lemmas.List.{get_or_append_left}
use Rattle.re_check.specs.Verdicts.{is_yes}
use Rattle.re_labels.specs.Configs.{image_at}
use Rattle.re_labels.proofs.Membership.{AllByRecursion-weaker, In, any-In_from}
use Rattle.re_labels.proofs.Tests.{and-true, or-true}
use Rattle.re_labels.specs.declared.sides.Side.{Side}
use Rattle.re_labels.specs.declared.sides.Side.TheVariants.{Active as ActiveSide, Passive as PassiveSide}
use Rattle.re_problem.specs.Verdicts.{first_lost, first_twice, first_violation, has_degrees, larger, renaming_verdict, unless}
use Rattle.re_problem.specs.declared.verdict.MapVerdict.TheVariants.{Active, Count, Degrees, Passive, Twice}
use Rattle.re_problem.specs.Problems.{Problem}
use Rattle.re_labels.specs.Constraints.{Constraint, has_config}
use Rattle.re_search.specs.Losses.{are_mapped, is_lost, loses, may_become}
use Rattle.re_labels.specs.declared.TheConstants.{MAX_LABELS}

-- ---- a verdict that isn't Yes
not_yes : (a : Bool) (t : Option ℕ) (p q : Option (List ℕ)) (m n : Option Side)
    → (a ≡ true → is_none p ≡ true → is_none q ≡ true → is_none m ≡ true → is_none n ≡ true → ⊥)
    → is_yes (first_violation (unless a Degrees ∷ option_map Twice t ∷ option_map Active p ∷ option_map Passive q ∷ option_map Count m ∷ option_map Count n ∷ [])) ≡ false
not_yes false t p q m n h = refl
not_yes true (Some x) p q m n h = refl
not_yes true None (Some c) q m n h = refl
not_yes true None None (Some c) m n h = refl
not_yes true None None None (Some s) n h = refl
not_yes true None None None None (Some s) h = refl
not_yes true None None None None None h = absurd (h refl refl refl refl refl)

-- ---- degrees and counts
not_larger : (side : Side) (from to : Constraint) → is_none (larger side from to) ≡ true → leb (length to.configs) (length from.configs) ≡ true
not_larger side from to h = go (ltb (length from.configs) (length to.configs)) refl h
  where
    go : (b : Bool) → ltb (length from.configs) (length to.configs) ≡ b → is_none (if b then Some side else None) ≡ true → leb (length to.configs) (length from.configs) ≡ true
    go true e h = absurd (false≢true h)
    go false e h = grind (arith, nat_tests)

pub apart-becomes : (from to : Problem) → may_become from to ≡ false → (images : List ℕ) → is_yes (renaming_verdict from to images) ≡ false
apart-becomes from to apart images =
    not_yes (has_degrees to from.active.degree from.passive.degree) (first_twice images) (first_lost images from.active to.active) (first_lost images from.passive to.passive) (larger ActiveSide from.active to.active) (larger PassiveSide from.passive to.passive)
    (λ same kept_active kept_passive few_active few_passive.
    let all : may_become from to ≡ true = λ i. same i && not_larger ActiveSide from.active to.active few_active i && not_larger PassiveSide from.passive to.passive few_passive i in
    absurd (false≢true (sym apart ∙ all)))

-- ---- images of the first labels
same_images : (images order config : List ℕ) → are_mapped images config ≡ true → map (image_at (images ++ order)) config ≡ map (image_at images) config
same_images images order [] h = refl
same_images images order (x ∷ config) h =
    let two = and-true (ltb x (length images)) (are_mapped images config) h in
    let low : x < length images = (let l = two.0 in grind (arith, nat_tests)) in
    (λ i. get_or_append_left images order 0 x low i ∷ same_images images order config two.1 i)

none_passes : {X : Type 0} (p : X → Bool) (xs : List X) (x : X) → In x xs → p x ≡ true → is_none (find p xs) ≡ true → ⊥
none_passes p [] x i h e = absurd i
none_passes {X} p (y ∷ xs) x i h e = go (p y) refl e (none_passes p xs x)
  where
    go : (b : Bool) → p y ≡ b → is_none (cond b (Some y) (find p xs)) ≡ true → (In x xs → p x ≡ true → is_none (find p xs) ≡ true → ⊥) → ⊥
    go true f none rest = false≢true none
    go false f none rest = elim i [ inl same ↦ false≢true (sym (ap p same ∙ f) ∙ h) | inr later ↦ rest later h none ]

lost-anyway : (images order : List ℕ) (from to : Constraint) → loses images from to ≡ true → is_none (first_lost (images ++ order) from to) ≡ true → ⊥
lost-anyway images order from to lost none =
    let (config, there, is) = any-In_from (is_lost images to) from.configs lost in
    let two = and-true (are_mapped images config) (not (has_config to (map (image_at images) config))) is in
    none_passes (λ config. not (has_config to (map (image_at (images ++ order)) config))) from.configs config there
    (ap (λ labels. not (has_config to labels)) (same_images images order config two.0) ∙ two.1) none

pub lost-becomes : (from to : Problem) (images : List ℕ) → (loses images from.active to.active || loses images from.passive to.passive) ≡ true → (order : List ℕ) → is_yes (renaming_verdict from to (images ++ order)) ≡ false
lost-becomes from to images lost order =
    let all = images ++ order in
    not_yes (has_degrees to from.active.degree from.passive.degree) (first_twice all) (first_lost all from.active to.active) (first_lost all from.passive to.passive) (larger ActiveSide from.active to.active) (larger PassiveSide from.passive to.passive)
    (λ same kept_active kept_passive few_active few_passive.
    elim (or-true (loses images from.active to.active) (loses images from.passive to.passive) lost) [
      | inl active ↦ lost-anyway images order from.active to.active active kept_active
      | inr passive ↦ lost-anyway images order from.passive to.passive passive kept_passive
    ])

-- ---- no list of images at all
pub none-of : (test : List ℕ → Bool) (chosen : List ℕ) (lists : List (List ℕ)) → ((order : List ℕ) → test (chosen ++ order) ≡ false) → find test (map (λ order. chosen ++ order) lists) ≡ None
none-of test chosen [] fails = refl
none-of test chosen (order ∷ lists) fails = ap (λ b. cond b (Some (chosen ++ order)) (find test (map (λ order. chosen ++ order) lists))) (fails order) ∙ none-of test chosen lists fails

-- ---- labels that have images
pub mapped-below : (images labels : List ℕ) → are_mapped images labels ≡ true → AllByRecursion (λ label. label < length images) labels
mapped-below images [] h = tt
mapped-below images (x ∷ labels) h =
    let two = and-true (ltb x (length images)) (are_mapped images labels) h in
    ((let l = two.0 in grind (arith, nat_tests)), mapped-below images labels two.1)

pub below-most : (n : ℕ) (images : List ℕ) → n ≤ MAX_LABELS → AllByRecursion (λ image. image < n) images → AllByRecursion (λ image. image < MAX_LABELS) images
below-most n images few all = AllByRecursion-weaker (λ image. image < n) (λ image. image < MAX_LABELS) (λ image l. omega arith) images all
