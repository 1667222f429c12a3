-- A label in place of another one, the images of labels, and the set of them.
use Rattle.std.proofs.Common.{◌≡◌, ℕ, zero, suc, ◌<◌, ◌≤◌, ◌+◌, Bool, true, false, cond, eqb, ltb, ◌||◌, List, [], ◌∷◌, ◌++◌, length, map, refl, sym, ap, ◌∙◌, arith, Some, None, not}
use Rattle.std.specs.List.{AllByRecursion, position, position_or_len}
use Rattle.std.specs.Prelude.{Contains, slice_set}
use Rattle.std.proofs.lemmas.Bool.Decides.{nat_tests}
use Rattle.std.proofs.lemmas.List.Folds.{list_any-append}
use Rattle.re_labels.specs.ConfigurationLaws.{SupportLaw}
use Rattle.re_labels.specs.Configs.{image_at, replaced, support_of}
use Rattle.re_labels.proofs.Numbers.{IsLabelSet-with_label, rising-with_label, same_labels}
use Rattle.re_labels.proofs.Sets.{IsIn-has, has-IsIn, has-with_label}
use Rattle.re_labels.specs.Lists.{IsRising}
use Rattle.re_labels.specs.Sets.{IsLabelSet, has, with_label}

-- ---- one label replaced
replaced-found : (xs : List ℕ) (a b : ℕ) → position_or_len (λ x. eqb x a) xs < length xs → replaced a b xs ≡ slice_set xs (position_or_len (λ x. eqb x a) xs) b
replaced-found [] a b h = refl
replaced-found (x ∷ xs) a b h = go (eqb x a) refl h (replaced-found xs a b)
  where
    n : ℕ
    n = position_or_len (λ x. eqb x a) xs

    go : (t : Bool) → eqb x a ≡ t → cond (not t) (1 + n) 0 < suc (length xs) → (n < length xs → replaced a b xs ≡ slice_set xs n b)
        → cond t (b ∷ xs) (x ∷ replaced a b xs) ≡ slice_set (x ∷ xs) (cond (not t) (1 + n) 0) b
    go true e l rest = refl
    go false e l rest =
        let one : 1 + n ≡ suc n = omega arith in
        ap (λ r. x ∷ r) (rest (omega arith)) ∙ ap (λ k. slice_set (x ∷ xs) k b) (sym one)

pub replaced-at : (xs : List ℕ) (a b i : ℕ) → position (λ x. eqb x a) xs ≡ Some i → replaced a b xs ≡ slice_set xs i b
replaced-at xs a b i e = go (ltb (position_or_len (λ x. eqb x a) xs) (length xs)) refl e
  where
    n : ℕ
    n = position_or_len (λ x. eqb x a) xs

    go : (t : Bool) → ltb n (length xs) ≡ t → cond t (Some n) None ≡ Some i → replaced a b xs ≡ slice_set xs i b
    go true test e =
        let below : n < length xs = grind (arith, nat_tests) in
        let same : n ≡ i = cc in
        replaced-found xs a b below ∙ ap (λ k. slice_set xs k b) same
    go false test e = absurd (cc)

-- ---- images
pub AllByRecursion-image_at : (images config : List ℕ) (n : ℕ) → AllByRecursion (λ x. x < n) images → AllByRecursion (λ x. x < length images) config
    → AllByRecursion (λ x. x < n) (map (image_at images) config)
AllByRecursion-image_at images [] n h k = tt
AllByRecursion-image_at images (x ∷ config) n h k = (at images x h k.0, AllByRecursion-image_at images config n h k.1)
  where
    at : (images : List ℕ) (x : ℕ) → AllByRecursion (λ x. x < n) images → x < length images → image_at images x < n
    at [] x h l = absurd (omega arith)
    at (y ∷ images) zero h l = h.0
    at (y ∷ images) (suc x) h l = at images x h.1 (omega arith)

-- ---- the set of the labels
pub has-support_of : (config : List ℕ) (x : ℕ) → has (support_of config) x ≡ has config x
has-support_of [] x = refl
has-support_of (y ∷ config) x = has-with_label (support_of config) y x ∙ ap (λ b. eqb y x || b) (has-support_of config x)

pub IsLabelSet-support_of : (n : ℕ) (config : List ℕ) → AllByRecursion (λ x. x < n) config → IsLabelSet n (support_of config)
IsLabelSet-support_of n [] h = (tt, tt)
IsLabelSet-support_of n (x ∷ config) h = IsLabelSet-with_label n (support_of config) x h.0 (IsLabelSet-support_of n config h.1)

pub rising-support_of : (config : List ℕ) → IsRising (λ x y. x < y) (support_of config)
rising-support_of [] = tt
rising-support_of (x ∷ config) = rising-with_label (support_of config) x (rising-support_of config)

pub Contains-support_of : (config : List ℕ) (x : ℕ) → Contains config x → Contains (support_of config) x
Contains-support_of config x held = has-IsIn (support_of config) x (has-support_of config x ∙ IsIn-has config x held)

pub length-with_label_most : (s : List ℕ) (x : ℕ) → length (with_label s x) ≤ suc (length s)
length-with_label_most [] x = omega arith
length-with_label_most (y ∷ s) x = at (ltb x y) (eqb x y) (length-with_label_most s x)
  where
    at : (b c : Bool) → length (with_label s x) ≤ suc (length s) → length (cond b (x ∷ y ∷ s) (cond c (y ∷ s) (y ∷ with_label s x))) ≤ suc (suc (length s))
    at true c rest = omega arith
    at false true rest = omega arith
    at false false rest = omega (arith, rest)

pub length-support_of_most : (config : List ℕ) → length (support_of config) ≤ length config
length-support_of_most [] = omega arith
length-support_of_most (x ∷ config) = omega (arith, length-with_label_most (support_of config) x, length-support_of_most config)

-- one label more at the end
pub support_of-push : (config : List ℕ) (x : ℕ) → support_of (config ++ x ∷ []) ≡ with_label (support_of config) x
support_of-push config x =
    same_labels (support_of (config ++ x ∷ [])) (with_label (support_of config) x) (rising-support_of (config ++ x ∷ [])) (rising-with_label (support_of config) x (rising-support_of config))
    (λ k h. sym (alike k) ∙ h) (λ k h. alike k ∙ h)
  where
    or_last : (a b : Bool) → (a || (b || false)) ≡ (b || a)
    or_last true true = refl
    or_last true false = refl
    or_last false true = refl
    or_last false false = refl

    alike : (k : ℕ) → has (support_of (config ++ x ∷ [])) k ≡ has (with_label (support_of config) x) k
    alike k = has-support_of (config ++ x ∷ []) k ∙ list_any-append (λ y. eqb y k) config (x ∷ []) ∙ or_last (has config k) (eqb x k)
        ∙ ap (λ b. eqb x k || b) (sym (has-support_of config k)) ∙ sym (has-with_label (support_of config) x k)

pub support_law : SupportLaw
support_law n config = (
  IsLabelSet-support_of n config,
  λ x. (
    (λ i. has-IsIn config x (sym (has-support_of config x) ∙ IsIn-has (support_of config) x i)),
    (λ i. has-IsIn (support_of config) x (has-support_of config x ∙ IsIn-has config x i)),
  ),
)
