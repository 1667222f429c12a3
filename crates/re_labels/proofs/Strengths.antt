-- Strength: one label in place of another one, its order, and the walk over the configurations that strikes labels out.
use Rattle.std.proofs.Common.{◌≡◌, ℕ, zero, suc, ◌<◌, ◌≤◌, ◌+◌, Bool, true, false, not, cond, eqb, ltb, ◌&&◌, ◌||◌, List, [], ◌∷◌, length, take, get_or, refl, sym, ap, ◌∙◌, subst, inl, inr, arith, Some}
use Rattle.std.specs.Prelude.{Contains, IsTrue, ◌↔◌, filter}
use Rattle.std.specs.List.{list_all}
use Rattle.std.proofs.lemmas.Bool.Decides.{nat_tests}
use Rattle.std.proofs.lemmas.List.{take_all}
use Rattle.std.proofs.lemmas.List.Folds.{list_all_at, list_all_more}
use Rattle.re_labels.proofs.LeastLabels.{first-is}
use Rattle.re_labels.proofs.Placing.{Pick, Rearranged-Pick, here, picked, there}
use Rattle.re_labels.proofs.Rearranging.{Rearranged-refl, Rearranged-sym}
use Rattle.re_labels.proofs.Sorting.{Rearranged-sorted, sorted_again}
use Rattle.re_labels.specs.Configs.{IsConfig, replaced, sorted}
use Rattle.re_labels.specs.Rearranging.{Rearranged, chained, kept, swapped}
use Rattle.re_labels.proofs.Membership.{AllByRecursion-contains, Contains-In, Contains-cases, Contains-count_from, Contains-filter, Contains-filter_cases, Contains-here, Contains-later, Contains-none, In-Contains, all-In, all-In_from, count_from_range, filter-alike}
use Rattle.re_labels.proofs.Numbers.{IsLabelSet-count_from, IsLabelSet-filter}
use Rattle.re_labels.proofs.Rising.{rising-filter}
use Rattle.re_labels.proofs.Sets.{IsIn-has, has-IsIn}
use Rattle.re_labels.proofs.Tests.{and-true, eqb-same, eqb-true, same_tests, true-and}
use Rattle.re_labels.specs.Lists.{IsRising, count_from}
use Rattle.re_labels.specs.Sets.{IsIn, IsLabelSet, first_of, has, with_label, without_label}
use Rattle.re_labels.proofs.Goodness.{Has-Rearranged, Has-has_config, has_config-Has}
use Rattle.re_labels.specs.Constraints.{Constraint, Has, IsConstraint, has_config}
use Rattle.re_labels.specs.Laws.{StrengthOrderLaw, UpSetLaw}
use Rattle.re_labels.specs.Strength.{IsAtLeastAsStrong, is_at_least_as_strong, may_replace, up_set}
use Rattle.re_labels.specs.declared.TheConstants.{MAX_LABELS}

-- ---- one label in place of another
pub Contains-Pick : (x : ℕ) (xs rest : List ℕ) → Pick x xs rest → Contains xs x
Contains-Pick x xs rest (here {xs = ys}) = Contains-here x ys
Contains-Pick x xs rest (there {y = y} {xs = zs} {ys = ys} k) = Contains-later x y zs (Contains-Pick x zs ys k)

pub Pick-Contains : (x : ℕ) (xs : List ℕ) → Contains xs x → (rest : List ℕ) × Pick x xs rest
Pick-Contains x [] h = absurd (Contains-none x h)
Pick-Contains x (y ∷ xs) h = elim (Contains-cases x y xs h) [
  | inl e ↦ (xs, subst (λ w. Pick x (w ∷ xs) xs) e here)
  | inr i ↦ let r = Pick-Contains x xs i in (y ∷ r.0, there r.1)
]

pub replaced_order : (x y : ℕ) {xs rest : List ℕ} → Pick x xs rest → Rearranged (replaced x y xs) (y ∷ rest)
replaced_order x y (here {xs = ys}) = rw (eqb-same x) (Rearranged-refl (y ∷ ys))
replaced_order x y (there {y = z} {xs = zs} {ys = ys} k) =
    elim (eqb z x) as (λ b. eqb z x ≡ b → Rearranged (cond b (y ∷ zs) (z ∷ replaced x y zs)) (y ∷ z ∷ ys)) [
      | true ↦ λ e. kept (subst (λ w. Rearranged zs (w ∷ ys)) (sym (eqb-true z x e)) (Rearranged-Pick k))
      | false ↦ λ e. chained (kept (replaced_order x y k)) swapped
    ] refl

-- a label in place of itself
pub replaced-same : (a : ℕ) (xs : List ℕ) → replaced a a xs ≡ xs
replaced-same a [] = refl
replaced-same a (x ∷ xs) = elim (eqb x a) as (λ b. eqb x a ≡ b → cond b (a ∷ xs) (x ∷ replaced a a xs) ≡ x ∷ xs) [
  | true ↦ λ e. ap (λ w. w ∷ xs) (sym (eqb-true x a e))
  | false ↦ λ e. ap (λ l. x ∷ l) (replaced-same a xs)
] refl

-- ---- the order
pub IsAtLeastAsStrong-refl : (constraint : Constraint) (n a : ℕ) → IsConstraint n constraint → IsAtLeastAsStrong constraint a a
IsAtLeastAsStrong-refl constraint n a is config held has =
    let ascending : sorted config ≡ config = sorted_again config (AllByRecursion-contains (IsConfig constraint.degree n) constraint.configs config is.configs held).ascends in
    subst (Contains constraint.configs) (sym (ap sorted (replaced-same a config) ∙ ascending)) held

module _ (constraint : Constraint) where
  -- a stronger label beside some others
  pub stronger_first : (x y : ℕ) (rest : List ℕ) → IsAtLeastAsStrong constraint y x → Has constraint (x ∷ rest) → Has constraint (y ∷ rest)
  stronger_first x y rest strong has =
      let a = picked (Rearranged-sorted (x ∷ rest)) here in
      Has-Rearranged constraint (chained (replaced_order x y a.1) (kept (Rearranged-sym a.2)))
      (strong (sorted (x ∷ rest)) has (Contains-Pick x (sorted (x ∷ rest)) a.0 a.1))

  pub IsAtLeastAsStrong-trans : (x y z : ℕ) → IsAtLeastAsStrong constraint y x → IsAtLeastAsStrong constraint z y → IsAtLeastAsStrong constraint z x
  IsAtLeastAsStrong-trans x y z one two config held has =
      let a = Pick-Contains x config has in
      Has-Rearranged constraint (Rearranged-sym (replaced_order x z a.1))
      (stronger_first y z a.0 two (Has-Rearranged constraint (replaced_order x y a.1) (one config held has)))

pub strength_order_law : StrengthOrderLaw
strength_order_law constraint n is =
    (λ a. IsAtLeastAsStrong-refl constraint n a is, λ a b c one two. IsAtLeastAsStrong-trans constraint a b c one two)

-- ---- the test
pub may_replace-none : (constraint : Constraint) (strong weak : ℕ) (config : List ℕ) → (Contains config weak → ⊥) → may_replace constraint strong weak config ≡ true
may_replace-none constraint strong weak config absent = elim (has config weak) as (λ b. has config weak ≡ b → (not b || has_config constraint (replaced weak strong config)) ≡ true) [
  | true ↦ λ e. absurd (absent (has-IsIn config weak e))
  | false ↦ λ e. refl
] refl

pub may_replace-some : (constraint : Constraint) (strong weak : ℕ) (config : List ℕ) → Contains config weak → may_replace constraint strong weak config ≡ has_config constraint (replaced weak strong config)
may_replace-some constraint strong weak config held = ap (λ t. not t || has_config constraint (replaced weak strong config)) (IsIn-has config weak held)

pub is_at_least_as_strong-fact : (constraint : Constraint) (a b : ℕ) → is_at_least_as_strong constraint b a ≡ true → IsAtLeastAsStrong constraint b a
is_at_least_as_strong-fact constraint a b h config held has =
    has_config-Has constraint (replaced a b config)
    (sym (may_replace-some constraint b a config has) ∙ all-In (may_replace constraint b a) constraint.configs h config (Contains-In config constraint.configs held))

pub IsAtLeastAsStrong-test : (constraint : Constraint) (a b : ℕ) → IsAtLeastAsStrong constraint b a → is_at_least_as_strong constraint b a ≡ true
IsAtLeastAsStrong-test constraint a b h =
    all-In_from (may_replace constraint b a) constraint.configs (λ config i. one config (In-Contains config constraint.configs i))
  where
    one : (config : List ℕ) → Contains constraint.configs config → may_replace constraint b a config ≡ true
    one config held = elim (has config a) as (λ t. has config a ≡ t → (not t || has_config constraint (replaced a b config)) ≡ true) [
      | true ↦ λ e. Has-has_config constraint (replaced a b config) (h config held (has-IsIn config a e))
      | false ↦ λ e. refl
    ] refl

pub strong-tells : (constraint : Constraint) (a b : ℕ) (r : Bool) → r ≡ is_at_least_as_strong constraint b a → IsTrue r ↔ IsAtLeastAsStrong constraint b a
strong-tells constraint a b r e = (λ t. is_at_least_as_strong-fact constraint a b (sym e ∙ t), λ h. e ∙ IsAtLeastAsStrong-test constraint a b h)

pub IsIn-up_set : (constraint : Constraint) (a b n : ℕ) → b < n → IsAtLeastAsStrong constraint b a → IsIn b (up_set constraint a n)
IsIn-up_set constraint a b n below h =
    Contains-filter (λ b. is_at_least_as_strong constraint b a) (count_from 0 n) b (Contains-count_from 0 n b (omega arith) (omega arith)) (IsAtLeastAsStrong-test constraint a b h)

pub IsIn-up_set_cases : (constraint : Constraint) (a b n : ℕ) → IsIn b (up_set constraint a n) → (b < n) × IsAtLeastAsStrong constraint b a
IsIn-up_set_cases constraint a b n i =
    let two = Contains-filter_cases (λ b. is_at_least_as_strong constraint b a) (count_from 0 n) b i in
    let range = count_from_range 0 n b two.0 in
    (omega (arith, range.1), is_at_least_as_strong-fact constraint a b two.1)

pub up_set_law : UpSetLaw
up_set_law constraint a b n = (
  strong-tells constraint a b (is_at_least_as_strong constraint b a) refl,
  (IsIn-up_set_cases constraint a b n, λ two. IsIn-up_set constraint a b n two.0 two.1),
)

-- ---- filters
pub filter-twice : {X : Type 0} (p q : X → Bool) (xs : List X) → filter q (filter p xs) ≡ filter (λ x. p x && q x) xs
filter-twice p q [] = refl
filter-twice p q (x ∷ xs) = elim (p x) as (λ b. filter q (cond b (x ∷ filter p xs) (filter p xs)) ≡ cond (b && q x) (x ∷ filter (λ x. p x && q x) xs) (filter (λ x. p x && q x) xs)) [
  | true ↦ ap (λ l. cond (q x) (x ∷ l) l) (filter-twice p q xs)
  | false ↦ filter-twice p q xs
]

pub filter-whole : {X : Type 0} (p : X → Bool) (xs : List X) → ((x : X) → Contains xs x → p x ≡ true) → filter p xs ≡ xs
filter-whole p [] h = refl
filter-whole p (x ∷ xs) h = rw (h x (Contains-here x xs)) (ap (λ l. x ∷ l) (filter-whole p xs (λ y i. h y (Contains-later y x xs i))))

-- ---- sets label by label
with_label-least : (x : ℕ) (s : List ℕ) → IsRising (λ x y. x < y) (x ∷ s) → with_label s x ≡ x ∷ s
with_label-least x [] h = refl
with_label-least x (y ∷ s) h = let below : x < y = h.0 in let t : ltb x y ≡ true = grind (arith, nat_tests) in rw t refl

with_label-next : (i n : ℕ) → with_label (count_from i n) (i + n) ≡ count_from i (suc n)
with_label-next i zero = let e : i + 0 ≡ i = omega arith in ap (λ k. k ∷ []) e
with_label-next i (suc n) =
    let e : i + suc n ≡ suc i + n = omega arith in
    let low : ltb (i + suc n) i ≡ false = grind (arith, nat_tests) in
    let apart : eqb (i + suc n) i ≡ false = grind (arith, nat_tests) in
    rw (low, apart) (ap (λ l. i ∷ l) (ap (with_label (count_from (suc i) n)) e ∙ with_label-next (suc i) n))

pub with_label-below : (n : ℕ) → with_label (count_from 0 n) n ≡ count_from 0 (n + 1)
with_label-below n = let e : 0 + n ≡ n = omega arith in let f : n + 1 ≡ suc n = omega arith in ap (with_label (count_from 0 n)) (sym e) ∙ with_label-next 0 n ∙ ap (count_from 0) (sym f)

-- the labels that pass a test, with the least one first
module _ (p : ℕ → Bool) (labels : List ℕ) (label : ℕ) (rises : IsRising (λ x y. x < y) labels) (first : first_of labels ≡ Some label) where
  parts : labels ≡ label ∷ without_label labels label
  parts = first-is labels label rises first

  pub filter-first_out : (rest : List ℕ) → rest ≡ filter p (without_label labels label) → p label ≡ false → rest ≡ filter p labels
  filter-first_out rest e out =
      e ∙ ap (λ b. cond b (label ∷ filter p (without_label labels label)) (filter p (without_label labels label))) (sym out) ∙ ap (filter p) (sym parts)

  pub filter-first_in : (rest : List ℕ) → rest ≡ filter p (without_label labels label) → p label ≡ true → with_label rest label ≡ filter p labels
  filter-first_in rest e passes =
      let whole : filter p labels ≡ label ∷ filter p (without_label labels label) = ap (filter p) parts ∙ ap (λ b. cond b (label ∷ filter p (without_label labels label)) (filter p (without_label labels label))) passes in
      let up : IsRising (λ x y. x < y) (label ∷ filter p (without_label labels label)) = subst (IsRising (λ x y. x < y)) whole (rising-filter (λ x y. x < y) (λ x y z h k. omega arith) p labels rises) in
      ap (λ s. with_label s label) e ∙ with_label-least label (filter p (without_label labels label)) up ∙ sym whole

-- a set without its least label is smaller
pub rest-smaller : (labels rest : List ℕ) (label : ℕ) → IsRising (λ x y. x < y) labels → first_of labels ≡ Some label → rest ≡ without_label labels label → length rest < length labels
rest-smaller labels rest label rises first e = let l = ap length (first-is labels label rises first) in let m = ap length e in omega (arith, l, m)

-- ---- the walk over the configurations
abbrev pub strong_so_far : Constraint → ℕ → ℕ → ℕ → List ℕ
strong_so_far constraint weak n place = filter (λ strong. list_all (may_replace constraint strong weak) (take place constraint.configs)) (count_from 0 n)

-- what passes with all elements passes with the first ones
all-take : {X : Type 0} (p : X → Bool) (k : ℕ) (xs : List X) → list_all p xs ≡ true → list_all p (take k xs) ≡ true
all-take p zero xs h = refl
all-take p (suc k) [] h = refl
all-take p (suc k) (x ∷ xs) h = let two = and-true (p x) (list_all p xs) h in true-and (p x) (list_all p (take k xs)) two.0 (all-take p k xs two.1)

pub so_far-none : (constraint : Constraint) (weak n : ℕ) → count_from 0 n ≡ strong_so_far constraint weak n 0
so_far-none constraint weak n = sym (filter-whole (λ strong. list_all (may_replace constraint strong weak) (take 0 constraint.configs)) (count_from 0 n) (λ x held. refl))

pub so_far-more : (constraint : Constraint) (weak n place : ℕ) (config candidates : List ℕ) → place < length constraint.configs → config ≡ get_or constraint.configs place []
    → candidates ≡ strong_so_far constraint weak n place → filter (λ strong. may_replace constraint strong weak config) candidates ≡ strong_so_far constraint weak n (place + 1)
so_far-more constraint weak n place config candidates below at so_far =
    ap (filter (λ strong. may_replace constraint strong weak config)) so_far
    ∙ filter-twice (λ strong. list_all (may_replace constraint strong weak) (take place constraint.configs)) (λ strong. may_replace constraint strong weak config) (count_from 0 n)
    ∙ filter-alike (λ strong. list_all (may_replace constraint strong weak) (take place constraint.configs) && may_replace constraint strong weak config)
    (λ strong. list_all (may_replace constraint strong weak) (take (place + 1) constraint.configs)) (count_from 0 n)
    (λ strong held. ap (λ c. list_all (may_replace constraint strong weak) (take place constraint.configs) && may_replace constraint strong weak c) at
    ∙ sym (list_all_more (may_replace constraint strong weak) constraint.configs place [] below))

pub so_far-all : (constraint : Constraint) (weak n place : ℕ) → length constraint.configs ≤ place → strong_so_far constraint weak n place ≡ up_set constraint weak n
so_far-all constraint weak n place over =
    filter-alike (λ strong. list_all (may_replace constraint strong weak) (take place constraint.configs)) (λ strong. is_at_least_as_strong constraint strong weak) (count_from 0 n)
    (λ strong held. ap (list_all (may_replace constraint strong weak)) (take_all place constraint.configs over))

-- a label that may not take the place in one configuration isn't as strong
pub not-strong : (constraint : Constraint) (strong weak place : ℕ) (config : List ℕ) (r : Bool) → place < length constraint.configs → config ≡ get_or constraint.configs place []
    → r ≡ may_replace constraint strong weak config → r ≡ false → false ≡ is_at_least_as_strong constraint strong weak
not-strong constraint strong weak place config r below at e fails =
    sym (list_all_at (may_replace constraint strong weak) constraint.configs place [] below (ap (may_replace constraint strong weak) (sym at) ∙ sym e ∙ fails))

-- the candidates are a set
pub IsLabelSet-so_far : (constraint : Constraint) (weak n place : ℕ) (candidates : List ℕ) → n ≤ MAX_LABELS → candidates ≡ strong_so_far constraint weak n place → IsLabelSet MAX_LABELS candidates
IsLabelSet-so_far constraint weak n place candidates few e =
    subst (IsLabelSet MAX_LABELS) (sym e) (IsLabelSet-filter (λ strong. list_all (may_replace constraint strong weak) (take place constraint.configs)) MAX_LABELS (count_from 0 n) (IsLabelSet-count_from 0 n MAX_LABELS (omega arith)))

-- once the weak label alone is left, nothing more is struck out
pub so_far-alone : (constraint : Constraint) (weak n place : ℕ) (candidates : List ℕ) → IsConstraint MAX_LABELS constraint → candidates ≡ strong_so_far constraint weak n place
    → length (without_label candidates weak) ≡ 0 → candidates ≡ up_set constraint weak n
so_far-alone constraint weak n place candidates is so_far alone =
    so_far ∙ filter-alike before (λ strong. is_at_least_as_strong constraint strong weak) (count_from 0 n)
    (λ strong held. same_tests (before strong) (is_at_least_as_strong constraint strong weak) (λ h. to strong held h) (λ h. all-take (may_replace constraint strong weak) place constraint.configs h))
  where
    before : ℕ → Bool
    before strong = list_all (may_replace constraint strong weak) (take place constraint.configs)

    to : (strong : ℕ) → Contains (count_from 0 n) strong → list_all (may_replace constraint strong weak) (take place constraint.configs) ≡ true → is_at_least_as_strong constraint strong weak ≡ true
    to strong held h = elim (eqb strong weak) as (λ b. eqb strong weak ≡ b → is_at_least_as_strong constraint strong weak ≡ true) [
      | true ↦ λ e. subst (λ x. is_at_least_as_strong constraint x weak ≡ true) (sym (eqb-true strong weak e)) (IsAtLeastAsStrong-test constraint weak weak (IsAtLeastAsStrong-refl constraint MAX_LABELS weak is))
      | false ↦ λ e. absurd (
          let in_it : Contains candidates strong = subst (λ l. Contains l strong) (sym so_far) (Contains-filter (λ strong. list_all (may_replace constraint strong weak) (take place constraint.configs)) (count_from 0 n) strong held h) in
          let there : Contains (without_label candidates weak) strong = Contains-filter (λ y. not (eqb y weak)) candidates strong in_it (ap not e) in
          omega (arith, there.1, alone))
    ] refl
