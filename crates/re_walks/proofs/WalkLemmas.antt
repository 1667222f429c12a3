-- What walks over lists of labels tell.
use Rattle.std.proofs.Common.{◌≡◌, ℕ, zero, suc, ◌<◌, ◌≤◌, ◌+◌, ◌-◌, Bool, true, false, cond, eqb, ltb, ◌&&◌, List, [], ◌∷◌, ◌++◌, length, take, Option, None, Some, ◌⊎◌, inl, inr, refl, sym, ap, ◌∙◌, subst, arith, length-append, true≢false}
use Rattle.std.specs.List.{AllByRecursion}
use Rattle.std.proofs.lemmas.Bool.Decides.{nat_tests}
use Rattle.re_labels.proofs.Before.{IsBefore-cases, IsBefore-head, IsBefore-tail}
use Rattle.re_labels.proofs.Tests.{eqb-same, eqb-true, true-and}
use Rattle.re_labels.specs.Lists.{IsBefore}
use Rattle.re_walks.specs.Laws.{WalkLaw}
use Rattle.re_walks.specs.Walking.{BeginningsPass, IsAssignment, NonePasses, Tells, cut, deeper, following, found, nowhere, or_raised, raised, walk, walk_from}

-- ---- the order of lists
-- the labels begin the list
abbrev Begins : List ℕ → List ℕ → Type 0
Begins labels list = take (length labels) list ≡ labels

not_before-nil : (list : List ℕ) → IsBefore list [] → ⊥
not_before-nil [] h = cc
not_before-nil (x ∷ list) h = cc

-- with one label more in front
in_front : (x y : ℕ) (labels list : List ℕ) → y ≡ x → IsBefore list labels ⊎ Begins labels list → IsBefore (y ∷ list) (x ∷ labels) ⊎ Begins (x ∷ labels) (y ∷ list)
in_front x y labels list same (inl before) = inl (IsBefore-tail y x list labels same before)
in_front x y labels list same (inr begins) = inr (λ i. same i ∷ begins i)

lower_or_same : (x y : ℕ) → y < suc x → (y < x) ⊎ (y ≡ x)
lower_or_same x y l = grind arith

-- a list that is as long comes before labels that can't be raised, or begins with them
nothing_raised : (n : ℕ) (labels list : List ℕ) → raised n labels ≡ None → AllByRecursion (λ label. label < n) list → length labels ≤ length list → IsBefore list labels ⊎ Begins labels list
nothing_raised n [] list none low long = inr refl
nothing_raised n (x ∷ labels) [] none low long = absurd (omega arith)
nothing_raised n (x ∷ labels) (y ∷ list) none low long = go (raised n labels) refl none (λ e. nothing_raised n labels list e low.1 (omega arith))
  where
    least : (b : Bool) → b ≡ ltb (suc x) n → cond b (Some (suc x ∷ [])) None ≡ None → n ≤ suc x
    least true e h = absurd (let there : Some (suc x ∷ []) ≡ None = h in cc)
    least false e h = grind (arith, nat_tests)

    go : (o : Option (List ℕ)) → o ≡ raised n labels → or_raised n x o ≡ None → (raised n labels ≡ None → IsBefore list labels ⊎ Begins labels list) → IsBefore (y ∷ list) (x ∷ labels) ⊎ Begins (x ∷ labels) (y ∷ list)
    go (Some next) e h others = absurd (let there : Some (x ∷ next) ≡ None = h in cc)
    go None e h others =
        let most = least (ltb (suc x) n) refl h in
        elim (lower_or_same x y (omega (arith, most, low.0))) [
          | inl less ↦ inl (IsBefore-head y x list labels less)
          | inr same ↦ in_front x y labels list same (others (sym e))
        ]

-- one that comes before what they are raised to does so, too
raised_behind : (n : ℕ) (labels next list : List ℕ) → raised n labels ≡ Some next → AllByRecursion (λ label. label < n) list → length labels ≤ length list → IsBefore list next → IsBefore list labels ⊎ Begins labels list
raised_behind n [] next list some low long before = absurd (let there : None ≡ Some next = some in cc)
raised_behind n (x ∷ labels) next [] some low long before = absurd (omega arith)
raised_behind n (x ∷ labels) next (y ∷ list) some low long before = go (raised n labels) refl some (λ more e earlier. raised_behind n labels more list e low.1 (omega arith) earlier)
  where
    last : (b : Bool) → b ≡ ltb (suc x) n → None ≡ raised n labels → cond b (Some (suc x ∷ [])) None ≡ Some next → IsBefore (y ∷ list) (x ∷ labels) ⊎ Begins (x ∷ labels) (y ∷ list)
    last false e none h = absurd (let there : None ≡ Some next = h in cc)
    last true e none h =
        let is : next ≡ suc x ∷ [] = (let there : Some (suc x ∷ []) ≡ Some next = h in cc) in
        elim (IsBefore-cases y (suc x) list [] (subst (IsBefore (y ∷ list)) is before)) [
          | inl less ↦ elim (lower_or_same x y less) [
            | inl lower ↦ inl (IsBefore-head y x list labels lower)
            | inr same ↦ in_front x y labels list same (nothing_raised n labels list (sym none) low.1 (omega arith))
          ]
          | inr same ↦ absurd (not_before-nil list same.1)
        ]

    go : (o : Option (List ℕ)) → o ≡ raised n labels → or_raised n x o ≡ Some next → ((more : List ℕ) → raised n labels ≡ Some more → IsBefore list more → IsBefore list labels ⊎ Begins labels list)
        → IsBefore (y ∷ list) (x ∷ labels) ⊎ Begins (x ∷ labels) (y ∷ list)
    go None e h others = last (ltb (suc x) n) refl e h
    go (Some more) e h others =
        let is : next ≡ x ∷ more = (let there : Some (x ∷ more) ≡ Some next = h in cc) in
        elim (IsBefore-cases y x list more (subst (IsBefore (y ∷ list)) is before)) [
          | inl less ↦ inl (IsBefore-head y x list labels less)
          | inr same ↦ in_front x y labels list same.0 (others more (sym e) same.1)
        ]

-- a longer list that comes before the labels with a 0 behind them comes before them
deeper_behind : (labels list : List ℕ) → length labels < length list → IsBefore list (labels ++ 0 ∷ []) → IsBefore list labels
deeper_behind labels [] long before = absurd (omega arith)
deeper_behind [] (y ∷ list) long before = elim (IsBefore-cases y 0 list [] before) [ inl less ↦ absurd (omega (arith, less)) | inr same ↦ absurd (not_before-nil list same.1) ]
deeper_behind (x ∷ labels) (y ∷ list) long before =
    elim (IsBefore-cases y x list (labels ++ 0 ∷ []) before) [
      | inl less ↦ IsBefore-head y x list labels less
      | inr same ↦ IsBefore-tail y x list labels same.0 (deeper_behind labels list (omega arith) same.1)
    ]

-- ---- what follows has labels below n, too
raised_low : (n : ℕ) (labels next : List ℕ) → raised n labels ≡ Some next → AllByRecursion (λ label. label < n) labels → AllByRecursion (λ label. label < n) next × (length next ≤ length labels)
raised_low n [] next some low = absurd (let there : None ≡ Some next = some in cc)
raised_low n (x ∷ labels) next some low = go (raised n labels) refl some (λ more e. raised_low n labels more e low.1)
  where
    last : (b : Bool) → b ≡ ltb (suc x) n → cond b (Some (suc x ∷ [])) None ≡ Some next → AllByRecursion (λ label. label < n) next × (length next ≤ suc (length labels))
    last false e h = absurd (let there : None ≡ Some next = h in cc)
    last true e h =
        let is : suc x ∷ [] ≡ next = (let there : Some (suc x ∷ []) ≡ Some next = h in cc) in
        let less : suc x < n = grind (arith, nat_tests) in
        subst (λ l. AllByRecursion (λ label. label < n) l × (length l ≤ suc (length labels))) is ((less, tt), omega arith)

    go : (o : Option (List ℕ)) → o ≡ raised n labels → or_raised n x o ≡ Some next → ((more : List ℕ) → raised n labels ≡ Some more → AllByRecursion (λ label. label < n) more × (length more ≤ length labels))
        → AllByRecursion (λ label. label < n) next × (length next ≤ suc (length labels))
    go None e h others = last (ltb (suc x) n) refl h
    go (Some more) e h others =
        let is : x ∷ more ≡ next = (let there : Some (x ∷ more) ≡ Some next = h in cc) in
        let (lower, short) = others more (sym e) in
        subst (λ l. AllByRecursion (λ label. label < n) l × (length l ≤ suc (length labels))) is ((low.0, lower), omega (arith, short))

low_more : (n x : ℕ) (labels : List ℕ) → AllByRecursion (λ label. label < n) labels → x < n → AllByRecursion (λ label. label < n) (labels ++ x ∷ [])
low_more n x [] low l = (l, tt)
low_more n x (y ∷ labels) low l = (low.0, low_more n x labels low.1 l)

-- ---- walks
module _ (passes : List ℕ → Bool) (n places : ℕ) (begin : BeginningsPass passes n places) where
  -- the labels are below n and not too many, and no assignment before them passes
  record Settled (labels : List ℕ) : Type 0 where
    low : AllByRecursion (λ label. label < n) labels
    short : length labels ≤ places
    before : (other : List ℕ) → IsAssignment n places other → IsBefore other labels → passes other ≡ false

  abbrev State : Option (List ℕ) → Type 0
  State None = NonePasses passes n places
  State (Some labels) = Settled labels

  -- what begins with labels that don't pass doesn't, too
  fails : (labels other : List ℕ) → passes labels ≡ false → IsAssignment n places other → Begins labels other → passes other ≡ false
  fails labels other fail is begins = go (passes other) refl
    where
      go : (b : Bool) → b ≡ passes other → passes other ≡ false
      go false e = sym e
      go true e = absurd (true≢false (sym (begin other is (sym e) (length labels)) ∙ ap passes begins ∙ fail))

  behind : (labels : List ℕ) → Settled labels → passes labels ≡ false → (o : Option (List ℕ)) → raised n labels ≡ o → State o
  behind labels settled fail None e =
      λ other is. elim (nothing_raised n labels other e is.1 (omega (arith, settled.short, is.0))) [
        | inl before ↦ settled.before other is before
        | inr begins ↦ fails labels other fail is begins
      ]
  behind labels settled fail (Some next) e =
      let (low, short) = raised_low n labels next e settled.low in
      record {
        low = low;
        short = omega (arith, short, settled.short);
        before = λ other is before. elim (raised_behind n labels next other e is.1 (omega (arith, settled.short, is.0)) before) [
          | inl earlier ↦ settled.before other is earlier
          | inr begins ↦ fails labels other fail is begins
        ];
      }

  below : (labels : List ℕ) → Settled labels → length labels < places → (b : Bool) → b ≡ ltb 0 n → State (cond b (Some (labels ++ 0 ∷ [])) None)
  below labels settled less true e =
      let some : 0 < n = grind (arith, nat_tests) in
      record {
        low = low_more n 0 labels settled.low some;
        short = omega (arith, length-append labels (0 ∷ []), less);
        before = λ other is before. settled.before other is (deeper_behind labels other (omega (arith, less, is.0)) before);
      }
  below labels settled less false e = none
    where
      zero_n : n ≤ 0
      zero_n = grind (arith, nat_tests)

      none : NonePasses passes n places
      none [] is = absurd (omega (arith, is.0, less))
      none (x ∷ other) is = absurd (omega (arith, is.1.0, zero_n))

  tells : (tries : ℕ) (o : Option (List ℕ)) → State o → Tells passes n places (walk_from passes n places tries o)
  unfolding walk_from
  tells zero None state = state
  tells zero (Some labels) state = tt
  tells (suc tries) None state = state
  tells (suc tries) (Some labels) state = go (passes labels) refl (eqb (length labels) places) refl (λ o s. tells tries o s)
    where
      go : (b : Bool) → b ≡ passes labels → (full : Bool) → full ≡ eqb (length labels) places
          → ((o : Option (List ℕ)) → State o → Tells passes n places (walk_from passes n places tries o))
          → Tells passes n places (cond (b && full) (found labels) (walk_from passes n places tries (following n b labels)))
      go true e true f others = record {
        assignment = (eqb-true (length labels) places (sym f), state.low);
        meets = sym e;
        first = state.before;
      }
      go true e false f others =
          let less : length labels < places = (let short : length labels ≤ places = state.short in grind (arith, nat_tests)) in
          others (deeper n labels) (below labels state less (ltb 0 n) refl)
      go false e full f others = others (raised n labels) (behind labels state (sym e) (raised n labels) refl)

pub walk_law : WalkLaw
walk_law passes n places tries begin = tells passes n places begin tries (Some []) (record { low = tt; short = omega arith; before = λ other is before. absurd (not_before-nil other before) })

-- ---- the loop of a walk
module _ (passes : List ℕ → Bool) (n places tries : ℕ) where
  step_is : (i : ℕ) (labels : List ℕ) (b : Bool) → i < tries → b ≡ passes labels
      → walk_from passes n places (tries - i) (Some labels) ≡ cond (b && eqb (length labels) places) (found labels) (walk_from passes n places (tries - (i + 1)) (following n b labels))
  unfolding walk_from
  step_is i labels b less e =
      let more : tries - i ≡ suc (tries - (i + 1)) = omega (arith, less) in
      ap (λ t. walk_from passes n places t (Some labels)) more
      ∙ (λ k. cond (sym e k && eqb (length labels) places) (found labels) (walk_from passes n places (tries - (i + 1)) (following n (sym e k) labels)))

  pub walk-found : (i : ℕ) (labels : List ℕ) (b : Bool) → walk passes n places tries ≡ walk_from passes n places (tries - i) (Some labels) → i < tries → b ≡ passes labels → b ≡ true → length labels ≡ places
      → walk passes n places tries ≡ found labels
  walk-found i labels b so_far less e yes_b full =
      let t : (b && eqb (length labels) places) ≡ true = true-and b (eqb (length labels) places) yes_b (ap (λ m. eqb m places) full ∙ eqb-same places) in
      so_far ∙ step_is i labels b less e ∙ ap (λ t. cond t (found labels) (walk_from passes n places (tries - (i + 1)) (following n b labels))) t

  pub walk-on : (i : ℕ) (labels : List ℕ) (b : Bool) (o : Option (List ℕ)) → walk passes n places tries ≡ walk_from passes n places (tries - i) (Some labels) → i < tries → b ≡ passes labels
      → (b && eqb (length labels) places) ≡ false → following n b labels ≡ o → walk passes n places tries ≡ walk_from passes n places (tries - (i + 1)) o
  walk-on i labels b o so_far less e fails same =
      so_far ∙ step_is i labels b less e ∙ ap (λ t. cond t (found labels) (walk_from passes n places (tries - (i + 1)) (following n b labels))) fails ∙ ap (walk_from passes n places (tries - (i + 1))) same

  pub walk-none : (t : ℕ) → walk passes n places tries ≡ walk_from passes n places t None → walk passes n places tries ≡ nowhere
  unfolding walk_from
  walk-none zero e = e
  walk-none (suc t) e = e

  pub walk-cut : (i : ℕ) (labels : List ℕ) → walk passes n places tries ≡ walk_from passes n places (tries - i) (Some labels) → tries ≤ i → walk passes n places tries ≡ cut
  unfolding walk_from
  walk-cut i labels e over = e ∙ ap (λ t. walk_from passes n places t (Some labels)) (let z : tries - i ≡ 0 = omega (arith, over) in z)

-- a label for some of the places, below n
pub record Partial (n places : ℕ) (labels : List ℕ) : Type 0 where
  pub low : AllByRecursion (λ label. label < n) labels
  pub few : length labels ≤ places

pub follow-partial : (n places : ℕ) (b : Bool) (labels next : List ℕ) → Partial n places labels → (b && eqb (length labels) places) ≡ false → following n b labels ≡ Some next → Partial n places next
follow-partial n places false labels next is open_ e =
    let (low, short) = raised_low n labels next e is.low in
    record { low = low; few = omega (arith, short, is.few) }
follow-partial n places true labels next is open_ e = go (ltb 0 n) refl e
  where
    go : (b : Bool) → b ≡ ltb 0 n → cond b (Some (labels ++ 0 ∷ [])) None ≡ Some next → Partial n places next
    go false f h = absurd (let there : None ≡ Some next = h in cc)
    go true f h =
        let same : labels ++ 0 ∷ [] ≡ next = (let there : Some (labels ++ 0 ∷ []) ≡ Some next = h in cc) in
        let some : 0 < n = grind (arith, nat_tests) in
        let few : length labels ≤ places = is.few in
        let short : length labels < places = grind (arith, nat_tests) in
        subst (Partial n places) same (record { low = low_more n 0 labels is.low some; few = omega (arith, length-append labels (0 ∷ []), short) })

pub low-labels : (n m : ℕ) (labels : List ℕ) → n ≤ m → AllByRecursion (λ label. label < n) labels → AllByRecursion (λ label. label < m) labels
low-labels n m [] l low = tt
low-labels n m (x ∷ labels) l low = (omega (arith, l, low.0), low-labels n m labels l low.1)

-- ---- a list to go on from
pub open-fails : (b full : Bool) → b ≡ false → (b && full) ≡ false
open-fails false full e = refl
open-fails true full e = absurd (true≢false e)

pub open-short : (b : Bool) (m places : ℕ) → (m ≡ places → ⊥) → (b && eqb m places) ≡ false
open-short false m places other = refl
open-short true m places other = go (eqb m places) refl
  where
    go : (b : Bool) → b ≡ eqb m places → b ≡ false
    go false e = refl
    go true e = absurd (other (eqb-true m places (sym e)))

pub following-is : (n m : ℕ) (b more : Bool) (old new : List ℕ) (r : Bool) → m ≡ n → following m b old ≡ cond more (Some new) None → more ≡ r → following n b old ≡ cond r (Some new) None
following-is n m b more old new r same e is = ap (λ k. following k b old) (sym same) ∙ e ∙ ap (λ t. cond t (Some new) None) is
