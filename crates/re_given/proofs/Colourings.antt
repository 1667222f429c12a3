-- Proper colourings with many colours are unavoidable.
use Rattle.std.proofs.Common.{◌≡◌, ℕ, zero, suc, ◌+◌, ◌-◌, ◌*◌, ◌≤◌, ◌<◌, Bool, true, false, cond, eqb, ltb, inl, inr, List, [], ◌∷◌, filter, map, length, get_or, subst, refl, sym, ◌∙◌, ap, arith}
use Rattle.std.specs.Prelude.{Contains, not, replicate, ◌⊎◌}
use Rattle.std.specs.List.{AllByRecursion, AllZip, list_any}
use Rattle.std.proofs.Math.Nat.{mul-suc}
use Rattle.std.proofs.lemmas.Bool.Decides.{nat_tests}
use Rattle.std.proofs.lemmas.List.{get_or-replicate, length-map, length-replicate, map-id}
use Rattle.std.proofs.lemmas.List.Elements.{Contains-get_or}
use Rattle.std.proofs.lemmas.List.Sums.{count_by-le-length, length-filter}
use Rattle.re_labels.proofs.LawsOfRows.{multisets_law}
use Rattle.re_labels.proofs.NextMultisets.{below-replicate}
use Rattle.re_labels.proofs.Rearranging.{Contains-Rearranged, Rearranged-sym, length-AllZip}
use Rattle.re_labels.proofs.Sorting.{Rearranged-sorted, length-sorted, sorted_again, sorted_rises}
use Rattle.re_labels.specs.Configs.{IsConfig, sorted, support_of}
use Rattle.re_labels.specs.Orders.{multisets}
use Rattle.re_labels.specs.Rearranging.{Rearranged, chained, kept, swapped, unmoved}
use Rattle.re_labels.proofs.Replicated.{alike_rise, alike_support}
use Rattle.re_given.proofs.AvoidedInputs.{fixed_point_unavoidable, lower_bound_unavoidable, shorter_bound_unavoidable}
use Rattle.re_given.proofs.ChainGiven.{exchanged_by-twice}
use Rattle.re_given.specs.Given.{SolvableGiven}
use Rattle.re_given.specs.Inputs.{IsInput}
use Rattle.re_given.specs.Unavoidable.{IsMet, IsUnavoidable, colouring, reached}
use Rattle.re_labels.proofs.Before.{IsBefore-trans, same_list-refl, same_list-same}
use Rattle.re_labels.proofs.Membership.{AllByRecursion-contains, AllByRecursion-from_contains, AllByRecursion-weaker, Contains-cases, Contains-count_from, Contains-filter, Contains-filter_cases, Contains-here, Contains-later, Contains-map, Contains-none, any_found, any_true, count_from_range, length-count_from}
use Rattle.re_labels.proofs.Numbers.{IsLabelSet-count_from, IsLabelSet-filter, rising_tail}
use Rattle.re_labels.proofs.Rising.{rising-filter}
use Rattle.re_labels.proofs.Sets.{IsIn-has, has-IsIn}
use Rattle.re_labels.proofs.Tests.{below-true, eqb-same, eqb-true, true-below}
use Rattle.re_labels.specs.Lists.{IsBefore, IsRising, count_from, same_list}
use Rattle.re_labels.specs.Sets.{IsLabelSet, has, with_label}
use Rattle.re_laws.specs.Chains.{IsLowerChain}
use Rattle.re_problem.specs.NamedProblems.{OccursIn}
use Rattle.re_problem.specs.Problems.{IsProblem, Problem}
use Rattle.re_problem.specs.Steps.{Becomes, IsRelaxed}
use Rattle.re_problem.specs.Zero.{Zero}
use Rattle.re_labels.specs.Constraints.{IsConstraint}

-- ---- many numbers with one image
length-parts : (t : ℕ → Bool) (xs : List ℕ) → length (filter t xs) + length (filter (λ x. not (t x)) xs) ≡ length xs
length-parts t [] = refl
length-parts t (x ∷ xs) = at (t x) (length-parts t xs)
  where
    at : (b : Bool) → length (filter t xs) + length (filter (λ x. not (t x)) xs) ≡ length xs → length (cond b (x ∷ filter t xs) (filter t xs)) + length (cond (not b) (x ∷ filter (λ x. not (t x)) xs) (filter (λ x. not (t x)) xs)) ≡ suc (length xs)
    at true e = omega arith
    at false e = omega arith

-- where more than m numbers come to each of the images, more than m come to one of them
pub pigeonhole : (f : ℕ → List ℕ) (m c : ℕ) (ys : List (List ℕ)) (xs : List ℕ) → IsLabelSet c xs → ((x : ℕ) → Contains xs x → Contains ys (f x)) → m * length ys < length xs
    → (y : List ℕ) × (zs : List ℕ) × IsLabelSet c zs × (m < length zs) × ((z : ℕ) → Contains zs z → f z ≡ y)
pigeonhole f m c [] [] set each l = absurd (omega arith)
pigeonhole f m c [] (x ∷ xs) set each l = absurd (Contains-none (f x) (each x (Contains-here x xs)))
pigeonhole f m c (y ∷ ys) xs set each l = go (ltb m (length these)) refl (λ few.
    let product : m * suc (length ys) ≡ m * length ys + m = mul-suc m (length ys) in
    pigeonhole f m c ys rest (IsLabelSet-filter (λ x. not (same_list (f x) y)) c xs set) others (omega (arith, parts, product, few, l)))
  where
    these : List ℕ
    these = filter (λ x. same_list (f x) y) xs

    rest : List ℕ
    rest = filter (λ x. not (same_list (f x) y)) xs

    parts : length these + length rest ≡ length xs
    parts = length-parts (λ x. same_list (f x) y) xs

    same : (z : ℕ) → Contains these z → f z ≡ y
    same z held = same_list-same (f z) y (Contains-filter_cases (λ x. same_list (f x) y) xs z held).1

    others : (x : ℕ) → Contains rest x → Contains ys (f x)
    others x held =
        let (there, passes) = Contains-filter_cases (λ x. not (same_list (f x) y)) xs x held in
        which x passes (Contains-cases (f x) y ys (each x there))
      where
        which : (x : ℕ) → not (same_list (f x) y) ≡ true → (f x ≡ y) ⊎ Contains ys (f x) → Contains ys (f x)
        which x passes (inl e) =
            let one : same_list (f x) y ≡ true = subst (λ v. same_list (f x) v ≡ true) e (same_list-refl (f x)) in
            absurd (cc)
        which x passes (inr there) = there

    go : (b : Bool) → ltb m (length these) ≡ b → (length these ≤ m → (y : List ℕ) × (zs : List ℕ) × IsLabelSet c zs × (m < length zs) × ((z : ℕ) → Contains zs z → f z ≡ y)) → (y : List ℕ) × (zs : List ℕ) × IsLabelSet c zs × (m < length zs) × ((z : ℕ) → Contains zs z → f z ≡ y)
    go true more further = (y, these, IsLabelSet-filter (λ x. same_list (f x) y) c xs set, below-true m (length these) more, same)
    go false more further = further (grind (arith, nat_tests))

-- ---- colours
rising_support : (xs : List ℕ) → IsRising (λ x y. x < y) xs → support_of xs ≡ xs
rising_support [] h = refl
rising_support (x ∷ []) h = refl
rising_support (x ∷ y ∷ xs) h =
    let below : ltb x y ≡ true = true-below x y h.0 in
    ap (λ s. with_label s x) (rising_support (y ∷ xs) h.1) ∙ ap (λ b. cond b (x ∷ y ∷ xs) (cond (eqb x y) (y ∷ xs) (y ∷ with_label xs x))) below

pub rising_weakly : (xs : List ℕ) → IsRising (λ x y. x < y) xs → IsRising (λ x y. x ≤ y) xs
rising_weakly [] h = tt
rising_weakly (x ∷ []) h = tt
rising_weakly (x ∷ y ∷ xs) h = (let l = h.0 in omega arith, rising_weakly (y ∷ xs) h.1)

-- all edges of an active node may have one colour
pub colour_there : (a p c x : ℕ) → 1 ≤ a → x < c → Contains (colouring a p c).active.configs (replicate a x)
colour_there zero p c x some l = absurd (omega arith)
colour_there (suc a) p c x some l =
    let one : eqb (length (support_of (replicate (suc a) x))) 1 ≡ true = ap (λ (s : List ℕ). eqb (length s) 1) (alike_support a x) in
    Contains-filter (λ edges. eqb (length (support_of edges)) 1) (multisets (suc a) 0 c) (replicate (suc a) x)
    (((multisets_law (suc a) c).1 (replicate (suc a) x)).1 (record { count = length-replicate (suc a) x; below = below-replicate (suc a) x c l; ascends = alike_rise (suc a) x })) one

-- and those of a passive node any set of colours
pub colours_there : (a p c : ℕ) (ws : List ℕ) → length ws ≡ p → IsLabelSet c ws → Contains (colouring a p c).passive.configs ws
colours_there a p c ws count set =
    let different : eqb (length (support_of ws)) (length ws) ≡ true = ap (λ (s : List ℕ). eqb (length s) (length ws)) (rising_support ws set.0) ∙ eqb-same (length ws) in
    Contains-filter (λ edges. eqb (length (support_of edges)) (length edges)) (multisets p 0 c) ws
    (((multisets_law p c).1 ws).1 (record { count = count; below = set.1; ascends = rising_weakly ws set.0 })) different

-- the first of a rising list is below the others
pub first_below : (x : ℕ) (xs : List ℕ) → IsRising (λ x y. x < y) (x ∷ xs) → (z : ℕ) → Contains xs z → x < z
first_below x [] rises z held = absurd (Contains-none z held)
first_below x (y ∷ xs) rises z held = elim (Contains-cases z y xs held) [
  | inl e ↦ (let l = rises.0 in omega (arith, l, e))
  | inr later ↦ (let l = rises.0 in let m = first_below y xs rises.1 z later in omega (arith, l, m))
]

less_trans : (x y z : ℕ) → x < y → y < z → x < z
less_trans x y z l m = omega (arith, l, m)

-- ---- different colours from sets with enough of them
-- all are different
abbrev pub AreApart : List ℕ → Type 0
AreApart [] = Unit {0}
AreApart (x ∷ xs) = (Contains xs x → ⊥) × AreApart xs

-- without one label a rising list has at most one less
none_less : (t : ℕ) (xs : List ℕ) → ((x : ℕ) → Contains xs x → x ≡ t → ⊥) → length xs ≤ length (filter (λ x. not (eqb x t)) xs)
none_less t [] other = omega arith
none_less t (x ∷ xs) other = at (eqb x t) refl (none_less t xs (λ z held. other z (Contains-later z x xs held)))
  where
    at : (b : Bool) → eqb x t ≡ b → length xs ≤ length (filter (λ x. not (eqb x t)) xs) → suc (length xs) ≤ length (cond (not b) (x ∷ filter (λ x. not (eqb x t)) xs) (filter (λ x. not (eqb x t)) xs))
    at true e l = absurd (other x (Contains-here x xs) (eqb-true x t e))
    at false e l = omega (arith, l)

once_less : (t : ℕ) (xs : List ℕ) → IsRising (λ x y. x < y) xs → length xs ≤ suc (length (filter (λ x. not (eqb x t)) xs))
once_less t [] rises = omega arith
once_less t (x ∷ xs) rises = at (eqb x t) refl (once_less t xs (rising_tail x xs rises))
  where
    above : (z : ℕ) → Contains xs z → x < z
    above z held = first_below x xs rises z held

    at : (b : Bool) → eqb x t ≡ b → length xs ≤ suc (length (filter (λ x. not (eqb x t)) xs)) → suc (length xs) ≤ suc (length (cond (not b) (x ∷ filter (λ x. not (eqb x t)) xs) (filter (λ x. not (eqb x t)) xs)))
    at true e l = let same : x ≡ t = eqb-true x t e in omega (arith, none_less t xs (λ z held f. let low : x < z = above z held in omega (arith, low, f, same)))
    at false e l = omega (arith, l)

-- a label of a set that isn't one of fewer taken ones
fresh : (c : ℕ) (taken set : List ℕ) → IsLabelSet c set → length taken < length set → (z : ℕ) × Contains set z × (Contains taken z → ⊥)
fresh c [] [] is l = absurd (omega arith)
fresh c [] (z ∷ set) is l = (z, Contains-here z set, Contains-none z)
fresh c (t ∷ taken) set is l =
    let rest : List ℕ = filter (λ x. not (eqb x t)) set in
    let (z, held, none) = fresh c taken rest (IsLabelSet-filter (λ x. not (eqb x t)) c set is) (omega (arith, l, once_less t set is.0)) in
    let (there, passes) = Contains-filter_cases (λ x. not (eqb x t)) set z held in
    (z, there, λ at. elim (Contains-cases z t taken at) [ inl e ↦ not_itself z t passes e | inr later ↦ none later ])
  where
    not_itself : (z t : ℕ) → not (eqb z t) ≡ true → z ≡ t → ⊥
    not_itself z t passes e = let one : eqb z t ≡ true = subst (λ w. eqb z w ≡ true) e (eqb-same z) in cc

-- one from each set, all different, and none of the taken ones
picked : (c : ℕ) (having : ℕ → List ℕ) (drawn taken : List ℕ) → ((y : ℕ) → Contains drawn y → IsLabelSet c (having y) × (length drawn + length taken ≤ length (having y)))
    → (zs : List ℕ) × AllZip (λ z y. Contains (having y) z) zs drawn × AreApart zs × ((z : ℕ) → Contains zs z → Contains taken z → ⊥)
picked c having [] taken each = ([], tt, tt, λ z held. absurd (Contains-none z held))
picked c having (y ∷ drawn) taken each =
    let (set, enough) = each y (Contains-here y drawn) in
    let (z, there, none) = fresh c taken (having y) set (omega (arith, enough)) in
    let (zs, zip, apart, free) = picked c having drawn (z ∷ taken) (λ v held. let (is, many) = each v (Contains-later v y drawn held) in (is, omega (arith, many))) in (
      z ∷ zs,
      (there, zip),
      (λ held. free z held (Contains-here z taken), apart),
      λ v held at. elim (Contains-cases v z zs held) [ inl e ↦ none (subst (Contains taken) e at) | inr later ↦ free v later (Contains-later v z taken at) ],
    )

-- different labels in order are a label set
AreApart-Rearranged : {xs ys : List ℕ} → Rearranged xs ys → AreApart xs → AreApart ys
AreApart-Rearranged unmoved apart = apart
AreApart-Rearranged (kept {x = x} {xs = xs} {ys = ys} rest) apart = (λ held. apart.0 (Contains-Rearranged x (Rearranged-sym rest) held), AreApart-Rearranged rest apart.1)
AreApart-Rearranged (swapped {x = x} {y = y} {xs = xs}) apart = (
  λ held. elim (Contains-cases y x xs held) [ inl e ↦ apart.0 (subst (Contains (y ∷ xs)) e (Contains-here y xs)) | inr later ↦ apart.1.0 later ],
  (λ held. apart.0 (Contains-later x y xs held), apart.1.1),
)
AreApart-Rearranged (chained first next) apart = AreApart-Rearranged next (AreApart-Rearranged first apart)

strictly : (xs : List ℕ) → IsRising (λ x y. x ≤ y) xs → AreApart xs → IsRising (λ x y. x < y) xs
strictly [] rises apart = tt
strictly (x ∷ []) rises apart = tt
strictly (x ∷ y ∷ xs) rises apart = (less (ltb x y) refl, strictly (y ∷ xs) rises.1 apart.1)
  where
    less : (b : Bool) → ltb x y ≡ b → x < y
    less true e = below-true x y e
    less false e =
        let high : y ≤ x = grind (arith, nat_tests) in
        let low : x ≤ y = rises.0 in
        let same : y ≡ x = omega (arith, high, low) in
        absurd (apart.0 (subst (Contains (y ∷ xs)) same (Contains-here y xs)))

unequal : (y x : ℕ) → eqb y x ≡ false → y ≡ x → ⊥
unequal y x e f = let one : eqb y x ≡ true = subst (λ w. eqb y w ≡ true) f (eqb-same y) in cc

-- without a label that it has a list is shorter
without : (x : ℕ) (ys : List ℕ) → Contains ys x → suc (length (filter (λ z. not (eqb z x)) ys)) ≤ length ys
without x [] held = absurd (Contains-none x held)
without x (y ∷ ys) held = go (eqb y x) refl (λ later. without x ys later)
  where
    shorter : length (filter (λ z. not (eqb z x)) ys) ≤ length ys
    shorter = omega (arith, length-filter (λ z. not (eqb z x)) ys, count_by-le-length (λ z. not (eqb z x)) ys)

    go : (b : Bool) → eqb y x ≡ b → (Contains ys x → suc (length (filter (λ z. not (eqb z x)) ys)) ≤ length ys) → suc (length (cond (not b) (y ∷ filter (λ z. not (eqb z x)) ys) (filter (λ z. not (eqb z x)) ys))) ≤ suc (length ys)
    go true e rest = omega (arith, shorter)
    go false e rest = elim (Contains-cases x y ys held) [
      | inl same ↦ absurd (unequal y x e (sym same))
      | inr later ↦ (let fewer = rest later in omega (arith, fewer))
    ]

-- ---- a colour whose list is met
module _ (a p c n : ℕ) (some : 1 ≤ a) (many : (p - 1) * n < c) (image : List ℕ → List ℕ)
    (each : (config : List ℕ) → Contains (colouring a p c).active.configs config → (length (image config) ≡ a) × AllByRecursion (λ x. x < n) (image config)) where
  -- the list of a colour
  abbrev list_of : ℕ → List ℕ
  list_of x = image (replicate a x)

  -- the colours whose lists have the label
  abbrev having : ℕ → List ℕ
  having y = filter (λ x. has (list_of x) y) (count_from 0 c)

  having_set : (y : ℕ) → IsLabelSet c (having y)
  having_set y = IsLabelSet-filter (λ x. has (list_of x) y) c (count_from 0 c) (IsLabelSet-count_from 0 c c (omega arith))

  list_below : (x : ℕ) → x < c → AllByRecursion (λ y. y < n) (list_of x)
  list_below x l = (each (replicate a x) (colour_there a p c x some l)).1

  -- whether fewer than p colours have the label
  abbrev is_rare : ℕ → Bool
  is_rare y = ltb (length (having y)) p

  -- the first such label of a colour's list
  abbrev pick : ℕ → ℕ
  pick x = get_or (filter is_rare (list_of x)) 0 0

  pick_is : (x : ℕ) → list_any is_rare (list_of x) ≡ true → Contains (list_of x) (pick x) × (is_rare (pick x) ≡ true)
  pick_is x e =
      let (y, held, rare) = any_found is_rare (list_of x) e in
      let (k, range, same) = Contains-filter is_rare (list_of x) y held rare in
      Contains-filter_cases is_rare (list_of x) (pick x) (Contains-get_or (filter is_rare (list_of x)) 0 0 (omega (arith, range)))

  -- a set within another one has no more labels
  sub_length : (xs ys : List ℕ) → IsRising (λ x y. x < y) ys → IsRising (λ x y. x < y) xs → ((x : ℕ) → Contains xs x → Contains ys x) → length xs ≤ length ys
  sub_length [] ys rises xs_rise within = omega arith
  sub_length (x ∷ xs) ys rises xs_rise within =
      let rest : List ℕ = filter (λ z. not (eqb z x)) ys in
      let fewer : length xs ≤ length rest = sub_length xs rest (rising-filter (λ x y. x < y) less_trans (λ z. not (eqb z x)) ys rises) (rising_tail x xs xs_rise)
      (λ z held. Contains-filter (λ z. not (eqb z x)) ys z (within z (Contains-later z x xs held)) (other z (first_below x xs xs_rise z held))) in
      omega (arith, fewer, without x ys (within x (Contains-here x xs)))
    where
      other : (z : ℕ) → x < z → not (eqb z x) ≡ true
      other z l = at (eqb z x) refl
        where
          at : (b : Bool) → eqb z x ≡ b → not b ≡ true
          at true e = let same : z ≡ x = eqb-true z x e in absurd (omega (arith, same, l))
          at false e = refl

  -- not each colour has a rare label
  not_all_rare : ((x : ℕ) → x < c → list_any is_rare (list_of x) ≡ true) → ⊥
  not_all_rare all = go (pigeonhole (λ x. pick x ∷ []) (p - 1) c (map (λ y. y ∷ []) (count_from 0 n)) (count_from 0 c) (IsLabelSet-count_from 0 c c (omega arith)) listed enough)
    where
      below : (x : ℕ) → Contains (count_from 0 c) x → x < c
      below x held = let range = (count_from_range 0 c x held).1 in omega (arith, range)

      listed : (x : ℕ) → Contains (count_from 0 c) x → Contains (map (λ y. y ∷ []) (count_from 0 n)) (pick x ∷ [])
      listed x held =
          let l : x < c = below x held in
          let low : pick x < n = AllByRecursion-contains (λ y. y < n) (list_of x) (pick x) (list_below x l) (pick_is x (all x l)).0 in
          Contains-map (λ y. y ∷ []) (count_from 0 n) (pick x) (Contains-count_from 0 n (pick x) (omega arith) (omega (arith, low)))

      enough : (p - 1) * length (map (λ (y : ℕ). y ∷ []) (count_from 0 n)) < length (count_from 0 c)
      enough = rw (length-map (count_from 0 n) (λ (y : ℕ). y ∷ []), length-count_from 0 n, length-count_from 0 c) many

      go : (v : List ℕ) × (zs : List ℕ) × IsLabelSet c zs × (p - 1 < length zs) × ((z : ℕ) → Contains zs z → pick z ∷ [] ≡ v) → ⊥
      go (v, [], set, more, same) = omega (arith, more)
      go (v, z ∷ zs, set, more, same) =
          let y : ℕ = pick z in
          let first : z < c = set.1.0 in
          let rare : length (having y) < p = below-true (length (having y)) p (pick_is z (all z first)).1 in
          let within : (x : ℕ) → Contains (z ∷ zs) x → Contains (having y) x = λ x held.
          let l : x < c = AllByRecursion-contains (λ x. x < c) (z ∷ zs) x set.1 held in
          let alike : pick x ≡ y = ap (λ (v : List ℕ). get_or v 0 0) (same x held ∙ sym (same z (Contains-here z zs))) in
          let at : Contains (list_of x) y = subst (Contains (list_of x)) alike (pick_is x (all x l)).0 in
          Contains-filter (λ x. has (list_of x) y) (count_from 0 c) x (Contains-count_from 0 c x (omega arith) (omega (arith, l))) (IsIn-has (list_of x) y at) in
          omega (arith, rare, more, sub_length (z ∷ zs) (having y) (having_set y).0 set.0 within)

  -- so one has none
  common : (x : ℕ) × (x < c) × ((y : ℕ) → Contains (list_of x) y → p ≤ length (having y))
  common = go (list_any (λ x. not (list_any is_rare (list_of x))) (count_from 0 c)) refl
    where
      go : (b : Bool) → list_any (λ x. not (list_any is_rare (list_of x))) (count_from 0 c) ≡ b → (x : ℕ) × (x < c) × ((y : ℕ) → Contains (list_of x) y → p ≤ length (having y))
      go true e =
          let (x, held, passes) = any_found (λ x. not (list_any is_rare (list_of x))) (count_from 0 c) e in
          let range = (count_from_range 0 c x held).1 in
          (x, omega (arith, range), λ y at. enough y (is_rare y) refl (rare_none x y passes at))
        where
          rare_none : (x y : ℕ) → not (list_any is_rare (list_of x)) ≡ true → Contains (list_of x) y → is_rare y ≡ true → ⊥
          rare_none x y passes at rare = let found : list_any is_rare (list_of x) ≡ true = any_true is_rare (list_of x) y at rare in cc

          enough : (y : ℕ) (b : Bool) → is_rare y ≡ b → (is_rare y ≡ true → ⊥) → p ≤ length (having y)
          enough y true e none = absurd (none e)
          enough y false e none = grind (arith, nat_tests)
      go false e = absurd (not_all_rare all)
        where
          all : (x : ℕ) → x < c → list_any is_rare (list_of x) ≡ true
          all x l = at (list_any is_rare (list_of x)) refl
            where
              at : (b : Bool) → list_any is_rare (list_of x) ≡ b → list_any is_rare (list_of x) ≡ true
              at true f = f
              at false f = absurd (let found : list_any (λ x. not (list_any is_rare (list_of x))) (count_from 0 c) ≡ true = any_true (λ x. not (list_any is_rare (list_of x))) (count_from 0 c) x (Contains-count_from 0 c x (omega arith) (omega (arith, l))) (ap not f) in cc)

  -- a colour becomes each label of its list
  becomes_of : (z y : ℕ) → Contains (having y) z → Becomes (colouring a p c).active image z y
  becomes_of z y held =
      let (there, passes) = Contains-filter_cases (λ x. has (list_of x) y) (count_from 0 c) z held in
      let range = (count_from_range 0 c z there).1 in
      let l : z < c = omega (arith, range) in
      let (k, k_in, at) = has-IsIn (list_of z) y passes in
      let count : length (list_of z) ≡ a = (each (replicate a z) (colour_there a p c z some l)).0 in
      (replicate a z, colour_there a p c z some l, (k, omega (arith, k_in, count, length-replicate {A = ℕ} a z), k_in, get_or-replicate a k z z (omega (arith, k_in, count)), at))

  zip_becomes : (zs drawn : List ℕ) → AllZip (λ z y. Contains (having y) z) zs drawn → AllZip (Becomes (colouring a p c).active image) zs drawn
  zip_becomes [] [] zip = tt
  zip_becomes [] (y ∷ drawn) zip = absurd zip
  zip_becomes (z ∷ zs) [] zip = absurd zip
  zip_becomes (z ∷ zs) (y ∷ drawn) zip = (becomes_of z y zip.0, zip_becomes zs drawn zip.1)

  zip_below : (zs drawn : List ℕ) → AllZip (λ z y. Contains (having y) z) zs drawn → AllByRecursion (λ z. z < c) zs
  zip_below [] drawn zip = tt
  zip_below (z ∷ zs) [] zip = absurd zip
  zip_below (z ∷ zs) (y ∷ drawn) zip = (AllByRecursion-contains (λ x. x < c) (having y) z (having_set y).1 zip.0, zip_below zs drawn zip.1)

  pub colour_met : (config : List ℕ) × Contains (colouring a p c).active.configs config × IsMet (colouring a p c) image (image config)
  colour_met =
      let (x, l, common_is) = common in (
        replicate a x,
        colour_there a p c x some l,
        λ drawn count within.
            let (zs, zip, apart, free) = picked c having drawn [] (λ y held. (having_set y, let enough = common_is y (AllByRecursion-contains (Contains (list_of x)) drawn y within held) in omega (arith, enough, count))) in
            let number : length zs ≡ p = length-AllZip (λ z y. Contains (having y) z) zs drawn zip ∙ count in
            let order : Rearranged zs (sorted zs) = Rearranged-sorted zs in
            let rises : IsRising (λ x y. x < y) (sorted zs) = strictly (sorted zs) (sorted_rises zs) (AreApart-Rearranged order apart) in
            let low : AllByRecursion (λ z. z < c) (sorted zs) = AllByRecursion-from_contains (λ z. z < c) (sorted zs) (λ z held. AllByRecursion-contains (λ z. z < c) zs z (zip_below zs drawn zip) (Contains-Rearranged z (Rearranged-sym order) held)) in
            (zs, zip_becomes zs drawn zip, colours_there a p c (sorted zs) (length-sorted zs ∙ number) (rises, low)),
      )

pub colouring_unavoidable : (a p c n : ℕ) → 1 ≤ a → (p - 1) * n < c → IsUnavoidable (colouring a p c) n
colouring_unavoidable a p c n some many image each = colour_met a p c n some many image each

-- ---- an input problem
-- the multisets that pass a test are a constraint
pub filtered_constraint : (d c : ℕ) (test : List ℕ → Bool) → 2 ≤ d → d ≤ 6 → IsConstraint c (record { degree = d; configs = filter test (multisets d 0 c) })
filtered_constraint d c test low high =
    let law = multisets_law d c in
    record {
      least = low;
      most = high;
      configs = AllByRecursion-from_contains (IsConfig d c) (filter test (multisets d 0 c)) (λ config held. (law.1 config).0 (Contains-filter_cases test (multisets d 0 c) config held).0);
      ascends = rising-filter IsBefore IsBefore-trans test (multisets d 0 c) law.0;
    }

pub IsInput-colouring : (problem : Problem) (c : ℕ) → IsProblem problem → problem.passive.degree ≤ c → IsInput problem (colouring problem.active.degree problem.passive.degree c)
IsInput-colouring problem c is enough = record {
  is_problem = record { active = active_is; passive = passive_is };
  active_degree = refl;
  passive_degree = refl;
  some = some_colour;
  occurs = λ label l. (active_there label l, passive_there label l);
}
  where
    a : ℕ
    a = problem.active.degree

    p : ℕ
    p = problem.passive.degree

    active_is : IsConstraint c (colouring problem.active.degree problem.passive.degree c).active
    active_is = filtered_constraint problem.active.degree c (λ edges. eqb (length (support_of edges)) 1) is.active.least is.active.most

    passive_is : IsConstraint c (colouring problem.active.degree problem.passive.degree c).passive
    passive_is = filtered_constraint problem.passive.degree c (λ edges. eqb (length (support_of edges)) (length edges)) is.passive.least is.passive.most

    active_there : (label : ℕ) → label < c → OccursIn (colouring problem.active.degree problem.passive.degree c).active label
    active_there label l =
        let low = is.active.least in (
          replicate problem.active.degree label,
          colour_there problem.active.degree problem.passive.degree c label (omega arith) l,
          (0, omega (arith, length-replicate problem.active.degree label), get_or-replicate problem.active.degree 0 label label (omega arith)),
        )

    some_colour : 0 < length (colouring problem.active.degree problem.passive.degree c).active.configs
    some_colour =
        let least = is.passive.least in
        let (config, (k, range, e), at) = active_there 0 (omega arith) in
        omega (arith, range)

    passive_there : (label : ℕ) → label < c → OccursIn (colouring problem.active.degree problem.passive.degree c).passive label
    passive_there label l = from (ltb c (label + problem.passive.degree)) refl
      where
        range : (i : ℕ) → i ≤ label → label < i + problem.passive.degree → i + problem.passive.degree ≤ c → OccursIn (colouring problem.active.degree problem.passive.degree c).passive label
        range i low high fits = (
          count_from i problem.passive.degree,
          colours_there problem.active.degree problem.passive.degree c (count_from i problem.passive.degree) (length-count_from i problem.passive.degree) (IsLabelSet-count_from i problem.passive.degree c fits),
          Contains-count_from i problem.passive.degree label low high,
        )

        from : (b : Bool) → ltb c (label + problem.passive.degree) ≡ b → OccursIn (colouring problem.active.degree problem.passive.degree c).passive label
        from true e = let past : c < label + problem.passive.degree = below-true c (label + problem.passive.degree) e in let least = is.passive.least in range (c - problem.passive.degree) (omega arith) (omega arith) (omega arith)
        from false e = let within : label + problem.passive.degree ≤ c = grind (arith, nat_tests) in let least = is.passive.least in range label (omega arith) (omega arith) within

-- ---- more colours
pub IsRelaxed-colours : (a p c more : ℕ) → c ≤ more → IsRelaxed (colouring a p c) (colouring a p more) (λ x. x)
IsRelaxed-colours a p c more l = record {
  active_degree = refl;
  passive_degree = refl;
  active = still a (λ edges. eqb (length (support_of edges)) 1);
  passive = still p (λ edges. eqb (length (support_of edges)) (length edges));
}
  where
    still : (d : ℕ) (test : List ℕ → Bool) (config : List ℕ) → Contains (filter test (multisets d 0 c)) config → Contains (filter test (multisets d 0 more)) (sorted (map (λ x. x) config))
    still d test config held =
        let (listed, passes) = Contains-filter_cases test (multisets d 0 c) config held in
        let is : IsConfig d c config = ((multisets_law d c).1 config).0 listed in
        let wider : IsConfig d more config = record { count = is.count; below = AllByRecursion-weaker (λ x. x < c) (λ x. x < more) (λ x i. omega arith) config is.below; ascends = is.ascends } in
        rw (map-id config, sorted_again config is.ascends) (Contains-filter test (multisets d 0 more) config (((multisets_law d more).1 config).1 wider) passes)

-- ---- bounds
pub lower_bound_coloured : (half : ℕ) {first last : Problem} {c : ℕ} → IsProblem first → IsLowerChain first (half + half) last → (Zero last → ⊥) → first.passive.degree ≤ c → (first.passive.degree - 1) * last.labels < c
    → (T : ℕ) → T ≤ half + half → SolvableGiven first (colouring first.active.degree first.passive.degree c) T → ⊥
lower_bound_coloured half {first} {last} {c} is steps not_zero enough many T l h =
    let input : Problem = colouring first.active.degree first.passive.degree c in
    let unavoidable : IsUnavoidable input last.labels = colouring_unavoidable first.active.degree first.passive.degree c last.labels (let l = is.active.least in omega arith) many in
    lower_bound_unavoidable is (IsInput-colouring first c is enough) steps not_zero (subst (λ i. IsUnavoidable i last.labels) (sym (exchanged_by-twice half input)) unavoidable) T l h

pub fixed_point_coloured : {first middle last : Problem} {back k n c : ℕ} {image : ℕ → ℕ} → IsProblem first → IsLowerChain first back middle → (round : IsLowerChain middle k last) → 0 < k → IsRelaxed last middle image → (Zero last → ⊥)
    → AllByRecursion (λ (problem : Problem). problem.labels ≤ n) (middle ∷ reached round) → first.passive.degree ≤ c → (first.passive.degree - 1) * n < c
    → (T : ℕ) → SolvableGiven first (colouring first.active.degree first.passive.degree c) T → ⊥
fixed_point_coloured {first} {n = n} {c = c} is to_middle round some relaxed not_zero few enough many T h =
    fixed_point_unavoidable is (IsInput-colouring first c is enough) to_middle round some relaxed not_zero few
    (colouring_unavoidable first.active.degree first.passive.degree c n (let l = is.active.least in omega arith) many) T h

pub shorter_bound_coloured : {first last : Problem} {k n c : ℕ} → IsProblem first → (steps : IsLowerChain first k last) → (Zero last → ⊥) → AllByRecursion (λ (problem : Problem). problem.labels ≤ n) (first ∷ reached steps) → first.passive.degree ≤ c
    → (first.passive.degree - 1) * n < c → (T : ℕ) → T < k → SolvableGiven first (colouring first.active.degree first.passive.degree c) T → ⊥
shorter_bound_coloured {first} {n = n} {c = c} is steps not_zero few enough many T l h =
    shorter_bound_unavoidable is (IsInput-colouring first c is enough) steps not_zero few (colouring_unavoidable first.active.degree first.passive.degree c n (let low = is.active.least in omega arith) many) T l h
