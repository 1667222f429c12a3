-- The multisets of sets that are allowed, step by step.
use Rattle.std.proofs.lemmas.List.{map-append}
use Rattle.std.proofs.Common.{◌≡◌, ℕ, zero, suc, ◌<◌, ◌≤◌, ◌+◌, ◌-◌, Bool, true, false, not, cond, List, [], ◌∷◌, ◌++◌, length, map, filter, get_or, Contains, ◌↔◌, eqb, refl, sym, ap, ◌∙◌, subst, inl, inr, arith, append_assoc, length-append}
use Rattle.std.specs.List.{AllByRecursion}
use Rattle.std.proofs.lemmas.Bool.{false≢true}
use Rattle.std.proofs.lemmas.Bool.Decides.{eqb_tells}
use Rattle.re_labels.proofs.AllMultisets.{In-multisets, In-multisets_from, IsMultiset}
use Rattle.re_labels.proofs.Rearranging.{Rearranged-sym}
use Rattle.re_labels.proofs.Sorting.{Rearranged-sorted, sorted-Rearranged, sorted_again}
use Rattle.re_labels.specs.Configs.{sorted}
use Rattle.re_labels.specs.Orders.{begun, multisets}
use Rattle.re_labels.specs.Rearranging.{kept}
use Rattle.re_labels.specs.Rows.{placed, set_at}
use Rattle.re_labels.proofs.Membership.{Contains-here, Contains-later, Contains-map, Contains-map_cases, Contains-none, Contains-In, AllByRecursion-weaker, In, In-Contains, In-append_cases, In-append_left, In-append_right, In-filter, In-filter_from, In-map, In-map_from}
use Rattle.re_labels.proofs.ListSets.{In-list_set, list_set-In, list_set-longer, list_set_append, one_set, rising-list_set}
use Rattle.re_labels.specs.Lists.{IsBefore, IsRising}
use Rattle.re_labels.specs.ListSets.{list_set}
use Rattle.re_labels.proofs.MaxSets.{allowed_law}
use Rattle.re_labels.proofs.Sets.{IsIn-has, IsIn-meet, IsIn-meet_cases, has-IsIn, has-with_label}
use Rattle.re_labels.proofs.Tests.{eqb-apart, eqb-true, or-left, or-right, or-true, same_tests}
use Rattle.re_labels.specs.Sets.{has, meet, with_label}
use Rattle.re_labels.proofs.Goodness.{IsAllowed-is_allowed, is_allowed-IsAllowed}
use Rattle.re_labels.specs.Constraints.{Constraint, with_each}
use Rattle.re_labels.specs.GoodRows.{IsAllowed, allowed, is_allowed}
use Rattle.re_step.specs.Rests.{AreRests, SharesLabel, all_begun, allowed_from, allowed_on, constraint_of}
use Rattle.re_problem.proofs.HeldLabels.{names_alone}
use Rattle.re_problem.proofs.Walks.{alone}

-- ---- a set more
-- a set and a row are allowed exactly where the rests that the set leaves allow the row
allowed_rests : (d e : ℕ) (configs : List (List ℕ)) (set : List ℕ) (rests row : List (List ℕ)) → AreRests configs set rests
    → IsAllowed (constraint_of d configs) (set ∷ row) ↔ IsAllowed (constraint_of e rests) row
allowed_rests d e configs set rests row are = (down, up)
  where
    down : IsAllowed (constraint_of d configs) (set ∷ row) → IsAllowed (constraint_of e rests) row
    down ([], c, h) = absurd c
    down (x ∷ labels, c, h) = (labels, c.1, are.all x labels c.0 h)

    up : IsAllowed (constraint_of e rests) row → IsAllowed (constraint_of d configs) (set ∷ row)
    up (labels, c, h) =
        let f = are.from (sorted labels) h in
        (f.0 ∷ labels, (f.1, c), subst (Contains configs) (sorted-Rearranged (kept (Rearranged-sym (Rearranged-sorted labels)))) f.2)

pub test_rests : (d e : ℕ) (configs : List (List ℕ)) (set : List ℕ) (rests row : List (List ℕ)) → AreRests configs set rests
    → is_allowed (constraint_of d configs) (set ∷ row) ≡ is_allowed (constraint_of e rests) row
test_rests d e configs set rests row are =
    let both = allowed_rests d e configs set rests row are in
    same_tests (is_allowed (constraint_of d configs) (set ∷ row)) (is_allowed (constraint_of e rests) row)
    (λ t. IsAllowed-is_allowed (constraint_of e rests) row (both.0 (is_allowed-IsAllowed (constraint_of d configs) (set ∷ row) t)))
    (λ t. IsAllowed-is_allowed (constraint_of d configs) (set ∷ row) (both.1 (is_allowed-IsAllowed (constraint_of e rests) row t)))

filter_map : {X Y : Type 0} (p : Y → Bool) (q : X → Bool) (f : X → Y) → ((x : X) → p (f x) ≡ q x) → (xs : List X) → filter p (map f xs) ≡ map f (filter q xs)
filter_map p q f h [] = refl
filter_map p q f h (x ∷ xs) = ap (λ b. cond b (f x ∷ filter p (map f xs)) (filter p (map f xs))) (h x) ∙ ap (λ w. cond (q x) (f x ∷ w) w) (filter_map p q f h xs) ∙ go (q x)
  where
    go : (b : Bool) → cond b (f x ∷ map f (filter q xs)) (map f (filter q xs)) ≡ map f (cond b (x ∷ filter q xs) (filter q xs))
    go true = refl
    go false = refl

filter_append : {X : Type 0} (p : X → Bool) (xs ys : List X) → filter p (xs ++ ys) ≡ filter p xs ++ filter p ys
filter_append p [] ys = refl
filter_append p (x ∷ xs) ys = ap (λ w. cond (p x) (x ∷ w) w) (filter_append p xs ys) ∙ go (p x)
  where
    go : (b : Bool) → cond b (x ∷ filter p xs ++ filter p ys) (filter p xs ++ filter p ys) ≡ cond b (x ∷ filter p xs) (filter p xs) ++ filter p ys
    go true = refl
    go false = refl

-- those that begin with a place are those that its set's rests allow, behind it
on_rests : (configs sets : List (List ℕ)) (size lo k : ℕ) (rests : List (List ℕ)) → AreRests configs (set_at sets lo) rests
    → allowed_on configs sets size lo k ≡ map (λ others. lo ∷ others) (allowed_from rests sets (size - 1) lo k)
on_rests configs sets size lo k rests are =
    filter_map (λ places. is_allowed (constraint_of size configs) (placed sets places)) (λ places. is_allowed (constraint_of (size - 1) rests) (placed sets places)) (λ others. lo ∷ others)
    (λ others. test_rests size (size - 1) configs (set_at sets lo) rests (placed sets others) are) (multisets (size - 1) lo k)

-- those from a place on are those that begin with it, and those from the next one on
from_on : (configs sets : List (List ℕ)) (size lo k : ℕ) → 1 ≤ size → 1 ≤ k → allowed_from configs sets size lo k ≡ allowed_on configs sets size lo k ++ allowed_from configs sets size (lo + 1) (k - 1)
from_on configs sets zero lo k l m = absurd (omega arith)
from_on configs sets (suc size) lo zero l m = absurd (omega arith)
from_on configs sets (suc size) lo (suc k) l m =
    let less : suc size - 1 ≡ size = omega arith in
    let before : suc k - 1 ≡ k = omega arith in
    let next : lo + 1 ≡ suc lo = omega arith in
    filter_append (λ places. is_allowed (constraint_of (suc size) configs) (placed sets places)) (map (λ others. lo ∷ others) (multisets size lo (suc k))) (begun (multisets size) (suc lo) k)
    ∙ ap (λ s. filter (λ places. is_allowed (constraint_of (suc size) configs) (placed sets places)) (map (λ others. lo ∷ others) (multisets s lo (suc k))) ++ allowed_from configs sets (suc size) (suc lo) k) (sym less)
    ∙ ap (λ i. allowed_on configs sets (suc size) lo (suc k) ++ allowed_from configs sets (suc size) i k) (sym next)
    ∙ ap (λ j. allowed_on configs sets (suc size) lo (suc k) ++ allowed_from configs sets (suc size) (lo + 1) j) (sym before)

-- ---- what the walk adds
map_map : {X Y Z : Type 0} (f : Y → Z) (g : X → Y) (h : X → Z) → ((x : X) → f (g x) ≡ h x) → (xs : List X) → map f (map g xs) ≡ map h xs
map_map f g h e [] = refl
map_map f g h e (x ∷ xs) = λ i. e x i ∷ map_map f g h e xs i

begun_on : (first more : List ℕ) (lo : ℕ) (rests : List (List ℕ)) → more ≡ first ++ lo ∷ [] → all_begun first (map (λ others. lo ∷ others) rests) ≡ all_begun more rests
begun_on first more lo rests e =
    map_map (λ places. sorted (first ++ places)) (λ others. lo ∷ others) (λ places. sorted (more ++ places)) (λ others. ap sorted (sym (append_assoc first (lo ∷ []) others) ∙ ap (λ w. w ++ others) (sym e))) rests

-- the set of some configurations with more, and then with others
set_append : (old xs ys : List (List ℕ)) → list_set (list_set (old ++ xs) ++ ys) ≡ list_set (old ++ (xs ++ ys))
set_append old xs ys = sym (list_set_append (old ++ xs) ys) ∙ ap list_set (append_assoc old xs ys)

-- lists with the same members add the same
set_alike : (old xs ys : List (List ℕ)) → ((z : List ℕ) → In z xs → In z ys) → ((z : List ℕ) → In z ys → In z xs) → list_set (old ++ xs) ≡ list_set (old ++ ys)
set_alike old xs ys f g = one_set (list_set (old ++ xs)) (list_set (old ++ ys)) (rising-list_set (old ++ xs)) (rising-list_set (old ++ ys)) (over xs ys f) (over ys xs g)
  where
    over : (xs ys : List (List ℕ)) → ((z : List ℕ) → In z xs → In z ys) → (z : List ℕ) → In z (list_set (old ++ xs)) → In z (list_set (old ++ ys))
    over xs ys f z i = list_set-In (old ++ ys) z (elim (In-append_cases z old xs (In-list_set (old ++ xs) z i)) [
      | inl j ↦ In-append_left z old ys j
      | inr j ↦ In-append_right z old ys (f z j)
    ])

begun_both : (configs sets : List (List ℕ)) (first : List ℕ) (size lo k : ℕ) → 1 ≤ size → 1 ≤ k
    → all_begun first (allowed_on configs sets size lo k) ++ all_begun first (allowed_from configs sets size (lo + 1) (k - 1)) ≡ all_begun first (allowed_from configs sets size lo k)
begun_both configs sets first size lo k l m =
    sym (map-append (λ places. sorted (first ++ places)) (allowed_on configs sets size lo k) (allowed_from configs sets size (lo + 1) (k - 1))) ∙ ap (all_begun first) (sym (from_on configs sets size lo k l m))

-- those that begin with the place were added, and then those from the next one on
pub added_both : (configs sets : List (List ℕ)) (first : List ℕ) (size lo k : ℕ) (old middle new : List (List ℕ)) → 1 ≤ size → 1 ≤ k
    → middle ≡ list_set (old ++ all_begun first (allowed_on configs sets size lo k)) → new ≡ list_set (middle ++ all_begun first (allowed_from configs sets size (lo + 1) (k - 1)))
    → new ≡ list_set (old ++ all_begun first (allowed_from configs sets size lo k))
added_both configs sets first size lo k old middle new l m e f =
    f ∙ ap (λ w. list_set (w ++ all_begun first (allowed_from configs sets size (lo + 1) (k - 1)))) e
    ∙ set_append old (all_begun first (allowed_on configs sets size lo k)) (all_begun first (allowed_from configs sets size (lo + 1) (k - 1)))
    ∙ ap (λ w. list_set (old ++ w)) (begun_both configs sets first size lo k l m)

-- where those that begin with the place are too many, those from it on are
pub counts_on : (configs sets : List (List ℕ)) (first : List ℕ) (size lo k most : ℕ) (old : List (List ℕ)) → 1 ≤ size → 1 ≤ k → most < length (list_set (old ++ all_begun first (allowed_on configs sets size lo k)))
    → most < length (list_set (old ++ all_begun first (allowed_from configs sets size lo k)))
counts_on configs sets first size lo k most old l m over =
    let here = all_begun first (allowed_on configs sets size lo k) in
    let later = all_begun first (allowed_from configs sets size (lo + 1) (k - 1)) in
    let longer = list_set-longer (old ++ here) later in
    let same : length (list_set ((old ++ here) ++ later)) ≡ length (list_set (old ++ all_begun first (allowed_from configs sets size lo k))) =
    ap (λ w. length (list_set w)) (append_assoc old here later ∙ ap (λ w. old ++ w) (begun_both configs sets first size lo k l m)) in
    omega (arith, longer, same, over)

pub counts_both : (configs sets : List (List ℕ)) (first : List ℕ) (size lo k most : ℕ) (old middle : List (List ℕ)) → 1 ≤ size → 1 ≤ k → middle ≡ list_set (old ++ all_begun first (allowed_on configs sets size lo k))
    → most < length (list_set (middle ++ all_begun first (allowed_from configs sets size (lo + 1) (k - 1)))) → most < length (list_set (old ++ all_begun first (allowed_from configs sets size lo k)))
counts_both configs sets first size lo k most old middle l m e over =
    subst (λ w. most < length w) (added_both configs sets first size lo k old middle (list_set (middle ++ all_begun first (allowed_from configs sets size (lo + 1) (k - 1)))) l m e refl) over

begun_rests : (configs sets : List (List ℕ)) (first more : List ℕ) (size less lo k many : ℕ) (rests : List (List ℕ)) (set : List ℕ) → less ≡ size - 1 → many ≡ k → set ≡ set_at sets lo → AreRests configs set rests
    → more ≡ first ++ lo ∷ [] → all_begun more (allowed_from rests sets less lo many) ≡ all_begun first (allowed_on configs sets size lo k)
begun_rests configs sets first more size less lo k many rests set l m s are e =
    (λ i. all_begun more (allowed_from rests sets (l i) lo (m i)))
    ∙ sym (begun_on first more lo (allowed_from rests sets (size - 1) lo k) e) ∙ ap (all_begun first) (sym (on_rests configs sets size lo k rests (subst (λ t. AreRests configs t rests) s are)))

-- those that begin with the place were added by the rests of its set
pub added_rests : (configs sets : List (List ℕ)) (first more : List ℕ) (size less lo k many : ℕ) (rests old new : List (List ℕ)) (set : List ℕ) → less ≡ size - 1 → many ≡ k → set ≡ set_at sets lo
    → AreRests configs set rests → more ≡ first ++ lo ∷ [] → new ≡ list_set (old ++ all_begun more (allowed_from rests sets less lo many))
    → new ≡ list_set (old ++ all_begun first (allowed_on configs sets size lo k))
added_rests configs sets first more size less lo k many rests old new set l m s are e f =
    f ∙ ap (λ w. list_set (old ++ w)) (begun_rests configs sets first more size less lo k many rests set l m s are e)

pub counts_rests : (configs sets : List (List ℕ)) (first more : List ℕ) (size less lo k many most : ℕ) (rests old : List (List ℕ)) (set : List ℕ) → less ≡ size - 1 → many ≡ k → set ≡ set_at sets lo
    → AreRests configs set rests → more ≡ first ++ lo ∷ [] → most < length (list_set (old ++ all_begun more (allowed_from rests sets less lo many)))
    → most < length (list_set (old ++ all_begun first (allowed_on configs sets size lo k)))
counts_rests configs sets first more size less lo k many most rests old set l m s are e over =
    subst (λ w. most < length (list_set (old ++ w))) (begun_rests configs sets first more size less lo k many rests set l m s are e) over

pub less_by_one : (size : ℕ) (rests : List (List ℕ)) → AllByRecursion (λ rest. length rest + 1 ≡ size) rests → AllByRecursion (λ rest. length rest ≡ size - 1) rests
less_by_one size rests h = AllByRecursion-weaker (λ rest. length rest + 1 ≡ size) (λ rest. length rest ≡ size - 1) (λ rest e. omega (arith, e)) rests h

-- where nothing is left, nothing is allowed
none_allowed : (d : ℕ) (rests row : List (List ℕ)) → length rests ≡ 0 → is_allowed (constraint_of d rests) row ≡ false
none_allowed d [] row e = same_tests (is_allowed (constraint_of d []) row) false (λ t. let a = is_allowed-IsAllowed (constraint_of d []) row t in absurd (Contains-none (sorted a.0) a.2)) (λ t. absurd (false≢true t))
none_allowed d (r ∷ rests) row e = absurd (omega (arith, e))

filter_none : {X : Type 0} (p : X → Bool) → ((x : X) → p x ≡ false) → (xs : List X) → filter p xs ≡ []
filter_none p h [] = refl
filter_none p h (x ∷ xs) = ap (λ b. cond b (x ∷ filter p xs) (filter p xs)) (h x) ∙ filter_none p h xs

pub added_nothing : (configs sets : List (List ℕ)) (first : List ℕ) (size lo k : ℕ) (rests old : List (List ℕ)) (set : List ℕ) → IsRising IsBefore old → set ≡ set_at sets lo → AreRests configs set rests
    → length rests ≡ 0 → old ≡ list_set (old ++ all_begun first (allowed_on configs sets size lo k))
added_nothing configs sets first size lo k rests old set rises s are none =
    names_alone old rises ∙ ap (λ w. list_set (old ++ all_begun first w))
    (sym (on_rests configs sets size lo k rests (subst (λ t. AreRests configs t rests) s are) ∙ ap (map (λ others. lo ∷ others)) (filter_none (λ places. is_allowed (constraint_of (size - 1) rests) (placed sets places)) (λ places. none_allowed (size - 1) rests (placed sets places) none) (multisets (size - 1) lo k))))

-- where no places are left, nothing is added
pub added_none : (configs sets : List (List ℕ)) (first : List ℕ) (size lo k : ℕ) (old : List (List ℕ)) → 1 ≤ size → k ≡ 0 → IsRising IsBefore old
    → old ≡ list_set (old ++ all_begun first (allowed_from configs sets size lo k))
added_none configs sets first zero lo k old l e rises = absurd (omega arith)
added_none configs sets first (suc size) lo zero old l e rises = names_alone old rises
added_none configs sets first (suc size) lo (suc k) old l e rises = absurd (omega (arith, e))

-- ---- the last set
one_of : (d : ℕ) (labels set : List ℕ) → IsAllowed (constraint_of d (map (λ y. y ∷ []) labels)) (set ∷ []) ↔ SharesLabel labels set
one_of d labels set = (down, up)
  where
    down : IsAllowed (constraint_of d (map (λ y. y ∷ []) labels)) (set ∷ []) → SharesLabel labels set
    down ([], c, h) = absurd c
    down (y ∷ z ∷ more, c, h) = absurd c.1
    down (y ∷ [], c, h) = let m = Contains-map_cases (λ y. y ∷ []) labels (y ∷ []) h in let e : m.0 ≡ y = ap (λ l. get_or l 0 0) m.2 in (y, subst (Contains labels) e m.1, c.0)

    up : SharesLabel labels set → IsAllowed (constraint_of d (map (λ y. y ∷ []) labels)) (set ∷ [])
    up (y, l, s) = (y ∷ [], (s, tt), Contains-map (λ y. y ∷ []) labels y l)

-- one of the labels is in the set exactly where the two meet
pub shares_one : (labels set : List ℕ) (both : Bool) → both ≡ not (eqb (length (meet labels set)) 0) → (both ≡ true) ↔ SharesLabel labels set
shares_one labels set both e = (λ t. down (meet labels set) refl (sym e ∙ t), λ y. e ∙ filled (meet labels set) (IsIn-meet labels set y.0 y.1 y.2))
  where
    down : (b : List ℕ) → b ≡ meet labels set → not (eqb (length b) 0) ≡ true → SharesLabel labels set
    down [] e t = absurd (false≢true t)
    down (y ∷ b) e t = let m = IsIn-meet_cases labels set y (subst (λ l. Contains l y) e (Contains-here y b)) in (y, m.0, m.1)

    filled : (b : List ℕ) → {y : ℕ} → Contains b y → not (eqb (length b) 0) ≡ true
    filled [] {y} h = absurd (Contains-none y h)
    filled (y ∷ b) h = ap not (eqb-apart (suc (length b)) 0 (λ e. omega (arith, e)))

-- the set at a place of the list
pub set_there : (sets : List (List ℕ)) (lo : ℕ) (set : List ℕ) → lo < length sets → set ≡ get_or sets lo set → set ≡ set_at sets lo
set_there [] lo set l e = absurd (omega arith)
set_there (s ∷ sets) zero set l e = e
set_there (s ∷ sets) (suc lo) set l e = set_there sets lo set (omega arith) e

-- exactly the places from lo on and below n whose set has one of the labels
abbrev pub AreHolders : List ℕ → List (List ℕ) → ℕ → ℕ → List ℕ → Type 0
AreHolders labels sets lo n places = (place : ℕ) → Contains places place ↔ ((lo ≤ place) × (place < n) × SharesLabel labels (set_at sets place))

-- the next place too, where its set has one of the labels
pub holder_more : (labels : List ℕ) (sets : List (List ℕ)) (set : List ℕ) (lo n : ℕ) (places more : List ℕ) (one : Bool) → lo ≤ n → set ≡ set_at sets n → (one ≡ true) ↔ SharesLabel labels set → one ≡ true
    → more ≡ with_label places n → AreHolders labels sets lo n places → AreHolders labels sets lo (n + 1) more
holder_more labels sets set lo n places more one l s shares t e are place = (down, up)
  where
    down : Contains more place → (lo ≤ place) × (place < n + 1) × SharesLabel labels (set_at sets place)
    down held = elim (or-true (eqb n place) (has places place) (sym (has-with_label places n place) ∙ ap (λ w. has w place) (sym e) ∙ IsIn-has more place held)) [
      | inl same ↦
          let here : n ≡ place = eqb-true n place same in
          (omega (arith, l, here), omega (arith, here), subst (SharesLabel labels) (s ∙ ap (set_at sets) here) (shares.0 t))
      | inr h ↦ let k = (are place).0 (has-IsIn places place h) in (k.0, omega (arith, k.1), k.2)
    ]

    up : (lo ≤ place) × (place < n + 1) × SharesLabel labels (set_at sets place) → Contains more place
    up (from, below, share) = subst (λ w. Contains w place) (sym e) (has-IsIn (with_label places n) place (has-with_label places n place ∙ elim (eqb_tells n place) [
      | inl same ↦ or-left (eqb n place) (has places place) same.0
      | inr other ↦ or-right (eqb n place) (has places place) (IsIn-has places place ((are place).1 (from, (let apart : n ≡ place → ⊥ = other.1 in omega (arith, below, apart)), share)))
    ]))

-- not the next place, where its set has none of them
pub holder_less : (labels : List ℕ) (sets : List (List ℕ)) (set : List ℕ) (lo n : ℕ) (places more : List ℕ) (one : Bool) → set ≡ set_at sets n → (one ≡ true) ↔ SharesLabel labels set → one ≡ false
    → more ≡ places → AreHolders labels sets lo n places → AreHolders labels sets lo (n + 1) more
holder_less labels sets set lo n places more one s shares f e are place = (down, up)
  where
    down : Contains more place → (lo ≤ place) × (place < n + 1) × SharesLabel labels (set_at sets place)
    down held = let k = (are place).0 (subst (λ w. Contains w place) e held) in (k.0, omega (arith, k.1), k.2)

    up : (lo ≤ place) × (place < n + 1) × SharesLabel labels (set_at sets place) → Contains more place
    up (from, below, share) = subst (λ w. Contains w place) (sym e) (elim (eqb_tells n place) [
      | inl same ↦ absurd (false≢true (sym f ∙ shares.1 (subst (SharesLabel labels) (sym (s ∙ ap (set_at sets) same.1)) share)))
      | inr other ↦ (are place).1 (from, (let apart : n ≡ place → ⊥ = other.1 in omega (arith, below, apart)), share)
    ])

-- the multisets that go on with one place are those whose last set has one of the labels
module _ (labels : List ℕ) (sets : List (List ℕ)) (lo : ℕ) (places : List ℕ) (l : lo ≤ length sets) (are : AreHolders labels sets lo (length sets) places) where
  abbrev lasts : List (List ℕ)
  lasts = allowed_from (map (λ y. y ∷ []) labels) sets 1 lo (length sets - lo)

  abbrev test : List ℕ → Bool
  test others = is_allowed (constraint_of 1 (map (λ y. y ∷ []) labels)) (placed sets others)

  last_holder : (place : ℕ) → In place places → In (place ∷ []) lasts
  last_holder place i =
      let h = (are place).0 (In-Contains place places i) in
      In-filter test (place ∷ []) (multisets 1 lo (length sets - lo))
      (In-multisets 1 lo (length sets - lo) (place ∷ []) (record { count = refl; steps = (h.0, tt); below = (omega (arith, l, h.1), tt) }))
      (IsAllowed-is_allowed (constraint_of 1 (map (λ y. y ∷ []) labels)) (set_at sets place ∷ []) ((one_of 1 labels (set_at sets place)).1 h.2))

  holder_of : (others : List ℕ) → In others lasts → (place : ℕ) × In place places × (others ≡ place ∷ [])
  holder_of others i = let two = In-filter_from test others (multisets 1 lo (length sets - lo)) i in go others (In-multisets_from 1 lo (length sets - lo) others two.0) two.1
    where
      go : (others : List ℕ) → IsMultiset 1 lo (length sets - lo) others → test others ≡ true → (place : ℕ) × In place places × (others ≡ place ∷ [])
      go [] m t = absurd (omega (arith, m.count))
      go (place ∷ next ∷ others) m t = absurd (omega (arith, m.count))
      go (place ∷ []) m t =
          let share = (one_of 1 labels (set_at sets place)).0 (is_allowed-IsAllowed (constraint_of 1 (map (λ y. y ∷ []) labels)) (set_at sets place ∷ []) t) in
          (place, Contains-In place places ((are place).1 (m.steps.0, omega (arith, l, m.below.0), share)), refl)

  pub added_lasts : (first : List ℕ) (old : List (List ℕ)) → list_set (old ++ with_each first places) ≡ list_set (old ++ all_begun first lasts)
  added_lasts first old = set_alike old (with_each first places) (all_begun first lasts)
      (λ z i.
      let p = In-map_from (λ last. sorted (first ++ last ∷ [])) z places i in
      subst (λ w. In w (all_begun first lasts)) (sym p.2) (In-map (λ others. sorted (first ++ others)) (p.0 ∷ []) lasts (last_holder p.0 p.1)))
      (λ z i.
      let o = In-map_from (λ others. sorted (first ++ others)) z lasts i in
      let p = holder_of o.0 o.1 in
      subst (λ w. In w (with_each first places)) (sym (o.2 ∙ ap (λ others. sorted (first ++ others)) p.2)) (In-map (λ last. sorted (first ++ last ∷ [])) p.0 places p.1))

-- ---- one more place behind the first ones
pub longer_by_one : (first more : List ℕ) (lo : ℕ) → more ≡ first ++ lo ∷ [] → length more ≡ length first + 1
longer_by_one first more lo e = ap length e ∙ length-append first (lo ∷ [])

pub all_below : (P : ℕ → Type 0) (first more : List ℕ) (lo : ℕ) → more ≡ first ++ lo ∷ [] → AllByRecursion P first → P lo → AllByRecursion P more
all_below P first more lo e h p = subst (AllByRecursion P) (sym e) (go first h)
  where
    go : (places : List ℕ) → AllByRecursion P places → AllByRecursion P (places ++ lo ∷ [])
    go [] h = (p, tt)
    go (x ∷ places) h = (h.0, go places h.1)

-- ---- all of them
map_same : {X : Type 0} (f : X → X) (xs : List X) → ((x : X) → Contains xs x → f x ≡ x) → map f xs ≡ xs
map_same f [] h = refl
map_same f (x ∷ xs) h = λ i. h x (Contains-here x xs) i ∷ map_same f xs (λ y held. h y (Contains-later y x xs held)) i

all_ascend : (constraint : Constraint) (sets : List (List ℕ)) (d : ℕ) → all_begun [] (allowed constraint sets d) ≡ allowed constraint sets d
all_ascend constraint sets d = map_same (λ places. sorted ([] ++ places)) (allowed constraint sets d) (λ places held.
    sorted_again places ((((allowed_law constraint sets d).1 places).0 held).0.ascends))

pub found_allowed : (constraint : Constraint) (sets configs old found : List (List ℕ)) (first : List ℕ) (d e k : ℕ) → configs ≡ constraint.configs → old ≡ [] → first ≡ [] → d ≡ e → k ≡ length sets
    → found ≡ list_set (old ++ all_begun first (allowed_from configs sets d 0 k)) → found ≡ allowed constraint sets e
found_allowed constraint sets configs old found first d e k c o f s n h =
    h ∙ (λ i. list_set (o i ++ all_begun (f i) (allowed_from (c i) sets (s i) 0 (n i)))) ∙ ap list_set (all_ascend constraint sets e) ∙ alone (allowed constraint sets e) (allowed_law constraint sets e).0
