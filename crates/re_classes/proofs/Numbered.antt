-- Views with identifiers as views with numbers in their place, and what strings show of either.
use Rattle.std.proofs.Common.{◌≡◌, ◌⊎◌, ℕ, zero, suc, pred, ◌≤◌, ◌<◌, Bool, true, false, cond, eqb, inl, inr, List, [], ◌∷◌, ◌++◌, map, length, refl, sym, ◌∙◌, ap, subst, arith}
use Rattle.std.specs.Prelude.{Contains, replicate, slice_index}
use Rattle.std.specs.List.{AllByRecursion}
use Rattle.std.proofs.lemmas.Bool.Decides.{eqb_tells}
use Rattle.std.proofs.lemmas.List.{length-map}
use Rattle.std.proofs.lemmas.List.Elements.{Contains-append_left, Contains-append_right}
use Rattle.re_labels.proofs.LawsOfRows.{multisets_law}
use Rattle.re_labels.proofs.OrdersAt.{get_or-map}
use Rattle.re_labels.proofs.Rearranging.{Contains-Rearranged}
use Rattle.re_labels.proofs.Sorting.{IsConfig-sorted, Rearranged-sorted, length-sorted, sorted_again, sorted_map}
use Rattle.re_labels.specs.Configs.{IsConfig, sorted}
use Rattle.re_labels.proofs.Replicated.{alike_rise}
use Rattle.re_given.proofs.AllInputViews.{AreBelow}
use Rattle.re_given.proofs.Relabelled.{relabelled}
use Rattle.re_given.specs.InputViews.{Fits, FitsAround, InputView}
use Rattle.re_labels.proofs.Membership.{AllByRecursion-contains, AllByRecursion-from_contains, Contains-cases, Contains-count_from, Contains-here, Contains-later, Contains-map, Contains-map_cases, Contains-none, count_from_range}
use Rattle.re_labels.specs.Lists.{count_from}
use Rattle.re_local.proofs.ColouredLocal.{all_alike}
use Rattle.re_local.proofs.LocalGiven.{TakesTo}
use Rattle.re_layers.specs.Networks.{AreDifferent}
use Rattle.re_local.specs.LocalAlgorithms.{behind_active, behind_passive, identified, shown}
use Rattle.re_problem.proofs.StepLaws.{map-map}
use Rattle.re_classes.specs.RandomAlgorithms.{painted}
use Rattle.re_labels.specs.Constraints.{Constraint, Has}
use Rattle.re_laws.specs.Trees.{IsTree, end, leaf, more}

-- ---- the labels of a view
-- all labels of the tree have the property
abbrev pub HasLabels : (ℕ → Type 0) → InputView → Type 0
HasLabels P leaf = Unit {0}
HasLabels P end = Unit {0}
HasLabels P (more back label branch rest) = P label × HasLabels P branch × HasLabels P rest

pub HasLabels-weaker : (P Q : ℕ → Type 0) → ((y : ℕ) → P y → Q y) → (v : InputView) → HasLabels P v → HasLabels Q v
HasLabels-weaker P Q weaker leaf h = tt
HasLabels-weaker P Q weaker end h = tt
HasLabels-weaker P Q weaker (more back label branch rest) h =
    (weaker label h.0, HasLabels-weaker P Q weaker branch h.1, HasLabels-weaker P Q weaker rest h.2)

-- around an active node stands one identifier, which is below N
pub one_identifier : (a p N : ℕ) (labels : List ℕ) → Has (identified a p N).active labels → (z : ℕ) × (z < N) × ((y : ℕ) → Contains labels y → y ≡ z)
one_identifier a p N labels has =
    let (z, held, is) = Contains-map_cases (replicate a) (count_from 0 N) (sorted labels) has in
    let range = count_from_range 0 N z held in (
      z,
      (let l = range.1 in omega (arith, l)),
      λ y at. AllByRecursion-contains (λ y. y ≡ z) (replicate a z) y (all_alike a z)
          (subst (λ config. Contains config y) (sym is) (Contains-Rearranged y (Rearranged-sorted labels) at)),
    )

passive_below : (a p N : ℕ) (labels : List ℕ) → Has (identified a p N).passive labels → (y : ℕ) → Contains labels y → y < N
passive_below a p N labels has y at =
    let is : IsConfig p N (sorted labels) = ((multisets_law p N).1 (sorted labels)).0 has in
    AllByRecursion-contains (λ y. y < N) (sorted labels) y is.below (Contains-Rearranged y (Rearranged-sorted labels) at)

active_below : (a p N : ℕ) (labels : List ℕ) → Has (identified a p N).active labels → (y : ℕ) → Contains labels y → y < N
active_below a p N labels has y at = let (z, l, alike) = one_identifier a p N labels has in let e = alike y at in omega (arith, l, e)

-- labels that fit are below what bounds those of both constraints
seen_low : (l : ℕ) (own other : Constraint) (d e t n : ℕ) (seen : List ℕ) (x : InputView)
    → ((labels : List ℕ) → Has own labels → (y : ℕ) → Contains labels y → y < l)
    → IsTree d e (suc t) n x → FitsAround own other seen x → (y : ℕ) → Contains seen y → y < l
seen_low l own other d e t n seen leaf low tree h y held = absurd tree
seen_low l own other d e t n seen end low tree h y held = low seen h y held
seen_low l own other d e t zero seen (more back label branch rest) low tree h y held = absurd tree
seen_low l own other d e t (suc n) seen (more back label branch rest) low tree h y held =
    seen_low l own other d e t n (label ∷ seen) rest low tree.3 h.1 y (Contains-later y label seen held)

all_low : (l : ℕ) (own other : Constraint) (d e t n : ℕ) (seen : List ℕ) (x : InputView)
    → ((labels : List ℕ) → Has own labels → (y : ℕ) → Contains labels y → y < l)
    → ((labels : List ℕ) → Has other labels → (y : ℕ) → Contains labels y → y < l) → IsTree d e t n x → FitsAround own other seen x → AreBelow l x
all_low l own other d e t n seen leaf low low' tree h = tt
all_low l own other d e t n seen end low low' tree h = tt
all_low l own other d e zero n seen (more back label branch rest) low low' tree h = absurd tree
all_low l own other d e (suc t) zero seen (more back label branch rest) low low' tree h = absurd tree
all_low l own other d e (suc t) (suc n) seen (more back label branch rest) low low' tree h = (
  seen_low l own other d e t n (label ∷ seen) rest low tree.3 h.1 label (Contains-here label seen),
  all_low l other own e d t (pred e) (label ∷ []) branch low' low tree.2 h.0,
  all_low l own other d e (suc t) n (label ∷ seen) rest low low' tree.3 h.1,
)

pub active_view_below : (a p N t n : ℕ) (v : InputView) → IsTree a p t n v → Fits (identified a p N).active (identified a p N).passive v → AreBelow N v
active_view_below a p N t n v tree fits = all_low N (identified a p N).active (identified a p N).passive a p t n [] v (active_below a p N) (passive_below a p N) tree fits

pub passive_view_below : (a p N t n : ℕ) (v : InputView) → IsTree p a t n v → Fits (identified a p N).passive (identified a p N).active v → AreBelow N v
passive_view_below a p N t n v tree fits = all_low N (identified a p N).passive (identified a p N).active p a t n [] v (passive_below a p N)
    (active_below a p N) tree fits

split : {l : ℕ} (xs ys : List ℕ) (y : ℕ) → (Contains xs y → y < l) → (Contains ys y → y < l) → Contains (xs ++ ys) y → y < l
split [] ys y left right held = right held
split (x ∷ xs) ys y left right held = elim (Contains-cases y x (xs ++ ys) held) [
  | inl e ↦ left (subst (λ z. Contains (x ∷ xs) z) (sym e) (Contains-here x xs))
  | inr there ↦ split xs ys y (λ at. left (Contains-later y x xs at)) right there
]

first : (l x : ℕ) (xs : List ℕ) (y : ℕ) → x < l → (Contains xs y → y < l) → Contains (x ∷ xs) y → y < l
first l x xs y low rest held = elim (Contains-cases y x xs held) [ inl e ↦ omega (arith, e, low) | inr there ↦ rest there ]

-- what is shown are labels of the view
mutual
  below_active : (l : ℕ) (v : InputView) → AreBelow l v → (y : ℕ) → Contains (behind_active v) y → y < l
  below_active l leaf b y held = absurd (Contains-none y held)
  below_active l end b y held = absurd (Contains-none y held)
  below_active l (more back label branch rest) b y held =
      split (behind_passive branch) (behind_active rest) y (below_passive l branch b.1 y) (below_active l rest b.2 y) held

  below_passive : (l : ℕ) (v : InputView) → AreBelow l v → (y : ℕ) → Contains (behind_passive v) y → y < l
  below_passive l leaf b y held = absurd (Contains-none y held)
  below_passive l end b y held = absurd (Contains-none y held)
  below_passive l (more back label branch rest) b y held =
      split (label ∷ behind_active branch) (behind_passive rest) y (first l label (behind_active branch) y b.0 (below_active l branch b.1 y))
      (below_passive l rest b.2 y) held

pub behind_passive_below : (l : ℕ) (v : InputView) → AreBelow l v → AllByRecursion (λ y. y < l) (behind_passive v)
behind_passive_below l v b = AllByRecursion-from_contains (λ y. y < l) (behind_passive v) (below_passive l v b)

pub shown_below : (l : ℕ) (v : InputView) → AreBelow l v → AllByRecursion (λ y. y < l) (shown v)
shown_below l leaf b = tt
shown_below l end b = tt
shown_below l (more back label branch rest) b =
    (b.0, AllByRecursion-from_contains (λ y. y < l) (behind_active (more back label branch rest)) (below_active l (more back label branch rest) b))

-- ---- all labels of a view with identifiers are those that it shows
module _ (a p N : ℕ) where
  around_one : (t n : ℕ) (seen : List ℕ) (v : InputView) → IsTree a p (suc t) n v → FitsAround (identified a p N).active (identified a p N).passive seen v
      → (x y : ℕ) → Contains seen x → Contains seen y → x ≡ y
  around_one t n seen leaf tree h x y at at' = absurd tree
  around_one t n seen end tree h x y at at' = let (z, l, alike) = one_identifier a p N seen h in alike x at ∙ sym (alike y at')
  around_one t zero seen (more back label branch rest) tree h x y at at' = absurd tree
  around_one t (suc n) seen (more back label branch rest) tree h x y at at' =
      around_one t n (label ∷ seen) rest tree.3 h.1 x y (Contains-later x label seen at) (Contains-later y label seen at')

  mutual
    active_labels : (t n x : ℕ) (seen : List ℕ) (v : InputView) → Contains seen x → IsTree a p t n v
        → FitsAround (identified a p N).active (identified a p N).passive seen v
        → HasLabels (λ y. (y ≡ x) ⊎ Contains (behind_active v) y) v
    active_labels t n x seen leaf at tree h = tt
    active_labels t n x seen end at tree h = tt
    active_labels zero n x seen (more back label branch rest) at tree h = absurd tree
    active_labels (suc t) zero x seen (more back label branch rest) at tree h = absurd tree
    active_labels (suc t) (suc n) x seen (more back label branch rest) at tree h = (
      inl (around_one t n (label ∷ seen) rest tree.3 h.1 label x (Contains-here label seen) (Contains-later x label seen at)),
      HasLabels-weaker (λ y. Contains (behind_passive branch) y) (λ y. (y ≡ x) ⊎ Contains (behind_active (more back label branch rest)) y)
          (λ y held. inr (Contains-append_left (behind_passive branch) (behind_active rest) y held)) branch
          (passive_labels t (pred p) (label ∷ []) branch tree.2 h.0),
      HasLabels-weaker (λ y. (y ≡ x) ⊎ Contains (behind_active rest) y) (λ y. (y ≡ x) ⊎ Contains (behind_active (more back label branch rest)) y)
          (λ y h. elim h [ inl e ↦ inl e | inr held ↦ inr (Contains-append_right (behind_passive branch) (behind_active rest) y held) ]) rest
          (active_labels (suc t) n x (label ∷ seen) rest (Contains-later x label seen at) tree.3 h.1),
    )

    passive_labels : (t n : ℕ) (seen : List ℕ) (v : InputView) → IsTree p a t n v → FitsAround (identified a p N).passive (identified a p N).active seen v
        → HasLabels (λ y. Contains (behind_passive v) y) v
    passive_labels t n seen leaf tree h = tt
    passive_labels t n seen end tree h = tt
    passive_labels zero n seen (more back label branch rest) tree h = absurd tree
    passive_labels (suc t) zero seen (more back label branch rest) tree h = absurd tree
    passive_labels (suc t) (suc n) seen (more back label branch rest) tree h = (
      Contains-append_left (label ∷ behind_active branch) (behind_passive rest) label (Contains-here label (behind_active branch)),
      HasLabels-weaker (λ y. (y ≡ label) ⊎ Contains (behind_active branch) y) (λ y. Contains (behind_passive (more back label branch rest)) y)
          (λ y h. Contains-append_left (label ∷ behind_active branch) (behind_passive rest) y (elim h [
            | inl e ↦ subst (λ z. Contains (label ∷ behind_active branch) z) (sym e) (Contains-here label (behind_active branch))
            | inr held ↦ Contains-later y label (behind_active branch) held
          ])) branch (active_labels t (pred a) label (label ∷ []) branch (Contains-here label []) tree.2 h.0),
      HasLabels-weaker (λ y. Contains (behind_passive rest) y) (λ y. Contains (behind_passive (more back label branch rest)) y)
          (λ y held. Contains-append_right (label ∷ behind_active branch) (behind_passive rest) y held) rest
          (passive_labels (suc t) n (label ∷ seen) rest tree.3 h.1),
    )

  pub passive_view_labels : (t n : ℕ) (v : InputView) → IsTree p a t n v → Fits (identified a p N).passive (identified a p N).active v
      → HasLabels (λ y. Contains (behind_passive v) y) v
  passive_view_labels t n v tree h = passive_labels t n [] v tree h

  pub active_view_labels : (t n : ℕ) (v : InputView) → IsTree a p t n v → Fits (identified a p N).active (identified a p N).passive v
      → HasLabels (λ y. Contains (shown v) y) v
  active_view_labels t n leaf tree h = tt
  active_view_labels t n end tree h = tt
  active_view_labels zero n (more back label branch rest) tree h = absurd tree
  active_view_labels (suc t) zero (more back label branch rest) tree h = absurd tree
  active_view_labels (suc t) (suc n) (more back label branch rest) tree h = (
    Contains-here label (behind_passive branch ++ behind_active rest),
    HasLabels-weaker (λ y. Contains (behind_passive branch) y) (λ y. Contains (shown (more back label branch rest)) y)
        (λ y held. Contains-later y label (behind_passive branch ++ behind_active rest)
        (Contains-append_left (behind_passive branch) (behind_active rest) y held)) branch
        (passive_labels t (pred p) (label ∷ []) branch tree.2 h.0),
    HasLabels-weaker (λ y. (y ≡ label) ⊎ Contains (behind_active rest) y) (λ y. Contains (shown (more back label branch rest)) y)
        (λ y h. elim h [
          | inl e ↦ subst (λ z. Contains (label ∷ (behind_passive branch ++ behind_active rest)) z) (sym e)
              (Contains-here label (behind_passive branch ++ behind_active rest))
          | inr held ↦ Contains-later y label (behind_passive branch ++ behind_active rest)
              (Contains-append_right (behind_passive branch) (behind_active rest) y held)
        ]) rest (active_labels (suc t) n label (label ∷ []) rest (Contains-here label []) tree.3 h.1),
  )

-- ---- the number of an identifier
-- the place of x among these, where it stands there
abbrev pub number : List ℕ → ℕ → ℕ
number [] x = 0
number (y ∷ []) x = 0
number (y ∷ z ∷ ids) x = cond (eqb y x) 0 (suc (number (z ∷ ids) x))

pub number_below : (ids : List ℕ) (x : ℕ) → 1 ≤ length ids → number ids x < length ids
number_below [] x some = absurd (omega (arith, some))
number_below (y ∷ []) x some = omega arith
number_below (y ∷ z ∷ ids) x some = go (eqb y x) (number_below (z ∷ ids) x (omega arith))
  where
    go : (b : Bool) → number (z ∷ ids) x < length (z ∷ ids) → cond b 0 (suc (number (z ∷ ids) x)) < length (y ∷ z ∷ ids)
    go true l = omega arith
    go false l = omega (arith, l)

pub number_there : (ids : List ℕ) (x : ℕ) → Contains ids x → (number ids x < length ids) × (slice_index ids (number ids x) ≡ x)
number_there [] x held = absurd (Contains-none x held)
number_there (y ∷ []) x held = (omega arith, elim (Contains-cases x y [] held) [ inl e ↦ sym e | inr there ↦ absurd (Contains-none x there) ])
number_there (y ∷ z ∷ ids) x held = elim (eqb_tells y x) [
  | inl t ↦ (let e = t.1 in rw t.0 (omega arith, e))
  | inr t ↦ later t.0 (elim (Contains-cases x y (z ∷ ids) held) [ inl e ↦ absurd (t.1 (sym e)) | inr there ↦ number_there (z ∷ ids) x there ])
]
  where
    later : eqb y x ≡ false → (number (z ∷ ids) x < length (z ∷ ids)) × (slice_index (z ∷ ids) (number (z ∷ ids) x) ≡ x)
        → (number (y ∷ z ∷ ids) x < length (y ∷ z ∷ ids)) × (slice_index (y ∷ z ∷ ids) (number (y ∷ z ∷ ids) x) ≡ x)
    later other (l, e) = rw other (omega (arith, l), e)

pub map-same : (f g : ℕ → ℕ) (xs : List ℕ) → ((x : ℕ) → Contains xs x → f x ≡ g x) → map f xs ≡ map g xs
map-same f g [] same = refl
map-same f g (x ∷ xs) same =
    let here : f x ≡ g x = same x (Contains-here x xs) in
    let rest : map f xs ≡ map g xs = map-same f g xs (λ y at. same y (Contains-later y x xs at)) in
    rw (here, rest) refl

map-next : (i n : ℕ) → map suc (count_from i n) ≡ count_from (suc i) n
map-next i zero = refl
map-next i (suc n) = ap (◌∷◌ (suc i)) (map-next (suc i) n)

-- different ones are numbered in order
pub numbers_all : (ids : List ℕ) → AreDifferent ids → map (number ids) ids ≡ count_from 0 (length ids)
numbers_all [] apart = refl
numbers_all (y ∷ []) apart = refl
numbers_all (y ∷ z ∷ ids) apart =
    let here : number (y ∷ z ∷ ids) y ≡ 0 = elim (eqb_tells y y) [ inl t ↦ rw t.0 refl | inr t ↦ absurd (t.1 refl) ] in
    let rest : map (number (y ∷ z ∷ ids)) (z ∷ ids) ≡ map (λ x. suc (number (z ∷ ids) x)) (z ∷ ids) =
    map-same (number (y ∷ z ∷ ids)) (λ x. suc (number (z ∷ ids) x)) (z ∷ ids)
    (λ x at. elim (eqb_tells y x) [ inl t ↦ absurd (apart.0 (subst (λ w. Contains (z ∷ ids) w) (sym t.1) at)) | inr t ↦ rw t.0 refl ]) in
    let before : map (number (z ∷ ids)) (z ∷ ids) ≡ count_from 0 (length (z ∷ ids)) = numbers_all (z ∷ ids) apart.1 in
    let next : map (λ x. suc (number (z ∷ ids) x)) (z ∷ ids) ≡ count_from 1 (length (z ∷ ids)) =
    sym (map-map suc (number (z ∷ ids)) (z ∷ ids)) ∙ (ap (map suc) before ∙ map-next 0 (length (z ∷ ids))) in
    ap (λ n. n ∷ map (number (y ∷ z ∷ ids)) (z ∷ ids)) here ∙ ap (◌∷◌ 0) (rest ∙ next)

-- ---- numbers fit where identifiers do
map-replicate : (f : ℕ → ℕ) (n x : ℕ) → map f (replicate n x) ≡ replicate n (f x)
map-replicate f zero x = refl
map-replicate f (suc n) x = ap (◌∷◌ (f x)) (map-replicate f n x)

pub numbered_active : (a p N k : ℕ) (image : ℕ → ℕ) → ((x : ℕ) → image x < k) → TakesTo image (identified a p N).active (identified a p k).active
numbered_active a p N k image low labels has =
    let (x, held, is) = Contains-map_cases (replicate a) (count_from 0 N) (sorted labels) has in
    let same : sorted (map image labels) ≡ replicate a (image x) =
    sym (sorted_map image labels) ∙
    (ap (λ (config : List ℕ). sorted (map image config)) (sym is) ∙
    (ap sorted (map-replicate image a x) ∙ sorted_again (replicate a (image x)) (alike_rise a (image x)))) in
    rw same (Contains-map (replicate a) (count_from 0 k) (image x) (Contains-count_from 0 k (image x) (omega arith) (let l = low x in omega (arith, l))))

pub numbered_passive : (a p N k : ℕ) (image : ℕ → ℕ) → ((x : ℕ) → image x < k) → TakesTo image (identified a p N).passive (identified a p k).passive
numbered_passive a p N k image low labels has =
    let is : IsConfig p N (sorted labels) = ((multisets_law p N).1 (sorted labels)).0 has in
    let count : length (map image labels) ≡ p = length-map labels image ∙ (sym (length-sorted labels) ∙ is.count) in
    let below : AllByRecursion (λ x. x < k) (map image labels) = AllByRecursion-from_contains (λ x. x < k) (map image labels) each in
    ((multisets_law p k).1 (sorted (map image labels))).1 (IsConfig-sorted p k (map image labels) count below)
  where
    each : (y : ℕ) → Contains (map image labels) y → y < k
    each y held = let (x, at, e) = Contains-map_cases image labels y held in subst (λ z. z < k) e (low x)

-- ---- strings
pub painted-relabelled : (strings : List ℕ) (v : InputView) → painted strings v ≡ relabelled (slice_index strings) v
painted-relabelled strings leaf = refl
painted-relabelled strings end = refl
painted-relabelled strings (more back label branch rest) =
    let here : painted strings branch ≡ relabelled (slice_index strings) branch = painted-relabelled strings branch in
    let there : painted strings rest ≡ relabelled (slice_index strings) rest = painted-relabelled strings rest in
    rw (here, there) refl

pub painted-as : (strings strings' : List ℕ) (image : ℕ → ℕ) (v : InputView) → HasLabels (λ y. slice_index strings (image y) ≡ slice_index strings' y) v
    → painted strings (relabelled image v) ≡ painted strings' v
painted-as strings strings' image leaf h = refl
painted-as strings strings' image end h = refl
painted-as strings strings' image (more back label branch rest) h =
    let at_label : slice_index strings (image label) ≡ slice_index strings' label = h.0 in
    let here : painted strings (relabelled image branch) ≡ painted strings' branch = painted-as strings strings' image branch h.1 in
    let there : painted strings (relabelled image rest) ≡ painted strings' rest = painted-as strings strings' image rest h.2 in
    rw (at_label, here, there) refl

-- the numbered view under the strings of its identifiers is the view with identifiers under all strings
pub painted-numbers : (strings ids : List ℕ) (v : InputView) → HasLabels (λ y. Contains ids y) v
    → painted (map (slice_index strings) ids) (relabelled (number ids) v) ≡ painted strings v
painted-numbers strings ids v h =
    painted-as (map (slice_index strings) ids) strings (number ids) v
    (HasLabels-weaker (λ y. Contains ids y) (λ y. slice_index (map (slice_index strings) ids) (number ids y) ≡ slice_index strings y) each v h)
  where
    each : (y : ℕ) → Contains ids y → slice_index (map (slice_index strings) ids) (number ids y) ≡ slice_index strings y
    each y held =
        let (l, e) = number_there ids y held in
        get_or-map (slice_index strings) ids (number ids y) 0 0 l ∙ ap (slice_index strings) e
