-- Colours that are drawn: two ends of an edge draw one colour with probability 1 / c.
use Rattle.std.proofs.Common.{◌≡◌, ◌≢◌, ℕ, zero, suc, pred, ◌*◌, ◌^◌, ◌≤◌, ◌<◌, Bool, true, false, not, eqb, cond, inl, inr, Some, List, [], ◌∷◌, ◌++◌, map, length, filter, refl, sym, ◌∙◌, ap, subst, arith, one-add}
use Rattle.std.specs.Prelude.{Contains, replicate, slice_index}
use Rattle.std.proofs.Math.Nat.{mul-le-mul_right, pow-succ', pow-zero}
use Rattle.std.proofs.lemmas.Bool.{cases_lt, false≢true}
use Rattle.std.proofs.lemmas.Bool.Decides.{eqb_tells}
use Rattle.std.proofs.lemmas.List.{length-replicate}
use Rattle.re_labels.proofs.LawsOfRows.{multisets_law}
use Rattle.re_labels.proofs.Sorting.{IsConfig-sorted, sorted_again}
use Rattle.re_labels.specs.Configs.{sorted, support_of}
use Rattle.re_labels.specs.Orders.{multisets}
use Rattle.re_labels.specs.Rearranging.{swapped}
use Rattle.re_labels.proofs.Replicated.{alike_rise, alike_support}
use Rattle.re_given.proofs.Colourings.{colour_there, colours_there, filtered_constraint}
use Rattle.re_given.proofs.KnownViews.{payloads-known}
use Rattle.re_given.proofs.Relabelled.{IsTree-relabelled, relabelled}
use Rattle.re_given.proofs.SlowGiven.{Has-root, length-payloads, payload-shift, payloads-child}
use Rattle.re_given.proofs.ZeroGiven.{FitsAround-list_view, IsTree-list_view, config-Has, list_view}
use Rattle.re_given.specs.Given.{around_known}
use Rattle.re_given.specs.InputViews.{Fits, InputView, known, payloads}
use Rattle.re_given.specs.Unavoidable.{colouring}
use Rattle.re_labels.proofs.Before.{three_ways}
use Rattle.re_labels.proofs.Membership.{Contains-count_from, Contains-filter_cases, Contains-map, Contains-map_cases, count_from_range, length-count_from}
use Rattle.re_labels.specs.Lists.{count_from}
use Rattle.re_laws.proofs.Ports.{map-at_port, map-count}
use Rattle.re_laws.specs.Algorithms.{at_port}
use Rattle.re_local.proofs.Complete.{none_behind}
use Rattle.re_local.specs.LocalAlgorithms.{behind_active, behind_passive, identified}
use Rattle.re_classes.proofs.Certain.{never_below, strings_low}
use Rattle.re_classes.proofs.Drawn.{passing-strings, total-same}
use Rattle.re_classes.proofs.Numbered.{numbered_active, painted-relabelled}
use Rattle.re_classes.specs.Chances.{DrawnColourLaw}
use Rattle.re_classes.specs.RandomAlgorithms.{FailsRarely, painted, string_lists}
use Rattle.re_local.proofs.Counting.{one_if, total, total-const, total-le}
use Rattle.re_labels.proofs.Goodness.{Has-Rearranged, Has-has_config, has_config-Has}
use Rattle.re_labels.specs.Constraints.{Has, has_config}
use Rattle.re_laws.proofs.JoinedBranches.{backs-child}
use Rattle.re_laws.proofs.ViewLaws.{IsChild, child_of}
use Rattle.re_laws.specs.Trees.{Child, IsTree, IsView, backs, child_at, end, leaf, more, shift}

-- ---- nodes that output their own labels
around-own : (d e : ℕ) (v : InputView) → IsView d e 2 v → around_known d 0 payloads v ≡ payloads v
around-own d e v view =
    map-count (λ port. at_port (payloads (known 0 (shift 1 v port))) (at_port (backs v) port)) (λ port. at_port (payloads v) port) 1 d
    (λ k l. rw one-add (each k (child_of d e 1 d v view k l)))
    ∙ (map-at_port (λ label. label) (payloads v) d (length-payloads d e 1 d v view) ∙ same (payloads v))
  where
    each : (k : ℕ) → (c : Child ℕ) × (child_at k v ≡ Some c) × IsChild e d 1 c
        → at_port (payloads (known 0 (shift 1 v (suc k)))) (at_port (backs v) (suc k)) ≡ at_port (payloads v) (suc k)
    each k (c, at, child) =
        let back_is : at_port (backs v) (suc k) ≡ c.back = backs-child k c v at in
        let label_is : at_port (payloads (known 0 (shift 1 v (suc k)))) c.back ≡ at_port (payloads v) (suc k) =
        ap (λ (labels : List ℕ). at_port labels c.back) (payloads-known 0 (shift 1 v (suc k)))
        ∙ (payload-shift d e 0 v (suc k) c at child ∙ sym (payloads-child k c v at)) in
        rw back_is label_is

    same : (xs : List ℕ) → map (λ x. x) xs ≡ xs
    same [] = refl
    same (x ∷ xs) = ap (◌∷◌ x) (same xs)

payloads-relabelled : (image : ℕ → ℕ) (v : InputView) → payloads (relabelled image v) ≡ map image (payloads v)
payloads-relabelled image leaf = refl
payloads-relabelled image end = refl
payloads-relabelled image (more back label branch rest) = ap (◌∷◌ (image label)) (payloads-relabelled image rest)

-- ---- what an edge shows
two_ends : (a k : ℕ) (v : InputView) → IsView 2 a 2 v → behind_passive v ≡ count_from 0 k → (k ≡ 2) × (payloads v ≡ 0 ∷ 1 ∷ [])
two_ends a k leaf view order = absurd view
two_ends a k end view order = absurd view
two_ends a k (more back x branch leaf) view order = absurd view.3
two_ends a k (more back x branch end) view order = absurd view.3
two_ends a k (more back x branch (more back' y branch' leaf)) view order = absurd view.3.3
two_ends a k (more back x branch (more back' y branch' (more back'' z branch'' rest))) view order = absurd view.3.3
two_ends a k (more back x branch (more back' y branch' end)) view order =
    let here : behind_active branch ≡ [] = none_behind a 2 (pred a) branch view.2 in
    let there : behind_active branch' ≡ [] = none_behind a 2 (pred a) branch' view.3.2 in
    go (behind_active branch) (behind_active branch') here there order
  where
    go : (us ws : List ℕ) → us ≡ [] → ws ≡ [] → (x ∷ us) ++ ((y ∷ ws) ++ []) ≡ count_from 0 k → (k ≡ 2) × (x ∷ y ∷ [] ≡ 0 ∷ 1 ∷ [])
    go us ws e f order =
        let plain : x ∷ y ∷ [] ≡ count_from 0 k = rw (e, f) at order in
        let two : k ≡ 2 = sym (length-count_from 0 k) ∙ sym (ap length plain) in
        (two, plain ∙ ap (count_from 0) two)

-- ---- the edge that has two different labels at its ends
abbrev row : ℕ → ℕ → InputView
row n label = list_view (replicate n label)

IsTree-row : (d e n label : ℕ) → 1 ≤ e → IsTree d e 1 n (row n label)
IsTree-row d e n label some =
    subst (λ m. IsTree d e 1 m (row n label)) (length-replicate n label) (IsTree-list_view d e (replicate n label) some)

one_more : (n x : ℕ) → replicate n x ++ (x ∷ []) ≡ replicate (suc n) x
one_more zero x = refl
one_more (suc n) x = ap (◌∷◌ x) (one_more n x)

abbrev edge : ℕ → InputView
edge n = more 1 0 (row n 0) (more 1 1 (row n 1) end)

edge-IsView : (n : ℕ) → IsView 2 (suc n) 2 (edge n)
edge-IsView n = (omega arith, omega arith, IsTree-row (suc n) 2 n 0 (omega arith), (omega arith, omega arith, IsTree-row (suc n) 2 n 1 (omega arith), tt))

edge-order : (n : ℕ) → behind_passive (edge n) ≡ count_from 0 2
edge-order n =
    let here : behind_active (row n 0) ≡ [] = none_behind (suc n) 2 n (row n 0) (IsTree-row (suc n) 2 n 0 (omega arith)) in
    let there : behind_active (row n 1) ≡ [] = none_behind (suc n) 2 n (row n 1) (IsTree-row (suc n) 2 n 1 (omega arith)) in
    rw (here, there) refl

edge-fits : (n : ℕ) → Fits (identified (suc n) 2 2).passive (identified (suc n) 2 2).active (edge n)
edge-fits n = (
  FitsAround-list_view (identified (suc n) 2 2).active (identified (suc n) 2 2).passive (replicate n 0) (0 ∷ [])
      (subst (Has (identified (suc n) 2 2).active) (sym (one_more n 0)) (alike 0 (omega arith))),
  (
    FitsAround-list_view (identified (suc n) 2 2).active (identified (suc n) 2 2).passive (replicate n 1) (1 ∷ [])
        (subst (Has (identified (suc n) 2 2).active) (sym (one_more n 1)) (alike 1 (omega arith))),
    ((multisets_law 2 2).1 (sorted (1 ∷ 0 ∷ []))).1 (IsConfig-sorted 2 2 (1 ∷ 0 ∷ []) refl (omega arith, (omega arith, tt))),
  ),
)
  where
    alike : (x : ℕ) → x < 2 → Has (identified (suc n) 2 2).active (replicate (suc n) x)
    alike x l =
        subst (Contains (map (replicate (suc n)) (count_from 0 2))) (sym (sorted_again (replicate (suc n) x) (alike_rise (suc n) x)))
        (Contains-map (replicate (suc n)) (count_from 0 2) x (Contains-count_from 0 2 x (omega arith) (omega (arith, l))))

-- ---- two colours
module _ (a c : ℕ) (least : 1 ≤ a) where
  rising : (x y : ℕ) → x < y → y < c → Has (colouring a 2 c).passive (x ∷ y ∷ [])
  rising x y l m = config-Has c (colouring a 2 c).passive (x ∷ y ∷ []) (filtered_constraint 2 c _ (omega arith) (omega arith))
      (colours_there a 2 c (x ∷ y ∷ []) refl ((l, tt), (omega (arith, l, m), (m, tt))))

  -- they clash exactly where they are one
  clash : (x y : ℕ) → x < c → y < c → not (has_config (colouring a 2 c).passive (x ∷ y ∷ [])) ≡ eqb x y
  clash x y l m = elim (eqb_tells x y) [
    | inl t ↦ subst (λ z. not (has_config (colouring a 2 c).passive (x ∷ z ∷ [])) ≡ eqb x z) t.1 (alike x)
    | inr t ↦ ap not (Has-has_config (colouring a 2 c).passive (x ∷ y ∷ []) (different t.1)) ∙ sym t.0
  ]
    where
      different : x ≢ y → Has (colouring a 2 c).passive (x ∷ y ∷ [])
      different other = elim (three_ways x y) [
        | inl low ↦ rising x y low m
        | inr (inl e) ↦ absurd (other e)
        | inr (inr low) ↦ Has-Rearranged (colouring a 2 c).passive (swapped {x = y} {y = x} {xs = []}) (rising y x low l)
      ]

      never : (x : ℕ) → Has (colouring a 2 c).passive (x ∷ x ∷ []) → ⊥
      never x has =
          let at : Contains (colouring a 2 c).passive.configs (x ∷ x ∷ []) =
          subst (Contains (colouring a 2 c).passive.configs) (sorted_again (x ∷ x ∷ []) (omega arith, tt)) has in
          let test = (Contains-filter_cases (λ edges. eqb (length (support_of edges)) (length edges)) (multisets 2 0 c) (x ∷ x ∷ []) at).1 in
          let one : eqb (length (support_of (x ∷ x ∷ []))) 2 ≡ false = ap (λ (s : List ℕ). eqb (length s) 2) (alike_support 1 x) in
          false≢true (sym one ∙ test)

      alike : (x : ℕ) → not (has_config (colouring a 2 c).passive (x ∷ x ∷ [])) ≡ eqb x x
      alike x = go (has_config (colouring a 2 c).passive (x ∷ x ∷ [])) (λ e. never x (has_config-Has (colouring a 2 c).passive (x ∷ x ∷ []) e)) ∙ sym same
        where
          go : (b : Bool) → (b ≡ true → ⊥) → not b ≡ true
          go false h = refl
          go true h = absurd (h refl)

          same : eqb x x ≡ true
          same = elim (eqb_tells x x) [ inl t ↦ t.0 | inr t ↦ absurd (t.1 refl) ]

  total-below : (f g : ℕ → ℕ) (n : ℕ) → ((x : ℕ) → x < n → f x ≡ g x) → total f n ≡ total g n
  total-below f g n same =
      let up : total f n ≤ total g n = total-le f g n (λ x l. (let e = same x l in omega (arith, e))) in
      let down : total g n ≤ total f n = total-le g f n (λ x l. (let e = same x l in omega (arith, e))) in
      omega (arith, up, down)

  first_other : (t : ℕ) → eqb 0 (suc t) ≡ false
  first_other t = elim (eqb_tells 0 (suc t)) [ inl e ↦ absurd (let same = e.1 in omega (arith, same)) | inr e ↦ e.0 ]

  next_same : (s t : ℕ) → eqb (suc s) (suc t) ≡ eqb s t
  next_same s t = elim (eqb_tells s t) [
    | inl e ↦ elim (eqb_tells (suc s) (suc t)) [ inl f ↦ f.0 ∙ sym e.0 | inr f ↦ absurd (f.1 (ap suc e.1)) ]
    | inr e ↦ elim (eqb_tells (suc s) (suc t)) [ inl f ↦ absurd (e.1 (ap pred f.1)) | inr f ↦ f.0 ∙ sym e.0 ]
  ]

  one_only : (s n : ℕ) → s < n → total (λ t. one_if (eqb s t)) n ≡ 1
  one_only s zero l = absurd (omega (arith, l))
  one_only zero (suc n) l =
      let here : one_if (eqb 0 0) ≡ 1 = elim (eqb_tells 0 0) [ inl e ↦ ap one_if e.0 | inr e ↦ absurd (e.1 refl) ] in
      let others : total (λ t. one_if (eqb 0 (suc t))) n ≡ total (λ t. 0) n =
      total-same (λ t. one_if (eqb 0 (suc t))) (λ t. 0) n (λ t. ap one_if (first_other t)) in
      let none : total (λ t. 0) n ≡ n * 0 = total-const 0 n in
      omega (arith, here, others, none)
  one_only (suc s) (suc n) l =
      let here : one_if (eqb (suc s) 0) ≡ 0 = elim (eqb_tells (suc s) 0) [ inl e ↦ absurd (let same = e.1 in omega (arith, same)) | inr e ↦ ap one_if e.0 ] in
      let others : total (λ t. one_if (eqb (suc s) (suc t))) n ≡ total (λ t. one_if (eqb s t)) n =
      total-same (λ t. one_if (eqb (suc s) (suc t))) (λ t. one_if (eqb s t)) n (λ t. ap one_if (next_same s t)) in
      let rest : total (λ t. one_if (eqb s t)) n ≡ 1 = one_only s n (omega (arith, l)) in
      omega (arith, here, others, rest)

  clashes : length (filter (λ strings. not (has_config (colouring a 2 c).passive (slice_index strings 0 ∷ slice_index strings 1 ∷ []))) (string_lists c 2)) ≡ c
  clashes =
      passing-strings c 2 (λ strings. not (has_config (colouring a 2 c).passive (slice_index strings 0 ∷ slice_index strings 1 ∷ [])))
      ∙ (total-below (λ s. total (λ t. one_if (not (has_config (colouring a 2 c).passive (s ∷ t ∷ [])))) c) (λ s. 1) c
      (λ s l. total-below (λ t. one_if (not (has_config (colouring a 2 c).passive (s ∷ t ∷ [])))) (λ t. one_if (eqb s t)) c
      (λ t m. ap one_if (clash s t l m)) ∙ one_only s c l)
      ∙ (total-const 1 c ∙ unit c))
    where
      unit : (n : ℕ) → n * 1 ≡ n
      unit n = omega arith

  filter-as : {X : Type 0} (test test' : X → Bool) (xs : List X) → ((x : X) → test x ≡ test' x) → length (filter test xs) ≡ length (filter test' xs)
  filter-as test test' [] same = refl
  filter-as test test' (x ∷ xs) same =
      let here : test x ≡ test' x = same x in
      let rest : length (filter test xs) ≡ length (filter test' xs) = filter-as test test' xs same in
      go (test x) (test' x) here rest
    where
      go : (b b' : Bool) → b ≡ b' → length (filter test xs) ≡ length (filter test' xs)
          → length (cond b (x ∷ filter test xs) (filter test xs)) ≡ length (cond b' (x ∷ filter test' xs) (filter test' xs))
      go false false e f = f
      go true true e f = ap suc f
      go true false e f = absurd (false≢true (sym e))
      go false true e f = absurd (false≢true e)

  failures : (v : InputView) → IsView 2 a 2 v → payloads v ≡ 0 ∷ 1 ∷ []
      → length (filter (λ strings. not (has_config (colouring a 2 c).passive (around_known 2 0 payloads (painted strings v)))) (string_lists c 2)) ≡ c
  failures v view ends =
      filter-as (λ strings. not (has_config (colouring a 2 c).passive (around_known 2 0 payloads (painted strings v))))
      (λ strings. not (has_config (colouring a 2 c).passive (slice_index strings 0 ∷ slice_index strings 1 ∷ []))) (string_lists c 2)
      (λ strings. ap (λ (labels : List ℕ). not (has_config (colouring a 2 c).passive labels)) (seen strings)) ∙ clashes
    where
      seen : (strings : List ℕ) → around_known 2 0 payloads (painted strings v) ≡ slice_index strings 0 ∷ slice_index strings 1 ∷ []
      seen strings =
          ap (around_known 2 0 payloads) (painted-relabelled strings v)
          ∙ (around-own 2 a (relabelled (slice_index strings) v) (IsTree-relabelled (slice_index strings) 2 a 2 2 v view)
          ∙ (payloads-relabelled (slice_index strings) v ∙ ap (map (slice_index strings)) ends))

  -- a node has its own colour on all its edges
  own_colour : (labels : List ℕ) → Has (identified a 2 c).active labels → Has (colouring a 2 c).active labels
  own_colour labels has =
      let (x, held, is) = Contains-map_cases (replicate a) (count_from 0 c) (sorted labels) has in
      let range = count_from_range 0 c x held in
      subst (Contains (colouring a 2 c).active.configs) is (colour_there a 2 c x least (let l = range.1 in omega (arith, l)))

square : (c : ℕ) → c ^ 2 ≡ c * c
square c =
    let one : c ^ 2 ≡ c * c ^ 1 = pow-succ' c 1 in
    let two : c ^ 1 ≡ c * c ^ 0 = pow-succ' c 0 in
    let none : c ^ 0 ≡ 1 = pow-zero c in
    let last : c * 1 ≡ c = omega arith in
    one ∙ ap (λ z. c * z) (two ∙ (ap (λ z. c * z) none ∙ last))

pub drawn_colour : DrawnColourLaw
drawn_colour zero c q least most some = absurd (omega (arith, least))
drawn_colour (suc n) c q least most some = (forth, back)
  where
    a : ℕ
    a = suc n

    forth : FailsRarely (colouring a 2 c) c 0 q payloads → q < c
    forth fails =
        let rare = fails.passive (edge n) 2 (edge-IsView n) (edge-fits n) (edge-order n) in
        let counted = failures a c (omega arith) (edge n) (edge-IsView n) refl in
        let less : q * c < c ^ 2 = subst (λ z. q * c < z) refl (subst (λ z. q * z < c ^ 2) counted rare) in
        let less' : q * c < c * c = subst (λ z. q * c < z) (square c) less in
        elim (cases_lt q c) [ inl l ↦ l | inr l ↦ (let up : c * c ≤ q * c = mul-le-mul_right c l in absurd (omega (arith, up, less'))) ]

    back : q < c → FailsRarely (colouring a 2 c) c 0 q payloads
    back l = record {
      active = λ v k view fits order.
          never_below c k q (λ strings. not (has_config (colouring a 2 c).active (payloads (known 0 (painted strings v))))) some
          (λ strings held.
          let root : Has (identified a 2 k).active (payloads v) = Has-root (identified a 2 k).active (identified a 2 k).passive a 2 0 v view fits in
          let own : Has (colouring a 2 c).active (map (slice_index strings) (payloads v)) =
          own_colour a c (omega arith) (map (slice_index strings) (payloads v))
          (numbered_active a 2 k c (slice_index strings) (strings_low c k strings some held) (payloads v) root) in
          let seen : payloads (known 0 (painted strings v)) ≡ map (slice_index strings) (payloads v) =
          payloads-known 0 (painted strings v) ∙ (ap payloads (painted-relabelled strings v) ∙ payloads-relabelled (slice_index strings) v) in
          ap (λ (labels : List ℕ). not (has_config (colouring a 2 c).active labels)) seen
          ∙ ap not (Has-has_config (colouring a 2 c).active (map (slice_index strings) (payloads v)) own));
      passive = λ v k view fits order.
          let ends = two_ends a k v view order in
          subst (λ k. q * length (filter (λ strings. not (has_config (colouring a 2 c).passive (around_known 2 0 payloads (painted strings v))))
          (string_lists c k)) < c ^ k)
          (sym ends.0) (rare v view ends.1);
    }
      where
        rare : (v : InputView) → IsView 2 a 2 v → payloads v ≡ 0 ∷ 1 ∷ []
            → q * length (filter (λ strings. not (has_config (colouring a 2 c).passive (around_known 2 0 payloads (painted strings v))))
            (string_lists c 2)) < c ^ 2
        rare v view ends =
            let up : suc q * c ≤ c * c = mul-le-mul_right c l in
            let power = square c in
            rw (failures a c (omega arith) v view ends) (omega (arith, up, power, some))
