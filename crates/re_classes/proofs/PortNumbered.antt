-- What a local algorithm with enough identifiers solves, an algorithm without them does: it numbers the nodes that it sees by the way around its view,
-- takes that many of some identifiers on which the local algorithm goes by their order alone, and outputs what the local algorithm does.
use Rattle.std.proofs.Common.{◌≡◌, ℕ, zero, suc, pred, ◌+◌, ◌≤◌, ◌<◌, Bool, true, false, Some, List, [], ◌∷◌, map, take, length, get_or, refl, sym, ◌∙◌, ap, subst, arith, inl, inr, ◌⊎◌}
use Rattle.std.specs.Prelude.{◌↔◌, Contains, flat_map, if◌then◌else◌, replicate}
use Rattle.std.specs.List.{AllByRecursion}
use Rattle.std.proofs.lemmas.List.{length-map, length-take-le, map-id}
use Rattle.re_labels.proofs.LawsOfRows.{multisets_law}
use Rattle.re_labels.proofs.Rearranging.{Contains-Rearranged, Rearranged-sym}
use Rattle.re_labels.proofs.Sorting.{IsConfig-sorted, Rearranged-sorted, length-sorted, sorted_again}
use Rattle.re_labels.specs.Configs.{IsConfig, sorted}
use Rattle.re_labels.proofs.Replicated.{alike_rise}
use Rattle.re_given.proofs.AllInputViews.{Contains-fitting, fitting_views}
use Rattle.re_given.proofs.Fitting.{FitsAround-shift}
use Rattle.re_given.proofs.GivenTables.{SolvableGiven-by}
use Rattle.re_given.proofs.Relabelled.{IsTree-relabelled, backs-relabelled, child_at-relabelled, relabelled, relabelled_child, relabelled-shift}
use Rattle.re_given.proofs.Ungiven.{IsInput-nothing, Solvable-nothing, SolvesGivenBy-plain, plain}
use Rattle.re_given.specs.Given.{SolvesGivenBy, around_known}
use Rattle.re_given.specs.InputViews.{Fits, FitsAround, InputView, known}
use Rattle.re_given.specs.Inputs.{exchanged, nothing}
use Rattle.re_labels.proofs.Before.{same_list-refl, same_list-same}
use Rattle.re_labels.proofs.Membership.{AllByRecursion-contains, AllByRecursion-from_contains, Contains-cases, Contains-count_from, Contains-flat_map, Contains-here, Contains-later, Contains-map, Contains-map_cases, Contains-none, count_from_range, length-count_from}
use Rattle.re_labels.specs.Lists.{count_from, same_list}
use Rattle.re_laws.proofs.Ports.{map-count}
use Rattle.re_laws.specs.Algorithms.{Solvable, answer, at_port}
use Rattle.re_local.proofs.ColouredLocal.{different_Rearranged}
use Rattle.re_layers.specs.Networks.{AreDifferent}
use Rattle.re_local.specs.LocalAlgorithms.{SolvableLocal, SolvesApart, behind_active, behind_passive, identified, shown}
use Rattle.re_classes.proofs.Arranged.{Everywhere, IsTree-places, IsTree-places_around, NamedActive, NamedPassive, everywhere_relabelled, given, given_around, given_back, given-known, given-relabelled, named_given, named_given_around, named_shift, ordered_given, ordered_given_around, relabelled_twice, shown_passive, shown_turns, size, size-known, size-relabelled, size_turns}
use Rattle.re_classes.proofs.Parts.{Pairwise, Part, held, none, pairwise_part, part_contains, part_empty, part_trans}
use Rattle.re_classes.proofs.Ramsey.{AlikeAll, BoundAll, ramsey_all}
use Rattle.re_classes.proofs.Ranks.{count_from_rises, labels, ordered_different, rank, rising_part, sorted_rising}
use Rattle.re_classes.proofs.Tagged.{places, places_around, tagged_passive, untagged_passive}
use Rattle.re_classes.proofs.Turns.{Ordered, Turn, active_turns, active_turns-relabelled, ordered_shift, passive_turns, turned_to}
use Rattle.re_problem.specs.Problems.{IsProblem, Problem}
use Rattle.re_labels.proofs.Goodness.{Has-has_config, has_config-Has}
use Rattle.re_labels.specs.Constraints.{Has, has_config}
use Rattle.re_laws.proofs.ViewLaws.{IsChild, IsView-shift, child_of}
use Rattle.re_laws.specs.Trees.{Child, IsTree, IsView, backs, child_at, cut, end, leaf, more, shift}

-- ---- lists
-- all lists of n numbers below m
abbrev all_lists : ℕ → ℕ → List (List ℕ)
all_lists m zero = [] ∷ []
all_lists m (suc n) = flat_map (λ x. map (◌∷◌ x) (all_lists m n)) (count_from 0 m)

Contains-all_lists : (m n : ℕ) (xs : List ℕ) → length xs ≡ n → AllByRecursion (λ x. x < m) xs → Contains (all_lists m n) xs
Contains-all_lists m zero [] count low = Contains-here [] []
Contains-all_lists m zero (x ∷ xs) count low = absurd (omega (arith, count))
Contains-all_lists m (suc n) [] count low = absurd (omega (arith, count))
Contains-all_lists m (suc n) (x ∷ xs) count low =
    Contains-flat_map (λ x. map (◌∷◌ x) (all_lists m n)) (count_from 0 m) x (x ∷ xs) (Contains-count_from 0 m x (omega arith) (let l = low.0 in omega (arith, l)))
    (Contains-map (◌∷◌ x) (all_lists m n) xs (Contains-all_lists m n xs (omega (arith, count)) low.1))

decide_list : (x y : List ℕ) → (x ≡ y) ⊎ (x ≡ y → ⊥)
decide_list x y = which (same_list x y) refl
  where
    which : (b : Bool) → same_list x y ≡ b → (x ≡ y) ⊎ (x ≡ y → ⊥)
    which true e = inl (same_list-same x y e)
    which false e = inr (λ f. clash (subst (λ z. same_list x z ≡ false) (sym f) e))
      where
        clash : same_list x x ≡ false → ⊥
        clash g = let one : same_list x x ≡ true = same_list-refl x in let two : false ≡ true = sym g ∙ one in cc

part_take : (n : ℕ) (xs : List ℕ) → Part (take n xs) xs
part_take zero xs = part_empty xs
part_take (suc n) [] = none
part_take (suc n) (x ∷ xs) = held (part_take n xs)

-- the sum of a function over a list
abbrev total : {X : Type 0} → (X → ℕ) → List X → ℕ
total f [] = 0
total f (x ∷ xs) = f x + total f xs

total_most : {X : Type 0} (f : X → ℕ) (xs : List X) (x : X) → Contains xs x → f x ≤ total f xs
total_most f [] x at = absurd (Contains-none x at)
total_most f (y ∷ xs) x at = elim (Contains-cases x y xs at) [
  | inl e ↦ (let same : f x ≡ f y = ap f e in omega (arith, same))
  | inr there ↦ (let l = total_most f xs x there in omega (arith, l))
]

-- no identifier
abbrev none_of : ℕ → ℕ
none_of i = 0

-- ---- labels below N fit
module _ (a p N : ℕ) (a_some : 1 ≤ a) (p_some : 1 ≤ p) where
  mutual
    fits_active : (t n m label : ℕ) (x : InputView) → IsTree a p t n x → NamedActive label x → Everywhere (λ y. y < N) x → label < N → n + m ≡ a → FitsAround (identified a p N).active (identified a p N).passive (replicate m label) x
    fits_active t n m label leaf is same low own count = tt
    fits_active zero n m label end is same low own count = absurd is
    fits_active (suc t) zero m label end is same low own count = subst (λ k. Has (identified a p N).active (replicate k label)) (all count) there
      where
        all : 0 + m ≡ a → a ≡ m
        all e = omega (arith, e)

        there : Has (identified a p N).active (replicate a label)
        there = subst (Contains (map (replicate a) (count_from 0 N))) (sym (sorted_again (replicate a label) (alike_rise a label))) (Contains-map (replicate a) (count_from 0 N) label (Contains-count_from 0 N label (omega arith) (omega (arith, own))))
    fits_active (suc t) (suc n) m label end is same low own count = absurd is
    fits_active zero n m label (more back l branch rest) is same low own count = absurd is
    fits_active (suc t) zero m label (more back l branch rest) is same low own count = absurd is
    fits_active (suc t) (suc n) m label (more back l branch rest) is same low own count = (
      fits_passive t (pred p) (l ∷ []) branch is.2 same.1 low.1 (low.0, tt) (omega (arith, p_some)),
      subst (λ k. FitsAround (identified a p N).active (identified a p N).passive (k ∷ replicate m label) rest) (sym same.0) (fits_active (suc t) n (suc m) label rest is.3 same.2 low.2 own (omega (arith, count))),
    )

    fits_passive : (t n : ℕ) (seen : List ℕ) (x : InputView) → IsTree p a t n x → NamedPassive x → Everywhere (λ y. y < N) x → AllByRecursion (λ y. y < N) seen → n + length seen ≡ p → FitsAround (identified a p N).passive (identified a p N).active seen x
    fits_passive t n seen leaf is same low below count = tt
    fits_passive zero n seen end is same low below count = absurd is
    fits_passive (suc t) zero seen end is same low below count = ((multisets_law p N).1 (sorted seen)).1 (IsConfig-sorted p N seen (all count) below)
      where
        all : 0 + length seen ≡ p → length seen ≡ p
        all e = omega (arith, e)
    fits_passive (suc t) (suc n) seen end is same low below count = absurd is
    fits_passive zero n seen (more back l branch rest) is same low below count = absurd is
    fits_passive (suc t) zero seen (more back l branch rest) is same low below count = absurd is
    fits_passive (suc t) (suc n) seen (more back l branch rest) is same low below count = (
      fits_active t (pred a) 1 l branch is.2 same.0 low.1 low.0 (omega (arith, a_some)),
      fits_passive (suc t) n (l ∷ seen) rest is.3 same.1 low.2 (low.0, below) (omega (arith, count)),
    )

-- ---- the algorithm
module _ (problem : Problem) (T : ℕ) (is : IsProblem problem) where
  abbrev a : ℕ
  a = problem.active.degree

  abbrev p : ℕ
  p = problem.passive.degree

  a_some : 1 ≤ a
  a_some = let l = is.active.least in omega (arith, l)

  p_some : 1 ≤ p
  p_some = let l = is.passive.least in omega (arith, l)

  -- all views of active nodes, and of passive ones, without identifiers
  abbrev active_views : List InputView
  active_views = fitting_views (nothing problem) (suc T)

  abbrev passive_views : List InputView
  passive_views = fitting_views (exchanged (nothing problem)) (suc (suc T))

  abbrev size_around : InputView → ℕ
  size_around v = length (passive_turns (places_around v))

  -- as many identifiers as any view has use for
  abbrev enough : ℕ
  enough = suc (total size active_views + total size_around passive_views)

  abbrev colours : List (List ℕ)
  colours = all_lists problem.labels a

  abbrev bound : BoundAll (List ℕ) decide_list [] colours active_views size enough
  bound = ramsey_all (List ℕ) decide_list [] colours active_views size enough

  -- so many identifiers
  abbrev identifiers_needed : ℕ
  identifiers_needed = suc bound.bound

  module _ (f : InputView → List ℕ) (solves : SolvesApart problem (identified a p identifiers_needed) (λ x. x) T f) where
    abbrev N : ℕ
    N = identifiers_needed

    below_N : (xs : List ℕ) → ((z : ℕ) → Contains xs z → z < N) → (d k : ℕ) → d < N → get_or xs k d < N
    below_N [] each d k low = low
    below_N (x ∷ xs) each d zero low = each x (Contains-here x xs)
    below_N (x ∷ xs) each d (suc k) low = below_N xs (λ z at. each z (Contains-later z x xs at)) d k low

    shown_given : (label : ℕ) (w : InputView) (t : ℕ) → IsView a p (suc t) w → NamedActive label w → Pairwise Ordered (active_turns label w) → AreDifferent (shown w)
    shown_given label leaf t view same ordered = tt
    shown_given label end t view same ordered = tt
    shown_given label (more back l branch rest) t view same ordered =
        let it : AreDifferent (label ∷ behind_active (more back l branch rest)) = different_Rearranged (shown_turns label (more back l branch rest)) (ordered_different (active_turns label (more back l branch rest)) ordered) in
        subst (λ x. AreDifferent (x ∷ behind_active (more back l branch rest))) (sym same.0) it

    -- around an active node with any identifiers in this order
    around_active_node : (v : InputView) (xs : List ℕ) → IsView a p (suc T) v → Pairwise (λ x y. x < y) xs → ((z : ℕ) → Contains xs z → z < N) → size v ≤ length xs → Has problem.active (f (known T (given 0 xs v)))
    around_active_node v xs view rises low many =
        solves.active w w_view
        (fits_active a p N a_some p_some (suc T) a 0 own w w_view (named_given 0 xs v) (everywhere_relabelled (λ y. y < N) g (λ i. low_at (rank (active_turns 0 (places v)) i)) (places v)) (low_at (rank (active_turns 0 (places v)) 0)) (omega arith))
        (subst AreDifferent (sym (map-id (shown w))) (shown_given own w T w_view (named_given 0 xs v) (ordered_given 0 xs v rises many)))
      where
        g : ℕ → ℕ
        g i = get_or xs (rank (active_turns 0 (places v)) i) 0

        w : InputView
        w = given 0 xs v

        own : ℕ
        own = get_or xs (rank (active_turns 0 (places v)) 0) 0

        low_at : (k : ℕ) → get_or xs k 0 < N
        low_at k = below_N xs low 0 k (omega arith)

        w_view : IsView a p (suc T) w
        w_view = IsTree-relabelled g a p (suc T) a (places v) (IsTree-places a p (suc T) a v view)

    among_colours : (out : List ℕ) → Has problem.active out → Contains ([] ∷ colours) out
    among_colours out has =
        let config : IsConfig a problem.labels (sorted out) = AllByRecursion-contains (IsConfig a problem.labels) problem.active.configs (sorted out) is.active.configs has in
        Contains-later out [] colours (Contains-all_lists problem.labels a out (sym (length-sorted out) ∙ config.count)
        (AllByRecursion-from_contains (λ x. x < problem.labels) out (λ y at. AllByRecursion-contains (λ x. x < problem.labels) (sorted out) y config.below (Contains-Rearranged y (Rearranged-sorted out) at))))

    low_part : (xs : List ℕ) → Part xs (count_from 0 N) → (z : ℕ) → Contains xs z → z < N
    low_part xs part z at = let l = count_from_range 0 N z (part_contains z part at) in let m = l.1 in omega (arith, m)

    rising : (xs : List ℕ) → Part xs (count_from 0 N) → Pairwise (λ x y. x < y) xs
    rising xs part = pairwise_part (λ x y. x < y) part (count_from_rises 0 N)

    listed : (v : InputView) → IsView a p (suc T) v → Fits (nothing problem).active (nothing problem).passive v → Contains active_views v
    listed v view fits = Contains-fitting (nothing problem) (suc T) v (IsInput-nothing problem is).is_problem view fits

    exchanged_is : IsProblem (exchanged (nothing problem))
    exchanged_is = let it = (IsInput-nothing problem is).is_problem in record { active = it.passive; passive = it.active }

    -- what the local algorithm outputs, or nothing where the problem doesn't allow that around an active node
    abbrev colour_of : List ℕ → List ℕ
    colour_of out = if has_config problem.active out then out else []

    colour_among : (out : List ℕ) → Contains ([] ∷ colours) (colour_of out)
    colour_among out = which (has_config problem.active out) refl
      where
        which : (b : Bool) → has_config problem.active out ≡ b → Contains ([] ∷ colours) (if b then out else [])
        which true e = among_colours out (has_config-Has problem.active out e)
        which false e = Contains-here [] colours

    colour_is : (out : List ℕ) → Has problem.active out → colour_of out ≡ out
    colour_is out has = let e : has_config problem.active out ≡ true = Has-has_config problem.active out has in rw e refl

    -- identifiers on which the local algorithm goes by their order alone
    chosen : AlikeAll (List ℕ) decide_list [] colours active_views size (λ v xs. colour_of (f (known T (given 0 xs v)))) enough (count_from 0 N)
    chosen = bound.found (count_from 0 N) (omega (arith, length-count_from 0 N)) (λ v xs. colour_of (f (known T (given 0 xs v)))) (λ v at xs part e. colour_among (f (known T (given 0 xs v))))

    abbrev H : List ℕ
    H = chosen.elements

    H_rises : Pairwise (λ x y. x < y) H
    H_rises = rising H chosen.part

    abbrev first : ℕ
    first = get_or H 0 0

    any_in_H : (k : ℕ) → Contains H (get_or H k first)
    any_in_H k = which H (let l = chosen.enough in omega (arith, l)) k
      where
        which : (xs : List ℕ) → 1 ≤ length xs → (k : ℕ) → Contains xs (get_or xs k (get_or xs 0 0))
        which [] l k = absurd (omega (arith, l))
        which (x ∷ xs) l k = at xs k
          where
            at : (ys : List ℕ) (k : ℕ) → Contains (x ∷ ys) (get_or (x ∷ ys) k x)
            at ys zero = Contains-here x ys
            at [] (suc k) = Contains-here x []
            at (y ∷ ys) (suc k) = elim (Contains-cases (get_or (y ∷ ys) k x) x (y ∷ ys) (further y ys k)) [
              | inl e ↦ subst (Contains (x ∷ y ∷ ys)) (sym e) (Contains-here x (y ∷ ys))
              | inr there ↦ Contains-later (get_or (y ∷ ys) k x) x (y ∷ ys) there
            ]
              where
                further : (y : ℕ) (ys : List ℕ) (k : ℕ) → Contains (x ∷ y ∷ ys) (get_or (y ∷ ys) k x)
                further y ys zero = Contains-later y x (y ∷ ys) (Contains-here y ys)
                further y [] (suc k) = Contains-here x (y ∷ [])
                further y (z ∷ ys) (suc k) = elim (Contains-cases (get_or (z ∷ ys) k x) x (z ∷ ys) (further z ys k)) [
                  | inl e ↦ subst (Contains (x ∷ y ∷ z ∷ ys)) (sym e) (Contains-here x (y ∷ z ∷ ys))
                  | inr there ↦ Contains-later (get_or (z ∷ ys) k x) x (y ∷ z ∷ ys) (Contains-later (get_or (z ∷ ys) k x) y (z ∷ ys) there)
                ]

    -- the first of the identifiers, as many as a view shows nodes
    abbrev front : InputView → List ℕ
    front v = take (size v) H

    -- the algorithm: it goes by what it knows alone
    abbrev without : InputView → List ℕ
    without k = f (given 0 (front k) k)

    without_is : (v : InputView) → IsView a p (suc T) v → without (known T v) ≡ f (known T (given 0 (front v) v))
    without_is v view =
        ap (λ n. f (given 0 (take n H) (known T v))) (size-known a p T a v view) ∙ ap f (sym (given-known a p T a 0 (front v) v view))

    front_part : (v : InputView) → Part (front v) (count_from 0 N)
    front_part v = part_trans (part_take (size v) H) chosen.part

    size_enough : (v : InputView) → IsView a p (suc T) v → Fits (nothing problem).active (nothing problem).passive v → size v ≤ length H
    size_enough v view fits =
        let l = total_most size active_views v (listed v view fits) in
        let m = chosen.enough in
        omega (arith, l, m)

    front_length : (v : InputView) → IsView a p (suc T) v → Fits (nothing problem).active (nothing problem).passive v → length (front v) ≡ size v
    front_length v view fits = length-take-le (size v) H (size_enough v view fits)

    without_active : (v : InputView) → IsView a p (suc T) v → Fits (nothing problem).active (nothing problem).passive v → Has problem.active (without (known T v))
    without_active v view fits =
        rw (without_is v view) (around_active_node v (front v) view (rising (front v) (front_part v)) (low_part (front v) (front_part v)) (let e = front_length v view fits in omega (arith, e)))

    -- another part of as many of the identifiers does as well
    as_well : (v : InputView) (xs : List ℕ) → IsView a p (suc T) v → Fits (nothing problem).active (nothing problem).passive v → Part xs H → length xs ≡ size v → f (known T (given 0 xs v)) ≡ without (known T v)
    as_well v xs view fits part count =
        let here : Has problem.active (f (known T (given 0 xs v))) =
        around_active_node v xs view (rising xs (part_trans part chosen.part)) (low_part xs (part_trans part chosen.part)) (omega (arith, count)) in
        let there : Has problem.active (f (known T (given 0 (front v) v))) =
        around_active_node v (front v) view (rising (front v) (front_part v)) (low_part (front v) (front_part v)) (let e = front_length v view fits in omega (arith, e)) in
        sym (colour_is (f (known T (given 0 xs v))) here)
        ∙ (chosen.same v (listed v view fits) xs (front v) part (part_take (size v) H) count (front_length v view fits)
        ∙ (colour_is (f (known T (given 0 (front v) v))) there ∙ sym (without_is v view)))

    module _ (v : InputView) (view : IsView p a (suc (suc T)) v) (fits : Fits (nothing problem).passive (nothing problem).active v) where
      abbrev g : ℕ → ℕ
      g i = get_or H (rank (passive_turns (places_around v)) i) first

      -- the view with identifiers
      abbrev w : InputView
      w = given_around first H v

      w_view : IsView p a (suc (suc T)) w
      w_view = IsTree-relabelled g p a (suc (suc T)) p (places_around v) (IsTree-places_around p a (suc (suc T)) p v view)

      many : size_around v ≤ length H
      many =
          let l = total_most size_around passive_views v (Contains-fitting (exchanged (nothing problem)) (suc (suc T)) v exchanged_is view fits) in
          let m = chosen.enough in
          omega (arith, l, m)

      w_ordered : Pairwise Ordered (passive_turns w)
      w_ordered = ordered_given_around first H v H_rises many

      in_H : (i : ℕ) → Contains H (g i)
      in_H i = any_in_H (rank (passive_turns (places_around v)) i)

      g_low : (i : ℕ) → g i < N
      g_low i = low_part H chosen.part (g i) (in_H i)

      w_solved : Has problem.passive (around_known p T f w)
      w_solved = solves.passive w w_view
          (fits_passive a p N a_some p_some (suc (suc T)) p [] w w_view (named_given_around first H v) (everywhere_relabelled (λ y. y < N) g g_low (places_around v)) tt (let e : p + 0 ≡ p = omega arith in e))
          (subst AreDifferent (sym (map-id (behind_passive w))) (different_Rearranged (shown_passive w) (ordered_different (passive_turns w) w_ordered)))

      -- without identifiers it is the same view
      bare_is : relabelled none_of w ≡ relabelled none_of v
      bare_is =
          relabelled_twice none_of g (places_around v)
          ∙ (relabelled_twice none_of (λ (q : ℕ × ℕ). q.0) (tagged_passive zero 0 0 v)
          ∙ (sym (relabelled_twice none_of (λ (q : ℕ × ℕ). q.1) (tagged_passive zero 0 0 v)) ∙ ap (relabelled none_of) (untagged_passive zero 0 0 v)))

      backs_is : backs w ≡ backs v
      backs_is = sym (backs-relabelled none_of w) ∙ (ap backs bare_is ∙ backs-relabelled none_of v)

      -- each neighbour outputs what it does without identifiers
      same_output : (k : ℕ) → k < p → (c : Child ℕ) × (child_at k v ≡ Some c) × IsChild a p (suc T) c → (c : Child ℕ) × (child_at k (places_around v) ≡ Some c) × IsChild a p (suc T) c
          → f (known T (shift (suc T) w (suc k))) ≡ without (known T (shift (suc T) v (suc k)))
      same_output k l (c, at, child) (c0, at0, child0) = ap (λ x. f (known T x)) y_is ∙ as_well u xs u_view u_fits xs_part count
        where
          u : InputView
          u = shift (suc T) v (suc k)

          u_view : IsView a p (suc T) u
          u_view = IsView-shift p a (suc T) v (suc k) c view (omega arith) (omega (arith, l)) at child

          u_fits : Fits (nothing problem).active (nothing problem).passive u
          u_fits = FitsAround-shift (nothing problem).passive (nothing problem).active p a (suc T) v (suc k) c at child fits

          y0 : InputView
          y0 = shift (suc T) (places_around v) (suc k)

          y : InputView
          y = shift (suc T) w (suc k)

          own : ℕ
          own = g c0.payload

          y_at : child_at k w ≡ Some (relabelled_child g c0)
          y_at = child_at-relabelled g k c0 (places_around v) at0

          y_from : y ≡ relabelled g y0
          y_from = sym (relabelled-shift g (suc T) (places_around v) (suc k) c0 at0)

          y_named : NamedActive own y
          y_named = named_shift T k w (relabelled_child g c0) y_at (named_given_around first H v)

          y_ordered : Pairwise Ordered (active_turns own y)
          y_ordered = ordered_shift T k w (relabelled_child g c0) y_at w_ordered

          xs : List ℕ
          xs = sorted (labels (active_turns own y))

          bare_same : relabelled none_of y ≡ relabelled none_of u
          bare_same =
              relabelled-shift none_of (suc T) w (suc k) (relabelled_child g c0) y_at
              ∙ (ap (λ x. shift (suc T) x (suc k)) bare_is ∙ sym (relabelled-shift none_of (suc T) v (suc k) c at))

          y_is : y ≡ given 0 xs u
          y_is =
              sym (given_back own 0 y y_named y_ordered)
              ∙ (sym (given-relabelled none_of 0 xs y) ∙ (ap (given 0 xs) bare_same ∙ given-relabelled none_of 0 xs u))

          labels_in_H : (z : ℕ) → Contains (labels (active_turns own y)) z → Contains H z
          labels_in_H z standing =
              let turns : active_turns own y ≡ map (turned_to g) (active_turns c0.payload y0) = ap (active_turns own) y_from ∙ active_turns-relabelled g c0.payload y0 in
              let (t, there, e) = Contains-map_cases (λ (t : Turn ℕ). t.label) (map (turned_to g) (active_turns c0.payload y0)) z (subst (λ ts. Contains (labels ts) z) turns standing) in
              let (s, further, e') = Contains-map_cases (turned_to g) (active_turns c0.payload y0) t there in
              subst (Contains H) (ap (λ (t : Turn ℕ). t.label) e' ∙ e) (in_H s.label)

          xs_part : Part xs H
          xs_part = rising_part xs H (sorted_rising (labels (active_turns own y)) (ordered_different (active_turns own y) y_ordered)) H_rises
              (λ z standing. labels_in_H z (Contains-Rearranged z (Rearranged-sym (Rearranged-sorted (labels (active_turns own y)))) standing))

          count : length xs ≡ size u
          count =
              length-sorted (labels (active_turns own y)) ∙ (length-map (active_turns own y) (λ (t : Turn ℕ). t.label)
              ∙ (size_turns own y ∙ (sym (size-relabelled none_of y) ∙ (ap size bare_same ∙ size-relabelled none_of u))))

      around_is : around_known p T f w ≡ around_known p T without v
      around_is = map-count (λ port. at_port (f (known T (shift (suc T) w port))) (at_port (backs w) port)) (λ port. at_port (without (known T (shift (suc T) v port))) (at_port (backs v) port)) 1 p
          (λ k l. shifted k (each k l))
        where
          shifted : (k : ℕ) → at_port (f (known T (shift (suc T) w (suc k)))) (at_port (backs w) (suc k)) ≡ at_port (without (known T (shift (suc T) v (suc k)))) (at_port (backs v) (suc k))
              → at_port (f (known T (shift (suc T) w (1 + k)))) (at_port (backs w) (1 + k)) ≡ at_port (without (known T (shift (suc T) v (1 + k)))) (at_port (backs v) (1 + k))
          shifted k h =
              let e : suc k ≡ 1 + k = omega arith in
              subst (λ (port : ℕ). at_port (f (known T (shift (suc T) w port))) (at_port (backs w) port) ≡ at_port (without (known T (shift (suc T) v port))) (at_port (backs v) port)) e h

          each : (k : ℕ) → k < p → at_port (f (known T (shift (suc T) w (suc k)))) (at_port (backs w) (suc k)) ≡ at_port (without (known T (shift (suc T) v (suc k)))) (at_port (backs v) (suc k))
          each k l =
              let same : f (known T (shift (suc T) w (suc k))) ≡ without (known T (shift (suc T) v (suc k))) =
              same_output k l (child_of p a (suc T) p v view k l) (child_of p a (suc T) p (places_around v) (IsTree-places_around p a (suc (suc T)) p v view) k l) in
              ap (λ (out : List ℕ). at_port out (at_port (backs w) (suc k))) same
              ∙ ap (λ (ports : List ℕ). at_port (without (known T (shift (suc T) v (suc k)))) (at_port ports (suc k))) backs_is

      without_passive : Has problem.passive (around_known p T without v)
      without_passive = subst (Has problem.passive) around_is w_solved

    without_solves : SolvesGivenBy problem (nothing problem) T without
    without_solves = record { active = without_active; passive = without_passive }

    Solvable-without : Solvable problem T
    Solvable-without = Solvable-nothing problem T is (SolvableGiven-by problem (nothing problem) T without (IsInput-nothing problem is) without_solves)

-- a local algorithm with so many identifiers gives one without them
pub Solvable-local : (problem : Problem) (T : ℕ) → IsProblem problem → (N : ℕ) × (SolvableLocal problem N T → Solvable problem T)
Solvable-local problem T is = (identifiers_needed problem T is, λ local. Solvable-without problem T is local.0 local.1)

-- and one without them is a local one, which takes no notice of them
pub SolvableLocal-unnoticed : (problem : Problem) (N T : ℕ) → Solvable problem T → SolvableLocal problem N T
SolvableLocal-unnoticed problem N T (table, solved) =
    let given : SolvesGivenBy problem (identified problem.active.degree problem.passive.degree N) T (λ k. answer table (cut T (plain k))) = SolvesGivenBy-plain problem (identified problem.active.degree problem.passive.degree N) T (answer table) solved.solves in
    (λ k. answer table (cut T (plain k)), record { active = λ v view fits apart. given.active v view fits; passive = λ v view fits apart. given.passive v view fits })

pub any_identifiers : (problem : Problem) (T : ℕ) → IsProblem problem → Solvable problem T ↔ ((N : ℕ) → SolvableLocal problem N T)
any_identifiers problem T is = ((λ solvable N. SolvableLocal-unnoticed problem N T solvable), (λ local. (Solvable-local problem T is).1 (local (Solvable-local problem T is).0)))
