-- Each problem has a closure.
use Rattle.std.proofs.Common.{◌≡◌, ℕ, zero, suc, ◌+◌, ◌<◌, ◌≤◌, ◌^◌, Bool, true, false, not, ◌&&◌, ◌||◌, List, [], ◌∷◌, ◌++◌, length, map, refl, sym, ap, ◌∙◌, subst, ◌⊎◌, inl, inr, arith}
use Rattle.std.specs.Prelude.{Contains, filter, flat_map}
use Rattle.std.specs.List.{AllByRecursion, list_all, list_any}
use Rattle.std.proofs.lemmas.Bool.{false≢true}
use Rattle.std.proofs.lemmas.List.Elements.{Contains-append_cases, Contains-append_left, Contains-append_right}
use Rattle.re_labels.proofs.Placing.{Dominates-dominates, Dominates-refl, Dominates-trans, dominates-Dominates, placed-Rearranged}
use Rattle.re_labels.specs.Orders.{placements}
use Rattle.re_labels.specs.Rows.{Dominates, combined, dominates, placed}
use Rattle.re_labels.proofs.Before.{same_list-refl, same_list-same}
use Rattle.re_labels.proofs.Membership.{AllByRecursion-contains, Contains-In, Contains-cases, Contains-count_from, Contains-filter, Contains-filter_cases, Contains-flat_map, Contains-flat_map_cases, Contains-here, Contains-later, Contains-map, Contains-map_cases, Contains-none, In, In-Contains, all-In, any_found, any_true, count_from_range, not_all}
use Rattle.re_labels.proofs.Numbers.{IsLabelSet-count_from, set_of-number}
use Rattle.re_labels.proofs.Rising.{rising-filter, rising-map}
use Rattle.re_labels.proofs.Tests.{and-true, or-left, or-right, or-true, true-and}
use Rattle.re_labels.specs.Inverse.{number-set_of}
use Rattle.re_labels.specs.Lists.{IsRising, count_from, same_list}
use Rattle.re_labels.specs.Sets.{IsLabelSet, number, set_of}
use Rattle.re_labels.proofs.Goodness.{IsDominated-is_dominated, is_dominated-IsDominated}
use Rattle.re_labels.specs.GoodRows.{IsDominated, is_dominated}
use Rattle.re_closure_laws.proofs.Generated.{moved, fit, active_first, passive_first, IsLabelSet-others}
use Rattle.re_closure_laws.specs.Closures.{AreClosure, AreTopmost, IsGenerated, Occurs, down_lines, up_lines}
use Rattle.re_closure_laws.specs.Closures.IsGenerated.{combine, move, start}
use Rattle.re_closure_laws.specs.Laws.{ClosureExistsLaw}
use Rattle.re_closure_laws.specs.Lines.{AreApart, Family, others}

-- ---- equal lines
abbrev same_line : List (List ℕ) → List (List ℕ) → Bool
same_line [] [] = true
same_line [] (t ∷ u) = false
same_line (s ∷ r) [] = false
same_line (s ∷ r) (t ∷ u) = same_list s t && same_line r u

same_line-same : (r u : List (List ℕ)) → same_line r u ≡ true → r ≡ u
same_line-same [] [] h = refl
same_line-same [] (t ∷ u) h = absurd (false≢true h)
same_line-same (s ∷ r) [] h = absurd (false≢true h)
same_line-same (s ∷ r) (t ∷ u) h =
    let two = and-true (same_list s t) (same_line r u) h in
    (λ i. same_list-same s t two.0 i ∷ same_line-same r u two.1 i)

same_line-refl : (r : List (List ℕ)) → same_line r r ≡ true
same_line-refl [] = refl
same_line-refl (s ∷ r) = true-and (same_list s s) (same_line r r) (same_list-refl s) (same_line-refl r)

abbrev holds : List (List (List ℕ)) → List (List ℕ) → Bool
holds lines line = list_any (same_line line) lines

holds-Contains : (lines : List (List (List ℕ))) (line : List (List ℕ)) → holds lines line ≡ true → Contains lines line
holds-Contains lines line h = let (other, held, same) = any_found (same_line line) lines h in subst (Contains lines) (sym (same_line-same line other same)) held

-- ---- all lines
abbrev all_label_sets : ℕ → List (List ℕ)
all_label_sets n = map (set_of n) (count_from 0 (2 ^ n))

in_all_label_sets : (n : ℕ) (s : List ℕ) → IsLabelSet n s → Contains (all_label_sets n) s
in_all_label_sets n s h =
    let b = set_of-number n s h in
    let high : number s < 2 ^ n = b.0 in
    subst (Contains (all_label_sets n)) b.1 (Contains-map (set_of n) (count_from 0 (2 ^ n)) (number s) (Contains-count_from 0 (2 ^ n) (number s) (omega arith) (omega arith)))

abbrev all_lines : ℕ → ℕ → List (List (List ℕ))
all_lines n zero = [] ∷ []
all_lines n (suc d) = flat_map (λ s. map (λ line. s ∷ line) (all_lines n d)) (all_label_sets n)

in_all_lines : (n d : ℕ) (line : List (List ℕ)) → length line ≡ d → AllByRecursion (IsLabelSet n) line → Contains (all_lines n d) line
in_all_lines n zero [] e h = Contains-here [] []
in_all_lines n zero (s ∷ line) e h = absurd (omega arith)
in_all_lines n (suc d) [] e h = absurd (omega arith)
in_all_lines n (suc d) (s ∷ line) e h =
    Contains-flat_map (λ s. map (λ line. s ∷ line) (all_lines n d)) (all_label_sets n) s (s ∷ line) (in_all_label_sets n s h.0)
    (Contains-map (λ line. s ∷ line) (all_lines n d) line (in_all_lines n d line (omega arith) h.1))

-- ---- what is left out of a list
abbrev missed : Bool → ℕ
missed true = 0
missed false = 1

abbrev left_out : List (List (List ℕ)) → List (List (List ℕ)) → ℕ
left_out lines [] = 0
left_out lines (u ∷ us) = missed (holds lines u) + left_out lines us

one_more : (lines : List (List (List ℕ))) (x u : List (List ℕ)) → missed (holds (x ∷ lines) u) ≤ missed (holds lines u)
one_more lines x u = elim (holds lines u) as (λ b. missed (same_line u x || b) ≤ missed b) [
  | true ↦ elim (same_line u x) as (λ a. missed (a || true) ≤ 0) [ true ↦ omega arith | false ↦ omega arith ]
  | false ↦ elim (same_line u x) as (λ a. missed (a || false) ≤ 1) [ true ↦ omega arith | false ↦ omega arith ]
]

no_more : (lines : List (List (List ℕ))) (x : List (List ℕ)) (us : List (List (List ℕ))) → left_out (x ∷ lines) us ≤ left_out lines us
no_more lines x [] = omega arith
no_more lines x (u ∷ us) = let a = one_more lines x u in let b = no_more lines x us in omega (arith, a, b)

fewer : (lines : List (List (List ℕ))) (x : List (List ℕ)) (us : List (List (List ℕ))) → In x us → holds lines x ≡ false → left_out (x ∷ lines) us < left_out lines us
fewer lines x [] i e = absurd i
fewer lines x (u ∷ us) (inl same) e =
    let out : missed (holds lines u) ≡ 1 = ap (λ w. missed (holds lines w)) (sym same) ∙ ap (λ b. missed b) e in
    let now : missed (holds (x ∷ lines) u) ≡ 0 = ap (λ w. missed (same_line w x || holds lines w)) (sym same) ∙ ap (λ b. missed (b || holds lines x)) (same_line-refl x) in
    let b = no_more lines x us in
    omega (arith, out, now, b)
fewer lines x (u ∷ us) (inr i) e = let a = one_more lines x u in let b = fewer lines x us i e in omega (arith, a, b)

-- ---- all lines that come from some lines
module _ (n d : ℕ) (starts : List (List (List ℕ))) (first : (line : List (List ℕ)) → Contains starts line → (length line ≡ d) × AllByRecursion (IsLabelSet n) line) where
  abbrev pairs : List (List (List ℕ)) → List (List ℕ) → List (List ℕ) → List (List (List ℕ))
  pairs lines line other = flat_map (λ order. map (λ i. combined i line (placed other order)) (count_from 0 d)) (placements d)

  abbrev all_combined : List (List (List ℕ)) → List (List (List ℕ))
  all_combined lines = flat_map (λ line. flat_map (pairs lines line) lines) lines

  in_combined : (lines : List (List (List ℕ))) (line other : List (List ℕ)) (order : List ℕ) (i : ℕ) → Contains lines line → Contains lines other → Contains (placements d) order → i < d
      → Contains (all_combined lines) (combined i line (placed other order))
  in_combined lines line other order i held there listed low =
      Contains-flat_map (λ line. flat_map (pairs lines line) lines) lines line (combined i line (placed other order)) held
      (Contains-flat_map (pairs lines line) lines other (combined i line (placed other order)) there
      (Contains-flat_map (λ order. map (λ i. combined i line (placed other order)) (count_from 0 d)) (placements d) order (combined i line (placed other order)) listed
      (Contains-map (λ i. combined i line (placed other order)) (count_from 0 d) i (Contains-count_from 0 d i (omega arith) (omega arith)))))

  of_combined : (lines : List (List (List ℕ))) → ((line : List (List ℕ)) → Contains lines line → IsGenerated d starts line) → (x : List (List ℕ)) → Contains (all_combined lines) x → IsGenerated d starts x
  of_combined lines from x held =
      let (line, at, h) = Contains-flat_map_cases (λ line. flat_map (pairs lines line) lines) lines x held in
      let (other, there, k) = Contains-flat_map_cases (pairs lines line) lines x h in
      let (order, listed, m) = Contains-flat_map_cases (λ order. map (λ i. combined i line (placed other order)) (count_from 0 d)) (placements d) x k in
      let (i, within, e) = Contains-map_cases (λ i. combined i line (placed other order)) (count_from 0 d) x m in
      let range = count_from_range 0 d i within in
      subst (IsGenerated d starts) e (combine (from line at) (from other there) listed (omega (arith, range.1)))

  -- the lines in other orders, beside the combinations
  abbrev all_made : List (List (List ℕ)) → List (List (List ℕ))
  all_made lines = all_combined lines ++ flat_map (λ line. map (placed line) (placements d)) lines

  length_is : {line : List (List ℕ)} → IsGenerated d starts line → length line ≡ d
  length_is g = (fit n d starts first g).0

  of_made : (lines : List (List (List ℕ))) → ((line : List (List ℕ)) → Contains lines line → IsGenerated d starts line) → (x : List (List ℕ)) → Contains (all_made lines) x → IsGenerated d starts x
  of_made lines from x held = elim (Contains-append_cases (all_combined lines) (flat_map (λ line. map (placed line) (placements d)) lines) x held) [
    | inl h ↦ of_combined lines from x h
    | inr h ↦ ordered (Contains-flat_map_cases (λ line. map (placed line) (placements d)) lines x h)
  ]
    where
      ordered : (line : List (List ℕ)) × Contains lines line × Contains (map (placed line) (placements d)) x → IsGenerated d starts x
      ordered (line, at, k) =
          let (order, listed, e) = Contains-map_cases (placed line) (placements d) x k in
          subst (IsGenerated d starts) e (move (from line at) (moved n d starts line order (length_is (from line at)) listed))

  abbrev Whole : Type 0
  Whole = (lines : List (List (List ℕ))) × ((line : List (List ℕ)) → Contains lines line → IsGenerated d starts line) × ((line : List (List ℕ)) → IsGenerated d starts line → Contains lines line)

  -- a list with the first lines, and all combinations and orders of its own, has all
  has_all : (lines : List (List (List ℕ))) → ((line : List (List ℕ)) → Contains starts line → Contains lines line) → list_all (holds lines) (all_made lines) ≡ true
      → {line : List (List ℕ)} → IsGenerated d starts line → Contains lines line
  has_all lines begun full (start held) = begun _ held
  has_all lines begun full (combine {line = line} {other = other} {order = order} {i = i} g k listed low) =
      let x = combined i line (placed other order) in
      holds-Contains lines x (all-In (holds lines) (all_made lines) full x
      (Contains-In x (all_made lines) (Contains-append_left (all_combined lines) (flat_map (λ line. map (placed line) (placements d)) lines) x
      (in_combined lines line other order i (has_all lines begun full g) (has_all lines begun full k) listed low))))
  has_all lines begun full (move {line = line} {other = other} g p) =
      let o = placed-Rearranged line other p in
      let listed : Contains (placements d) o.0 = subst (λ m. Contains (placements m) o.0) (length_is g) (In-Contains o.0 (placements (length line)) o.1) in
      let there : Contains (flat_map (λ line. map (placed line) (placements d)) lines) (placed line o.0) =
      Contains-flat_map (λ line. map (placed line) (placements d)) lines line (placed line o.0) (has_all lines begun full g) (Contains-map (placed line) (placements d) o.0 listed) in
      subst (Contains lines) (sym o.2)
      (holds-Contains lines (placed line o.0) (all-In (holds lines) (all_made lines) full (placed line o.0)
      (Contains-In (placed line o.0) (all_made lines) (Contains-append_right (all_combined lines) (flat_map (λ line. map (placed line) (placements d)) lines) (placed line o.0) there))))

  abbrev Grows : (ℕ → Type 0) → Type 0
  Grows IsFew = (lines : List (List (List ℕ))) → IsFew (left_out lines (all_lines n d)) → ((line : List (List ℕ)) → Contains starts line → Contains lines line)
      → ((line : List (List ℕ)) → Contains lines line → IsGenerated d starts line) → Whole

  -- a list grows, where those with less left out do
  grows : (fuel : ℕ) → Grows (λ m. m < fuel) → Grows (λ m. m ≤ fuel)
  grows fuel next lines few begun from =
      elim (list_all (holds lines) (all_made lines)) as (λ b. list_all (holds lines) (all_made lines) ≡ b → Whole) [
        | true ↦ λ full. (lines, from, λ line g. has_all lines begun full g)
        | false ↦ λ lacks. more (not_all (holds lines) (all_made lines) lacks)
      ] refl
    where
      more : (x : List (List ℕ)) × In x (all_made lines) × (holds lines x ≡ false) → Whole
      more (x, i, out) =
          let less = fewer lines x (all_lines n d) (Contains-In x (all_lines n d) (in_all_lines n d x fits.0 fits.1)) out in
          next (x ∷ lines) (omega (arith, few, less)) (λ line h. Contains-later line x lines (begun line h)) (λ line h. from_more line (Contains-cases line x lines h))
        where
          made : IsGenerated d starts x
          made = of_made lines from x (In-Contains x (all_made lines) i)

          fits : (length x ≡ d) × AllByRecursion (IsLabelSet n) x
          fits = fit n d starts first made

          from_more : (line : List (List ℕ)) → (line ≡ x) ⊎ Contains lines line → IsGenerated d starts line
          from_more line (inl e) = subst (IsGenerated d starts) (sym e) made
          from_more line (inr h) = from line h

  whole : (fuel : ℕ) → Grows (λ m. m ≤ fuel)
  whole zero = grows zero (λ lines low begun from. absurd (omega (arith, low)))
  whole (suc fuel) = grows (suc fuel) (λ lines low begun from. whole fuel lines (omega (arith, low)) begun from)

  abbrev Tops : List (List (List ℕ)) → Type 0
  Tops lines = (tops : List (List (List ℕ))) × ((line : List (List ℕ)) → Contains tops line → Contains lines line) × ((line : List (List ℕ)) → Contains lines line → IsDominated tops line) × AreApart tops

  -- the lines of a list that no other dominates
  tops_of : (lines : List (List (List ℕ))) → Tops lines
  tops_of [] = ([], (λ line h. h), (λ line h. absurd (Contains-none line h)), (λ line other h k dom. absurd (Contains-none line h)))
  tops_of (x ∷ lines) = go (tops_of lines)
    where
      go : Tops lines → Tops (x ∷ lines)
      go (tops, from, over, apart) = elim (is_dominated tops x) as (λ b. is_dominated tops x ≡ b → Tops (x ∷ lines)) [
        | true ↦ λ e. (
          tops,
          (λ line h. Contains-later line x lines (from line h)),
          (λ line h. elim (Contains-cases line x lines h) [
            | inl same ↦ subst (IsDominated tops) (sym same) (is_dominated-IsDominated tops x e)
            | inr k ↦ over line k
          ]),
          apart,
        )
        | false ↦ λ e. with_x e
      ] refl
        where
          free : List (List ℕ) → Bool
          free t = not (dominates x t)

          with_x : is_dominated tops x ≡ false → Tops (x ∷ lines)
          with_x e = (x ∷ filter free tops, from_x, over_x, apart_x)
            where
              not_over : (t : List (List ℕ)) → Contains tops t → Dominates t x → ⊥
              not_over t h dom = false≢true (sym e ∙ IsDominated-is_dominated tops x (t, h, dom))

              not_under : (t : List (List ℕ)) → Contains (filter free tops) t → Dominates x t → ⊥
              not_under t h dom = false≢true (ap not (sym (Dominates-dominates x t dom)) ∙ (Contains-filter_cases free tops t h).1)

              from_x : (line : List (List ℕ)) → Contains (x ∷ filter free tops) line → Contains (x ∷ lines) line
              from_x line h = elim (Contains-cases line x (filter free tops) h) [
                | inl same ↦ subst (Contains (x ∷ lines)) (sym same) (Contains-here x lines)
                | inr k ↦ Contains-later line x lines (from line (Contains-filter_cases free tops line k).0)
              ]

              by_top : (line : List (List ℕ)) → IsDominated tops line → IsDominated (x ∷ filter free tops) line
              by_top line (t, h, dom) = elim (dominates x t) as (λ b. dominates x t ≡ b → IsDominated (x ∷ filter free tops) line) [
                | true ↦ λ d. (x, Contains-here x (filter free tops), Dominates-trans x t line (dominates-Dominates x t d) dom)
                | false ↦ λ d. (t, Contains-later t x (filter free tops) (Contains-filter free tops t h (ap not d)), dom)
              ] refl

              over_x : (line : List (List ℕ)) → Contains (x ∷ lines) line → IsDominated (x ∷ filter free tops) line
              over_x line h = elim (Contains-cases line x lines h) [
                | inl same ↦ (x, Contains-here x (filter free tops), subst (Dominates x) (sym same) (Dominates-refl x))
                | inr k ↦ by_top line (over line k)
              ]

              apart_x : AreApart (x ∷ filter free tops)
              apart_x line other h k dom = elim (Contains-cases line x (filter free tops) h) [
                | inl same ↦ elim (Contains-cases other x (filter free tops) k) [
                  | inl alike ↦ same ∙ sym alike
                  | inr m ↦ absurd (not_under other m (subst (λ w. Dominates w other) same dom))
                ]
                | inr m ↦ elim (Contains-cases other x (filter free tops) k) [
                  | inl alike ↦ absurd (not_over line (Contains-filter_cases free tops line m).0 (subst (Dominates line) alike dom))
                  | inr p ↦ apart line other (Contains-filter_cases free tops line m).0 (Contains-filter_cases free tops other p).0 dom
                ]
              ]

  pub topmost_lines : (lines : List (List (List ℕ))) × AreTopmost d starts lines
  topmost_lines = go (whole (left_out starts (all_lines n d)) starts (omega arith) (λ line h. h) (λ line h. start h))
    where
      go : Whole → (lines : List (List (List ℕ))) × AreTopmost d starts lines
      go (lines, from, all) = with_tops (tops_of lines)
        where
          with_tops : Tops lines → (lines : List (List (List ℕ))) × AreTopmost d starts lines
          with_tops (tops, of, over, apart) = (tops, record { generated = λ line h. from line (of line h); dominate = λ line g. over line (all line g); apart = apart })

-- ---- the sets of the labels
module _ (n : ℕ) (W V : List (List (List ℕ))) (fits : (line : List (List ℕ)) → Contains W line → AllByRecursion (IsLabelSet n) line) where
  abbrev occurs : List ℕ → Bool
  occurs set = list_any (list_any (same_list set)) W

  abbrev is_left : List ℕ → Bool
  is_left set = list_any (list_any (λ other. same_list set (others n other))) V

  abbrev sets_of : List (List ℕ)
  sets_of = filter (λ set. occurs set || is_left set) (all_label_sets n)

  abbrev IsNeeded : List ℕ → Type 0
  IsNeeded set = Occurs W set ⊎ ((other : List ℕ) × Occurs V other × (set ≡ others n other))

  needed : (set : List ℕ) → Contains sets_of set → IsNeeded set
  needed set held = elim (or-true (occurs set) (is_left set) (Contains-filter_cases (λ set. occurs set || is_left set) (all_label_sets n) set held).1) [
    | inl h ↦ inl (occurring (any_found (list_any (same_list set)) W h))
    | inr h ↦ inr (leaving (any_found (list_any (λ other. same_list set (others n other))) V h))
  ]
    where
      occurring : (line : List (List ℕ)) × Contains W line × (list_any (same_list set) line ≡ true) → Occurs W set
      occurring (line, at, some) = let (s, there, same) = any_found (same_list set) line some in (line, at, subst (Contains line) (sym (same_list-same set s same)) there)

      leaving : (line : List (List ℕ)) × Contains V line × (list_any (λ other. same_list set (others n other)) line ≡ true) → (other : List ℕ) × Occurs V other × (set ≡ others n other)
      leaving (line, at, some) = let (other, there, same) = any_found (λ other. same_list set (others n other)) line some in (other, (line, at, there), same_list-same set (others n other) same)

  is_there : (set : List ℕ) → IsNeeded set → Contains sets_of set
  is_there set (inl (line, at, there)) =
      Contains-filter (λ set. occurs set || is_left set) (all_label_sets n) set (in_all_label_sets n set (AllByRecursion-contains (IsLabelSet n) line set (fits line at) there))
      (or-left (occurs set) (is_left set) (any_true (list_any (same_list set)) W line at (any_true (same_list set) line set there (same_list-refl set))))
  is_there set (inr (other, (line, at, there), e)) =
      Contains-filter (λ set. occurs set || is_left set) (all_label_sets n) set (in_all_label_sets n set (subst (IsLabelSet n) (sym e) (IsLabelSet-others n other)))
      (or-right (occurs set) (is_left set) (any_true (list_any (λ other. same_list set (others n other))) V line at
      (any_true (λ other. same_list set (others n other)) line other there (subst (λ w. same_list set w ≡ true) e (same_list-refl set)))))

  rising_sets : IsRising (λ s t. number s < number t) sets_of
  rising_sets = rising-filter (λ s t. number s < number t) (λ s t u h k. omega (arith, h, k)) (λ set. occurs set || is_left set) (all_label_sets n)
      (rising-map (λ x y. x < y) (λ s t. number s < number t) (set_of n) (count_from 0 (2 ^ n))
      (λ x y i j low. let ex : number (set_of n x) ≡ x = number-set_of n x (in_range x i) in let ey : number (set_of n y) ≡ y = number-set_of n y (in_range y j) in omega (arith, low))
      (IsLabelSet-count_from 0 (2 ^ n) (2 ^ n) (omega arith)).0)
    where
      in_range : (x : ℕ) → In x (count_from 0 (2 ^ n)) → x < 2 ^ n
      in_range x i = let range = count_from_range 0 (2 ^ n) x (In-Contains x (count_from 0 (2 ^ n)) i) in omega (arith, range.1)

pub closure_exists_law : ClosureExistsLaw
closure_exists_law problem is = go (topmost_lines problem.labels problem.active.degree (down_lines problem) (active_first problem is)) (topmost_lines problem.labels problem.passive.degree (up_lines problem) (passive_first problem is))
  where
    go : (V : List (List (List ℕ))) × AreTopmost problem.active.degree (down_lines problem) V → (W : List (List (List ℕ))) × AreTopmost problem.passive.degree (up_lines problem) W
        → (active : Family) × (passive : Family) × AreClosure problem active passive
    go (V, v) (W, w) =
        let fits : (line : List (List ℕ)) → Contains W line → AllByRecursion (IsLabelSet problem.labels) line =
        λ line h. (fit problem.labels problem.passive.degree (up_lines problem) (passive_first problem is) (w.generated line h)).1 in
        let sets = sets_of problem.labels W V fits in (
          record { degree = problem.active.degree; lines = V; sets = map (others problem.labels) sets },
          record { degree = problem.passive.degree; lines = W; sets = sets },
          record {
            active_degree = refl;
            passive_degree = refl;
            active_lines = v;
            passive_lines = w;
            sets = λ set. (needed problem.labels W V fits set, is_there problem.labels W V fits set);
            ascends = rising_sets problem.labels W V fits;
            opposite = refl;
          },
        )
