-- The rows of lines, in order, each once.
use Rattle.std.proofs.Common.{◌≡◌, ℕ, suc, ◌+◌, ◌-◌, ◌<◌, ◌≤◌, Bool, true, false, cond, leb, ltb, List, [], ◌∷◌, ◌++◌, length, length-append, map, None, Some, refl, sym, ap, ◌∙◌, subst, inl, inr, ◌⊎◌, arith}
use Rattle.std.specs.Prelude.{Contains, ◌&&◌, ◌↔◌, if◌then◌else◌}
use Rattle.std.specs.List.Sorted.{IsPermutation, IsSortedBy}
use Rattle.std.specs.Ordering.{is_lt}
use Rattle.std.specs.declared.cmp.Ordering.TheVariants.{Equal, Less}
use Rattle.std.proofs.lemmas.Bool.{cases_lt, false≢true}
use Rattle.std.proofs.lemmas.Bool.Decides.{nat_tests}
use Rattle.std.proofs.lemmas.List.{get_or_default}
use Rattle.std.proofs.lemmas.List.Elements.{Contains-append_cases, Contains-append_left, Contains-append_right, Contains-get_or}
use Rattle.std.proofs.lemmas.List.Sorted.{Contains-permutation, IsPermutation-sym, length_permutation}
use Rattle.re_labels.proofs.Rows.{AreSets, as_row}
use Rattle.re_labels.specs.Rows.{IsRow, in_order, is_full, row_cmp, row_of}
use Rattle.re_labels.proofs.Before.{IsBefore-trans, slice_cmp-same, three_orders}
use Rattle.re_labels.proofs.Membership.{AllByRecursion-weaker, Contains-In, Contains-cases, Contains-here, Contains-later, Contains-map, Contains-map_cases, Contains-none, In, In-Contains, length-map'}
use Rattle.re_labels.proofs.LabelPlaces.{get-place_of, place_of-below}
use Rattle.re_labels.proofs.Rising.{rising-below, same_members}
use Rattle.re_labels.proofs.Tests.{true-and}
use Rattle.re_labels.specs.Lists.{IsRising, place_of}
use Rattle.re_labels.specs.Sets.{IsIn, IsLabelSet, IsWithin, number}
use Rattle.re_labels.specs.declared.TheConstants.{MAX_LABELS}
use Rattle.re_labels.proofs.MaxRows.{rising-max_rows}
use Rattle.re_labels.specs.GoodRows.{max_rows}
use Rattle.re_boxes.proofs.Spread.{IsIn-filled}
use Rattle.re_boxes.specs.Ordering.{is_row_before}
use Rattle.re_problem.specs.Problems.{IsProblem, Problem}
use Rattle.re_closure_laws.proofs.FirstSteps.{of_maximal}
use Rattle.re_closure_laws.proofs.Generated.{closure_families_law}
use Rattle.re_closure_laws.proofs.MaximalLines.{in_order-row, maximal_lines_law}
use Rattle.re_closure_laws.proofs.Unders.{IsIn-labels_within, IsLabelSet-labels_within}
use Rattle.re_closure_laws.specs.Closures.{AreClosure}
use Rattle.re_closure_laws.specs.Lines.{AreApart, Family, IsFamily, below, labels_within, row_within}
use Rattle.re_closure.specs.Sides.{IsRowBefore, row_at}

-- ---- the row of a line
full : (n : ℕ) (r : List (List ℕ)) → AreSets n r → is_full r ≡ true
full n [] h = refl
full n (s ∷ r) h =
    let some : 0 < length s = h.0.1 in
    let one : ltb 0 (length s) ≡ true = grind (arith, nat_tests) in
    true-and (ltb 0 (length s)) (is_full r) one (full n r h.1)

sets_in : (sets line : List (List ℕ)) → ((set : List ℕ) → Contains line set → Contains sets set) → AreSets (length sets) (map (labels_within sets) line)
sets_in sets [] known = tt
sets_in sets (s ∷ line) known =
    let held = known s (Contains-here s line) in
    let own : IsIn (place_of sets s) (labels_within sets s) = IsIn-labels_within sets s (place_of sets s) (place_of-below sets s held) (subst (λ t. IsWithin t s) (sym (get-place_of sets s held)) (λ z i. i)) in
    ((IsLabelSet-labels_within sets s, IsIn-filled (place_of sets s) (labels_within sets s) own), sets_in sets line (λ set i. known set (Contains-later set s line i)))

wider_set : (n m : ℕ) → n ≤ m → (s : List ℕ) → IsLabelSet n s × (0 < length s) → IsLabelSet m s × (0 < length s)
wider_set n m le s h = ((h.0.0, AllByRecursion-weaker (λ x. x < n) (λ x. x < m) (λ x l. omega (arith, l, le)) s h.0.1), h.1)

wider_row : (d n m : ℕ) → n ≤ m → (r : List (List ℕ)) → IsRow d n r → IsRow d m r
wider_row d n m le r is = record { count = is.count; sets = AllByRecursion-weaker (λ s. IsLabelSet n s × (0 < length s)) (λ s. IsLabelSet m s × (0 < length s)) (wider_set n m le) r is.sets; ascends = is.ascends }

-- whichever number bounds the labels
one_order : (n m : ℕ) → n ≤ m → (r : List (List ℕ)) → AreSets n r → in_order m r ≡ in_order n r
one_order n m le r h =
    let (q, is, p) = as_row n (length r) r refl h in
    sym (in_order-row (length r) m r q (wider_row (length r) n m le q is) p) ∙ in_order-row (length r) n r q is p

row-of : (b c : Bool) (r : List (List ℕ)) (x : List (List ℕ)) → b ≡ true → c ≡ true → is_full r ≡ true → (if b && c && is_full r then Some x else None) ≡ Some x
row-of b c r x e f g = ap (λ t. cond t (Some x) None) (true-and (b && c) (is_full r) (true-and b c e f) g)

pub row_is : (sets line : List (List ℕ)) → 2 ≤ length line → length line ≤ 6 → length sets ≤ MAX_LABELS → ((set : List ℕ) → Contains line set → Contains sets set)
    → row_of MAX_LABELS (map (labels_within sets) line) ≡ Some (row_within sets line)
row_is sets line two six few known =
    let r = map (labels_within sets) line in
    let count : length r ≡ length line = length-map' (labels_within sets) line in
    let is = sets_in sets line known in
    let low : leb 2 (length r) ≡ true = (let l : 2 ≤ length r = omega (arith, two, count) in grind (arith, nat_tests)) in
    let high : leb (length r) 6 ≡ true = (let l : length r ≤ 6 = omega (arith, six, count) in grind (arith, nat_tests)) in
    row-of (leb 2 (length r)) (leb (length r) 6) r (in_order MAX_LABELS r) low high (full (length sets) r is)
    ∙ ap Some (one_order (length sets) MAX_LABELS few r is)

-- ---- each row once
pub record IsOnce (rows : List (List (List ℕ))) (place : ℕ) (once : List (List (List ℕ))) : Type 0 where
  pub rises : IsRising IsRowBefore once
  pub most : (row : List (List ℕ)) → Contains once row → (0 < place) × ((row ≡ row_at rows (place - 1)) ⊎ IsRowBefore row (row_at rows (place - 1)))
  pub from : (row : List (List ℕ)) → Contains once row → Contains rows row
  pub all : (k : ℕ) → k < place → Contains once (row_at rows k)
  pub few : length once ≤ place

pub once_begin : (rows once : List (List (List ℕ))) → once ≡ [] → IsOnce rows 0 once
once_begin rows once e = subst (IsOnce rows 0) (sym e) (record {
  rises = tt;
  most = λ row h. absurd (Contains-none row h);
  from = λ row h. absurd (Contains-none row h);
  all = λ k low. absurd (omega (arith, low));
  few = omega arith;
})

rises_more : (once : List (List (List ℕ))) (row : List (List ℕ)) → IsRising IsRowBefore once → ((r : List (List ℕ)) → Contains once r → IsRowBefore r row) → IsRising IsRowBefore (once ++ row ∷ [])
rises_more [] row h low = tt
rises_more (r ∷ []) row h low = (low r (Contains-here r []), tt)
rises_more (r ∷ s ∷ once) row h low = (h.0, rises_more (s ∷ once) row h.1 (λ z held. low z (Contains-later z r (s ∷ once) held)))

-- a row that is neither above the next one nor the same is before it
before-next : (row next : List (List ℕ)) → is_row_before next row ≡ false → (row_cmp row next ≡ Equal → ⊥) → IsRowBefore row next
before-next row next low anew = elim (three_orders (map number row) (map number next)) [
  | inl less ↦ less
  | inr other ↦ elim other [
    | inl equal ↦ absurd (anew equal.0)
    | inr greater ↦ absurd (false≢true (sym low ∙ ap is_lt greater.1))
  ]
]

either : (once : List (List (List ℕ))) (row z : List (List ℕ)) → Contains (once ++ row ∷ []) z → Contains once z ⊎ (z ≡ row)
either once row z h = elim (Contains-append_cases once (row ∷ []) z h) [
  | inl k ↦ inl k
  | inr k ↦ elim (Contains-cases z row [] k) [ inl e ↦ inr e | inr m ↦ absurd (Contains-none z m) ]
]

module _ (rows : List (List (List ℕ))) (place : ℕ) (once : List (List (List ℕ))) (order : IsSortedBy is_row_before rows) (low : place < length rows) (before : IsOnce rows place once) where
  back : place + 1 - 1 ≡ place
  back = omega arith

  pub once_again : (0 < place) × (row_at rows (place - 1) ≡ row_at rows place) → IsOnce rows (place + 1) once
  once_again (some, same) =
      let earlier : place - 1 < place = omega (arith, some) in
      record {
        rises = before.rises;
        most = λ row h. let m = before.most row h in (omega arith, subst (λ k. (row ≡ row_at rows k) ⊎ IsRowBefore row (row_at rows k)) (sym back) (subst (λ r. (row ≡ r) ⊎ IsRowBefore row r) same m.1));
        from = before.from;
        all = λ k k_low. elim (cases_lt k place) [
          | inl less ↦ before.all k less
          | inr ge ↦ let at : k ≡ place = omega (arith, k_low, ge) in subst (λ m. Contains once (row_at rows m)) (sym at) (subst (Contains once) same (before.all (place - 1) earlier))
        ];
        few = (let f = before.few in omega (arith, f));
      }

  pub once_more : (more : List (List (List ℕ))) (row : List (List ℕ)) → row ≡ row_at rows place → more ≡ once ++ row ∷ [] → (0 < place → row_cmp (row_at rows (place - 1)) (row_at rows place) ≡ Equal → ⊥) → IsOnce rows (place + 1) more
  once_more more row at pushed anew = subst (IsOnce rows (place + 1)) (sym pushed) (record {
    rises = rises_more once row before.rises below_row;
    most = λ r h. (omega arith, subst (λ k. (r ≡ row_at rows k) ⊎ IsRowBefore r (row_at rows k)) (sym back) (subst (λ t. (r ≡ t) ⊎ IsRowBefore r t) at (told r (either once row r h))));
    from = λ r h. from (either once row r h);
    all = λ k k_low. elim (cases_lt k place) [
      | inl less ↦ Contains-append_left once (row ∷ []) (row_at rows k) (before.all k less)
      | inr ge ↦ let here : k ≡ place = omega (arith, k_low, ge) in
          subst (Contains (once ++ row ∷ [])) (at ∙ ap (row_at rows) (sym here)) (Contains-append_right once (row ∷ []) row (Contains-here row []))
    ];
    few = (let f = before.few in let l = length-append once (row ∷ []) in omega (arith, f, l));
  })
    where
      up : 0 < place → IsRowBefore (row_at rows (place - 1)) (row_at rows place)
      up some =
          let next : place - 1 + 1 ≡ place = omega (arith, some) in
          before-next (row_at rows (place - 1)) (row_at rows place)
          (subst (λ k. is_row_before (row_at rows k) (row_at rows (place - 1)) ≡ false) next (order (place - 1) [] (omega (arith, some, low)) (omega (arith, some, low)))) (anew some)

      below_row : (r : List (List ℕ)) → Contains once r → IsRowBefore r row
      below_row r h = let m = before.most r h in subst (IsRowBefore r) (sym at) (elim m.1 [
        | inl e ↦ subst (λ s. IsRowBefore s (row_at rows place)) (sym e) (up m.0)
        | inr b ↦ IsBefore-trans (map number r) (map number (row_at rows (place - 1))) (map number (row_at rows place)) b (up m.0)
      ])

      told : (r : List (List ℕ)) → Contains once r ⊎ (r ≡ row) → (r ≡ row) ⊎ IsRowBefore r row
      told r (inl k) = inr (below_row r k)
      told r (inr e) = inl e

      from : {r : List (List ℕ)} → Contains once r ⊎ (r ≡ row) → Contains rows r
      from {r} (inl k) = before.from r k
      from (inr e) = subst (Contains rows) (sym at ∙ sym e) (Contains-get_or rows place [] low)

pub once_all : (rows once : List (List (List ℕ))) (place : ℕ) → length rows ≤ place → IsOnce rows place once → (row : List (List ℕ)) → Contains once row ↔ Contains rows row
once_all rows once place past is row = (is.from row, λ (k, low, e). subst (Contains once) (get_or_default rows k [] row low ∙ e) (is.all k (omega (arith, low, past))))

-- ---- the maximal rows
irreflexive : (r : List (List ℕ)) → IsRowBefore r r → ⊥
irreflexive r h = let e : Equal ≡ Less = sym (slice_cmp-same (map number r)) ∙ h in absurd (cc)

module _ (family : Family) (is : IsFamily family) (apart : AreApart family.lines) where
  -- rows in order that are those of the lines
  pub are_maximal : (rows all once : List (List (List ℕ))) → rows ≡ map (row_within family.sets) family.lines → IsPermutation rows all → ((row : List (List ℕ)) → Contains once row ↔ Contains all row)
      → IsRising IsRowBefore once → once ≡ max_rows (below family) (length family.sets)
  are_maximal rows all once are moved same rises = same_members IsRowBefore
      (λ q r s. IsBefore-trans (map number q) (map number r) (map number s)) irreflexive once (max_rows (below family) (length family.sets)) rises (rising-max_rows (below family) (length family.sets)) to from
    where
      to : (row : List (List ℕ)) → In row once → In row (max_rows (below family) (length family.sets))
      to row i =
          let there : Contains rows row = Contains-permutation all rows row (IsPermutation-sym rows all moved) ((same row).0 (In-Contains row once i)) in
          let (line, at, e) = Contains-map_cases (row_within family.sets) family.lines row (subst (λ l. Contains l row) are there) in
          Contains-In row (max_rows (below family) (length family.sets)) ((maximal_lines_law family row is apart).1 (line, at, sym e))

      from : (row : List (List ℕ)) → In row (max_rows (below family) (length family.sets)) → In row once
      from row i =
          let (line, at, e) = (maximal_lines_law family row is apart).0 (In-Contains row (max_rows (below family) (length family.sets)) i) in
          let there : Contains rows row = subst (Contains rows) (sym e) (subst (λ l. Contains l (row_within family.sets line)) (sym are) (Contains-map (row_within family.sets) family.lines line at)) in
          Contains-In row once ((same row).1 (Contains-permutation rows all row moved there))

  pub as_few : (rows all once : List (List (List ℕ))) (most : ℕ) → rows ≡ map (row_within family.sets) family.lines → IsPermutation rows all → length once ≤ length all → length family.lines ≤ most → length once ≤ most
  as_few rows all once most are moved few lines =
      let a = ap length are ∙ length-map' (row_within family.sets) family.lines in
      let b = length_permutation rows all moved in
      omega (arith, a, b, few, lines)

-- ---- rows that are those of lines are no more than these
taken : {X : Type 0} (ys : List X) (x : X) → In x ys → (zs : List X) × (length ys ≡ suc (length zs)) × ((z : X) → In z ys → (z ≡ x) ⊎ In z zs)
taken [] x i = absurd i
taken (y ∷ ys) x (inl e) = (ys, refl, λ z j. elim j [ inl f ↦ inl (f ∙ sym e) | inr k ↦ inr k ])
taken {X} (y ∷ ys) x (inr i) = let t = taken ys x i in (y ∷ t.0, ap suc t.1, rest t.0 t.2)
  where
    rest : (zs : List X) → ((z : X) → In z ys → (z ≡ x) ⊎ In z zs) → (z : X) → In z (y ∷ ys) → (z ≡ x) ⊎ In z (y ∷ zs)
    rest zs h z (inl f) = inr (inl f)
    rest zs h z (inr k) = elim (h z k) [ inl e ↦ inl e | inr m ↦ inr (inr m) ]

behind : (r : List (List ℕ)) (rows : List (List (List ℕ))) → IsRising IsRowBefore (r ∷ rows) → (z : List (List ℕ)) → In z rows → IsRowBefore r z
behind r [] h z i = absurd i
behind r (s ∷ rows) h z i = rising-below IsRowBefore (λ q r s. IsBefore-trans (map number q) (map number r) (map number s)) r s rows h.0 h.1 z i

rest_rises : (r : List (List ℕ)) (rows : List (List (List ℕ))) → IsRising IsRowBefore (r ∷ rows) → IsRising IsRowBefore rows
rest_rises r [] h = tt
rest_rises r (s ∷ rows) h = h.1

no_more : (rows others : List (List (List ℕ))) → IsRising IsRowBefore rows → ((z : List (List ℕ)) → In z rows → In z others) → length rows ≤ length others
no_more [] others rises to = omega arith
no_more (r ∷ rows) others rises to =
    let t = taken others r (to r (inl refl)) in
    let less = no_more rows t.0 (rest_rises r rows rises) (λ z i. elim (t.2 z (to z (inr i))) [
      | inl e ↦ absurd (irreflexive r (subst (IsRowBefore r) e (behind r rows rises z i)))
      | inr k ↦ k
    ]) in
    omega (arith, less, t.1)

-- the maximal rows of a problem are lines of its closure
module _ (problem : Problem) (active passive : Family) (is : IsProblem problem) (closure : AreClosure problem active passive) where
  pub few_maximal : length (max_rows problem.passive problem.labels) ≤ length passive.lines
  few_maximal =
      let rows = max_rows problem.passive problem.labels in
      let n = problem.labels in
      let count = length-map' (in_order n) passive.lines in
      let most = no_more rows (map (in_order n) passive.lines) (rising-max_rows problem.passive n) of_line in
      omega (arith, most, count)
    where
      of_line : (z : List (List ℕ)) → In z (max_rows problem.passive problem.labels) → In z (map (in_order problem.labels) passive.lines)
      of_line z i =
          let fam = closure_families_law problem active passive is closure in
          let held = In-Contains z (max_rows problem.passive problem.labels) i in
          let (line, there, p) = of_maximal problem active passive is fam.0 fam.1 fam.2 z held in
          let row = (Rattle.re_labels.proofs.MaxSets.maximal problem.passive problem.labels z held).is_row in
          let e = in_order-row problem.passive.degree problem.labels line z row p in
          Contains-In z (map (in_order problem.labels) passive.lines) (subst (Contains (map (in_order problem.labels) passive.lines)) (sym e) (Contains-map (in_order problem.labels) passive.lines line there))
