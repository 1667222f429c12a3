-- Rows that aren't the maximal rows: something shows it.
use Rattle.std.proofs.Common.{◌≡◌, ℕ, zero, suc, ◌+◌, ◌<◌, ◌≤◌, Bool, true, false, not, ◌&&◌, List, [], ◌∷◌, length, map, refl, sym, ap, ◌∙◌, subst, ◌⊎◌, arith, Some, None, Option, true≢false}
use Rattle.std.specs.Prelude.{Contains, find, if◌then◌else◌, nat_lt, slice_index_or}
use Rattle.std.specs.List.{AllByRecursion, list_all, list_any}
use Rattle.std.specs.Option.{option_map, option_or}
use Rattle.std.specs.Ordering.{is_eq, is_lt}
use Rattle.std.specs.declared.cmp.Ordering.{Ordering}
use Rattle.std.specs.declared.cmp.Ordering.TheVariants.{Less, Equal, Greater}
use Rattle.std.proofs.lemmas.Bool.Decides.{nat_tests}
use Rattle.re_labels.proofs.Before.{IsBefore-apart, IsBefore-trans, same_list-same, slice_cmp-same}
use Rattle.re_labels.proofs.Membership.{AllByRecursion-weaker, Contains-In, In, In-Contains, all-In, any_found, any_true}
use Rattle.re_labels.proofs.Rising.{same_members}
use Rattle.re_labels.proofs.Sets.{has-IsIn, IsIn-has}
use Rattle.re_labels.proofs.Tests.{and-true, not-true, true-and}
use Rattle.re_labels.specs.Lists.{IsRising}
use Rattle.re_labels.specs.Sets.{IsIn, IsLabelSet, has, number}
use Rattle.re_labels.proofs.ChoicesOfRows.{In-choices, In-choices_from}
use Rattle.re_labels.proofs.Rows.{RowBefore, same_sets}
use Rattle.re_labels.specs.Rows.{IsChoice, IsRow, choices, is_full, row_cmp, set_at}
use Rattle.re_labels.specs.declared.TheConstants.{MAX_ROWS}
use Rattle.re_boxes.proofs.Grown.{grown_is_maximal}
use Rattle.re_boxes.specs.Grown.{IsGrown, added}
use Rattle.re_boxes.proofs.RowsOfSets.{AreSets-filled}
use Rattle.re_boxes.specs.Ordering.{is_row_before}
use Rattle.re_labels.proofs.Goodness.{Has-has_config, IsGood-is_good, filled-is_full, has_config-Has, is_good-IsGood}
use Rattle.re_labels.proofs.MaxRows.{IsMaximal-max_rows, max_rows-IsMaximal, rising-max_rows}
use Rattle.re_labels.specs.Constraints.{Constraint, Has, has_config}
use Rattle.re_labels.specs.GoodRows.{IsGood, IsMaximal, is_good, max_rows}
use Rattle.re_problem.specs.Verdicts.{first_label}
use Rattle.re_labels.specs.Lists.{count_from}
use Rattle.re_problem.proofs.VerdictLaws.{label-none}
use Rattle.re_why.proofs.Found.{found_passes, none_all}
use Rattle.re_why.proofs.Giving.{from-none, from-some, gives-at_last, gives-or, held-at, map-none, map-some, unordered-rising, unordered-some}
use Rattle.re_why.specs.BadChoice.{first_bad, is_bad}
use Rattle.re_why.specs.Finding.{bad_row, can_add, extended, extended_at, first_from, first_unordered, is_listed, missing_row, row_witness}
use Rattle.re_why.specs.Laws.{Gives, RowWitnessLaw}
use Rattle.re_why.specs.Witnesses.{ShowsRows}
use Rattle.re_why.specs.declared.witness.Witness.{Witness}
use Rattle.re_why.specs.declared.witness.Witness.TheVariants.{BadRow, Extends, RowOrder, ManyRows, MissingRow}
use Rattle.re_labels.specs.declared.TheConstants.{MAX_LABELS}

not-has : (constraint : Constraint) (labels : List ℕ) → is_bad constraint labels ≡ true → Has constraint labels → ⊥
not-has constraint labels bad held = true≢false (sym (Has-has_config constraint labels held) ∙ not-true (has_config constraint labels) bad)

-- ---- a choice that is found is one, and no configuration
pub bad_shown : (constraint : Constraint) (sets : List (List ℕ)) (labels : List ℕ) → first_bad constraint sets ≡ Some labels → IsChoice labels sets × (Has constraint labels → ⊥)
bad_shown constraint sets labels e =
    let (bad, held) = found_passes (is_bad constraint) (choices sets) labels (sym e) in
    (In-choices_from labels sets held, not-has constraint labels bad)

-- and where none is found, each is a configuration
pub none_bad : (constraint : Constraint) (sets : List (List ℕ)) → first_bad constraint sets ≡ None → (labels : List ℕ) → IsChoice labels sets → Has constraint labels
none_bad constraint sets e labels chosen =
    has_config-Has constraint labels (all-In (has_config constraint) (choices sets) (none_all (has_config constraint) (choices sets) e) labels (In-choices labels sets chosen))

-- ---- labels below a number
label-some : (test : ℕ → Bool) (lo n x : ℕ) → find test (count_from lo n) ≡ Some x → (x < lo + n) × (test x ≡ true)
label-some test lo zero x e = absurd (cc)
label-some test lo (suc n) x e = go (test lo) refl (label-some test (suc lo) n x) e
  where
    go : (b : Bool) → test lo ≡ b → (find test (count_from (suc lo) n) ≡ Some x → (x < suc lo + n) × (test x ≡ true)) → (if b then Some lo else find test (count_from (suc lo) n)) ≡ Some x → (x < lo + suc n) × (test x ≡ true)
    go true t later e = let same : lo ≡ x = cc in (omega (arith, same), subst (λ y. test y ≡ true) same t)
    go false t later e = let (l, passes) = later e in (omega (arith, l), passes)

pub first_label-some : (test : ℕ → Bool) (n x : ℕ) → first_label test n ≡ Some x → (x < n) × (test x ≡ true)
first_label-some test n x e = let (l, passes) = label-some test 0 n x e in (omega (arith, l), passes)

-- ---- the rows
module _ (passive : Constraint) (n : ℕ) (rows : List (List (List ℕ)))
    (are : (row : List (List ℕ)) → Contains rows row → IsRow passive.degree n row) where
  -- a row that isn't good
  bad_here : (w : Witness) → first_from (bad_row passive) 0 rows ≡ Some w → ShowsRows passive n rows w
  bad_here w e =
      let (i, row, at, is) = from-some (bad_row passive) 0 rows w e in
      let (labels, found, same) = map-some (BadRow (0 + i)) (first_bad passive row) w is in
      let (chosen, bad) = bad_shown passive row labels found in
      let zero_more : 0 + i ≡ i = omega arith in
      subst (ShowsRows passive n rows) same (subst (λ k. ShowsRows passive n rows (BadRow k labels)) (sym zero_more) (row, at, chosen, bad))

  good : first_from (bad_row passive) 0 rows ≡ None → (row : List (List ℕ)) → Contains rows row → IsGood passive row
  good none row held =
      let (i, at) = held-at rows row held in
      let fails : first_bad passive row ≡ None = map-none (BadRow (0 + i)) (first_bad passive row) (from-none (bad_row passive) 0 rows none i row at) in
      let is = are row held in
      record { count = is.count; filled = AllByRecursion-weaker _ (λ s. 0 < length s) (λ s a. a.1) row is.sets; choice = none_bad passive row fails }

  -- a label that can be added
  added_here : (w : Witness) → first_from (extended passive n) 0 rows ≡ Some w → ShowsRows passive n rows w
  added_here w e =
      let (k, row, at, is) = from-some (extended passive n) 0 rows w e in
      let (i, set, there, gives) = from-some (extended_at passive n (0 + k) row) 0 row w is in
      let (x, found, same) = map-some (Extends (0 + k) (0 + i)) (first_label (can_add passive row (0 + i)) n) w gives in
      let (below, can) = first_label-some (can_add passive row (0 + i)) n x found in
      let both = and-true (not (has (set_at row (0 + i)) x)) (is_good passive (added (0 + i) x row)) can in
      let fails : IsIn x (set_at row (0 + i)) → ⊥ = λ held. true≢false (sym (IsIn-has (set_at row (0 + i)) x held) ∙ not-true (has (set_at row (0 + i)) x) both.0) in
      let place : 0 + i < length row = let l = there.0 in omega (arith, l) in
      let zero_more : 0 + k ≡ k = omega arith in
      subst (ShowsRows passive n rows) same (subst (λ m. ShowsRows passive n rows (Extends m (0 + i) x)) (sym zero_more) (row, at, place, below, fails, is_good-IsGood passive (added (0 + i) x row) both.1))

  grown : first_from (extended passive n) 0 rows ≡ None → (row : List (List ℕ)) → Contains rows row → IsGrown passive n row
  grown none row held i x b below is =
      let (k, at) = held-at rows row held in
      let all : first_from (extended_at passive n (0 + k) row) 0 row ≡ None = from-none (extended passive n) 0 rows none k row at in
      let zero_more : 0 + i ≡ i = omega arith in
      let fails : first_label (can_add passive row (0 + i)) n ≡ None = map-none (Extends (0 + k) (0 + i)) (first_label (can_add passive row (0 + i)) n) (from-none (extended_at passive n (0 + k) row) 0 row all i (set_at row i) (b, held_there row i b)) in
      let can : can_add passive row i x ≡ false = subst (λ m. can_add passive row m x ≡ false) zero_more (label-none (can_add passive row (0 + i)) n fails x below) in
      has-IsIn (set_at row i) x (there (has (set_at row i) x) (is_good passive (added i x row)) refl can (IsGood-is_good passive (added i x row) is))
    where
      held_there : (row : List (List ℕ)) (i : ℕ) → i < length row → slice_index_or row i (set_at row i) ≡ set_at row i
      held_there [] i l = absurd (omega (arith, l))
      held_there (s ∷ row) zero l = refl
      held_there (s ∷ row) (suc i) l = held_there row i (omega (arith, l))

      there : (b g : Bool) → has (set_at row i) x ≡ b → (not b && g) ≡ false → g ≡ true → has (set_at row i) x ≡ true
      there true g e can h = e
      there false g e can h = absurd (true≢false (sym h ∙ can))

  -- so each is maximal
  maximal : first_from (bad_row passive) 0 rows ≡ None → first_from (extended passive n) 0 rows ≡ None → (row : List (List ℕ)) → Contains rows row → IsMaximal passive n row
  maximal fine whole row held = grown_is_maximal passive n row (are row held) (good fine row held) (grown whole row held)

  -- the order
  less-is : (o : Ordering) → is_lt o ≡ true → o ≡ Less
  less-is Less e = refl
  less-is Equal e = absurd (true≢false (sym e))
  less-is Greater e = absurd (true≢false (sym e))

  order_here : (k : ℕ) → first_unordered is_row_before 0 rows ≡ Some k → ShowsRows passive n rows (RowOrder k)
  order_here k e =
      let (i, is, row, other, at, next, fails) = unordered-some is_row_before 0 rows k e in
      let same : i ≡ k = omega (arith, is) in
      subst (λ m. ShowsRows passive n rows (RowOrder m)) same (row, other, at, next, λ less. true≢false (sym (ap is_lt less) ∙ fails))

  rising : (xs : List (List (List ℕ))) → IsRising (λ row other. is_row_before row other ≡ true) xs → IsRising RowBefore xs
  rising [] h = tt
  rising (x ∷ []) h = tt
  rising (x ∷ y ∷ xs) h = (less-is (row_cmp x y) h.0, rising (y ∷ xs) h.1)

  -- a row that is missing
  unlisted : (row : List (List ℕ)) → not (is_listed rows row) ≡ true → Contains rows row → ⊥
  unlisted row fails held = true≢false (sym (any_true (λ other. is_eq (row_cmp row other)) rows row held (ap is_eq (slice_cmp-same (map number row)))) ∙ not-true (is_listed rows row) fails)

  missing_here : (w : Witness) → missing_row passive n rows ≡ Some w → ShowsRows passive n rows w
  missing_here w e = go (nat_lt MAX_ROWS (length (max_rows passive n))) refl e
    where
      go : (b : Bool) → nat_lt MAX_ROWS (length (max_rows passive n)) ≡ b
          → (if b then Some ManyRows else option_map MissingRow (find (λ row. not (is_listed rows row)) (max_rows passive n))) ≡ Some w → ShowsRows passive n rows w
      go true many e = let same : ManyRows ≡ w = cc in let l : MAX_ROWS < length (max_rows passive n) = grind (arith, nat_tests) in subst (ShowsRows passive n rows) same l
      go false many e =
          let (row, found, same) = map-some MissingRow (find (λ row. not (is_listed rows row)) (max_rows passive n)) w e in
          let (fails, held) = found_passes (λ row. not (is_listed rows row)) (max_rows passive n) row (sym found) in
          subst (ShowsRows passive n rows) same (max_rows-IsMaximal passive n row held, unlisted row fails)

  listed : missing_row passive n rows ≡ None → (row : List (List ℕ)) → In row (max_rows passive n) → Contains rows row
  listed e row held = go (nat_lt MAX_ROWS (length (max_rows passive n))) e
    where
      go : (b : Bool) → (if b then Some ManyRows else option_map MissingRow (find (λ row. not (is_listed rows row)) (max_rows passive n))) ≡ None → Contains rows row
      go true e = absurd (cc)
      go false e =
          let none = map-none MissingRow (find (λ row. not (is_listed rows row)) (max_rows passive n)) e in
          let passes : is_listed rows row ≡ true = all-In (is_listed rows) (max_rows passive n) (none_all (is_listed rows) (max_rows passive n) none) row held in
          let (other, there, equal) = any_found (λ other. is_eq (row_cmp row other)) rows passes in
          let same : row ≡ other = same_sets n row other (max_rows-IsMaximal passive n row held).is_row.sets (are other there).sets (same_list-same (map number row) (map number other) equal) in
          subst (Contains rows) (sym same) there

  -- where nothing is found, these are the maximal rows
  all_there : first_from (bad_row passive) 0 rows ≡ None → first_from (extended passive n) 0 rows ≡ None → first_unordered is_row_before 0 rows ≡ None → missing_row passive n rows ≡ None → rows ≡ max_rows passive n
  all_there fine whole order none =
      same_members RowBefore (λ q r s. IsBefore-trans (map number q) (map number r) (map number s)) (λ r. IsBefore-apart (map number r))
      rows (max_rows passive n) (rising rows (unordered-rising is_row_before 0 rows order)) (rising-max_rows passive n)
      (λ row i. IsMaximal-max_rows passive n row (maximal fine whole row (In-Contains row rows i)))
      (λ row i. Contains-In row rows (listed none row i))

  rows_shown : (rows ≡ max_rows passive n → ⊥) → Gives (row_witness passive n rows) (ShowsRows passive n rows)
  rows_shown isnt =
      gives-or (first_from (bad_row passive) 0 rows) _ (ShowsRows passive n rows) bad_here (λ fine.
      gives-or (first_from (extended passive n) 0 rows) _ (ShowsRows passive n rows) added_here (λ whole.
      gives-or (option_map RowOrder (first_unordered is_row_before 0 rows)) _ (ShowsRows passive n rows)
      (λ w e. let (k, found, same) = map-some RowOrder (first_unordered is_row_before 0 rows) w e in subst (ShowsRows passive n rows) same (order_here k found))
      (λ order.
      gives-at_last (missing_row passive n rows) (ShowsRows passive n rows) missing_here (λ none. isnt (all_there fine whole (map-none RowOrder (first_unordered is_row_before 0 rows) order) none)))))

pub row_witness_law : RowWitnessLaw
row_witness_law passive n rows are isnt = rows_shown passive n rows are isnt
