-- The list of the maximal rows, and that one of them dominates each good row.
use Rattle.std.proofs.Common.{◌≡◌, ℕ, zero, suc, ◌<◌, ◌≤◌, ◌+◌, ◌*◌, ◌^◌, Bool, true, false, not, ◌&&◌, ◌||◌, List, [], ◌∷◌, length, map, refl, sym, ap, ◌∙◌, subst, ◌⊎◌, inl, inr, arith}
use Rattle.std.specs.List.{AllByRecursion, list_all}
use Rattle.std.specs.Ordering.{is_eq}
use Rattle.std.proofs.lemmas.Bool.{false≢true, cases_lt}
use Rattle.re_labels.proofs.ChoicesOfRows.{IsUnder-refl}
use Rattle.re_labels.proofs.Placing.{Dominates-dominates, Dominates-refl, Dominates-trans, dominates-Dominates}
use Rattle.re_labels.proofs.Rearranging.{Rearranged-sym}
use Rattle.re_labels.proofs.Rows.{AreSets, RowBefore, all_rows_from, as_row, in_all_rows, not_larger, rising-all_rows, same_sets, total, total_below}
use Rattle.re_labels.specs.Rows.{Dominates, IsRow, all_rows, dominates, row_cmp}
use Rattle.re_labels.proofs.Before.{IsBefore-trans, same_list-same, slice_cmp-same}
use Rattle.re_labels.proofs.Membership.{Contains-In, In, In-Contains, In-filter, In-filter_from, all-In, all-In_from, not_all}
use Rattle.re_labels.proofs.Rising.{rising-filter}
use Rattle.re_labels.proofs.Tests.{and-true, true-and}
use Rattle.re_labels.specs.Lists.{IsRising}
use Rattle.re_labels.specs.Sets.{IsLabelSet, number}
use Rattle.re_labels.proofs.Goodness.{IsGood-Rearranged, IsGood-is_good, is_good-IsGood}
use Rattle.re_labels.specs.Constraints.{Constraint}
use Rattle.re_labels.specs.GoodRows.{IsDominated, IsGood, IsMaximal, is_good, is_maximal, max_rows}
use Rattle.re_labels.specs.Laws.{MaximalLaw}

not_passed : (a b c : Bool) → (not (a && b) || c) ≡ false → (a ≡ true) × (b ≡ true) × (c ≡ false)
not_passed true true c h = (refl, refl, h)
not_passed true false c h = absurd (false≢true (sym h))
not_passed false b c h = absurd (false≢true (sym h))

passed : (a b c : Bool) → (not (a && b) || c) ≡ true → a ≡ true → b ≡ true → c ≡ true
passed true true c h p q = h
passed true false c h p q = absurd (false≢true q)
passed false b c h p q = absurd (false≢true p)

module _ (K : Constraint) (n : ℕ) where
  -- whether another row leaves this one maximal
  abbrev spares : List (List ℕ) → List (List ℕ) → Bool
  spares r q = not (is_good K q && dominates q r) || is_eq (row_cmp q r)

  pub max_rows-IsMaximal : (r : List (List ℕ)) → In r (max_rows K n) → IsMaximal K n r
  max_rows-IsMaximal r i =
      let f = In-filter_from (is_maximal K n) r (all_rows K.degree n) i in
      let both = and-true (is_good K r) (list_all (spares r) (all_rows K.degree n)) f.1 in
      let row = all_rows_from n K.degree r f.0 in
      record {
        is_row = row;
        good = is_good-IsGood K r both.0;
        alone = λ q other good dom.
            let here = all-In (spares r) (all_rows K.degree n) both.1 q (in_all_rows n K.degree q other) in
            same_sets n q r other.sets row.sets (same_list-same (map number q) (map number r) (passed _ _ _ here (IsGood-is_good K q good) (Dominates-dominates q r dom)));
      }

  pub IsMaximal-max_rows : (r : List (List ℕ)) → IsMaximal K n r → In r (max_rows K n)
  IsMaximal-max_rows r m =
      In-filter (is_maximal K n) r (all_rows K.degree n) (in_all_rows n K.degree r m.is_row)
      (true-and (is_good K r) (list_all (spares r) (all_rows K.degree n)) (IsGood-is_good K r m.good) (all-In_from (spares r) (all_rows K.degree n) (λ q j.
      elim (is_good K q && dominates q r) as (λ b. (is_good K q && dominates q r) ≡ b → (not b || is_eq (row_cmp q r)) ≡ true) [
        | true ↦ λ e.
            let both = and-true (is_good K q) (dominates q r) e in
            let same = m.alone q (all_rows_from n K.degree q j) (is_good-IsGood K q both.0) (dominates-Dominates q r both.1) in
            ap (λ w. is_eq (row_cmp w r)) same ∙ ap is_eq (slice_cmp-same (map number r))
        | false ↦ λ e. refl
      ] refl)))

  pub rising-max_rows : IsRising RowBefore (max_rows K n)
  rising-max_rows = rising-filter RowBefore (λ q r s. IsBefore-trans (map number q) (map number r) (map number s)) (is_maximal K n) (all_rows K.degree n) (rising-all_rows n K.degree)

  -- a good row is maximal, or dominated by a larger good row
  larger : (r : List (List ℕ)) → IsRow K.degree n r → IsGood K r
      → In r (max_rows K n) ⊎ ((q : List (List ℕ)) × IsRow K.degree n q × IsGood K q × Dominates q r × (total r < total q))
  larger r row good =
      elim (list_all (spares r) (all_rows K.degree n)) as (λ b. list_all (spares r) (all_rows K.degree n) ≡ b
      → In r (max_rows K n) ⊎ ((q : List (List ℕ)) × IsRow K.degree n q × IsGood K q × Dominates q r × (total r < total q))) [
        | true ↦ λ e. inl (In-filter (is_maximal K n) r (all_rows K.degree n) (in_all_rows n K.degree r row) (true-and (is_good K r) (list_all (spares r) (all_rows K.degree n)) (IsGood-is_good K r good) e))
        | false ↦ λ e.
            let a = not_all (spares r) (all_rows K.degree n) e in
            let rowq = all_rows_from n K.degree a.0 a.1 in
            let p = not_passed (is_good K a.0) (dominates a.0 r) (is_eq (row_cmp a.0 r)) a.2 in
            let dom = dominates-Dominates a.0 r p.1 in
            inr (
              a.0,
              rowq,
              is_good-IsGood K a.0 p.0,
              dom,
              elim (cases_lt (total r) (total a.0)) [
                | inl l ↦ l
                | inr le ↦
                    let same : a.0 ≡ r = not_larger n K.degree a.0 r rowq row dom le in
                    absurd (false≢true (sym p.2 ∙ ap (λ w. is_eq (row_cmp w r)) same ∙ ap is_eq (slice_cmp-same (map number r))))
              ],
            )
      ] refl

  -- a good row grows into a maximal one
  above : (fuel : ℕ) (r : List (List ℕ)) → K.degree * 2 ^ n ≤ fuel + total r → IsRow K.degree n r → IsGood K r → (m : List (List ℕ)) × In m (max_rows K n) × Dominates m r
  above zero r h row good = elim (larger r row good) [
    | inl i ↦ (r, i, Dominates-refl r)
    | inr q ↦
        let b : total q.0 ≤ length q.0 * 2 ^ n = total_below n q.0 q.1.sets in
        let c : total q.0 ≤ K.degree * 2 ^ n = subst (λ k. total q.0 ≤ k * 2 ^ n) q.1.count b in
        absurd (omega (arith, q.4))
  ]
  above (suc fuel) r h row good = elim (larger r row good) [
    | inl i ↦ (r, i, Dominates-refl r)
    | inr q ↦
        let m = above fuel q.0 (omega (arith, q.4)) q.1 q.2 in
        (m.0, m.1, Dominates-trans m.0 q.0 r m.2 q.3)
  ]

  pub AreSets-filled : (s : List (List ℕ)) → AllByRecursion (IsLabelSet n) s → AllByRecursion (λ t. 0 < length t) s → AreSets n s
  AreSets-filled [] h k = tt
  AreSets-filled (t ∷ s) h k = ((h.0, k.0), AreSets-filled s h.1 k.1)

  -- good sets, in any order, are dominated by a maximal row
  pub dominated : (s : List (List ℕ)) → IsGood K s → AllByRecursion (IsLabelSet n) s → IsDominated (max_rows K n) s
  dominated s good h =
      let r = as_row n K.degree s good.count (AreSets-filled s h good.filled) in
      let m = above (K.degree * 2 ^ n) r.0 (omega arith) r.1 (IsGood-Rearranged K r.2 good) in
      let over : Dominates r.0 s = (s, Rearranged-sym r.2, IsUnder-refl s) in
      (m.0, In-Contains m.0 (max_rows K n) m.1, Dominates-trans m.0 r.0 s m.2 over)

pub maximal_law : MaximalLaw
maximal_law K n = (rising-max_rows K n, λ row. (λ held. max_rows-IsMaximal K n row (Contains-In row (max_rows K n) held), λ m. In-Contains row (max_rows K n) (IsMaximal-max_rows K n row m)))
