-- A list of rows is the list of the maximal ones exactly where it is closed.
use Rattle.std.proofs.Common.{◌≡◌, ℕ, zero, suc, ◌<◌, true, ltb, List, [], ◌∷◌, length, map, refl, sym, ap, ◌∙◌, subst, inl, inr, arith}
use Rattle.std.specs.Prelude.{Contains}
use Rattle.std.specs.List.{AllByRecursion}
use Rattle.std.proofs.lemmas.Bool.Decides.{nat_tests}
use Rattle.re_labels.proofs.ChoicesOfRows.{IsUnder-refl}
use Rattle.re_labels.proofs.Placing.{Dominates-trans, Rearranged-placed, placed-Rearranged}
use Rattle.re_labels.proofs.Rearranging.{Rearranged-map, length-Rearranged}
use Rattle.re_labels.proofs.Rows.{AreSets, AreSets-Rearranged, RowBefore, not_larger, total-dominates}
use Rattle.re_labels.proofs.Sorting.{Rearranged-sorted, sorted_again}
use Rattle.re_labels.specs.Configs.{IsConfig, sorted}
use Rattle.re_labels.specs.Orders.{placements}
use Rattle.re_labels.specs.Rearranging.{Rearranged}
use Rattle.re_labels.specs.Rows.{Dominates, IsChoice, IsRow, combined, is_full, meets, placed, singles}
use Rattle.re_labels.proofs.Before.{IsBefore-apart, IsBefore-trans}
use Rattle.re_labels.proofs.Membership.{AllByRecursion-contains, AllByRecursion-weaker, Contains-In, Contains-cases, Contains-here, Contains-none, In, In-Contains, length-map'}
use Rattle.re_labels.proofs.Numbers.{IsLabelSet-filter, IsLabelSet-union}
use Rattle.re_labels.proofs.Rising.{same_members}
use Rattle.re_labels.proofs.Tests.{true-and}
use Rattle.re_labels.specs.Sets.{IsIn, IsLabelSet, has, number}
use Rattle.re_labels.proofs.Closure.{IsFull, IsReached, Shape, closure, good-combined, reached_through}
use Rattle.re_labels.proofs.Goodness.{Has-Rearranged, is_full-filled}
use Rattle.re_labels.proofs.MaxRows.{IsMaximal-max_rows, dominated, max_rows-IsMaximal, rising-max_rows}
use Rattle.re_labels.specs.Closure.{ClosureLaw, IsClosed}
use Rattle.re_labels.specs.Constraints.{Constraint, Has, IsConstraint}
use Rattle.re_labels.specs.GoodRows.{IsDominated, IsGood, IsMaximal, max_rows}

pub IsFull-sets : (n : ℕ) (r : List (List ℕ)) → AreSets n r → IsFull r
IsFull-sets n [] h = tt
IsFull-sets n ([] ∷ r) h = absurd (omega (arith, h.0.1))
IsFull-sets n ((x ∷ s) ∷ r) h = ((x, Contains-here x s), IsFull-sets n r h.1)

full-IsFull : (r : List (List ℕ)) → IsFull r → is_full r ≡ true
full-IsFull [] h = refl
full-IsFull ([] ∷ r) h = absurd (Contains-none h.0.0 h.0.1)
full-IsFull ((x ∷ s) ∷ r) h = true-and (ltb 0 (suc (length s))) (is_full r) (one_up (length s)) (full-IsFull r h.1)
  where
    one_up : (m : ℕ) → ltb 0 (suc m) ≡ true
    one_up m = grind (arith, nat_tests)

singles-perm : {c k : List ℕ} → Rearranged c k → Rearranged (singles c) (singles k)
singles-perm p = Rearranged-map (λ x. x ∷ []) p

module _ (K : Constraint) (n : ℕ) (L : List (List (List ℕ))) (closed : IsClosed K n L) where
  member : (r : List (List ℕ)) → In r L → IsRow K.degree n r × IsGood K r
  member r i = closed.good r (In-Contains r L i)

  found : (s : List (List ℕ)) → IsDominated L s → IsReached (Has K) (λ r. In r L) s
  found s (top, held, dom) = (top, Contains-In top L held, dom.0, dom.1, dom.2)

  -- each good row is dominated by a row of the list
  covered : (r : List (List ℕ)) → IsRow K.degree n r → IsGood K r → IsReached (Has K) (λ r. In r L) r
  covered r row good =
      closure (Has K) (λ r. In r L)
      (λ c k.
      reached_through (Has K) (λ r. In r L) (singles c) (singles c) (singles (sorted c)) (IsUnder-refl (singles c)) (singles-perm (Rearranged-sorted c))
      (found (singles (sorted c)) (closed.configs (sorted c) k)))
      (λ q u t i iq iu p shape b full.
      let e : length q ≡ K.degree = (member q iq).0.count in
      let o = placed-Rearranged u t p in
      let du : length u ≡ K.degree = (member u iu).0.count in
      let listed : Contains (placements K.degree) o.0 = subst (λ m. Contains (placements m) o.0) du (In-Contains o.0 (placements (length u)) o.1) in
      subst (λ w. IsReached (Has K) (λ r. In r L) (combined i q w)) (sym o.2)
      (found (combined i q (placed u o.0)) (closed.combinations q u o.0 i (In-Contains q L iq) (In-Contains u L iu) listed (omega arith)
      (ap (λ w. is_full (combined i q w)) (sym o.2) ∙ full-IsFull (combined i q t) full))))
      r good.choice (IsFull-sets n r row.sets)

  -- no other good row dominates a row of the list
  member_maximal : (r : List (List ℕ)) → In r L → IsMaximal K n r
  member_maximal r i = record {
    is_row = (member r i).0;
    good = (member r i).1;
    alone = λ q row good dom.
        let m = covered q row good in
        let mq : Dominates m.0 q = (m.2, m.3, m.4) in
        let same : m.0 ≡ r = closed.apart m.0 r (In-Contains m.0 L m.1) (In-Contains r L i) (Dominates-trans m.0 q r mq dom) in
        let rq : Dominates r q = subst (λ w. Dominates w q) same mq in
        let rowr = (member r i).0 in
        not_larger n K.degree q r row rowr dom (total-dominates n K.degree r q rowr row rq);
  }

  of_max : (r : List (List ℕ)) → In r (max_rows K n) → In r L
  of_max r i =
      let is = max_rows-IsMaximal K n r i in
      let m = covered r is.is_row is.good in
      let g = member m.0 m.1 in
      let same : m.0 ≡ r = is.alone m.0 g.0 g.1 (m.2, m.3, m.4) in
      subst (λ w. In w L) same m.1

  is_max : L ≡ max_rows K n
  is_max = same_members RowBefore (λ q r s. IsBefore-trans (map number q) (map number r) (map number s)) (λ r. IsBefore-apart (map number r))
      L (max_rows K n) closed.ascends (rising-max_rows K n) (λ r i. IsMaximal-max_rows K n r (member_maximal r i)) of_max

module _ (K : Constraint) (n : ℕ) (constraint : IsConstraint n K) where
  max_row : (r : List (List ℕ)) → Contains (max_rows K n) r → IsMaximal K n r
  max_row r held = max_rows-IsMaximal K n r (Contains-In r (max_rows K n) held)

  AllSets : (r : List (List ℕ)) → AreSets n r → AllByRecursion (IsLabelSet n) r
  AllSets r h = AllByRecursion-weaker (λ s. IsLabelSet n s × (0 < length s)) (IsLabelSet n) (λ s t. t.0) r h

  AllFilled : (r : List (List ℕ)) → AreSets n r → AllByRecursion (λ s. 0 < length s) r
  AllFilled r h = AllByRecursion-weaker (λ s. IsLabelSet n s × (0 < length s)) (λ s. 0 < length s) (λ s t. t.1) r h

  is_closed : IsClosed K n (max_rows K n)
  is_closed = record {
    good = λ r held. ((max_row r held).is_row, (max_row r held).good);
    ascends = rising-max_rows K n;
    apart = λ q r i j dom. let g = max_row q i in (max_row r j).alone q g.is_row g.good dom;
    configs = λ c i.
        let f : IsConfig K.degree n c = AllByRecursion-contains (IsConfig K.degree n) K.configs c constraint.configs i in
        let sets = single_sets c f.below in
        dominated K n (singles c) (record {
          count = length-map' (λ x. x ∷ []) c ∙ f.count;
          filled = AllFilled (singles c) sets;
          choice = λ k ch.
              let same : k ≡ c = one_choice k c ch in
              subst (λ w. Contains K.configs w) (sym (ap sorted same ∙ sorted_again c f.ascends)) i;
        }) (AllSets (singles c) sets);
    combinations = λ q r o i iq ir io below full.
        let gq = max_row q iq in
        let gr = max_row r ir in
        let t = placed r o in
        let p : Rearranged r t = Rearranged-placed r o (Contains-In o (placements (length r)) (subst (λ m. Contains (placements m) o) (sym gr.is_row.count) io)) in
        let shape = shape_of q t (gq.is_row.count ∙ sym gr.is_row.count ∙ length-Rearranged p) in
        let sets = combined_sets i q t gq.is_row.sets (AreSets-Rearranged n p gr.is_row.sets) (is_full-filled (combined i q t) full) in
        dominated K n (combined i q t) (record {
          count = length_combined i q t shape ∙ gq.is_row.count;
          filled = AllFilled (combined i q t) sets;
          choice = good-combined (Has K) (λ c d. Has-Rearranged K) i q r t p shape gq.good.choice gr.good.choice;
        }) (AllSets (combined i q t) sets);
  }
    where
      single_sets : (c : List ℕ) → AllByRecursion (λ x. x < n) c → AreSets n (singles c)
      single_sets [] h = tt
      single_sets (x ∷ c) h = (((tt, (h.0, tt)), omega arith), single_sets c h.1)

      one_label : (x y : ℕ) → IsIn x (y ∷ []) → x ≡ y
      one_label x y h = elim (Contains-cases x y [] h) [ inl e ↦ e | inr i ↦ absurd (Contains-none x i) ]

      one_choice : (k c : List ℕ) → IsChoice k (singles c) → k ≡ c
      one_choice [] [] h = refl
      one_choice [] (y ∷ c) h = absurd h
      one_choice (x ∷ k) [] h = absurd h
      one_choice (x ∷ k) (y ∷ c) h = λ i. one_label x y h.0 i ∷ one_choice k c h.1 i

      shape_of : (q t : List (List ℕ)) → length q ≡ length t → Shape q t
      shape_of [] [] e = tt
      shape_of [] (w ∷ t) e = absurd (omega arith)
      shape_of (s ∷ q) [] e = absurd (omega arith)
      shape_of (s ∷ q) (w ∷ t) e = (tt, shape_of q t (omega arith))

      length_meets : (q t : List (List ℕ)) → Shape q t → length (meets q t) ≡ length q
      length_meets [] t h = refl
      length_meets (s ∷ q) [] h = absurd h
      length_meets (s ∷ q) (w ∷ t) h = ap suc (length_meets q t h.1)

      length_combined : (i : ℕ) (q t : List (List ℕ)) → Shape q t → length (combined i q t) ≡ length q
      length_combined i [] t h = refl
      length_combined i (s ∷ q) [] h = absurd h
      length_combined zero (s ∷ q) (w ∷ t) h = ap suc (length_meets q t h.1)
      length_combined (suc i) (s ∷ q) (w ∷ t) h = ap suc (length_combined i q t h.1)

      meets_sets : (q t : List (List ℕ)) → AreSets n q → AreSets n t → AllByRecursion (λ s. 0 < length s) (meets q t) → AreSets n (meets q t)
      meets_sets [] t h k f = tt
      meets_sets (s ∷ q) [] h k f = tt
      meets_sets (s ∷ q) (w ∷ t) h k f = ((IsLabelSet-filter (has w) n s h.0.0, f.0), meets_sets q t h.1 k.1 f.1)

      combined_sets : (i : ℕ) (q t : List (List ℕ)) → AreSets n q → AreSets n t → AllByRecursion (λ s. 0 < length s) (combined i q t) → AreSets n (combined i q t)
      combined_sets i [] t h k f = tt
      combined_sets i (s ∷ q) [] h k f = tt
      combined_sets zero (s ∷ q) (w ∷ t) h k f = ((IsLabelSet-union n s w h.0.0 k.0.0.1, f.0), meets_sets q t h.1 k.1 f.1)
      combined_sets (suc i) (s ∷ q) (w ∷ t) h k f = ((IsLabelSet-filter (has w) n s h.0.0, f.0), combined_sets i q t h.1 k.1 f.1)

pub closure_law : ClosureLaw
closure_law K n L constraint =
    ((λ closed. is_max K n L closed), (λ e. subst (IsClosed K n) (sym e) (is_closed K n constraint)))
