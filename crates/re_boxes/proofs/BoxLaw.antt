-- A list of rows is the list of the maximal ones where the boxes of its rows are covered.
use Rattle.std.proofs.Common.{◌≡◌, ℕ, ◌<◌, List, [], ◌∷◌, length, map, sym, ◌∙◌, subst, arith, inl, inr, refl}
use Rattle.std.specs.Prelude.{Contains}
use Rattle.std.specs.List.{AllByRecursion, AllZip}
use Rattle.re_labels.proofs.ChoicesOfRows.{IsUnder-refl}
use Rattle.re_labels.proofs.Placing.{Rearranged-placed, length-combined}
use Rattle.re_labels.proofs.Rearranging.{Rearranged-map, Rearranged-refl, length-Rearranged, Rearranged-sym}
use Rattle.re_labels.proofs.Sorting.{Rearranged-sorted, AllByRecursion-Rearranged, sorted_again}
use Rattle.re_labels.specs.Configs.{sorted, IsConfig}
use Rattle.re_labels.specs.Orders.{placements}
use Rattle.re_labels.specs.Rearranging.{Rearranged}
use Rattle.re_labels.specs.Rows.{IsUnder, combined, placed, singles, IsChoice}
use Rattle.re_labels.proofs.Membership.{Contains-In, AllByRecursion-contains, AllByRecursion-from_contains, Contains-here, Contains-none, length-map'}
use Rattle.re_labels.proofs.Numbers.{rising-with_label, IsLabelSet-union}
use Rattle.re_labels.specs.Lists.{IsRising}
use Rattle.re_labels.specs.Sets.{IsIn, union, IsLabelSet}
use Rattle.re_labels.proofs.Closure.{Shape, good-combined}
use Rattle.re_labels.proofs.ClosureLaw.{closure_law}
use Rattle.re_labels.proofs.Goodness.{Has-Rearranged, is_full-filled}
use Rattle.re_labels.specs.Closure.{IsClosed}
use Rattle.re_labels.specs.Constraints.{Constraint, Has, IsConstraint}
use Rattle.re_labels.specs.GoodRows.{IsDominated, IsGood, max_rows}
use Rattle.re_labels.proofs.Sets.{IsIn-union, IsIn-union_cases}
use Rattle.re_labels.proofs.MaxRows.{dominated}
use Rattle.re_boxes.proofs.Boxes.{boxes_suffice}
use Rattle.re_boxes.proofs.Spread.{AreUp, AreUp-raised, IsGood-raised, IsLadder, dominated_under, ladder_up, one_label, raised, under_raised, AreFilled, IsGood-under, IsIn-filled}
use Rattle.re_boxes.specs.Boxes.{BoxesLaw, IsBoxed, IsStrength, with_stronger}

rising-union : (s t : List ℕ) → IsRising (λ x y. x < y) s → IsRising (λ x y. x < y) (union s t)
rising-union s [] h = h
rising-union s (x ∷ t) h = rising-with_label (union s t) x (rising-union s t h)

rising-with_stronger : (ups : ℕ → List ℕ) (s : List ℕ) → IsRising (λ x y. x < y) (with_stronger ups s)
rising-with_stronger ups [] = tt
rising-with_stronger ups (x ∷ s) = rising-union (with_stronger ups s) (ups x) (rising-with_stronger ups s)

ladders : (ups : ℕ → List ℕ) (r : List (List ℕ)) → AreUp ups (raised ups r) → AllByRecursion (IsLadder ups) (raised ups r)
ladders ups [] h = tt
ladders ups (s ∷ r) h = (ladder_up ups (with_stronger ups s) (rising-with_stronger ups s) h.0, ladders ups r h.1)

pub same_shape : (q t : List (List ℕ)) → length q ≡ length t → Shape q t
same_shape [] [] e = tt
same_shape [] (w ∷ t) e = absurd (omega arith)
same_shape (s ∷ q) [] e = absurd (omega arith)
same_shape (s ∷ q) (w ∷ t) e = (tt, same_shape q t (omega arith))

module _ (constraint : Constraint) (ups : ℕ → List ℕ) (n : ℕ) (rows : List (List (List ℕ))) (strong : IsStrength constraint ups) (boxed : IsBoxed constraint ups n rows) where
  singles_up : (c : List ℕ) → IsUnder (singles c) (map ups c)
  singles_up [] = tt
  singles_up (x ∷ c) = ((λ z h. subst (λ w. IsIn w (ups x)) (sym (one_label z x h)) (strong.holds x)), singles_up c)

  base : (c : List ℕ) → Has constraint c → IsDominated rows (map ups c)
  base c k = dominated_under rows (map ups c) (map ups c) (map ups (sorted c)) (IsUnder-refl (map ups c)) (Rearranged-map ups (Rearranged-sorted c)) (boxed.configs (sorted c) k)

  -- each good row is dominated by a row of the list
  pub each_good : (r : List (List ℕ)) → IsGood constraint r → IsDominated rows r
  each_good r good =
      dominated_under rows r (raised ups r) (raised ups r) (under_raised constraint ups strong r) (Rearranged-refl (raised ups r))
      (boxes_suffice constraint ups strong rows base boxed.boxes (raised ups r)
      (ladders ups r (AreUp-raised constraint ups strong r))
      (IsGood-raised constraint ups strong r good))

  pub closed_by_boxes : IsClosed constraint n rows
  closed_by_boxes = record {
    good = boxed.good;
    ascends = boxed.ascends;
    apart = boxed.apart;
    configs = λ c i. dominated_under rows (singles c) (map ups c) (map ups c) (singles_up c) (Rearranged-refl (map ups c)) (boxed.configs c i);
    combinations = λ q r o i iq ir io below full.
        let gq = boxed.good q iq in
        let gr = boxed.good r ir in
        let t = placed r o in
        let p : Rearranged r t = Rearranged-placed r o (Contains-In o (placements (length r)) (subst (λ m. Contains (placements m) o) (sym gr.0.count) io)) in
        let same : length t ≡ length q = sym (length-Rearranged p) ∙ gr.0.count ∙ sym gq.0.count in
        each_good (combined i q t) (record {
          count = length-combined i q t same ∙ gq.0.count;
          filled = is_full-filled (combined i q t) full;
          choice = good-combined (Has constraint) (λ c d. Has-Rearranged constraint) i q r t p (same_shape q t (sym same)) gq.1.choice gr.1.choice;
        });
  }

-- ---- the list of the maximal rows is boxed
module _ (constraint : Constraint) (ups : ℕ → List ℕ) (n : ℕ) (fine : IsConstraint n constraint) (strong : IsStrength constraint ups) where
  config_below : (c : List ℕ) → Has constraint c → AllByRecursion (λ x. x < n) c
  config_below c has =
      let f : IsConfig constraint.degree n (sorted c) = AllByRecursion-contains (IsConfig constraint.degree n) constraint.configs (sorted c) fine.configs has in
      AllByRecursion-Rearranged (λ x. x < n) (Rearranged-sym (Rearranged-sorted c)) f.below

  some_choice : (r : List (List ℕ)) → AreFilled r → (c : List ℕ) × IsChoice c r
  some_choice [] h = ([], tt)
  some_choice ([] ∷ r) h = absurd (omega (arith, h.0))
  some_choice ((x ∷ s) ∷ r) h = let more = some_choice r h.1 in (x ∷ more.0, (Contains-here x s, more.1))

  -- where all choices have labels below n alone, the sets have
  sets_below : (r : List (List ℕ)) → AreFilled r → ((c : List ℕ) → IsChoice c r → AllByRecursion (λ x. x < n) c) → AllByRecursion (λ s. AllByRecursion (λ x. x < n) s) r
  sets_below [] h k = tt
  sets_below ([] ∷ r) h k = absurd (omega (arith, h.0))
  sets_below ((y ∷ s) ∷ r) h k =
      let rest = some_choice r h.1 in (
        AllByRecursion-from_contains (λ x. x < n) (y ∷ s) (λ x i. (k (x ∷ rest.0) (i, rest.1)).0),
        sets_below r h.1 (λ c j. (k (y ∷ c) (Contains-here y s, j)).1),
      )

  -- the lists of labels as sets
  abbrev as_sets : List (List ℕ) → List (List ℕ)
  as_sets r = map (union []) r

  as_sets_labels : (r : List (List ℕ)) → AllByRecursion (λ s. AllByRecursion (λ x. x < n) s) r → AllByRecursion (IsLabelSet n) (as_sets r)
  as_sets_labels [] h = tt
  as_sets_labels (s ∷ r) h = (IsLabelSet-union n [] s (tt, tt) h.0, as_sets_labels r h.1)

  as_sets_above : (r : List (List ℕ)) → IsUnder r (as_sets r)
  as_sets_above [] = tt
  as_sets_above (s ∷ r) = ((λ z i. IsIn-union [] s z (inr i)), as_sets_above r)

  as_sets_under : (r : List (List ℕ)) → IsUnder (as_sets r) r
  as_sets_under [] = tt
  as_sets_under (s ∷ r) = ((λ z i. elim (IsIn-union_cases [] s z i) [ inl j ↦ absurd (Contains-none z j) | inr j ↦ j ]), as_sets_under r)

  as_sets_filled : (r : List (List ℕ)) → AreFilled r → AreFilled (as_sets r)
  as_sets_filled [] h = tt
  as_sets_filled ([] ∷ r) h = absurd (omega (arith, h.0))
  as_sets_filled ((x ∷ s) ∷ r) h = (IsIn-filled x (union [] (x ∷ s)) (IsIn-union [] (x ∷ s) x (inr (Contains-here x s))), as_sets_filled r h.1)

  -- good lists of labels are dominated by a maximal row
  pub good_dominated : (r : List (List ℕ)) → IsGood constraint r → IsDominated (max_rows constraint n) r
  good_dominated r good =
      dominated_under (max_rows constraint n) r (as_sets r) (as_sets r) (as_sets_above r) (Rearranged-refl (as_sets r))
      (dominated constraint n (as_sets r)
      (IsGood-under constraint (as_sets r) r (as_sets_under r) (as_sets_filled r good.filled) good)
      (as_sets_labels r (sets_below r good.filled (λ c k. config_below c (good.choice c k)))))

  up_config : (c : List ℕ) → Contains constraint.configs c → IsGood constraint (map ups c)
  up_config c here =
      let f : IsConfig constraint.degree n c = AllByRecursion-contains (IsConfig constraint.degree n) constraint.configs c fine.configs here in
      record {
        count = length-map' ups c ∙ f.count;
        filled = filled c;
        choice = λ e k. strong.keeps c e (beside c e k) (subst (λ w. Contains constraint.configs w) (sym (sorted_again c f.ascends)) here);
      }
    where
      filled : (c : List ℕ) → AreFilled (map ups c)
      filled [] = tt
      filled (x ∷ c) = (IsIn-filled x (ups x) (strong.holds x), filled c)

      beside : (c e : List ℕ) → IsChoice e (map ups c) → AllZip (λ x y. IsIn y (ups x)) c e
      beside [] [] k = tt
      beside [] (y ∷ e) k = absurd k
      beside (x ∷ c) [] k = absurd k
      beside (x ∷ c) (y ∷ e) k = (k.0, beside c e k.1)

  max_is_boxed : IsBoxed constraint ups n (max_rows constraint n)
  max_is_boxed =
      let closed : IsClosed constraint n (max_rows constraint n) = (closure_law constraint n (max_rows constraint n) fine).1 refl in
      record {
        good = closed.good;
        ascends = closed.ascends;
        apart = closed.apart;
        configs = λ c here. good_dominated (map ups c) (up_config c here);
        boxes = λ m i x here b next r good up h u. good_dominated r good;
      }

pub boxes_law : BoxesLaw
boxes_law constraint ups n rows fine strong = (
  (λ boxed. (closure_law constraint n rows fine).0 (closed_by_boxes constraint ups n rows strong boxed)),
  (λ e. subst (IsBoxed constraint ups n) (sym e) (max_is_boxed constraint ups n fine strong)),
)
