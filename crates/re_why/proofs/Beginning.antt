-- Beginnings of choices: labels that are drawn, and the sets behind them.
use Rattle.std.proofs.Common.{◌≡◌, ℕ, ◌<◌, ◌≤◌, Bool, true, false, cond, eqb, leb, not, ◌&&◌, List, [], ◌∷◌, ◌++◌, length, map, refl, sym, ap, ◌∙◌, subst, arith, Some, None, Option, true≢false}
use Rattle.std.specs.List.{AllByRecursion, list_all, list_any}
use Rattle.std.specs.Prelude.{IsSome}
use Rattle.std.proofs.lemmas.Bool.Decides.{nat_tests}
use Rattle.re_labels.proofs.ChoicesOfRows.{In-choices_from, IsChoice-filled}
use Rattle.re_labels.proofs.Rearranging.{length-AllZip}
use Rattle.re_labels.proofs.Placing.{row_found}
use Rattle.re_labels.proofs.RowCalls.{row_of-some}
use Rattle.re_labels.specs.Configs.{sorted}
use Rattle.re_labels.specs.Rows.{choices, in_order, is_full, row_of, singles}
use Rattle.re_labels.proofs.Membership.{any-In_from}
use Rattle.re_labels.proofs.Tests.{eqb-same}
use Rattle.re_labels.specs.PortLabels.{port_labels}
use Rattle.re_labels.specs.Sets.{IsIn, IsLabelSet, number}
use Rattle.re_labels.specs.declared.TheConstants.{MAX_LABELS}
use Rattle.re_labels.proofs.Goodness.{filled-is_full, is_full-filled}
use Rattle.re_labels.proofs.SetsInOrder.{AreSets, in_order-good, in_order-length}
use Rattle.re_labels.specs.Constraints.{Constraint, has_config}
use Rattle.re_labels.specs.GoodRows.{is_good}
use Rattle.re_choice.proofs.Beginning.{any-fixed}
use Rattle.re_choice.proofs.Drawing.{chosen_some}
use Rattle.re_choice.specs.FirstChoice.{IsDrawn}
use Rattle.re_why.proofs.Found.{found_passes, not_all}
use Rattle.re_why.specs.BadChoice.{begins, first_bad, first_behind, is_bad}

-- ---- tests of some choice
-- the choices of the drawn labels and of the other sets are the drawn labels with the choices of those
-- ---- what the code asks
module _ (constraint : Constraint) (drawn : List ℕ) (others sets : List (List ℕ)) (is : sets ≡ singles drawn ++ others) (count : length sets ≡ constraint.degree) (two : 2 ≤ length sets) (six : length sets ≤ 6) where
  begun : list_any (is_bad constraint) (choices sets) ≡ begins constraint drawn others
  begun = ap (λ s. list_any (is_bad constraint) (choices s)) is ∙ any-fixed (is_bad constraint) drawn others

  -- where a set is empty, there is no choice
  pub asked_none : None ≡ row_of MAX_LABELS sets → false ≡ begins constraint drawn others
  asked_none none = sym (go (list_any (is_bad constraint) (choices sets)) refl) ∙ begun
    where
      go : (b : Bool) → b ≡ list_any (is_bad constraint) (choices sets) → list_any (is_bad constraint) (choices sets) ≡ false
      go false e = sym e
      go true e = absurd (
          let (labels, held, bad) = any-In_from (is_bad constraint) (choices sets) (sym e) in
          let full = filled-is_full sets (IsChoice-filled labels sets (In-choices_from labels sets held)) in
          let some = row_found sets (sorted (map number sets)) two six full refl in
          cc)

  full_row : (row : List (List ℕ)) → Some row ≡ row_of MAX_LABELS sets → is_full sets ≡ true
  full_row row some = (row_of-some MAX_LABELS sets two six).0 (subst IsSome some refl)

  row_is : (row : List (List ℕ)) → Some row ≡ row_of MAX_LABELS sets → row ≡ in_order MAX_LABELS sets
  row_is row some = let found = row_found sets (sorted (map number sets)) two six (full_row row some) refl in cc

  are : AllByRecursion (λ x. x < MAX_LABELS) drawn → AllByRecursion (IsLabelSet MAX_LABELS) others → (row : List (List ℕ)) → Some row ≡ row_of MAX_LABELS sets → AreSets sets
  are below labels row some = filled sets (is_full-filled sets (full_row row some)) (subst (AllByRecursion (IsLabelSet MAX_LABELS)) (sym is) (behind drawn below))
    where
      behind : (drawn : List ℕ) → AllByRecursion (λ x. x < MAX_LABELS) drawn → AllByRecursion (IsLabelSet MAX_LABELS) (singles drawn ++ others)
      behind [] h = labels
      behind (x ∷ drawn) h = ((tt, (h.0, tt)), behind drawn h.1)

      filled : (sets : List (List ℕ)) → AllByRecursion (λ s. 0 < length s) sets → AllByRecursion (IsLabelSet MAX_LABELS) sets → AreSets sets
      filled [] h k = tt
      filled (s ∷ sets) h k = ((k.0, h.0), filled sets h.1 k.1)

  pub asked_length : AllByRecursion (λ x. x < MAX_LABELS) drawn → AllByRecursion (IsLabelSet MAX_LABELS) others → (row : List (List ℕ)) → Some row ≡ row_of MAX_LABELS sets → length row ≡ length sets
  asked_length below labels row some = in_order-length sets row (are below labels row some) (row_is row some)

  pub asked_some : AllByRecursion (λ x. x < MAX_LABELS) drawn → AllByRecursion (IsLabelSet MAX_LABELS) others → (row : List (List ℕ)) → Some row ≡ row_of MAX_LABELS sets → not (is_good constraint row) ≡ begins constraint drawn others
  asked_some below labels row some =
      ap not (in_order-good constraint sets row (are below labels row some) (row_is row some)
      ∙ (λ i. (eqb (length sets) (sym count i) && full_row row some i) && list_all (has_config constraint) (choices sets))
      ∙ ap (λ b. (b && true) && list_all (has_config constraint) (choices sets)) (eqb-same (length sets)))
      ∙ not_all (has_config constraint) (choices sets) ∙ begun

-- ---- the labels that are found are 2 to 6
pub found_ports : (constraint : Constraint) (sets : List (List ℕ)) (drawn new : List ℕ) (r : Bool) → 2 ≤ length sets → length sets ≤ 6 → r ≡ true → drawn ≡ [] → IsDrawn (first_behind constraint drawn sets) drawn r new
    → port_labels new ≡ first_bad constraint sets
found_ports constraint sets drawn new r least most done none h =
    let some : Some new ≡ first_bad constraint sets = chosen_some (first_behind constraint [] sets) new r done (subst (λ l. IsDrawn (first_behind constraint l sets) l r new) none h) in
    let count : length new ≡ length sets = length-AllZip IsIn new sets (In-choices_from new sets (found_passes (is_bad constraint) (choices sets) new some).1) in
    let two : leb 2 (length new) ≡ true = (let p : 2 ≤ length new = omega (arith, count, least) in grind (arith, nat_tests)) in
    let six : leb (length new) 6 ≡ true = (let p : length new ≤ 6 = omega (arith, count, most) in grind (arith, nat_tests)) in
    (λ i. cond (two i && six i) (Some new) None) ∙ some

-- where none is found, there is none
pub found_none : (constraint : Constraint) (sets : List (List ℕ)) (drawn new : List ℕ) (r : Bool) → r ≡ false → drawn ≡ [] → IsDrawn (first_behind constraint drawn sets) drawn r new → None ≡ first_bad constraint sets
found_none constraint sets drawn new r is none h = go (first_behind constraint [] sets) refl (subst (λ l. IsDrawn (first_behind constraint l sets) l r new) none h)
  where
    go : (o : Option (List ℕ)) → o ≡ first_bad constraint sets → IsDrawn o [] r new → None ≡ first_bad constraint sets
    go None e h = e
    go (Some labels) e h = absurd (true≢false (sym h.0 ∙ is))
