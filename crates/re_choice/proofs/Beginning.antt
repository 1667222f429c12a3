-- Beginnings of choices: labels that are drawn, and the sets behind them.
use Rattle.std.proofs.Common.{◌≡◌, ℕ, ◌<◌, ◌≤◌, Bool, true, false, cond, leb, ◌&&◌, ◌||◌, List, [], ◌∷◌, ◌++◌, length, map, refl, sym, ap, ◌∙◌, subst, arith, Some, None, Option, append-nil, true≢false}
use Rattle.std.specs.List.{AllByRecursion, list_any}
use Rattle.std.specs.Prelude.{IsSome, find, if◌then◌else◌}
use Rattle.re_choice.specs.FirstChoice.{IsDrawn, begins, first_behind}
use Rattle.re_labels.proofs.ChoicesOfRows.{In-choices_from, IsChoice-filled}
use Rattle.re_labels.proofs.Dominating.{any-map}
use Rattle.re_labels.proofs.Rearranging.{length-AllZip}
use Rattle.re_labels.proofs.Sorting.{length-sorted}
use Rattle.re_labels.specs.Configs.{sorted}
use Rattle.re_labels.proofs.Placing.{row_found}
use Rattle.re_labels.proofs.RowCalls.{row_of-some}
use Rattle.re_labels.specs.Rows.{choices, in_order, is_full, row_of, singles}
use Rattle.re_labels.proofs.Membership.{AllByRecursion-contains, any-In_from}
use Rattle.re_labels.specs.PortLabels.{port_labels}
use Rattle.re_labels.specs.Sets.{IsIn, IsLabelSet, number}
use Rattle.re_labels.proofs.Goodness.{filled-is_full, has_config-Has, is_full-filled}
use Rattle.re_labels.specs.Constraints.{Constraint, IsConstraint, has_config}
use Rattle.std.proofs.lemmas.Bool.Decides.{nat_tests}
use Rattle.re_labels.specs.GoodRows.{is_allowed}
use Rattle.re_choice.proofs.Drawing.{chosen_some, first_passing}
use Rattle.re_labels.proofs.SetsInOrder.{AreSets, in_order-allowed, in_order-length}
use Rattle.re_labels.specs.declared.TheConstants.{MAX_LABELS}

-- ---- tests of some choice
-- the choices of the drawn labels and of the other sets are the drawn labels with the choices of those
pub any-fixed : (p : List ℕ → Bool) (drawn : List ℕ) (sets : List (List ℕ)) → list_any p (choices (singles drawn ++ sets)) ≡ list_any (λ labels. p (drawn ++ labels)) (choices sets)
any-fixed p [] sets = refl
any-fixed p (x ∷ drawn) sets =
    ap (list_any p) (append-nil (map (λ labels. x ∷ labels) (choices (singles drawn ++ sets)))) ∙ any-map p (λ labels. x ∷ labels) (choices (singles drawn ++ sets))
    ∙ any-fixed (λ labels. p (x ∷ labels)) drawn sets

pub none_found : {X : Type 0} (p : X → Bool) (xs : List X) → list_any p xs ≡ false → find p xs ≡ None
none_found p [] h = refl
none_found {X} p (x ∷ xs) h = go (p x) (none_found p xs) h
  where
    go : (b : Bool) → (list_any p xs ≡ false → find p xs ≡ None) → (b || list_any p xs) ≡ false → (if b then Some x else find p xs) ≡ None
    go true later h = absurd (true≢false h)
    go false later h = later h

pub some_found : {X : Type 0} (p : X → Bool) (xs : List X) → list_any p xs ≡ true → find p xs ≡ None → ⊥
some_found p [] h e = true≢false (sym h)
some_found {X} p (x ∷ xs) h e = go (p x) (some_found p xs) h e
  where
    go : (b : Bool) → (list_any p xs ≡ true → find p xs ≡ None → ⊥) → (b || list_any p xs) ≡ true → (if b then Some x else find p xs) ≡ None → ⊥
    go true later h e = cc
    go false later h e = later h e

-- ---- choices are as long as the row
pub other_length : (n : ℕ) (constraint : Constraint) (sets : List (List ℕ)) → IsConstraint n constraint → (length sets ≡ constraint.degree → ⊥) → find (has_config constraint) (choices sets) ≡ None
other_length n constraint sets is other = none_found (has_config constraint) (choices sets) (go (list_any (has_config constraint) (choices sets)) refl)
  where
    go : (b : Bool) → b ≡ list_any (has_config constraint) (choices sets) → list_any (has_config constraint) (choices sets) ≡ false
    go false e = sym e
    go true e = absurd (
        let (labels, held, has) = any-In_from (has_config constraint) (choices sets) (sym e) in
        let config = AllByRecursion-contains _ constraint.configs (sorted labels) is.configs (has_config-Has constraint labels has) in
        other (sym (length-AllZip IsIn labels sets (In-choices_from labels sets held)) ∙ sym (length-sorted labels) ∙ config.count))

-- ---- what the code asks
module _ (constraint : Constraint) (drawn : List ℕ) (others sets : List (List ℕ)) (is : sets ≡ singles drawn ++ others) (two : 2 ≤ length sets) (six : length sets ≤ 6) where
  begun : is_allowed constraint sets ≡ begins constraint drawn others
  begun = ap (λ s. list_any (has_config constraint) (choices s)) is ∙ any-fixed (has_config constraint) drawn others

  -- where a set is empty, there is no choice
  pub asked_none : None ≡ row_of MAX_LABELS sets → false ≡ begins constraint drawn others
  asked_none none = sym (go (is_allowed constraint sets) refl) ∙ begun
    where
      go : (b : Bool) → b ≡ is_allowed constraint sets → is_allowed constraint sets ≡ false
      go false e = sym e
      go true e = absurd (
          let (labels, held, has) = any-In_from (has_config constraint) (choices sets) (sym e) in
          let full = filled-is_full sets (IsChoice-filled labels sets (In-choices_from labels sets held)) in
          let some = row_found sets (sorted (map number sets)) two six full refl in
          cc)

  full_row : (row : List (List ℕ)) → Some row ≡ row_of MAX_LABELS sets → is_full sets ≡ true
  full_row row some = (row_of-some MAX_LABELS sets two six).0 (subst IsSome some refl)

  row_is : (row : List (List ℕ)) → Some row ≡ row_of MAX_LABELS sets → row ≡ in_order MAX_LABELS sets
  row_is row some = let found = row_found sets (sorted (map number sets)) two six (full_row row some) refl in cc

  are : AllByRecursion (λ x. x < MAX_LABELS) drawn → AllByRecursion (IsLabelSet MAX_LABELS) others → (row : List (List ℕ)) → Some row ≡ row_of MAX_LABELS sets → AreSets sets
  are below labels row some = filled sets (is_full-filled sets (full_row row some)) (subst (AllByRecursion (IsLabelSet MAX_LABELS)) (sym is) (behind drawn below))
    where
      behind : (drawn : List ℕ) → AllByRecursion (λ x. x < MAX_LABELS) drawn → AllByRecursion (IsLabelSet MAX_LABELS) (singles drawn ++ others)
      behind [] h = labels
      behind (x ∷ drawn) h = ((tt, (h.0, tt)), behind drawn h.1)

      filled : (sets : List (List ℕ)) → AllByRecursion (λ s. 0 < length s) sets → AllByRecursion (IsLabelSet MAX_LABELS) sets → AreSets sets
      filled [] h k = tt
      filled (s ∷ sets) h k = ((k.0, h.0), filled sets h.1 k.1)

  pub asked_length : AllByRecursion (λ x. x < MAX_LABELS) drawn → AllByRecursion (IsLabelSet MAX_LABELS) others → (row : List (List ℕ)) → Some row ≡ row_of MAX_LABELS sets → length row ≡ length sets
  asked_length below labels row some = in_order-length sets row (are below labels row some) (row_is row some)

  pub asked_some : AllByRecursion (λ x. x < MAX_LABELS) drawn → AllByRecursion (IsLabelSet MAX_LABELS) others → (row : List (List ℕ)) → Some row ≡ row_of MAX_LABELS sets → is_allowed constraint row ≡ begins constraint drawn others
  asked_some below labels row some = in_order-allowed constraint sets row (are below labels row some) (row_is row some) ∙ begun

-- ---- what the answer says of the first choice
pub not_begun : (passes : List ℕ → Bool) (drawn : List ℕ) (others : List (List ℕ)) (r : Bool) → r ≡ false → r ≡ list_any (λ labels. passes (drawn ++ labels)) (choices others) → IsDrawn (first_passing passes drawn others) drawn false drawn
not_begun passes drawn others r is e = subst (λ o. IsDrawn o drawn false drawn) (sym (none_found (λ labels. passes (drawn ++ labels)) (choices others) (sym e ∙ is))) (refl, refl)

pub begun_found : (passes : List ℕ → Bool) (drawn : List ℕ) (others : List (List ℕ)) (r found : Bool) (new : List ℕ) → r ≡ true → r ≡ list_any (λ labels. passes (drawn ++ labels)) (choices others) → IsDrawn (first_passing passes drawn others) drawn found new → found ≡ true
begun_found passes drawn others r found new is e h = go (first_passing passes drawn others) refl h
  where
    go : (o : Option (List ℕ)) → o ≡ first_passing passes drawn others → IsDrawn o drawn found new → found ≡ true
    go None same h = absurd (some_found (λ labels. passes (drawn ++ labels)) (choices others) (sym e ∙ is) (sym same))
    go (Some labels) same h = h.0

-- ---- the labels that are found
found-passes : {X : Type 0} (p : X → Bool) (xs : List X) (x : X) → Some x ≡ find p xs → p x ≡ true
found-passes p [] x e = cc
found-passes {X} p (y ∷ xs) x e = go (p y) refl (found-passes p xs x) e
  where
    go : (b : Bool) → b ≡ p y → (Some x ≡ find p xs → p x ≡ true) → Some x ≡ (if b then Some y else find p xs) → p x ≡ true
    go true is later e = let same : x ≡ y = cc in ap p same ∙ sym is
    go false is later e = later e

-- they are 2 to 6
pub found_ports : (n : ℕ) (constraint : Constraint) (sets : List (List ℕ)) (drawn new : List ℕ) (r : Bool) → IsConstraint n constraint → r ≡ true → drawn ≡ [] → IsDrawn (first_behind constraint drawn sets) drawn r new
    → port_labels new ≡ find (has_config constraint) (choices sets)
found_ports n constraint sets drawn new r is done none h =
    let some : Some new ≡ find (has_config constraint) (choices sets) = chosen_some (first_behind constraint [] sets) new r done (subst (λ l. IsDrawn (first_behind constraint l sets) l r new) none h) in
    let has = found-passes (has_config constraint) (choices sets) new some in
    let config = AllByRecursion-contains _ constraint.configs (sorted new) is.configs (has_config-Has constraint new has) in
    let count : length new ≡ constraint.degree = sym (length-sorted new) ∙ config.count in
    let two : leb 2 (length new) ≡ true = (let p : 2 ≤ length new = omega (arith, count, is.least) in grind (arith, nat_tests)) in
    let six : leb (length new) 6 ≡ true = (let p : length new ≤ 6 = omega (arith, count, is.most) in grind (arith, nat_tests)) in
    (λ i. cond (two i && six i) (Some new) None) ∙ some
