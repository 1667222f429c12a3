-- Rows of sets at places.
use Rattle.std.proofs.Common.{◌≡◌, ℕ, ◌≤◌, ◌<◌, Bool, true, false, List, [], ◌∷◌, length, map, take, Some, None, refl, sym, ◌∙◌, ap, subst, rules}
use Rattle.std.specs.Prelude.{IsSome}
use Rattle.std.specs.List.{AllByRecursion}
use Rattle.re_labels.proofs.RowCalls.{row_of-some}
use Rattle.re_labels.proofs.Sorting.{take_all}
use Rattle.re_labels.specs.Rows.{in_order, is_full, placed, row_of, set_at}
use Rattle.re_labels.specs.Sets.{IsLabelSet}
use Rattle.re_labels.specs.declared.TheConstants.{MAX_LABELS}
use Rattle.re_labels.proofs.Goodness.{filled-is_full, is_allowed-IsAllowed, is_full-filled}
use Rattle.re_labels.proofs.SetsInOrder.{AreSets, row_is}
use Rattle.re_labels.specs.Constraints.{Constraint}
use Rattle.re_labels.specs.GoodRows.{is_allowed}
use Rattle.re_labels.proofs.ChoicesOfRows.{IsChoice-filled}

pub placed_all : (joining sets given : List (List ℕ)) (places : List ℕ) (i : ℕ) → given ≡ sets → sets ≡ map (set_at joining) (take i places) → length places ≤ i → given ≡ placed joining places
placed_all joining sets given places i e f over = e ∙ f ∙ ap (map (set_at joining)) (take_all places i over)

both : (sets : List (List ℕ)) → AllByRecursion (IsLabelSet MAX_LABELS) sets → AllByRecursion (λ s. 0 < length s) sets → AreSets sets
both [] are filled = tt
both (s ∷ sets) are filled = ((are.0, filled.0), both sets are.1 filled.1)

is_some_some : (row : List (List ℕ)) → IsSome (Some row)
is_some_some row = search rules

no_row : (sets : List (List ℕ)) → 2 ≤ length sets → length sets ≤ 6 → (row : List (List ℕ)) → is_full sets ≡ false → row_of MAX_LABELS sets ≡ Some row → ⊥
no_row sets two six row none e =
    let some : IsSome (row_of MAX_LABELS sets) = subst IsSome (sym e) (is_some_some row) in
    let full : is_full sets ≡ true = (row_of-some MAX_LABELS sets two six).0 some in
    absurd (cc)

module _ (sets : List (List ℕ)) (two : 2 ≤ length sets) (six : length sets ≤ 6) (are : AllByRecursion (IsLabelSet MAX_LABELS) sets) where
  filled_row : is_full sets ≡ true → AreSets sets
  filled_row full = both sets are (is_full-filled sets full)

  pub row_some : (row : List (List ℕ)) → row_of MAX_LABELS sets ≡ Some row → AreSets sets × (row ≡ in_order MAX_LABELS sets)
  row_some row e = at (is_full sets) refl
    where
      at : (b : Bool) → is_full sets ≡ b → AreSets sets × (row ≡ in_order MAX_LABELS sets)
      at true full = (filled_row full, (let same : Some row ≡ Some (in_order MAX_LABELS sets) = sym e ∙ row_is sets two six (filled_row full) in let one : row ≡ in_order MAX_LABELS sets = cc in one))
      at false not_full = absurd (no_row sets two six row not_full e)

  pub row_none : (K : Constraint) → row_of MAX_LABELS sets ≡ None → is_allowed K sets ≡ false
  row_none K e = at (is_allowed K sets) refl
    where
      at : (b : Bool) → is_allowed K sets ≡ b → is_allowed K sets ≡ false
      at false none = none
      at true some =
          let (labels, choice, has) = is_allowed-IsAllowed K sets some in
          let full : is_full sets ≡ true = filled-is_full sets (IsChoice-filled labels sets choice) in
          let found : row_of MAX_LABELS sets ≡ Some (in_order MAX_LABELS sets) = row_is sets two six (filled_row full) in
          let wrong : None ≡ Some (in_order MAX_LABELS sets) = sym e ∙ found in
          absurd (cc)
