-- The labels of an item, where they are among the names.
use Rattle.std.proofs.Common.{◌≡◌, ℕ, ◌<◌, Bool, true, false, cond, List, length, refl, sym, ap, ◌∙◌, subst, Option, Some, None}
use Rattle.std.specs.Prelude.{IfSome, slice_range}
use Rattle.std.specs.List.{list_any}
use Rattle.std.specs.Option.{option_and_then}
use Rattle.re_labels.proofs.LeastLabels.{first-below}
use Rattle.re_problem.specs.Items.{ItemText, item_of}
use Rattle.re_problem.specs.Labels.{are_held, item_set, labels_held}
use Rattle.re_problem.specs.declared.items.Item.{Item}
use Rattle.re_labels.proofs.Before.{same_list-same}
use Rattle.re_labels.proofs.Membership.{In, all-In, any-In_from}
use Rattle.re_labels.specs.Lists.{same_list}
use Rattle.re_labels.specs.Sets.{IsLabelSet, first_of}
use Rattle.re_problem.proofs.FedNames.{named_set}
use Rattle.re_problem.specs.ProblemTexts.{labels_named}
use Rattle.re_problem.specs.Pairs.{label_held}

pub held_in : (names written : List (List ℕ)) → are_held names written ≡ true → (name : List ℕ) → In name written → In name names
held_in names written held name there =
    let found = any-In_from (same_list name) names (all-In (λ n. list_any (same_list n) names) written held name there) in
    subst (λ n. In n names) (sym (same_list-same name found.0 found.2)) found.1

-- the labels of known names are a set of labels
pub known_set : (names written : List (List ℕ)) (set : List ℕ) → labels_held names written ≡ Some set → IsLabelSet (length names) set
known_set names written set e = by_test (are_held names written) refl
  where
    by_test : (t : Bool) → are_held names written ≡ t → IsLabelSet (length names) set
    by_test true held =
        let some : Some (labels_named names written) ≡ Some set = sym (ap (λ t. cond t (Some (labels_named names written)) None) held) ∙ e in
        let same : labels_named names written ≡ set = cc in
        subst (IsLabelSet (length names)) same (named_set names written (held_in names written held))
    by_test false held = let none : None ≡ Some set = sym (ap (λ t. cond t (Some (labels_named names written)) None) held) ∙ e in cc

pub item_set-known : (line : List ℕ) (item : Item) (names : List (List ℕ)) (set : List ℕ) → Some set ≡ item_set line item names → IsLabelSet (length names) set
item_set-known line item names set e = go (item_of (slice_range line item.from item.to)) e
  where
    go : (text : Option ItemText) → Some set ≡ option_and_then (λ (t : ItemText). labels_held names t.names) text → IsLabelSet (length names) set
    go None e = cc
    go (Some text) e = known_set names text.names set (sym e)

-- a known label is one of the names
pub label_known : (names : List (List ℕ)) (text : ItemText) (label : ℕ) → label_held names text ≡ Some label → label < length names
label_known names text label e = go (labels_held names text.names) refl e
  where
    go : (set : Option (List ℕ)) → labels_held names text.names ≡ set → option_and_then first_of set ≡ Some label → label < length names
    go None h e = cc
    go (Some set) h e = let is = known_set names text.names set h in first-below set label (length names) is.1 e

pub first-known : (line : List ℕ) (item : Item) (names : List (List ℕ)) (set : List ℕ) (found : Option ℕ) → Some set ≡ item_set line item names → found ≡ first_of set → IfSome found (λ label. label < length names)
first-known line item names set None held is = tt
first-known line item names set (Some label) held is = let s = item_set-known line item names set held in first-below set label (length names) s.1 (sym is)
