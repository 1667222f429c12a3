-- What lines of rows, entries and pairs give is of labels of the problems.
use Rattle.re_problem.proofs.KnownLabels.{held_in, known_set, label_known}
use Rattle.re_cert.proofs.ReadEntries.{all_append}
use Rattle.std.proofs.Common.{◌≡◌, ℕ, zero, suc, ◌<◌, ◌^◌, ◌&&◌, Bool, true, false, cond, eqb, leb, ltb, List, [], ◌∷◌, ◌++◌, length, map, flat_map, replicate, refl, sym, ap, ◌∙◌, subst, Option, Some, None, inl, inr, eq-eqb}
use Rattle.std.specs.List.{AllByRecursion, list_all, list_any}
use Rattle.std.specs.Option.{option_and_then}
use Rattle.std.proofs.lemmas.Bool.{cases_lt, false≢true}
use Rattle.std.proofs.lemmas.Nat.Bits.{bit_at_above}
use Rattle.re_labels.proofs.Sorting.{AllByRecursion-Rearranged, Rearranged-sorted, length-sorted}
use Rattle.re_labels.specs.Configs.{sorted}
use Rattle.re_labels.specs.Rows.{in_order, is_full, row_of}
use Rattle.re_problem.specs.Items.{ItemText}
use Rattle.re_problem.specs.Labels.{are_held, labels_held}
use Rattle.re_labels.proofs.Membership.{AllByRecursion-contains, In, In-Contains, all-In_from, length-map'}
use Rattle.re_labels.proofs.Numbers.{IsLabelSet-set_of, has-set_of, set_of-number}
use Rattle.re_labels.proofs.Sets.{IsIn-has}
use Rattle.re_labels.proofs.Tests.{and-true, eqb-true, true-below}
use Rattle.re_labels.specs.Lists.{same_list}
use Rattle.re_labels.specs.Sets.{IsLabelSet, has, number, set_of}
use Rattle.re_problem.proofs.FedNames.{named_set}
use Rattle.re_problem.specs.NamedProblems.{NamedProblem}
use Rattle.re_problem.specs.ProblemTexts.{expanded, labels_named, line_expanded, line_items, names_in, power_or_one}
use Rattle.re_problem.specs.Steps.{LowerMap, SetEntry}
use Rattle.re_problem.specs.Steps.LowerMap.{by_row, by_set}
use Rattle.re_cert.proofs.ReadLabels.{held_parts}
use Rattle.re_cert.specs.Bounds.{entries_in, entry_fits, image_fits, map_fits, pair_fits, row_fits}
use Rattle.re_cert.specs.Entries.{both, entry_on, entry_with, image_on, labels_in, labels_on, of_length, row_on}
use Rattle.re_problem.specs.Pairs.{ItemPair, label_held}
use Rattle.re_labels.specs.PortLabels.{port_labels}
use Rattle.re_labels.specs.declared.TheConstants.{MAX_LABELS}

all_labels : (n : ℕ) (set : List ℕ) → AllByRecursion (λ x. x < n) set → list_all (λ x. ltb x n) set ≡ true
all_labels n [] below = refl
all_labels n (x ∷ set) below = λ i. true-below x n below.0 i && all_labels n set below.1 i

-- ---- entries and pairs
-- the entries of a map that fits fit
pub entries-fit : (before next : NamedProblem) (map : LowerMap) → map_fits before next map ≡ true → list_all (entry_fits before next) (entries_in map) ≡ true
entries-fit before next (by_set entries) fits = fits
entries-fit before next (by_row images) fits = refl

pub entry_known : (before next : NamedProblem) (set label : ItemText) (entry : SetEntry) → entry_on before.names next.names set label ≡ Some entry → entry_fits before next entry ≡ true
entry_known before next set label entry e = go (labels_held before.names set.names) (label_held next.names label) refl refl e
  where
    go : (s : Option (List ℕ)) (l : Option ℕ) → labels_held before.names set.names ≡ s → label_held next.names label ≡ l → entry_with s l ≡ Some entry → entry_fits before next entry ≡ true
    go None l is_s is_l e = cc
    go (Some s) None is_s is_l e = cc
    go (Some s) (Some l) is_s is_l e =
        let same : record { set = s; label = l } ≡ entry = cc in
        subst (λ (x : SetEntry). entry_fits before next x ≡ true) same
        (λ i. all_labels (length before.names) s (known_set before.names set.names s is_s).1 i && true-below l (length next.names) (label_known next.names label l is_l) i)

pub pair_known : (last target : NamedProblem) (items : ItemPair) (pair : ℕ × ℕ) → labels_on last.names target.names items ≡ Some pair → pair_fits last target pair ≡ true
pair_known last target items pair e = go (label_held last.names items.left) (label_held target.names items.right) refl refl e
  where
    go : (x y : Option ℕ) → label_held last.names items.left ≡ x → label_held target.names items.right ≡ y → both x y ≡ Some pair → pair_fits last target pair ≡ true
    go None y is_x is_y e = cc
    go (Some x) None is_x is_y e = cc
    go (Some x) (Some y) is_x is_y e =
        let same : (x, y) ≡ pair = cc in
        subst (λ p. pair_fits last target p ≡ true) same
        (λ i. true-below x (length last.names) (label_known last.names items.left x is_x) i && true-below y (length target.names) (label_known target.names items.right y is_y) i)

-- ---- images
labels_known : (names : List (List ℕ)) (items : List ItemText) (labels : List ℕ) → labels_in names items ≡ Some labels → list_all (λ x. ltb x (length names)) labels ≡ true
labels_known names [] labels e = let none : [] ≡ labels = cc in ap (list_all (λ x. ltb x (length names))) (sym none)
labels_known names (item ∷ items) labels e =
    let (x, xs, first, rest, same) = held_parts (label_held names item) (labels_in names items) labels e in
    ap (list_all (λ x. ltb x (length names))) (sym same) ∙ (λ i. true-below x (length names) (label_known names item x first) i && labels_known names items xs rest i)

pub image_known : (before next : NamedProblem) (items : List ItemText) (image : List ℕ) → image_on before next items ≡ Some image → image_fits before next image ≡ true
image_known before next items image e = go (labels_in next.names items) refl e
  where
    of_row : (t : Bool) (labels : List ℕ) → eqb (length labels) before.passive.degree ≡ true → labels_in next.names items ≡ Some labels → cond t (Some labels) None ≡ Some image → image_fits before next image ≡ true
    of_row false labels size is e = cc
    of_row true labels size is e =
        let same : labels ≡ image = cc in
        subst (λ (l : List ℕ). image_fits before next l ≡ true) same (λ i. size i && labels_known next.names items labels is i)

    of_size : (t : Bool) (labels : List ℕ) → eqb (length labels) before.passive.degree ≡ t → labels_in next.names items ≡ Some labels → option_and_then port_labels (cond t (Some labels) None) ≡ Some image → image_fits before next image ≡ true
    of_size false labels size is e = cc
    of_size true labels size is e = of_row (leb 2 (length labels) && leb (length labels) 6) labels size is e

    go : (o : Option (List ℕ)) → labels_in next.names items ≡ o → option_and_then port_labels (option_and_then (of_length before.passive.degree) o) ≡ Some image → image_fits before next image ≡ true
    go None is e = cc
    go (Some labels) is e = of_size (eqb (length labels) before.passive.degree) labels refl is e

-- ---- rows
module _ (n : ℕ) where
  -- a label of the set of a number of few bits is small
  low_label : (b x : ℕ) → b < 2 ^ n → In x (set_of MAX_LABELS b) → x < n
  low_label b x few member =
      let held : has (set_of MAX_LABELS b) x ≡ true = IsIn-has (set_of MAX_LABELS b) x (In-Contains x (set_of MAX_LABELS b) member) in
      let below : x < MAX_LABELS = AllByRecursion-contains (λ y. y < MAX_LABELS) (set_of MAX_LABELS b) x (IsLabelSet-set_of MAX_LABELS b).1 (In-Contains x (set_of MAX_LABELS b) member) in
      elim (cases_lt x n) [
        | inl low ↦ low
        | inr high ↦ absurd (false≢true (sym (has-set_of MAX_LABELS b x below ∙ ap (λ k. eqb k 1) (bit_at_above b n x few high)) ∙ held))
      ]

  low_sets : (numbers : List ℕ) → AllByRecursion (λ b. b < 2 ^ n) numbers → list_all (list_all (λ x. ltb x n)) (map (set_of MAX_LABELS) numbers) ≡ true
  low_sets [] few = refl
  low_sets (b ∷ numbers) few = λ i. all-In_from (λ x. ltb x n) (set_of MAX_LABELS b) (λ x member. true-below x n (low_label b x few.0 member)) i && low_sets numbers few.1 i

  few_bits : (sets : List (List ℕ)) → AllByRecursion (IsLabelSet n) sets → AllByRecursion (λ b. b < 2 ^ n) (map number sets)
  few_bits [] are = tt
  few_bits (s ∷ sets) are = ((set_of-number n s are.0).0, few_bits sets are.1)

all_two : {X : Type 0} (P : List ℕ → Type 0) (f : X → List ℕ) (xs ys : List X) → AllByRecursion P (map f xs) → AllByRecursion P (map f ys) → AllByRecursion P (map f (xs ++ ys))
all_two P f [] ys h k = k
all_two P f (x ∷ xs) ys h k = (h.0, all_two P f xs ys h.1 k)

all_times : {X : Type 0} (P : List ℕ → Type 0) (f : X → List ℕ) (n : ℕ) (x : X) → P (f x) → AllByRecursion P (map f (replicate n x))
all_times P f zero x h = tt
all_times P f (suc n) x h = (h, all_times P f n x h)

known_items : (names : List (List ℕ)) (items : List ItemText) → are_held names (flat_map (λ (item : ItemText). item.names) items) ≡ true
    → AllByRecursion (IsLabelSet (length names)) (map (labels_named names) (expanded items))
known_items names [] held = tt
known_items names (item ∷ items) held =
    let more : List (List ℕ) = flat_map (λ (i : ItemText). i.names) items in
    let both = and-true (are_held names item.names) (are_held names more) (sym (all_append (λ name. list_any (same_list name) names) item.names more) ∙ held) in
    all_two (IsLabelSet (length names)) (labels_named names) (replicate (power_or_one item.power) item.names) (expanded items)
    (all_times (IsLabelSet (length names)) (labels_named names) (power_or_one item.power) item.names (named_set names item.names (held_in names item.names both.0)))
    (known_items names items both.1)

known_sets : (names : List (List ℕ)) (o : Option (List ItemText)) → are_held names (names_in o) ≡ true → AllByRecursion (IsLabelSet (length names)) (map (labels_named names) (line_expanded o))
known_sets names None held = tt
known_sets names (Some items) held = known_items names items held

some_if : {X : Type 0} (t : Bool) (x y : X) → cond t (Some x) None ≡ Some y → (t ≡ true) × (x ≡ y)
some_if true x y e = (refl, (let same : x ≡ y = cc in same))
some_if false x y e = absurd (cc)

pub row_known : (before : NamedProblem) (line : List ℕ) (row : List (List ℕ)) → row_on before line ≡ Some row → row_fits before row ≡ true
row_known before line row e = go (are_held names (names_in (line_items line)) && eqb (length (line_expanded (line_items line))) before.passive.degree) refl e
  where
    names : List (List ℕ)
    names = before.names

    sets : List (List ℕ)
    sets = map (labels_named names) (line_expanded (line_items line))

    fits : are_held names (names_in (line_items line)) ≡ true → length (line_expanded (line_items line)) ≡ before.passive.degree → in_order MAX_LABELS sets ≡ row → row_fits before row ≡ true
    fits held size same =
        let numbers : List ℕ = map number sets in
        let count : length (in_order MAX_LABELS sets) ≡ before.passive.degree =
        length-map' (set_of MAX_LABELS) (sorted numbers) ∙ length-sorted numbers ∙ length-map' number sets ∙ length-map' (labels_named names) (line_expanded (line_items line)) ∙ size in
        let low : list_all (list_all (λ x. ltb x (length names))) (in_order MAX_LABELS sets) ≡ true =
        low_sets (length names) (sorted numbers)
        (AllByRecursion-Rearranged (λ b. b < 2 ^ length names) (Rearranged-sorted numbers) (few_bits (length names) sets (known_sets names (line_items line) held))) in
        subst (λ r. row_fits before r ≡ true) same (λ i. eq-eqb (length (in_order MAX_LABELS sets)) before.passive.degree count i && low i)

    go : (t : Bool) → (are_held names (names_in (line_items line)) && eqb (length (line_expanded (line_items line))) before.passive.degree) ≡ t
        → option_and_then (row_of MAX_LABELS) (cond t (Some sets) None) ≡ Some row → row_fits before row ≡ true
    go true is e =
        let two = and-true (are_held names (names_in (line_items line))) (eqb (length (line_expanded (line_items line))) before.passive.degree) is in
        let some = some_if (leb 2 (length sets) && leb (length sets) 6 && is_full sets) (in_order MAX_LABELS sets) row e in
        fits two.0 (eqb-true (length (line_expanded (line_items line))) before.passive.degree two.1) some.1
    go false is e = absurd (cc)
