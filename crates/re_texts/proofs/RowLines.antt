-- The line of a row is read as the row.
use Rattle.re_problem.proofs.ReadTexts.{filled as some_label}
use Rattle.std.proofs.Common.{◌≡◌, ℕ, zero, suc, ◌≤◌, ◌<◌, Bool, true, false, cond, ◌&&◌, ◌||◌, eqb, ltb, List, [], ◌∷◌, ◌++◌, length, map, flat_map, replicate, refl, sym, ap, ◌∙◌, subst, arith, Some, None, is_some}
use Rattle.std.specs.List.{AllByRecursion, list_any}
use Rattle.std.specs.Option.{option_and_then}
use Rattle.std.proofs.lemmas.Bool.{lt-ltb}
use Rattle.std.proofs.lemmas.List.{length-map, map-append}
use Rattle.std.proofs.lemmas.List.Folds.{list_all-append}
use Rattle.re_texts.proofs.BlocksWritten.{have_names}
use Rattle.re_texts.proofs.ConfigLines.{HoldRuns, IsNamed, name_at, runs_hold, unrolled, unrolled_runs, some_run}
use Rattle.re_texts.proofs.RunItems.{power_part}
use Rattle.re_cert.specs.Entries.{row_sets}
use Rattle.re_texts.proofs.SpacedWords.{IsWord, spaced_words}
use Rattle.re_texts.proofs.LineWords.{spaced_read}
use Rattle.re_texts.proofs.SetItems.{names_at, names_held, set_again, set_item, set_run_read, set_run_word}
use Rattle.re_texts.specs.CertificateLines.{IsRead, RowLineLaw}
use Rattle.re_labels.proofs.Placing.{row_found}
use Rattle.re_labels.proofs.Rows.{AreSets, row_numbers}
use Rattle.re_labels.proofs.Sorting.{sorted_again}
use Rattle.re_labels.specs.Configs.{sorted}
use Rattle.re_labels.specs.Rows.{IsRow, is_full, row_of}
use Rattle.re_problem.specs.Items.{ItemText, items_of_words, with_item}
use Rattle.re_problem.specs.Labels.{are_held}
use Rattle.re_problem.specs.ItemSteps.{is_nil}
use Rattle.re_labels.proofs.Membership.{AllByRecursion-weaker}
use Rattle.re_labels.proofs.Numbers.{set_of-number}
use Rattle.re_labels.proofs.Rising.{rising-map}
use Rattle.re_labels.proofs.Tests.{eqb-same, eqb-true, true-and}
use Rattle.re_labels.specs.Lists.{same_list}
use Rattle.re_labels.specs.Names.{IsNames}
use Rattle.re_labels.specs.Sets.{IsLabelSet, number, set_of}
use Rattle.re_texts.specs.SetTexts.{row_text, set_run_text}
use Rattle.re_problem.specs.CanonicalTexts.{Run, runs, spaced}
use Rattle.re_problem.specs.ProblemTexts.{expanded, filled_items, labels_named, line_expanded, line_items, names_in, power_or_one}
use Rattle.re_labels.specs.declared.TheConstants.{MAX_LABELS}

-- ---- runs
count_again : (count : ℕ) → power_or_one (power_part count) ≡ count
count_again count = go (eqb count 1) refl
  where
    go : (t : Bool) → eqb count 1 ≡ t → power_or_one (cond t None (Some count)) ≡ count
    go true test = sym (eqb-true count 1 test)
    go false test = refl

-- the set of a number
abbrev set_at_number : ℕ → List ℕ
set_at_number n = set_of MAX_LABELS n

nil_map : (f : ℕ → List ℕ) (xs : List ℕ) → is_nil (map f xs) ≡ is_nil xs
nil_map f [] = refl
nil_map f (x ∷ xs) = refl

full_row : (row : List (List ℕ)) → AreSets MAX_LABELS row → is_full row ≡ true
full_row [] all = refl
full_row (s ∷ row) all = true-and (ltb 0 (length s)) (is_full row) (lt-ltb 0 (length s) all.0.1) (full_row row all.1)

module _ (names : List (List ℕ)) (is : IsNames names) where
  -- the number of a set of labels with names, which isn't empty
  record IsSetNumber (n : ℕ) : Type 0 where
    below : AllByRecursion (λ x. x < length names) (set_at_number n)
    filled : is_nil (set_at_number n) ≡ false

  named : (set : List ℕ) → AllByRecursion (λ x. x < length names) set → AllByRecursion (IsNamed names) set
  named set below = have_names names is 2 (omega arith) (omega arith) set below

  abbrev HoldSets : List Run → Type 0
  HoldSets rs = HoldRuns IsSetNumber 6 rs

  -- the item that the text of a run of sets writes
  abbrev run_item : Run → ItemText
  run_item run = set_item names (set_at_number run.label) (power_part run.count)

  runs_read : (rs : List Run) → HoldSets rs → items_of_words (map (set_run_text names) rs) ≡ Some (map run_item rs)
  runs_read [] held = refl
  runs_read (run ∷ rs) held =
      λ i. with_item (set_run_read names (set_at_number run.label) run.count (named (set_at_number run.label) held.0.0.below) held.0.1 held.0.2 i) (runs_read rs held.1 i)

  runs_words : (rs : List Run) → HoldSets rs → AllByRecursion IsWord (map (set_run_text names) rs)
  runs_words [] held = tt
  runs_words (run ∷ rs) held =
      (set_run_word names (set_at_number run.label) run.count (named (set_at_number run.label) held.0.0.below) held.0.1 held.0.2, runs_words rs held.1)

  -- the names of the labels of the set of a number
  abbrev number_names : ℕ → List (List ℕ)
  number_names n = names_at names (set_at_number n)

  runs_expanded : (rs : List Run) → expanded (map run_item rs) ≡ map number_names (unrolled rs)
  runs_expanded [] = refl
  runs_expanded (run ∷ rs) =
      (λ i. replicate (count_again run.count i) (number_names run.label) ++ runs_expanded rs i)
      ∙ ap (λ l. l ++ map number_names (unrolled rs)) (copies run.count run.label)
      ∙ sym (map-append number_names (replicate run.count run.label) (unrolled rs))
    where
      copies : (n x : ℕ) → replicate n (number_names x) ≡ map number_names (replicate n x)
      copies zero x = refl
      copies (suc n) x = ap (λ l. number_names x ∷ l) (copies n x)

  none_hollow : (rs : List Run) → HoldSets rs → list_any (λ (item : ItemText). is_nil item.names) (map run_item rs) ≡ false
  none_hollow [] held = refl
  none_hollow (run ∷ rs) held =
      ap (λ t. t || list_any (λ (item : ItemText). is_nil item.names) (map run_item rs)) (nil_map (name_at names) (set_at_number run.label) ∙ held.0.0.filled) ∙ none_hollow rs held.1

  runs_held : (rs : List Run) → HoldSets rs → are_held names (flat_map (λ (item : ItemText). item.names) (map run_item rs)) ≡ true
  runs_held [] held = refl
  runs_held (run ∷ rs) held =
      let rest : List (List ℕ) = flat_map (λ (item : ItemText). item.names) (map run_item rs) in
      list_all-append (λ name. list_any (same_list name) names) (number_names run.label) rest
      ∙ true-and (are_held names (number_names run.label)) (are_held names rest) (names_held names (set_at_number run.label) held.0.0.below) (runs_held rs held.1)

  -- ---- rows
  set_number : (s : List ℕ) → IsLabelSet MAX_LABELS s → set_at_number (number s) ≡ s
  set_number s set = (set_of-number MAX_LABELS s set).1

  wide : (row : List (List ℕ)) → AreSets (length names) row → AreSets MAX_LABELS row
  wide = AllByRecursion-weaker (λ s. IsLabelSet (length names) s × (0 < length s)) (λ s. IsLabelSet MAX_LABELS s × (0 < length s))
      (λ s h. ((h.0.0, AllByRecursion-weaker (λ x. x < length names) (λ x. x < MAX_LABELS) (λ x l. omega (arith, l, is.few)) s h.0.1), h.1))

  numbers_hold : (row : List (List ℕ)) → AreSets (length names) row → AllByRecursion IsSetNumber (map number row)
  numbers_hold [] all = tt
  numbers_hold (s ∷ row) all =
      let again = set_number s (wide (s ∷ []) (all.0, tt)).0.0 in (
        record {
          below = subst (AllByRecursion (λ x. x < length names)) (sym again) all.0.0.1;
          filled = ap is_nil again ∙ some_label s all.0.1;
        },
        numbers_hold row all.1,
      )

  row_names : (row : List (List ℕ)) → AreSets MAX_LABELS row → map number_names (map number row) ≡ map (names_at names) row
  row_names [] all = refl
  row_names (s ∷ row) all = λ i. names_at names (set_number s all.0.0 i) ∷ row_names row all.1 i

  row_again : (row : List (List ℕ)) → AreSets (length names) row → map (labels_named names) (map (names_at names) row) ≡ row
  row_again [] all = refl
  row_again (s ∷ row) all = λ i. set_again names is.ascends s all.0.0 i ∷ row_again row all.1 i

  module _ (s : List ℕ) (more : List (List ℕ)) (degree : ℕ) (low : 2 ≤ degree) (high : degree ≤ 6) (ours : IsRow degree (length names) (s ∷ more)) where
    abbrev row : List (List ℕ)
    row = s ∷ more

    abbrev rs : List Run
    rs = runs (map number row)

    abbrev items : List ItemText
    items = map run_item rs

    held : HoldSets rs
    held = wider rs (runs_hold IsSetNumber (map number row) (numbers_hold row ours.sets))
      where
        size : length (map number row) ≤ 6
        size = omega (arith, length-map row number, ours.count)

        wider : (rs : List Run) → HoldRuns IsSetNumber (length (map number row)) rs → HoldSets rs
        wider [] h = tt
        wider (run ∷ rs) h = ((h.0.0, h.0.1, omega (arith, h.0.2, size)), wider rs h.1)

    pub row_read : IsRead (row_text names row)
    row_read =
        let first = some_run (number s) (map number more) in
        let words : AllByRecursion IsWord (map (set_run_text names) (first.0 ∷ first.1)) = subst (λ rs. AllByRecursion IsWord (map (set_run_text names) rs)) first.2 (runs_words rs held) in
        subst (λ rs. IsRead (spaced (map (set_run_text names) rs))) (sym first.2) (spaced_read (set_run_text names first.0) (map (set_run_text names) first.1) words)

    pub row_items : line_items (row_text names row) ≡ Some items
    row_items =
        let first = some_run (number s) (map number more) in
        ap (λ words. option_and_then filled_items (items_of_words words)) (spaced_words (map (set_run_text names) rs) (runs_words rs held))
        ∙ ap (option_and_then filled_items) (runs_read rs held)
        ∙ ap (λ rs. filled_items (map run_item rs)) first.2
        ∙ ap (λ t. cond t None (Some (map run_item (first.0 ∷ first.1)))) (none_hollow (first.0 ∷ first.1) (subst HoldSets first.2 held))
        ∙ ap (λ rs. Some (map run_item rs)) (sym first.2)

    row_expanded : expanded items ≡ map (names_at names) row
    row_expanded = runs_expanded rs ∙ ap (map number_names) (unrolled_runs (map number row)) ∙ row_names row (wide row ours.sets)

    row_size : eqb (length (expanded items)) degree ≡ true
    row_size = ap (λ l. eqb (length l) degree) row_expanded ∙ ap (λ n. eqb n degree) (length-map row (names_at names) ∙ ours.count) ∙ eqb-same degree

    sets_read : row_sets names degree (row_text names row) ≡ Some row
    sets_read =
        ap (λ o. cond (are_held names (names_in o) && eqb (length (line_expanded o)) degree) (Some (map (labels_named names) (line_expanded o))) None) row_items
        ∙ ap (λ t. cond t (Some (map (labels_named names) (expanded items))) None)
        (true-and (are_held names (names_in (Some items))) (eqb (length (expanded items)) degree) (runs_held rs held) row_size)
        ∙ ap (λ l. Some (map (labels_named names) l)) row_expanded ∙ ap Some (row_again row ours.sets)

    in_order : sorted (map number row) ≡ map number row
    in_order = sorted_again (map number row) (rising-map (λ s t. number s ≤ number t) (λ x y. x ≤ y) number row (λ x y i j h. h) ours.ascends)

    row_kept : row_of MAX_LABELS row ≡ Some row
    row_kept =
        sym (row_found row (map number row) (omega (arith, ours.count, low)) (omega (arith, ours.count, high)) (full_row row (wide row ours.sets)) (sym in_order))
        ∙ ap Some (row_numbers MAX_LABELS row (wide row ours.sets))

    pub row_back : option_and_then (row_of MAX_LABELS) (row_sets names degree (row_text names row)) ≡ Some row
    row_back = ap (option_and_then (row_of MAX_LABELS)) sets_read ∙ row_kept

pub row_line_law : RowLineLaw
row_line_law before [] named low high ours = absurd (omega (arith, ours.count, low))
row_line_law before (s ∷ more) named low high ours = (
  row_read before.names named s more before.passive.degree low high ours,
  ap is_some (row_items before.names named s more before.passive.degree low high ours),
  row_back before.names named s more before.passive.degree low high ours,
)
