-- The line of a configuration spells it.
use Rattle.std.proofs.Common.{◌≡◌, ℕ, zero, suc, ◌<◌, ◌≤◌, Bool, true, false, cond, eqb, List, [], ◌∷◌, ◌++◌, length, flat_map, map, get_or, replicate, refl, sym, ap, ◌∙◌, subst, arith, inl, inr, Some, None}
use Rattle.std.specs.List.{AllByRecursion, list_any}
use Rattle.std.specs.Option.{option_and_then}
use Rattle.std.proofs.lemmas.List.{length-map, map-append}
use Rattle.re_texts.proofs.RunItems.{power_part, run_bytes, run_read, some_text}
use Rattle.re_texts.proofs.SpacedWords.{IsWord, run_word, spaced_allowed, spaced_feed, spaced_filled, spaced_no_degree, spaced_words}
use Rattle.re_labels.proofs.Sorting.{sorted_again}
use Rattle.re_labels.specs.Configs.{IsConfig, sorted}
use Rattle.re_labels.specs.Rows.{choices}
use Rattle.re_problem.specs.Bytes.{bad_byte, is_empty_line}
use Rattle.re_problem.specs.Items.{ItemText, empty_degree, items_of_words, with_item}
use Rattle.re_problem.specs.ItemSteps.{is_nil}
use Rattle.re_labels.proofs.Membership.{In, In-flat_map, In-flat_map_from, In-map, In-map_from, AllByRecursion-In}
use Rattle.re_labels.proofs.Searching.{place_of-at}
use Rattle.re_labels.proofs.Tests.{eqb-true}
use Rattle.re_labels.specs.Lists.{IsBefore, IsRising, place_of}
use Rattle.re_labels.specs.Names.{is_name}
use Rattle.re_problem.proofs.EndedLines.{NoFeed}
use Rattle.re_problem.proofs.NewNumbers.{In-expanded}
use Rattle.re_problem.specs.CanonicalTexts.{Run, config_text, onto_runs, run_text, runs, spaced}
use Rattle.re_problem.specs.ProblemTexts.{degree_as, expanded, filled_items, labels_named, line_degree, line_items, names_in, power_or_one, spelled_in, spells}

-- ---- runs
-- labels with a property, and counts from 1 to n
abbrev pub HoldRuns : (ℕ → Type 0) → ℕ → List Run → Type 0
HoldRuns P n rs = AllByRecursion (λ (run : Run). P run.label × (1 ≤ run.count) × (run.count ≤ n)) rs

longer_runs : (P : ℕ → Type 0) (n : ℕ) (rs : List Run) → HoldRuns P n rs → HoldRuns P (suc n) rs
longer_runs P n [] held = tt
longer_runs P n (run ∷ rs) held = ((held.0.0, held.0.1, omega (arith, held.0.2)), longer_runs P n rs held.1)

onto_hold : (P : ℕ → Type 0) (n x : ℕ) (rs : List Run) → P x → HoldRuns P n rs → HoldRuns P (suc n) (onto_runs x rs)
onto_hold P n x [] is held = ((is, omega arith, omega arith), tt)
onto_hold P n x (run ∷ rs) is held = go (eqb x run.label)
  where
    go : (t : Bool) → HoldRuns P (suc n) (cond t (record { label = x; count = suc run.count } ∷ rs) (record { label = x; count = 1 } ∷ run ∷ rs))
    go true = ((is, omega arith, omega (arith, held.0.2)), longer_runs P n rs held.1)
    go false = ((is, omega arith, omega arith), longer_runs P n (run ∷ rs) held)

pub runs_hold : (P : ℕ → Type 0) (config : List ℕ) → AllByRecursion P config → HoldRuns P (length config) (runs config)
runs_hold P [] held = tt
runs_hold P (x ∷ config) held = onto_hold P (length config) x (runs config) held.0 (runs_hold P config held.1)

-- the labels that the runs stand for
abbrev pub unrolled : List Run → List ℕ
unrolled rs = flat_map (λ (run : Run). replicate run.count run.label) rs

onto_unrolled : (x : ℕ) (rs : List Run) → unrolled (onto_runs x rs) ≡ x ∷ unrolled rs
onto_unrolled x [] = refl
onto_unrolled x (run ∷ rs) = go (eqb x run.label) refl
  where
    go : (t : Bool) → eqb x run.label ≡ t → unrolled (cond t (record { label = x; count = suc run.count } ∷ rs) (record { label = x; count = 1 } ∷ run ∷ rs)) ≡ x ∷ unrolled (run ∷ rs)
    go true test = ap (λ y. x ∷ (replicate run.count y ++ unrolled rs)) (eqb-true x run.label test)
    go false test = refl

pub unrolled_runs : (config : List ℕ) → unrolled (runs config) ≡ config
unrolled_runs [] = refl
unrolled_runs (x ∷ config) = onto_unrolled x (runs config) ∙ ap (λ c. x ∷ c) (unrolled_runs config)

pub some_run : (x : ℕ) (config : List ℕ) → (run : Run) × (rs : List Run) × (runs (x ∷ config) ≡ run ∷ rs)
some_run x config = go (runs config)
  where
    onto : (t : Bool) (run : Run) (rs : List Run) → (first : Run) × (others : List Run) × (cond t (record { label = x; count = suc run.count } ∷ rs) (record { label = x; count = 1 } ∷ run ∷ rs) ≡ first ∷ others)
    onto true run rs = (record { label = x; count = suc run.count }, rs, refl)
    onto false run rs = (record { label = x; count = 1 }, run ∷ rs, refl)

    go : (rs : List Run) → (first : Run) × (others : List Run) × (onto_runs x rs ≡ first ∷ others)
    go [] = (record { label = x; count = 1 }, [], refl)
    go (run ∷ rs) = onto (eqb x run.label) run rs

-- ---- items
abbrev pub name_at : List (List ℕ) → ℕ → List ℕ
name_at names label = get_or names label []

-- the item that the text of a run writes
abbrev pub run_item : List (List ℕ) → Run → ItemText
run_item names run = record { names = name_at names run.label ∷ []; group = false; power = power_part run.count }

module _ (names : List (List ℕ)) where
  -- the label has a name
  abbrev pub IsNamed : ℕ → Type 0
  IsNamed label = is_name (name_at names label) ≡ true

  runs_read : (rs : List Run) → HoldRuns IsNamed 6 rs → items_of_words (map (run_text names) rs) ≡ Some (map (run_item names) rs)
  runs_read [] held = refl
  runs_read (run ∷ rs) held = λ i. with_item (run_read (name_at names run.label) run.count held.0.0 held.0.1 held.0.2 i) (runs_read rs held.1 i)

  runs_words : (rs : List Run) → HoldRuns IsNamed 6 rs → AllByRecursion IsWord (map (run_text names) rs)
  runs_words [] held = tt
  runs_words (run ∷ rs) held = (
    run_word (run_text names run) (run_bytes (name_at names run.label) run.count held.0.0 held.0.1 held.0.2) (some_text (name_at names run.label) _ held.0.0),
    runs_words rs held.1,
  )

  count_again : (count : ℕ) → power_or_one (power_part count) ≡ count
  count_again count = go (eqb count 1) refl
    where
      go : (t : Bool) → eqb count 1 ≡ t → power_or_one (cond t None (Some count)) ≡ count
      go true test = sym (eqb-true count 1 test)
      go false test = refl

  -- each label by its name
  abbrev pub alone : ℕ → List (List ℕ)
  alone label = name_at names label ∷ []

  runs_expanded : (rs : List Run) → expanded (map (run_item names) rs) ≡ map alone (unrolled rs)
  runs_expanded [] = refl
  runs_expanded (run ∷ rs) =
      (λ i. replicate (count_again run.count i) (alone run.label) ++ runs_expanded rs i)
      ∙ ap (λ l. l ++ map alone (unrolled rs)) (copies run.count run.label)
      ∙ sym (map-append alone (replicate run.count run.label) (unrolled rs))
    where
      copies : (n x : ℕ) → replicate n (alone x) ≡ map alone (replicate n x)
      copies zero x = refl
      copies (suc n) x = ap (λ l. alone x ∷ l) (copies n x)

  none_hollow : (rs : List Run) → list_any (λ (item : ItemText). is_nil item.names) (map (run_item names) rs) ≡ false
  none_hollow [] = refl
  none_hollow (run ∷ rs) = none_hollow rs

  runs_filled : (run : Run) (rs : List Run) → filled_items (map (run_item names) (run ∷ rs)) ≡ Some (map (run_item names) (run ∷ rs))
  runs_filled run rs = ap (λ t. cond t None (Some (map (run_item names) (run ∷ rs)))) (none_hollow rs)

  choices_alone : (f : ℕ → ℕ) (config : List ℕ) → choices (map (λ label. f label ∷ []) config) ≡ map f config ∷ []
  choices_alone f [] = refl
  choices_alone f (x ∷ config) = ap (λ c. map (λ labels. f x ∷ labels) c ++ []) (choices_alone f config)

  -- the label of the same name among other names
  abbrev pub relabelled : List (List ℕ) → ℕ → ℕ
  relabelled others label = place_of others (name_at names label)

  sets_alone : (others : List (List ℕ)) (config : List ℕ) → map (labels_named others) (map alone config) ≡ map (λ label. relabelled others label ∷ []) config
  sets_alone others [] = refl
  sets_alone others (x ∷ config) = ap (λ l. (relabelled others x ∷ []) ∷ l) (sets_alone others config)

  module _ (x : ℕ) (more : List ℕ) (named : AllByRecursion IsNamed (x ∷ more)) (few : length (x ∷ more) ≤ 6) where
    abbrev config : List ℕ
    config = x ∷ more

    abbrev items : List ItemText
    items = map (run_item names) (runs config)

    pub config_runs : HoldRuns IsNamed 6 (runs config)
    config_runs = wider (runs config) (runs_hold IsNamed config named)
      where
        wider : (rs : List Run) → HoldRuns IsNamed (length config) rs → HoldRuns IsNamed 6 rs
        wider [] h = tt
        wider (run ∷ rs) h = ((h.0.0, h.0.1, omega (arith, h.0.2)), wider rs h.1)

    texts : AllByRecursion IsWord (map (run_text names) (runs config))
    texts = runs_words (runs config) config_runs

    pub config_items : line_items (config_text names config) ≡ Some items
    config_items =
        let first = some_run x more in
        ap (λ words. option_and_then filled_items (items_of_words words)) (spaced_words (map (run_text names) (runs config)) texts)
        ∙ ap (option_and_then filled_items) (runs_read (runs config) config_runs)
        ∙ ap (λ rs. filled_items (map (run_item names) rs)) first.2 ∙ runs_filled first.0 first.1 ∙ ap (λ rs. Some (map (run_item names) rs)) (sym first.2)

    config_expanded : expanded items ≡ map alone config
    config_expanded = runs_expanded (runs config) ∙ ap (map alone) (unrolled_runs config)

    pub config_degree : line_degree (config_text names config) ≡ length config
    config_degree = ap (λ i. degree_as i (empty_degree (config_text names config))) config_items ∙ ap length config_expanded ∙ length-map config alone

    -- by other names it spells the labels of the same names
    pub config_spells : (others : List (List ℕ)) → spells others (config_text names config) ≡ sorted (map (relabelled others) config) ∷ []
    config_spells others =
        ap (spelled_in others) config_items ∙ ap (λ e. map sorted (choices (map (labels_named others) e))) config_expanded
        ∙ ap (λ sets. map sorted (choices sets)) (sets_alone others config) ∙ ap (map sorted) (choices_alone (relabelled others) config)

    pub config_allowed : bad_byte (config_text names config) ≡ None
    config_allowed = spaced_allowed (map (run_text names) (runs config)) texts

    pub config_feed : NoFeed (config_text names config)
    config_feed = spaced_feed (map (run_text names) (runs config)) texts

    pub config_filled : is_empty_line (config_text names config) ≡ false
    config_filled =
        let first = some_run x more in
        let words : AllByRecursion IsWord (map (run_text names) (first.0 ∷ first.1)) = subst (λ rs. AllByRecursion IsWord (map (run_text names) rs)) first.2 texts in
        subst (λ rs. is_empty_line (spaced (map (run_text names) rs)) ≡ false) (sym first.2) (spaced_filled (run_text names first.0) (map (run_text names) first.1) words.0)

    pub config_no_degree : empty_degree (config_text names config) ≡ None
    config_no_degree = spaced_no_degree (map (run_text names) (runs config)) texts

    -- the names that it writes are those of its labels
    pub config_names : (name : List ℕ) → In name (names_in (line_items (config_text names config))) → (label : ℕ) × In label config × (name ≡ name_at names label)
    config_names name i =
        let at = In-flat_map_from (λ (item : ItemText). item.names) name items (subst (λ o. In name (names_in o)) config_items i) in
        let run = In-map_from (run_item names) at.0 (runs config) at.1 in
        let label = In-unrolled (runs config) run.0 config_runs run.1 in (
          run.0.label,
          subst (In run.0.label) (unrolled_runs config) label,
          elim (subst (λ (item : ItemText). In name item.names) run.2 at.2) [ inl e ↦ e | inr none ↦ absurd none ],
        )
      where
        In-unrolled : (rs : List Run) (run : Run) → HoldRuns IsNamed 6 rs → In run rs → In run.label (unrolled rs)
        In-unrolled rs run h i = In-flat_map (λ (r : Run). replicate r.count r.label) run run.label rs i (In-copies run.count run.label (AllByRecursion-In (λ (r : Run). IsNamed r.label × (1 ≤ r.count) × (r.count ≤ 6)) rs run h i).1)
          where
            In-copies : (n y : ℕ) → 1 ≤ n → In y (replicate n y)
            In-copies zero y low = absurd (omega arith)
            In-copies (suc n) y low = inl refl

    pub config_written : (label : ℕ) → In label config → In (name_at names label) (names_in (line_items (config_text names config)))
    config_written label i =
        subst (λ o. In (name_at names label) (names_in o)) (sym config_items)
        (In-expanded items (alone label) (name_at names label) (subst (In (alone label)) (sym config_expanded) (In-map alone label config i)) (inl refl))

-- by the names themselves it spells the configuration
pub config_again : (names : List (List ℕ)) (degree : ℕ) (config : List ℕ) → IsRising IsBefore names → IsConfig degree (length names) config → sorted (map (relabelled names names) config) ≡ config
config_again names degree config rising is = ap sorted (same config is.below) ∙ sorted_again config is.ascends
  where
    same : (labels : List ℕ) → AllByRecursion (λ x. x < length names) labels → map (relabelled names names) labels ≡ labels
    same [] below = refl
    same (x ∷ labels) below = λ i. place_of-at names x (name_at names x) rising below.0 refl i ∷ same labels below.1 i
