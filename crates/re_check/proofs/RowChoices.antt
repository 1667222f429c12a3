-- The labels that sets become by rows, by the labels over the labels of configurations.
use Rattle.std.proofs.Common.{◌≡◌, ℕ, zero, suc, ◌<◌, Bool, true, false, cond, ltb, ◌&&◌, List, [], ◌∷◌, ◌++◌, length, map, refl, sym, ap, ◌∙◌, subst, arith, inl, inr, append-nil, append_assoc}
use Rattle.std.specs.Prelude.{Contains, IsTrue, filter, ◌↔◌}
use Rattle.std.proofs.lemmas.Bool.{false≢true}
use Rattle.std.proofs.lemmas.Bool.Decides.{nat_tests}
use Rattle.std.specs.List.{AllByRecursion, AllZip, list_all}
use Rattle.std.proofs.lemmas.List.{map-append}
use Rattle.std.proofs.lemmas.List.Elements.{Contains-append_cases, Contains-append_left, Contains-append_right, filter-append}
use Rattle.re_labels.proofs.ChoicesOfRows.{IsChoice-Rearranged}
use Rattle.re_labels.proofs.Rearranging.{AllZip-Rearranged, Rearranged-map, Rearranged-sym}
use Rattle.re_labels.proofs.Replacing.{support_law, support_of-push}
use Rattle.re_labels.proofs.Sorting.{AllByRecursion-Rearranged, IsConfig-sorted, Rearranged-sorted, sorted_again}
use Rattle.re_labels.specs.Configs.{IsConfig, sorted, support_of}
use Rattle.re_labels.specs.Rearranging.{Rearranged}
use Rattle.re_labels.specs.Rows.{IsChoice, placed, set_at}
use Rattle.re_labels.proofs.Membership.{AllByRecursion-contains, AllByRecursion-from_contains, Contains-filter, Contains-filter_cases, Contains-map, Contains-map_cases}
use Rattle.re_labels.proofs.LabelPlaces.{get-place_of, place_of-below}
use Rattle.re_labels.proofs.Sets.{IsIn-has, has-IsIn}
use Rattle.re_labels.proofs.Tests.{and-true}
use Rattle.re_labels.specs.Lists.{place_of}
use Rattle.re_labels.specs.Sets.{IsIn, has, with_label}
use Rattle.re_problem.specs.Steps.{AreBeside, BecomesByRow, SetEntry}
use Rattle.re_check.proofs.AllowedImages.{TakesChoices}
use Rattle.re_check.proofs.Telling.{tells-same}
use Rattle.re_check.specs.LabelsOver.{labels_over}
use Rattle.re_check.specs.EntryLaws.{KeepsAllowedByRowLaw}
use Rattle.re_check.specs.RowEntries.{image_entries, row_entries}
use Rattle.re_check.specs.StepClauses.{KeepsAllowedByRow, OccursInRows}
use Rattle.re_labels.proofs.Goodness.{Has-Rearranged, IsAllowed-Rearranged}
use Rattle.re_labels.proofs.MaxSets.{allowed_law}
use Rattle.re_labels.specs.Constraints.{Constraint, Has, IsConstraint}
use Rattle.re_labels.specs.GoodRows.{IsAllowed, allowed}
use Rattle.re_labels.specs.declared.TheConstants.{MAX_LABELS}

-- ---- entries
abbrev pub entry : List ℕ → ℕ → SetEntry
entry set label = record { set = set; label = label }

row-entry : (row : List (List ℕ)) (image : List ℕ) (e : SetEntry) → Contains (row_entries row image) e → AreBeside row image e.set e.label
row-entry [] image e (k, l, s) = absurd (omega arith)
row-entry (set ∷ row) [] e (k, l, s) = absurd (omega arith)
row-entry (set ∷ row) (label ∷ image) e (zero, l, s) = (zero, omega arith, omega arith, ap (λ (f : SetEntry). f.set) s, ap (λ (f : SetEntry). f.label) s)
row-entry (set ∷ row) (label ∷ image) e (suc k, l, s) = let (j, m, n, a, b) = row-entry row image e (k, omega arith, s) in (suc j, omega arith, omega arith, a, b)

entry-row : (row : List (List ℕ)) (image : List ℕ) (set : List ℕ) (label : ℕ) → AreBeside row image set label → Contains (row_entries row image) (entry set label)
entry-row [] image set label (k, l, m, s, t) = absurd (omega arith)
entry-row (s' ∷ row) [] set label (k, l, m, s, t) = absurd (omega arith)
entry-row (s' ∷ row) (x ∷ image) set label (zero, l, m, s, t) = (zero, omega arith, λ i. entry (s i) (t i))
entry-row (s' ∷ row) (x ∷ image) set label (suc k, l, m, s, t) = let (j, n, a) = entry-row row image set label (k, omega arith, omega arith, s, t) in (suc j, omega arith, a)

pub entry-becomes : (rows : List (List (List ℕ))) (images : List (List ℕ)) (e : SetEntry) → Contains (image_entries rows images) e → BecomesByRow rows images e.set e.label
entry-becomes [] images e (k, l, s) = absurd (omega arith)
entry-becomes (row ∷ rows) [] e (k, l, s) = absurd (omega arith)
entry-becomes (row ∷ rows) (image ∷ images) e held = elim (Contains-append_cases (row_entries row image) (image_entries rows images) e held) [
  | inl here ↦ (row, image, (zero, omega arith, omega arith, refl, refl), row-entry row image e here)
  | inr there ↦ let (r, i, (k, l, m, s, t), beside) = entry-becomes rows images e there in (r, i, (suc k, omega arith, omega arith, s, t), beside)
]

pub becomes-entry : (rows : List (List (List ℕ))) (images : List (List ℕ)) (set : List ℕ) (label : ℕ) → BecomesByRow rows images set label → Contains (image_entries rows images) (entry set label)
becomes-entry [] images set label (r, i, (k, l, m, s, t), beside) = absurd (omega arith)
becomes-entry (row ∷ rows) [] set label (r, i, (k, l, m, s, t), beside) = absurd (omega arith)
becomes-entry (row ∷ rows) (image ∷ images) set label (r, i, (zero, l, m, s, t), beside) =
    let here : AreBeside row image set label = subst (λ (r : List (List ℕ)). AreBeside r image set label) (sym s) (subst (λ (i : List ℕ). AreBeside r i set label) (sym t) beside) in
    Contains-append_left (row_entries row image) (image_entries rows images) (entry set label) (entry-row row image set label here)
becomes-entry (row ∷ rows) (image ∷ images) set label (r, i, (suc k, l, m, s, t), beside) =
    Contains-append_right (row_entries row image) (image_entries rows images) (entry set label) (becomes-entry rows images set label (r, i, (k, omega arith, omega arith, s, t), beside))

-- ---- one label
module _ (rows : List (List (List ℕ))) (images : List (List ℕ)) where
  abbrev entries : List SetEntry
  entries = image_entries rows images

  becomes-over : (x : ℕ) (set : List ℕ) (y : ℕ) → IsIn x set → BecomesByRow rows images set y → IsIn y (labels_over entries x)
  becomes-over x set y held becomes =
      let among : Contains (filter (λ (f : SetEntry). has f.set x) entries) (entry set y) = Contains-filter (λ (f : SetEntry). has f.set x) entries (entry set y) (becomes-entry rows images set y becomes) (IsIn-has set x held) in
      ((support_law 0 (map (λ (f : SetEntry). f.label) (filter (λ (f : SetEntry). has f.set x) entries))).1 y).1
      (Contains-map (λ (f : SetEntry). f.label) (filter (λ (f : SetEntry). has f.set x) entries) (entry set y) among)

  over-becomes : (x y : ℕ) → IsIn y (labels_over entries x) → (set : List ℕ) × IsIn x set × BecomesByRow rows images set y
  over-becomes x y held =
      let (e, among, same) = Contains-map_cases (λ (f : SetEntry). f.label) (filter (λ (f : SetEntry). has f.set x) entries) y
      (((support_law 0 (map (λ (f : SetEntry). f.label) (filter (λ (f : SetEntry). has f.set x) entries))).1 y).0 held) in
      let (there, holds) = Contains-filter_cases (λ (f : SetEntry). has f.set x) entries e among in
      (e.set, has-IsIn e.set x holds, subst (BecomesByRow rows images e.set) same (entry-becomes rows images e there))

  -- labels that sets become are a choice from the labels over a choice from the sets
  becomes_choice : (sets : List (List ℕ)) (labels xs : List ℕ) → AllZip (BecomesByRow rows images) sets labels → IsChoice xs sets → IsChoice labels (map (labels_over entries) xs)
  becomes_choice [] [] [] become chosen = tt
  becomes_choice [] [] (x ∷ xs) become chosen = absurd chosen
  becomes_choice [] (y ∷ labels) xs become chosen = absurd become
  becomes_choice (set ∷ sets) [] xs become chosen = absurd become
  becomes_choice (set ∷ sets) (y ∷ labels) [] become chosen = absurd chosen
  becomes_choice (set ∷ sets) (y ∷ labels) (x ∷ xs) become chosen = (becomes-over x set y chosen.0 become.0, becomes_choice sets labels xs become.1 chosen.1)

  becomes-occurs : (set : List ℕ) (y : ℕ) → BecomesByRow rows images set y → OccursInRows rows set
  becomes-occurs set y (row, image, (k, l, m, s, t), (j, a, b, c, d)) = (row, (k, l, s), (j, a, c))

  -- places of sets that have a choice, and that become these labels
  record Places (sets : List (List ℕ)) (labels config : List ℕ) : Type 0 where
    places : List ℕ
    below : AllByRecursion (λ p. p < length sets) places
    chosen : IsChoice config (placed sets places)
    become : AllZip (BecomesByRow rows images) (placed sets places) labels
    count : length places ≡ length config

  -- each choice from the labels over a configuration comes from places
  choice_places : (sets : List (List ℕ)) → ((set : List ℕ) → OccursInRows rows set → Contains sets set) → (labels config : List ℕ) → IsChoice labels (map (labels_over entries) config) → Places sets labels config
  choice_places sets occur [] [] chosen = record { places = []; below = tt; chosen = tt; become = tt; count = refl }
  choice_places sets occur [] (x ∷ config) chosen = absurd chosen
  choice_places sets occur (y ∷ labels) [] chosen = absurd chosen
  choice_places sets occur (y ∷ labels) (x ∷ config) chosen =
      let (set, held, becomes) = over-becomes x y chosen.0 in
      let more = choice_places sets occur labels config chosen.1 in
      let known : Contains sets set = occur set (becomes-occurs set y becomes) in
      let there : set_at sets (place_of sets set) ≡ set = get-place_of sets set known in
      record {
        places = place_of sets set ∷ more.places;
        below = (place_of-below sets set known, more.below);
        chosen = (subst (IsIn x) (sym there) held, more.chosen);
        become = (subst (λ (s : List ℕ). BecomesByRow rows images s y) (sym there) becomes, more.become);
        count = ap suc more.count;
      }

pub keeps_allowed_by_row_law : KeepsAllowedByRowLaw
keeps_allowed_by_row_law n from to sets rows images is occur = (to_choices, from_choices)
  where
    to_choices : KeepsAllowedByRow sets rows images from to → (config labels : List ℕ) → Contains from.configs config → IsChoice labels (map (labels_over (image_entries rows images)) config) → Has to labels
    to_choices kept config labels held chosen =
        let found = choice_places rows images sets occur labels config chosen in
        let fits : IsConfig from.degree n config = AllByRecursion-contains (IsConfig from.degree n) from.configs config is.configs held in
        let moved : Rearranged found.places (sorted found.places) = Rearranged-sorted found.places in
        let has : Has from config = subst (Contains from.configs) (sym (sorted_again config fits.ascends)) held in
        let allow : IsAllowed from (placed sets (sorted found.places)) = IsAllowed-Rearranged from (Rearranged-map (set_at sets) moved) (config, found.chosen, has) in
        let listed : Contains (allowed from sets from.degree) (sorted found.places) =
        ((allowed_law from sets from.degree).1 (sorted found.places)).1 (IsConfig-sorted from.degree (length sets) found.places (found.count ∙ fits.count) found.below, allow) in
        let (again, along, become) = AllZip-Rearranged (BecomesByRow rows images) (Rearranged-map (set_at sets) moved) labels found.become in
        Has-Rearranged to (Rearranged-sym along) (kept (sorted found.places) again listed become)

    from_choices : ((config labels : List ℕ) → Contains from.configs config → IsChoice labels (map (labels_over (image_entries rows images)) config) → Has to labels) → KeepsAllowedByRow sets rows images from to
    from_choices all places labels listed become =
        let (config, (xs, chosen, held)) = ((allowed_law from sets from.degree).1 places).0 listed in
        let (again, moved, choice) = IsChoice-Rearranged labels (Rearranged-map (labels_over (image_entries rows images)) (Rearranged-sorted xs)) (becomes_choice rows images (placed sets places) labels xs become chosen) in
        Has-Rearranged to (Rearranged-sym moved) (all (sorted xs) again held choice)

-- ---- what the functions collect
over-one : (done : List SetEntry) (e : SetEntry) (x : ℕ) → labels_over (done ++ e ∷ []) x ≡ cond (has e.set x) (with_label (labels_over done x) e.label) (labels_over done x)
over-one done e x = split ∙ by_test (has e.set x)
  where
    split : labels_over (done ++ e ∷ []) x ≡ support_of (map (λ (f : SetEntry). f.label) (filter (λ (f : SetEntry). has f.set x) done ++ cond (has e.set x) (e ∷ []) []))
    split = ap (λ fs. support_of (map (λ (f : SetEntry). f.label) fs)) (filter-append (λ (f : SetEntry). has f.set x) done (e ∷ []))

    by_test : (b : Bool) → support_of (map (λ (f : SetEntry). f.label) (filter (λ (f : SetEntry). has f.set x) done ++ cond b (e ∷ []) [])) ≡ cond b (with_label (labels_over done x) e.label) (labels_over done x)
    by_test true = ap support_of (map-append (λ (f : SetEntry). f.label) (filter (λ (f : SetEntry). has f.set x) done) (e ∷ [])) ∙ support_of-push (map (λ (f : SetEntry). f.label) (filter (λ (f : SetEntry). has f.set x) done)) e.label
    by_test false = ap (λ fs. support_of (map (λ (f : SetEntry). f.label) fs)) (append-nil (filter (λ (f : SetEntry). has f.set x) done))

-- the labels over a label with more entries behind those that are done
abbrev pub OverMore : ℕ → List ℕ → List ℕ → List SetEntry → Type 0
OverMore x over new more = (done : List SetEntry) → over ≡ labels_over done x → new ≡ labels_over (done ++ more) x

over-then : (x : ℕ) (over middle new : List ℕ) (more behind : List SetEntry) → OverMore x over middle more → OverMore x middle new behind → OverMore x over new (more ++ behind)
over-then x over middle new more behind first second done e = second (done ++ more) (first done e) ∙ ap (λ fs. labels_over fs x) (append_assoc done more behind)

pub row-more : (x : ℕ) (over new result set : List ℕ) (others sets : List (List ℕ)) (label : ℕ) (more labels : List ℕ) → set ∷ others ≡ sets → label ∷ more ≡ labels → new ≡ cond (has set x) (with_label over label) over
    → OverMore x new result (row_entries others more) → OverMore x over result (row_entries sets labels)
row-more x over new result set others sets label more labels parts image_parts is rest =
    subst (OverMore x over result) (λ i. row_entries (parts i) (image_parts i))
    (over-then x over new result (entry set label ∷ []) (row_entries others more) (λ done e. is ∙ (λ i. cond (has set x) (with_label (e i) label) (e i)) ∙ sym (over-one done (entry set label) x)) rest)

pub rows-more : (x : ℕ) (over new result : List ℕ) (row : List (List ℕ)) (others rows : List (List (List ℕ))) (image : List ℕ) (more images : List (List ℕ)) → row ∷ others ≡ rows → image ∷ more ≡ images
    → OverMore x over new (row_entries row image) → OverMore x new result (image_entries others more) → OverMore x over result (image_entries rows images)
rows-more x over new result row others rows image more images parts image_parts first rest =
    subst (OverMore x over result) (λ i. image_entries (parts i) (image_parts i)) (over-then x over new result (row_entries row image) (image_entries others more) first rest)

-- ---- labels that configurations may have
pub image-labels : (rows : List (List (List ℕ))) (images : List (List ℕ)) → AllByRecursion (AllByRecursion (λ x. x < MAX_LABELS)) images → AllByRecursion (λ (e : SetEntry). e.label < MAX_LABELS) (image_entries rows images)
image-labels rows images below = AllByRecursion-from_contains (λ (e : SetEntry). e.label < MAX_LABELS) (image_entries rows images) (λ e held.
    let (row, image, (k, l, m, s, t), (j, a, b, c, d)) = entry-becomes rows images e held in
    AllByRecursion-contains (λ x. x < MAX_LABELS) image e.label (AllByRecursion-contains (AllByRecursion (λ x. x < MAX_LABELS)) images image below (k, m, t)) (j, b, d))

pub kept-by_row : (n : ℕ) (from to : Constraint) (rows : List (List (List ℕ))) (images : List (List ℕ)) (r : Bool) → IsConstraint n from
    → (IsTrue r ↔ ((config : List ℕ) → Contains from.configs config → TakesChoices (image_entries rows images) to config))
    → (sets : List (List ℕ)) → ((set : List ℕ) → OccursInRows rows set → Contains sets set) → IsTrue r ↔ KeepsAllowedByRow sets rows images from to
kept-by_row n from to rows images r is known sets occur =
    let law = keeps_allowed_by_row_law n from to sets rows images is occur in
    tells-same r known (λ each. law.1 (λ config labels held chosen. each config held labels chosen)) (λ kept config held labels chosen. law.0 kept config labels held chosen)

pub all-low : (labels : List ℕ) → list_all (λ x. ltb x MAX_LABELS) labels ≡ true → AllByRecursion (λ x. x < MAX_LABELS) labels
all-low [] all = tt
all-low (x ∷ labels) all =
    let both = and-true (ltb x MAX_LABELS) (list_all (λ x. ltb x MAX_LABELS) labels) all in
    let test : ltb x MAX_LABELS ≡ true = both.0 in
    ((let l : x < MAX_LABELS = grind (arith, nat_tests) in l), all-low labels both.1)

low-all : (labels : List ℕ) → AllByRecursion (λ x. x < MAX_LABELS) labels → list_all (λ x. ltb x MAX_LABELS) labels ≡ true
low-all [] below = refl
low-all (x ∷ labels) below = λ i. low x below.0 i && low-all labels below.1 i
  where
    low : (x : ℕ) → x < MAX_LABELS → ltb x MAX_LABELS ≡ true
    low x l = grind (arith, nat_tests)

-- a configuration has only labels that configurations may have
pub high-label : (to : Constraint) (image held : List ℕ) → IsConstraint MAX_LABELS to → held ≡ image → list_all (λ x. ltb x MAX_LABELS) held ≡ false → Has to image → ⊥
high-label to image held is same fails has =
    let config : IsConfig to.degree MAX_LABELS (sorted image) = AllByRecursion-contains (IsConfig to.degree MAX_LABELS) to.configs (sorted image) is.configs has in
    let below : AllByRecursion (λ x. x < MAX_LABELS) image = AllByRecursion-Rearranged (λ x. x < MAX_LABELS) (Rearranged-sym (Rearranged-sorted image)) config.below in
    false≢true (sym fails ∙ ap (list_all (λ x. ltb x MAX_LABELS)) same ∙ low-all image below)
