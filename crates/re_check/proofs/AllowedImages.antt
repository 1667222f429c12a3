-- The images of the allowed multisets of sets, by the labels over the labels of configurations.
use Rattle.std.proofs.Common.{◌≡◌, ℕ, zero, suc, ◌<◌, ◌+◌, Bool, true, false, cond, List, [], ◌∷◌, ◌++◌, length, map, get_or, take, refl, sym, ap, ◌∙◌, subst, arith, append-nil}
use Rattle.std.specs.Prelude.{Contains, IsTrue, filter, ◌↔◌}
use Rattle.std.specs.List.{AllByRecursion}
use Rattle.std.proofs.lemmas.List.{length-map, map-append, take_more}
use Rattle.std.proofs.lemmas.List.Elements.{filter-append}
use Rattle.re_labels.proofs.ChoicesOfRows.{IsChoice-Rearranged}
use Rattle.re_labels.proofs.Rearranging.{Rearranged-map, Rearranged-sym}
use Rattle.re_labels.proofs.Replacing.{support_law, support_of-push}
use Rattle.re_labels.proofs.Sorting.{IsConfig-sorted, Rearranged-sorted, sorted_again}
use Rattle.re_labels.specs.Configs.{IsConfig, sorted, support_of}
use Rattle.re_labels.specs.Rearranging.{Rearranged}
use Rattle.re_labels.specs.Rows.{IsChoice, placed, set_at}
use Rattle.re_labels.proofs.Membership.{AllByRecursion-contains, AllByRecursion-from_contains, Contains-filter, Contains-filter_cases, Contains-map, Contains-map_cases}
use Rattle.re_labels.proofs.Sets.{IsIn-has, has-IsIn}
use Rattle.re_labels.specs.Lists.{count_from}
use Rattle.re_labels.specs.Sets.{IsIn, IsLabelSet, has, with_label}
use Rattle.re_problem.specs.Steps.{SetEntry, entry_sets, label_at}
use Rattle.re_labels.proofs.Goodness.{Has-Rearranged, IsAllowed-Rearranged}
use Rattle.re_labels.proofs.MaxSets.{allowed_law}
use Rattle.re_labels.specs.Constraints.{Constraint, Has, IsConstraint}
use Rattle.re_labels.specs.GoodRows.{IsAllowed, allowed}
use Rattle.re_check.proofs.Telling.{read-held}
use Rattle.re_check.specs.LabelsOver.{labels_over}
use Rattle.re_check.specs.EntryLaws.{KeepsAllowedLaw}
use Rattle.re_check.specs.StepClauses.{KeepsAllowed}
use Rattle.re_labels.specs.declared.TheConstants.{MAX_LABELS}

-- ---- one label
-- what the entry at a place has
pub set_at-entry : (entries : List SetEntry) (i : ℕ) → set_at (entry_sets entries) i ≡ (get_or entries i (record { set = []; label = 0 })).set
set_at-entry [] i = refl
set_at-entry (e ∷ entries) zero = refl
set_at-entry (e ∷ entries) (suc i) = set_at-entry entries i

entry-there : (entries : List SetEntry) (i : ℕ) → i < length entries → Contains entries (get_or entries i (record { set = []; label = 0 }))
entry-there [] i l = absurd (omega arith)
entry-there (e ∷ entries) zero l = (zero, omega arith, refl)
entry-there (e ∷ entries) (suc i) l = let (k, m, s) = entry-there entries i (omega arith) in (suc k, omega arith, s)

there-entry : (entries : List SetEntry) (e : SetEntry) → Contains entries e → (i : ℕ) × (i < length entries) × (get_or entries i (record { set = []; label = 0 }) ≡ e)
there-entry [] e (k, l, s) = absurd (omega arith)
there-entry (f ∷ entries) e (zero, l, s) = (zero, omega arith, s)
there-entry (f ∷ entries) e (suc k, l, s) = let (i, m, t) = there-entry entries e (k, omega arith, s) in (suc i, omega arith, t)

-- the label of an entry whose set holds a label is over it
pub over-entry : (entries : List SetEntry) (x i : ℕ) → i < length entries → IsIn x (set_at (entry_sets entries) i) → IsIn (label_at entries i) (labels_over entries x)
over-entry entries x i l held =
    let e : SetEntry = get_or entries i (record { set = []; label = 0 }) in
    let among : Contains (filter (λ (f : SetEntry). has f.set x) entries) e = Contains-filter (λ (f : SetEntry). has f.set x) entries e (entry-there entries i l) (IsIn-has e.set x (subst (IsIn x) (set_at-entry entries i) held)) in
    ((support_law 0 (map (λ (f : SetEntry). f.label) (filter (λ (f : SetEntry). has f.set x) entries))).1 e.label).1
    (Contains-map (λ (f : SetEntry). f.label) (filter (λ (f : SetEntry). has f.set x) entries) e among)

-- and each label over it is that of such an entry
pub entry-over : (entries : List SetEntry) (x y : ℕ) → IsIn y (labels_over entries x) → (i : ℕ) × (i < length entries) × IsIn x (set_at (entry_sets entries) i) × (label_at entries i ≡ y)
entry-over entries x y held =
    let (e, among, same) = Contains-map_cases (λ (f : SetEntry). f.label) (filter (λ (f : SetEntry). has f.set x) entries) y
    (((support_law 0 (map (λ (f : SetEntry). f.label) (filter (λ (f : SetEntry). has f.set x) entries))).1 y).0 held) in
    let (there, holds) = Contains-filter_cases (λ (f : SetEntry). has f.set x) entries e among in
    let (i, l, at) = there-entry entries e there in
    (i, l, subst (IsIn x) (sym (set_at-entry entries i ∙ ap (λ (f : SetEntry). f.set) at)) (has-IsIn e.set x holds), ap (λ (f : SetEntry). f.label) at ∙ same)

-- the labels of the entries at places are a choice from the labels over a choice from their sets
label_choice : (entries : List SetEntry) (places xs : List ℕ) → AllByRecursion (λ p. p < length entries) places → IsChoice xs (placed (entry_sets entries) places)
    → IsChoice (map (label_at entries) places) (map (labels_over entries) xs)
label_choice entries [] [] below chosen = tt
label_choice entries [] (x ∷ xs) below chosen = absurd chosen
label_choice entries (p ∷ places) [] below chosen = absurd chosen
label_choice entries (p ∷ places) (x ∷ xs) below chosen = (over-entry entries x p below.0 chosen.0, label_choice entries places xs below.1 chosen.1)

-- places whose sets have a choice, and whose entries have these labels
record Places (entries : List SetEntry) (labels config : List ℕ) : Type 0 where
  places : List ℕ
  below : AllByRecursion (λ p. p < length entries) places
  chosen : IsChoice config (placed (entry_sets entries) places)
  labels_are : map (label_at entries) places ≡ labels
  count : length places ≡ length config

-- each choice from the labels over a configuration comes from places
choice_places : (entries : List SetEntry) (labels config : List ℕ) → IsChoice labels (map (labels_over entries) config) → Places entries labels config
choice_places entries [] [] chosen = record { places = []; below = tt; chosen = tt; labels_are = refl; count = refl }
choice_places entries [] (x ∷ config) chosen = absurd chosen
choice_places entries (y ∷ labels) [] chosen = absurd chosen
choice_places entries (y ∷ labels) (x ∷ config) chosen =
    let (i, l, held, same) = entry-over entries x y chosen.0 in
    let more = choice_places entries labels config chosen.1 in
    record {
      places = i ∷ more.places;
      below = (l, more.below);
      chosen = (held, more.chosen);
      labels_are = λ k. same k ∷ more.labels_are k;
      count = ap suc more.count;
    }

pub keeps_allowed_law : KeepsAllowedLaw
keeps_allowed_law n from to entries is = (to_choices, from_choices)
  where
    to_choices : KeepsAllowed entries from to → (config labels : List ℕ) → Contains from.configs config → IsChoice labels (map (labels_over entries) config) → Has to labels
    to_choices kept config labels held chosen =
        let found = choice_places entries labels config chosen in
        let fits : IsConfig from.degree n config = AllByRecursion-contains (IsConfig from.degree n) from.configs config is.configs held in
        let moved : Rearranged found.places (sorted found.places) = Rearranged-sorted found.places in
        let has : Has from config = subst (Contains from.configs) (sym (sorted_again config fits.ascends)) held in
        let allow : IsAllowed from (placed (entry_sets entries) (sorted found.places)) =
        IsAllowed-Rearranged from (Rearranged-map (set_at (entry_sets entries)) moved) (config, found.chosen, has) in
        let below : AllByRecursion (λ p. p < length (entry_sets entries)) found.places =
        subst (λ m. AllByRecursion (λ p. p < m) found.places) (sym (length-map entries (λ (e : SetEntry). e.set))) found.below in
        let listed : Contains (allowed from (entry_sets entries) from.degree) (sorted found.places) =
        ((allowed_law from (entry_sets entries) from.degree).1 (sorted found.places)).1 (IsConfig-sorted from.degree (length (entry_sets entries)) found.places (found.count ∙ fits.count) below, allow) in
        subst (Has to) found.labels_are (Has-Rearranged to (Rearranged-map (label_at entries) (Rearranged-sym moved)) (kept (sorted found.places) listed))

    from_choices : ((config labels : List ℕ) → Contains from.configs config → IsChoice labels (map (labels_over entries) config) → Has to labels) → KeepsAllowed entries from to
    from_choices all places listed =
        let (config, (xs, chosen, held)) = ((allowed_law from (entry_sets entries) from.degree).1 places).0 listed in
        let below : AllByRecursion (λ p. p < length entries) places =
        subst (λ m. AllByRecursion (λ p. p < m) places) (length-map entries (λ (e : SetEntry). e.set)) config.below in
        let (labels, moved, again) = IsChoice-Rearranged (map (label_at entries) places) (Rearranged-map (labels_over entries) (Rearranged-sorted xs)) (label_choice entries places xs below chosen) in
        Has-Rearranged to (Rearranged-sym moved) (all (sorted xs) labels held again)

-- ---- what the functions collect
-- one more entry whose set holds the label
pub over-more : (entries : List SetEntry) (x i : ℕ) (e : SetEntry) (set over new : List ℕ) (label : ℕ) → i < length entries → e ≡ get_or entries i e → record { set = set; label = label } ≡ e
    → has set x ≡ true → over ≡ labels_over (take i entries) x → new ≡ with_label over label → new ≡ labels_over (take (i + 1) entries) x
over-more entries x i e set over new label l is view holds before e' =
    let test : SetEntry → Bool = λ (f : SetEntry). has f.set x in
    let passes : test e ≡ true = ap test (sym view) ∙ holds in
    let one : filter (λ (f : SetEntry). has f.set x) (e ∷ []) ≡ e ∷ [] = ap (λ b. cond b (e ∷ []) []) passes in
    let whole : filter (λ (f : SetEntry). has f.set x) (take (i + 1) entries) ≡ filter (λ (f : SetEntry). has f.set x) (take i entries) ++ e ∷ [] =
    ap (filter (λ (f : SetEntry). has f.set x)) (take_more entries i e l ∙ ap (λ f. take i entries ++ f ∷ []) (sym is)) ∙ filter-append (λ (f : SetEntry). has f.set x) (take i entries) (e ∷ [])
    ∙ ap (λ fs. filter (λ (f : SetEntry). has f.set x) (take i entries) ++ fs) one in
    e' ∙ ap (λ s. with_label s label) before ∙ ap (with_label (labels_over (take i entries) x)) (ap (λ (f : SetEntry). f.label) view)
    ∙ sym (support_of-push (map (λ (f : SetEntry). f.label) (filter (λ (f : SetEntry). has f.set x) (take i entries))) e.label)
    ∙ ap support_of (sym (map-append (λ (f : SetEntry). f.label) (filter (λ (f : SetEntry). has f.set x) (take i entries)) (e ∷ [])))
    ∙ sym (ap (λ fs. support_of (map (λ (f : SetEntry). f.label) fs)) whole)

-- one more entry whose set doesn't
pub over-kept : (entries : List SetEntry) (x i : ℕ) (e : SetEntry) (set over : List ℕ) (label : ℕ) → i < length entries → e ≡ get_or entries i e → record { set = set; label = label } ≡ e
    → has set x ≡ false → over ≡ labels_over (take i entries) x → over ≡ labels_over (take (i + 1) entries) x
over-kept entries x i e set over label l is view lacks before =
    let test : SetEntry → Bool = λ (f : SetEntry). has f.set x in
    let fails : test e ≡ false = ap test (sym view) ∙ lacks in
    let nothing : filter (λ (f : SetEntry). has f.set x) (e ∷ []) ≡ [] = ap (λ b. cond b (e ∷ []) []) fails in
    let whole : filter (λ (f : SetEntry). has f.set x) (take (i + 1) entries) ≡ filter (λ (f : SetEntry). has f.set x) (take i entries) =
    ap (filter (λ (f : SetEntry). has f.set x)) (take_more entries i e l ∙ ap (λ f. take i entries ++ f ∷ []) (sym is)) ∙ filter-append (λ (f : SetEntry). has f.set x) (take i entries) (e ∷ [])
    ∙ ap (λ fs. filter (λ (f : SetEntry). has f.set x) (take i entries) ++ fs) nothing ∙ append-nil (filter (λ (f : SetEntry). has f.set x) (take i entries)) in
    before ∙ sym (ap (λ fs. support_of (map (λ (f : SetEntry). f.label) fs)) whole)

mapped_from : (f : ℕ → List ℕ) (xs : List (List ℕ)) (i : ℕ) → ((k : ℕ) → k < length xs → get_or xs k [] ≡ f (i + k)) → xs ≡ map f (count_from i (length xs))
mapped_from f [] i each = refl
mapped_from f (x ∷ xs) i each =
    let first : x ≡ f i = each 0 (omega arith) ∙ ap f (omega arith) in
    let rest : xs ≡ map f (count_from (suc i) (length xs)) = mapped_from f xs (suc i) (λ k l. each (suc k) (omega arith) ∙ ap f (omega arith)) in
    (λ j. first j ∷ rest j)

-- a list that is filled place by place
pub mapped : (f : ℕ → List ℕ) (xs : List (List ℕ)) (n : ℕ) → length xs ≡ n → ((k : ℕ) → k < n → get_or xs k [] ≡ f k) → xs ≡ map f (count_from 0 n)
mapped f xs n e each = mapped_from f xs 0 (λ k l. each k (omega arith) ∙ ap f (omega arith)) ∙ ap (λ m. map f (count_from 0 m)) e

mapped-at : (f : ℕ → List ℕ) (i n k : ℕ) → k < n → get_or (map f (count_from i n)) k [] ≡ f (i + k)
mapped-at f i zero k l = absurd (omega arith)
mapped-at f i (suc n) zero l = ap f (omega arith)
mapped-at f i (suc n) (suc k) l = mapped-at f (suc i) n k (omega arith) ∙ ap f (omega arith)

-- the sets at the labels of a configuration
over-config : (f : ℕ → List ℕ) (sets : List (List ℕ)) (config : List ℕ) → sets ≡ map f (count_from 0 MAX_LABELS) → AllByRecursion (λ x. x < MAX_LABELS) config → map (set_at sets) config ≡ map f config
over-config f sets [] e below = refl
over-config f sets (x ∷ config) e below =
    let first : set_at sets x ≡ f x = ap (λ s. set_at s x) e ∙ mapped-at f 0 MAX_LABELS x below.0 ∙ ap f (omega arith) in
    (λ j. first j ∷ over-config f sets config e below.1 j)

entry-labels : (entries : List SetEntry) (x : ℕ) → AllByRecursion (λ (e : SetEntry). e.label < MAX_LABELS) entries → AllByRecursion (λ y. y < MAX_LABELS) (map (λ (f : SetEntry). f.label) (filter (λ (f : SetEntry). has f.set x) entries))
entry-labels entries x below = AllByRecursion-from_contains (λ y. y < MAX_LABELS) (map (λ (f : SetEntry). f.label) (filter (λ (f : SetEntry). has f.set x) entries)) (λ y held.
    let (e, among, same) = Contains-map_cases (λ (f : SetEntry). f.label) (filter (λ (f : SetEntry). has f.set x) entries) y held in
    let (there, holds) = Contains-filter_cases (λ (f : SetEntry). has f.set x) entries e among in
    subst (λ m. m < MAX_LABELS) same (AllByRecursion-contains (λ (e : SetEntry). e.label < MAX_LABELS) entries e below there))

pub over-set : (entries : List SetEntry) (x : ℕ) → AllByRecursion (λ (e : SetEntry). e.label < MAX_LABELS) entries → IsLabelSet MAX_LABELS (labels_over entries x)
over-set entries x below = (support_law MAX_LABELS (map (λ (f : SetEntry). f.label) (filter (λ (f : SetEntry). has f.set x) entries))).0 (entry-labels entries x below)

over-sets : (entries : List SetEntry) (config : List ℕ) → AllByRecursion (λ (e : SetEntry). e.label < MAX_LABELS) entries → AllByRecursion (IsLabelSet MAX_LABELS) (map (labels_over entries) config)
over-sets entries [] below = tt
over-sets entries (x ∷ config) below = (over-set entries x below, over-sets entries config below)

-- ---- the configuration at a place
config-below : (from : Constraint) (place : ℕ) (config : List ℕ) → IsConstraint MAX_LABELS from → place < length from.configs → config ≡ get_or from.configs place [] → AllByRecursion (λ x. x < MAX_LABELS) config
config-below from place config is l e =
    let fits : IsConfig from.degree MAX_LABELS config = AllByRecursion-contains (IsConfig from.degree MAX_LABELS) from.configs config is.configs (subst (Contains from.configs) (sym e) (read-held from.configs place [] l)) in
    fits.below

pub over-there : (from : Constraint) (entries : List SetEntry) (over sets given : List (List ℕ)) (place : ℕ) (config : List ℕ) → IsConstraint MAX_LABELS from → place < length from.configs → config ≡ get_or from.configs place []
    → over ≡ map (labels_over entries) (count_from 0 MAX_LABELS) → sets ≡ map (set_at over) config → given ≡ sets → given ≡ map (labels_over entries) config
over-there from entries over sets given place config is l e o s g = g ∙ s ∙ over-config (labels_over entries) over config o (config-below from place config is l e)

pub given-sets : (entries : List SetEntry) (config : List ℕ) (given : List (List ℕ)) → AllByRecursion (λ (e : SetEntry). e.label < MAX_LABELS) entries → given ≡ map (labels_over entries) config → AllByRecursion (IsLabelSet MAX_LABELS) given
given-sets entries config given below e = subst (AllByRecursion (IsLabelSet MAX_LABELS)) (sym e) (over-sets entries config below)

-- each choice of labels over a configuration is one of the constraint's
abbrev pub TakesChoices : List SetEntry → Constraint → List ℕ → Type 0
TakesChoices entries to config = (labels : List ℕ) → IsChoice labels (map (labels_over entries) config) → Has to labels

pub takes-given : (entries : List SetEntry) (to : Constraint) (config : List ℕ) (given : List (List ℕ)) (r : Bool) → given ≡ map (labels_over entries) config
    → IsTrue r ↔ ((labels : List ℕ) → IsChoice labels given → Has to labels) → IsTrue r ↔ TakesChoices entries to config
takes-given entries to config given r e known = subst (λ (sets : List (List ℕ)). IsTrue r ↔ ((labels : List ℕ) → IsChoice labels sets → Has to labels)) e known

pub kept-choices : (from to : Constraint) (entries : List SetEntry) → IsConstraint MAX_LABELS from → KeepsAllowed entries from to → (config : List ℕ) → Contains from.configs config → TakesChoices entries to config
kept-choices from to entries is kept config held labels chosen = (keeps_allowed_law MAX_LABELS from to entries is).0 kept config labels held chosen

pub choices-kept : (from to : Constraint) (entries : List SetEntry) → IsConstraint MAX_LABELS from → ((config : List ℕ) → Contains from.configs config → TakesChoices entries to config) → KeepsAllowed entries from to
choices-kept from to entries is each = (keeps_allowed_law MAX_LABELS from to entries is).1 (λ config labels held chosen. each config held labels chosen)
