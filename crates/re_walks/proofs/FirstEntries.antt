-- The entries of the first sets, with their labels: those of the first labels are the first ones, and what keeps the allowed multisets with all of
-- them does with the first ones.
use Rattle.std.proofs.Common.{◌≡◌, ℕ, zero, suc, ◌<◌, ◌≤◌, ◌+◌, true, List, [], ◌∷◌, ◌++◌, length, map, take, drop, get_or, refl, sym, ap, ◌∙◌, subst, arith, length-append}
use Rattle.std.specs.List.{AllByRecursion}
use Rattle.std.proofs.lemmas.List.{length-map, map-append}
use Rattle.re_labels.proofs.Goodness.{Has-has_config, has_config-Has}
use Rattle.re_labels.specs.Constraints.{Constraint, Has, IsConstraint}
use Rattle.re_labels.specs.GoodRows.{allowed}
use Rattle.re_labels.specs.Lists.{IsRising}
use Rattle.re_labels.specs.Rows.{IsChoice, set_at}
use Rattle.re_labels.specs.Sets.{IsIn, number}
use Rattle.re_labels.specs.declared.TheConstants.{MAX_LABELS}
use Rattle.re_problem.specs.Steps.{SetEntry, entry_sets, label_at}
use Rattle.re_check.proofs.AllowedImages.{entry-over, keeps_allowed_law, over-entry}
use Rattle.re_check.proofs.StepMeaning.{all_held, all_there}
use Rattle.re_check.specs.Clauses.{keep_allowed}
use Rattle.re_check.specs.LabelsOver.{labels_over}
use Rattle.re_check.specs.RowEntries.{row_entries}
use Rattle.re_check.specs.StepClauses.{KeepsAllowed}

-- ---- the images of the allowed multisets
-- ---- the entries of the first sets
pub entries-none : (sets : List (List ℕ)) → row_entries sets [] ≡ []
entries-none [] = refl
entries-none (set ∷ sets) = refl

entries-next : (sets : List (List ℕ)) (labels : List ℕ) (i label : ℕ) (set : List ℕ) → i < length labels → length labels ≤ length sets → label ≡ get_or labels i 0 → set ≡ get_or sets i set
    → row_entries sets (take (suc i) labels) ≡ row_entries sets (take i labels) ++ record { set = set; label = label } ∷ []
entries-next sets [] i label set l long here there = absurd (omega arith)
entries-next [] (x ∷ labels) i label set l long here there = absurd (omega arith)
entries-next (s ∷ sets) (x ∷ labels) zero label set l long here there = λ k. record { set = sym there k; label = sym here k } ∷ entries-none sets k
entries-next (s ∷ sets) (x ∷ labels) (suc i) label set l long here there = ap (λ es. record { set = s; label = x } ∷ es) (entries-next sets labels i label set (omega arith) (omega arith) here there)

pub entries-more : (sets : List (List ℕ)) (labels : List ℕ) (i label : ℕ) (set : List ℕ) (old new : List SetEntry) → i < length labels → length labels ≤ length sets → label ≡ get_or labels i 0 → set ≡ get_or sets i set
    → old ≡ row_entries sets (take i labels) → new ≡ old ++ record { set = set; label = label } ∷ [] → new ≡ row_entries sets (take (i + 1) labels)
entries-more sets labels i label set old new l long here there so_far push =
    push ∙ ap (λ es. es ++ record { set = set; label = label } ∷ []) so_far ∙ sym (entries-next sets labels i label set l long here there)
    ∙ ap (λ k. row_entries sets (take k labels)) (let e : suc i ≡ i + 1 = omega arith in e)

pub entries-rise : (sets : List (List ℕ)) (labels : List ℕ) → IsRising (λ s t. number s < number t) sets → IsRising (λ s t. number s < number t) (entry_sets (row_entries sets labels))
entries-rise [] labels rises = tt
entries-rise (s ∷ sets) [] rises = tt
entries-rise (s ∷ []) (x ∷ labels) rises = tt
entries-rise (s ∷ t ∷ sets) (x ∷ []) rises = tt
entries-rise (s ∷ t ∷ sets) (x ∷ y ∷ labels) rises = (rises.0, entries-rise (t ∷ sets) (y ∷ labels) rises.1)

pub entries-low : (sets : List (List ℕ)) (labels : List ℕ) → AllByRecursion (λ label. label < MAX_LABELS) labels → AllByRecursion (λ (entry : SetEntry). entry.label < MAX_LABELS) (row_entries sets labels)
entries-low [] labels low = tt
entries-low (s ∷ sets) [] low = tt
entries-low (s ∷ sets) (x ∷ labels) low = (low.0, entries-low sets labels low.1)

-- ---- entries with more behind them
at-front : {X : Type 0} (xs ys : List X) (i : ℕ) (d : X) → i < length xs → get_or (xs ++ ys) i d ≡ get_or xs i d
at-front [] ys i d l = absurd (omega arith)
at-front (x ∷ xs) ys zero d l = refl
at-front (x ∷ xs) ys (suc i) d l = at-front xs ys i d (omega arith)

label_at-front : (front more : List SetEntry) (i : ℕ) → i < length front → label_at (front ++ more) i ≡ label_at front i
label_at-front front more i l = ap (λ (e : SetEntry). e.label) (at-front front more i (record { set = []; label = 0 }) l)

set_at-front : (front more : List SetEntry) (i : ℕ) → i < length front → set_at (entry_sets (front ++ more)) i ≡ set_at (entry_sets front) i
set_at-front front more i l =
    ap (λ (sets : List (List ℕ)). set_at sets i) (map-append (λ (e : SetEntry). e.set) front more)
    ∙ at-front (entry_sets front) (entry_sets more) i [] (subst (λ m. i < m) (sym (length-map front (λ (e : SetEntry). e.set))) l)

-- the labels over a label are among those with more entries
pub over-front : (front more : List SetEntry) (x y : ℕ) → IsIn y (labels_over front x) → IsIn y (labels_over (front ++ more) x)
over-front front more x y held =
    let (i, l, at, same) = entry-over front x y held in
    subst (λ z. IsIn z (labels_over (front ++ more) x)) (label_at-front front more i l ∙ same)
    (over-entry (front ++ more) x i (omega (arith, l, length-append front more)) (subst (IsIn x) (sym (set_at-front front more i l)) at))

pub choice-front : (front more : List SetEntry) (config labels : List ℕ) → IsChoice labels (map (labels_over front) config) → IsChoice labels (map (labels_over (front ++ more)) config)
choice-front front more [] [] h = h
choice-front front more [] (y ∷ labels) h = absurd h
choice-front front more (x ∷ config) [] h = absurd h
choice-front front more (x ∷ config) (y ∷ labels) h = (over-front front more x y h.0, choice-front front more config labels h.1)

pub allowed-front : (n : ℕ) (from to : Constraint) (front more : List SetEntry) → IsConstraint n from → KeepsAllowed (front ++ more) from to → KeepsAllowed front from to
allowed-front n from to front more is kept =
    (keeps_allowed_law n from to front is).1 (λ config labels held chosen. (keeps_allowed_law n from to (front ++ more) is).0 kept config labels held (choice-front front more config labels chosen))

-- the entries of the first labels are the first ones
pub entries-parted : (sets : List (List ℕ)) (labels : List ℕ) (k : ℕ) → row_entries sets labels ≡ row_entries sets (take k labels) ++ row_entries (drop k sets) (drop k labels)
entries-parted sets labels zero = (λ i. sym (entries-none sets) i ++ row_entries sets labels)
entries-parted [] labels (suc k) = refl
entries-parted (s ∷ sets) [] (suc k) = sym (entries-none (drop k sets))
entries-parted (s ∷ sets) (x ∷ labels) (suc k) = ap (λ es. record { set = s; label = x } ∷ es) (entries-parted sets labels k)

pub allowed-kept : (before passive : Constraint) (entries : List SetEntry) → keep_allowed before passive entries ≡ true → KeepsAllowed entries before passive
allowed-kept before passive entries t = all_there _ (λ places. Has passive (map (label_at entries) places)) (allowed before (entry_sets entries) before.degree) (λ places. has_config-Has passive (map (label_at entries) places)) t

pub kept-allowed : (before passive : Constraint) (entries : List SetEntry) → KeepsAllowed entries before passive → keep_allowed before passive entries ≡ true
kept-allowed before passive entries kept = all_held _ (λ places. Has passive (map (label_at entries) places)) (allowed before (entry_sets entries) before.degree) (λ places. Has-has_config passive (map (label_at entries) places)) kept

-- ---- maps by rows
pub low-append : (n : ℕ) (xs ys : List ℕ) → AllByRecursion (λ x. x < n) xs → AllByRecursion (λ x. x < n) ys → AllByRecursion (λ x. x < n) (xs ++ ys)
low-append n [] ys a b = b
low-append n (x ∷ xs) ys a b = (a.0, low-append n xs ys a.1 b)
