-- The entries of the labels that are left, where these are numbered in order.
use Rattle.std.proofs.Common.{◌≡◌, ℕ, zero, suc, ◌+◌, ◌-◌, ◌<◌, ◌≤◌, List, [], ◌∷◌, ◌++◌, length, map, take, get_or, Option, None, Some, refl, sym, ap, ◌∙◌, arith, inl, inr}
use Rattle.std.specs.List.{cons_option}
use Rattle.std.specs.Prelude.{option_map}
use Rattle.std.proofs.lemmas.List.{append-nil, take_more}
use Rattle.std.proofs.lemmas.List.Elements.{filter_map-append}
use Rattle.re_labels.specs.Rows.{set_at}
use Rattle.re_labels.proofs.Membership.{In}
use Rattle.re_labels.specs.Lists.{count_from}
use Rattle.re_problem.specs.Steps.{SetEntry, entry_sets, set_for}
use Rattle.re_changes.proofs.LeftLabels.{labels_left}
use Rattle.re_shaping.specs.Dropping.{entries_left, entry_left}

-- for each of the sets whose label is left, the label that it has become
abbrev pub with_labels : List (List ℕ) → List (Option ℕ) → List SetEntry
with_labels [] images = []
with_labels (set ∷ sets) [] = []
with_labels (set ∷ sets) (None ∷ images) = with_labels sets images
with_labels (set ∷ sets) (Some label ∷ images) = record { set = set; label = label } ∷ with_labels sets images

pub left-with : (left : ℕ → Option ℕ) (entries : List SetEntry) → entries_left left entries ≡ with_labels (entry_sets entries) (map left (map (λ (entry : SetEntry). entry.label) entries))
left-with left [] = refl
left-with left (entry ∷ entries) = go (left entry.label) (left-with left entries)
  where
    go : (o : Option ℕ) → entries_left left entries ≡ with_labels (entry_sets entries) (map left (map (λ (entry : SetEntry). entry.label) entries))
        → cons_option (option_map (λ (label : ℕ). record { set = entry.set; label = label }) o) (entries_left left entries)
        ≡ with_labels (entry.set ∷ entry_sets entries) (o ∷ map left (map (λ (entry : SetEntry). entry.label) entries))
    go None e = e
    go (Some label) e = ap (λ l. record { set = entry.set; label = label } ∷ l) e

-- the labels, where there are as many
pub labels-in_order : (sets : List (List ℕ)) (images : List (Option ℕ)) → length images ≡ length sets → map (λ (entry : SetEntry). entry.label) (with_labels sets images) ≡ labels_left images
labels-in_order [] [] e = refl
labels-in_order [] (image ∷ images) e = absurd (omega arith)
labels-in_order (set ∷ sets) [] e = absurd (omega arith)
labels-in_order (set ∷ sets) (None ∷ images) e = labels-in_order sets images (omega arith)
labels-in_order (set ∷ sets) (Some label ∷ images) e = ap (λ l. label ∷ l) (labels-in_order sets images (omega arith))

-- the set of a label that is left, by its place from some label on
set-from : (sets : List (List ℕ)) (images : List (Option ℕ)) (j n k label : ℕ) → length images ≡ length sets → labels_left images ≡ count_from j n → get_or images k None ≡ Some label
    → (j ≤ label) × (set_for (with_labels sets images) (label - j) ≡ set_at sets k)
set-from sets [] j n k label e order at = cc
set-from [] (image ∷ images) j n k label e order at = absurd (omega arith)
set-from (set ∷ sets) (None ∷ images) j n zero label e order at = cc
set-from (set ∷ sets) (None ∷ images) j n (suc k) label e order at = set-from sets images j n k label (omega arith) order at
set-from (set ∷ sets) (Some first ∷ images) j zero k label e order at = cc
set-from (set ∷ sets) (Some first ∷ images) j (suc n) zero label e order at =
    let one : first ≡ j = cc in
    let two : first ≡ label = cc in
    let none : label - j ≡ 0 = omega arith in
    (omega arith, ap (set_for (record { set = set; label = first } ∷ with_labels sets images)) none)
set-from (set ∷ sets) (Some first ∷ images) j (suc n) (suc k) label e order at =
    let rest : labels_left images ≡ count_from (suc j) n = cc in
    let (low, same) = set-from sets images (suc j) n k label (omega arith) rest at in
    let more : label - j ≡ suc (label - suc j) = omega arith in
    (omega arith, ap (set_for (record { set = set; label = first } ∷ with_labels sets images)) more ∙ same)

pub set-left : (sets : List (List ℕ)) (images : List (Option ℕ)) (n k label : ℕ) → length images ≡ length sets → labels_left images ≡ count_from 0 n → get_or images k None ≡ Some label
    → set_for (with_labels sets images) label ≡ set_at sets k
set-left sets images n k label e order at =
    let same : label ≡ label - 0 = omega arith in
    ap (set_for (with_labels sets images)) same ∙ (set-from sets images 0 n k label e order at).1

-- an entry that is left is from one with its set
pub left-from : (left : ℕ → Option ℕ) (entries : List SetEntry) (sent : SetEntry) → In sent (entries_left left entries) → (entry : SetEntry) × In entry entries × (sent.set ≡ entry.set) × (left entry.label ≡ Some sent.label)
left-from left [] sent i = absurd i
left-from left (entry ∷ entries) sent i = go (left entry.label) refl (left-from left entries sent) i
  where
    later : (entry' : SetEntry) × In entry' entries × (sent.set ≡ entry'.set) × (left entry'.label ≡ Some sent.label) → (entry' : SetEntry) × In entry' (entry ∷ entries) × (sent.set ≡ entry'.set) × (left entry'.label ≡ Some sent.label)
    later (other, j, e, f) = (other, inr j, e, f)

    go : (o : Option ℕ) → left entry.label ≡ o
        → (In sent (entries_left left entries) → (entry' : SetEntry) × In entry' entries × (sent.set ≡ entry'.set) × (left entry'.label ≡ Some sent.label))
        → In sent (cons_option (option_map (λ (label : ℕ). record { set = entry.set; label = label }) o) (entries_left left entries))
        → (entry' : SetEntry) × In entry' (entry ∷ entries) × (sent.set ≡ entry'.set) × (left entry'.label ≡ Some sent.label)
    go None e rest i = later (rest i)
    go (Some label) e rest (inl f) = (entry, inl refl, ap (λ (s : SetEntry). s.set) f, e ∙ ap (λ (s : SetEntry). Some s.label) (sym f))
    go (Some label) e rest (inr i) = later (rest i)

-- ---- lists that are made by pushing
more : (left : ℕ → Option ℕ) (entries : List SetEntry) (i : ℕ) (entry : SetEntry) → i < length entries → entry ≡ get_or entries i entry
    → entries_left left (take (i + 1) entries) ≡ entries_left left (take i entries) ++ cons_option (option_map (λ (label : ℕ). record { set = entry.set; label = label }) (left entry.label)) []
more left entries i entry l at =
    ap (entries_left left) (take_more entries i entry l) ∙ filter_map-append (entry_left left) (take i entries) (get_or entries i entry ∷ [])
    ∙ ap (λ (e : SetEntry). entries_left left (take i entries) ++ cons_option (option_map (λ (label : ℕ). record { set = e.set; label = label }) (left e.label)) []) (sym at)

pub left-pushed : (left : ℕ → Option ℕ) (entries : List SetEntry) (i : ℕ) (entry : SetEntry) (label : ℕ) {before after : List SetEntry} → i < length entries → entry ≡ get_or entries i entry → left entry.label ≡ Some label
    → after ≡ before ++ record { set = entry.set; label = label } ∷ [] → before ≡ entries_left left (take i entries) → after ≡ entries_left left (take (i + 1) entries)
left-pushed left entries i entry label l at e push so_far =
    push ∙ ap (λ (k : List SetEntry). k ++ record { set = entry.set; label = label } ∷ []) so_far
    ∙ ap (λ (o : Option ℕ). entries_left left (take i entries) ++ cons_option (option_map (λ (label : ℕ). record { set = entry.set; label = label }) o) []) (sym e)
    ∙ sym (more left entries i entry l at)

pub left-passed : (left : ℕ → Option ℕ) (entries : List SetEntry) (i : ℕ) (entry : SetEntry) {before after : List SetEntry} → i < length entries → entry ≡ get_or entries i entry → left entry.label ≡ None
    → after ≡ before → before ≡ entries_left left (take i entries) → after ≡ entries_left left (take (i + 1) entries)
left-passed left entries i entry l at e same so_far =
    same ∙ so_far ∙ sym (append-nil (entries_left left (take i entries)))
    ∙ ap (λ (o : Option ℕ). entries_left left (take i entries) ++ cons_option (option_map (λ (label : ℕ). record { set = entry.set; label = label }) o) []) (sym e)
    ∙ sym (more left entries i entry l at)
