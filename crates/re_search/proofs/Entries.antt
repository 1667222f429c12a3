-- The entries of a step: their sets and labels, and the rows and sets of the derived problem.
use Rattle.std.proofs.Common.{◌≡◌, ℕ, zero, suc, ◌+◌, ◌-◌, ◌<◌, ◌≤◌, Bool, true, false, eqb, ltb, List, [], ◌∷◌, length, map, get_or, Option, None, Some, refl, sym, ap, ◌∙◌, subst, arith, inl, inr}
use Rattle.std.specs.Prelude.{Contains, ◌&&◌}
use Rattle.std.specs.List.{AllByRecursion, list_all}
use Rattle.std.proofs.lemmas.Bool.Decides.{nat_tests}
use Rattle.re_labels.specs.Rows.{IsRow, set_at}
use Rattle.re_labels.proofs.Membership.{AllByRecursion-In, AllByRecursion-from_In, Contains-In, In, In-Contains, all-In_from}
use Rattle.re_labels.proofs.Tests.{eqb-same, true-and}
use Rattle.re_labels.specs.Lists.{count_from}
use Rattle.re_labels.specs.Sets.{IsLabelSet}
use Rattle.re_problem.proofs.Building.{below_all}
use Rattle.re_problem.specs.NamedProblems.{NamedProblem, unnamed}
use Rattle.re_problem.specs.Steps.{SetEntry, entry_sets, label_at, set_for}
use Rattle.re_labels.proofs.MaxSets.{max_sets_law}
use Rattle.re_labels.proofs.MaxRows.{maximal_law}
use Rattle.re_labels.specs.Constraints.{Constraint}
use Rattle.re_labels.specs.GoodRows.{IsMaximal, max_rows, max_sets}
use Rattle.re_changes.proofs.LeftLabels.{labels_left}
use Rattle.re_cert.specs.Bounds.{entry_fits, is_label, row_fits}
use Rattle.re_search.specs.Nodes.{entries_of}

-- ---- where each label has become one
abbrev pub Becomes : List (Option ℕ) → Type 0
Becomes images = AllByRecursion (λ (image : Option ℕ). (label : ℕ) × (image ≡ Some label)) images

pub Becomes-at : (images : List (Option ℕ)) (f : ℕ → ℕ) → ((k : ℕ) → k < length images → get_or images k None ≡ Some (f k)) → Becomes images
Becomes-at [] f h = tt
Becomes-at (image ∷ images) f h = ((f 0, h 0 (omega arith)), Becomes-at images (λ k. f (suc k)) (λ k l. h (suc k) (omega arith)))

pub sets-all : (sets : List (List ℕ)) (images : List (Option ℕ)) → length images ≡ length sets → Becomes images → entry_sets (entries_of sets images) ≡ sets
sets-all [] [] e all = refl
sets-all [] (image ∷ images) e all = absurd (omega arith)
sets-all (set ∷ sets) [] e all = absurd (omega arith)
sets-all (set ∷ sets) (None ∷ images) e all = let (label, there) = all.0 in absurd (cc)
sets-all (set ∷ sets) (Some label ∷ images) e all = ap (λ l. set ∷ l) (sets-all sets images (omega arith) all.1)

pub label-all : (sets : List (List ℕ)) (images : List (Option ℕ)) → length images ≡ length sets → Becomes images → (k label : ℕ) → k < length sets → get_or images k None ≡ Some label
    → label_at (entries_of sets images) k ≡ label
label-all [] images e all k label l at = absurd (omega arith)
label-all (set ∷ sets) [] e all k label l at = absurd (omega arith)
label-all (set ∷ sets) (None ∷ images) e all k label l at = let (label, there) = all.0 in absurd (cc)
label-all (set ∷ sets) (Some first ∷ images) e all zero label l at = cc
label-all (set ∷ sets) (Some first ∷ images) e all (suc k) label l at = label-all sets images (omega arith) all.1 k label (omega arith) at

-- ---- where the labels that are left are in order
pub labels-in_order : (sets : List (List ℕ)) (images : List (Option ℕ)) → length images ≡ length sets → map (λ (entry : SetEntry). entry.label) (entries_of sets images) ≡ labels_left images
labels-in_order [] [] e = refl
labels-in_order [] (image ∷ images) e = absurd (omega arith)
labels-in_order (set ∷ sets) [] e = absurd (omega arith)
labels-in_order (set ∷ sets) (None ∷ images) e = labels-in_order sets images (omega arith)
labels-in_order (set ∷ sets) (Some label ∷ images) e = ap (λ l. label ∷ l) (labels-in_order sets images (omega arith))

-- the set of a label that is left, by its place from some label on
set-from : (sets : List (List ℕ)) (images : List (Option ℕ)) (j n k label : ℕ) → length images ≡ length sets → labels_left images ≡ count_from j n → get_or images k None ≡ Some label
    → (j ≤ label) × (set_for (entries_of sets images) (label - j) ≡ set_at sets k)
set-from sets [] j n k label e order at = cc
set-from [] (image ∷ images) j n k label e order at = absurd (omega arith)
set-from (set ∷ sets) (None ∷ images) j n zero label e order at = cc
set-from (set ∷ sets) (None ∷ images) j n (suc k) label e order at = set-from sets images j n k label (omega arith) order at
set-from (set ∷ sets) (Some first ∷ images) j zero k label e order at = cc
set-from (set ∷ sets) (Some first ∷ images) j (suc n) zero label e order at =
    let one : first ≡ j = cc in
    let two : first ≡ label = cc in
    let none : label - j ≡ 0 = omega arith in
    (omega arith, ap (set_for (record { set = set; label = first } ∷ entries_of sets images)) none)
set-from (set ∷ sets) (Some first ∷ images) j (suc n) (suc k) label e order at =
    let rest : labels_left images ≡ count_from (suc j) n = cc in
    let (low, same) = set-from sets images (suc j) n k label (omega arith) rest at in
    let more : label - j ≡ suc (label - suc j) = omega arith in
    (omega arith, ap (set_for (record { set = set; label = first } ∷ entries_of sets images)) more ∙ same)

pub set-left : (sets : List (List ℕ)) (images : List (Option ℕ)) (n k label : ℕ) → length images ≡ length sets → labels_left images ≡ count_from 0 n → get_or images k None ≡ Some label
    → set_for (entries_of sets images) label ≡ set_at sets k
set-left sets images n k label e order at =
    let same : label ≡ label - 0 = omega arith in
    ap (set_for (entries_of sets images)) same ∙ (set-from sets images 0 n k label e order at).1

-- ---- the entries fit
pub entries-In : (sets : List (List ℕ)) (images : List (Option ℕ)) (entry : SetEntry) → In entry (entries_of sets images) → In entry.set sets × In (Some entry.label) images
entries-In [] images entry i = absurd i
entries-In (set ∷ sets) [] entry i = absurd i
entries-In (set ∷ sets) (None ∷ images) entry i = let two = entries-In sets images entry i in (inr two.0, inr two.1)
entries-In (set ∷ sets) (Some label ∷ images) entry (inl e) = (inl (ap (λ (entry : SetEntry). entry.set) e), inl (ap (λ (entry : SetEntry). Some entry.label) e))
entries-In (set ∷ sets) (Some label ∷ images) entry (inr i) = let two = entries-In sets images entry i in (inr two.0, inr two.1)

-- ---- rows and sets of a constraint
module _ (constraint : Constraint) (n : ℕ) where
  pub row-is : (row : List (List ℕ)) → In row (max_rows constraint n) → IsRow constraint.degree n row
  row-is row i = (((maximal_law constraint n).1 row).0 (In-Contains row (max_rows constraint n) i)).is_row

  pub set-is : (set : List ℕ) → In set (max_sets constraint n) → IsLabelSet n set × (0 < length set)
  set-is set i =
      let (row, at, there) = ((max_sets_law constraint n).1 set).0 (In-Contains set (max_sets constraint n) i) in
      AllByRecursion-In (λ s. IsLabelSet n s × (0 < length s)) row set (row-is row (Contains-In row (max_rows constraint n) at)).sets (Contains-In set row there)

pub rows-fit : (before : NamedProblem) → list_all (row_fits before) (max_rows before.passive (length before.names)) ≡ true
rows-fit before = all-In_from (row_fits before) (max_rows before.passive (length before.names)) (λ row i.
    let is = row-is before.passive (length before.names) row i in
    true-and (eqb (length row) before.passive.degree) (list_all (list_all (is_label before)) row)
    (ap (λ d. eqb d before.passive.degree) is.count ∙ eqb-same before.passive.degree)
    (all-In_from (list_all (is_label before)) row (λ set j. below_all (length before.names) set (AllByRecursion-In (λ s. IsLabelSet (length before.names) s × (0 < length s)) row set is.sets j).0.1)))
