-- Labels that count up, and the rows of the sets of entries.
use Rattle.re_problem.proofs.VerdictLaws.{all_pass, pass_all}
use Rattle.std.proofs.Common.{◌≡◌, ℕ, zero, suc, ◌<◌, ◌+◌, Bool, true, not, List, [], ◌∷◌, length, map, get_or, refl, sym, ap, ◌∙◌, subst, arith, Option, None, eqb}
use Rattle.std.specs.Option.{is_some}
use Rattle.std.specs.Prelude.{IsTrue, ◌↔◌}
use Rattle.std.specs.List.{AllByRecursion}
use Rattle.std.proofs.lemmas.List.{length-map}
use Rattle.re_labels.specs.Rows.{set_at}
use Rattle.re_labels.proofs.Membership.{get_or-count_from, length-count_from}
use Rattle.re_labels.proofs.Tests.{eqb-true}
use Rattle.re_labels.specs.Lists.{count_from}
use Rattle.re_labels.specs.Sets.{IsLabelSet}
use Rattle.re_problem.specs.Verdicts.{first_not_allowed, first_not_good}
use Rattle.re_problem.specs.Steps.{SetEntry, entry_sets, set_for}
use Rattle.re_labels.proofs.Goodness.{IsAllowed-is_allowed, IsGood-is_good, is_allowed-IsAllowed, is_good-IsGood}
use Rattle.re_labels.specs.Constraints.{Constraint}
use Rattle.re_labels.specs.GoodRows.{IsAllowed, IsGood, is_allowed, is_good}
use Rattle.re_check.proofs.AllowedImages.{set_at-entry}
use Rattle.re_check.proofs.Telling.{item-at, none-tells, tells-same}
use Rattle.re_check.specs.StepClauses.{HasAllowedImages, HasGoodImages, HasNextLabels, entry_labels}
use Rattle.re_labels.specs.declared.TheConstants.{MAX_LABELS}

-- ---- labels that count up
counted_from : (xs : List ℕ) (i : ℕ) → ((k : ℕ) → k < length xs → get_or xs k 0 ≡ i + k) → xs ≡ count_from i (length xs)
counted_from [] i each = refl
counted_from (x ∷ xs) i each =
    let first : x ≡ i = each 0 (omega arith) ∙ omega arith in
    let rest : xs ≡ count_from (suc i) (length xs) = counted_from xs (suc i) (λ k l. each (suc k) (omega arith) ∙ omega arith) in
    (λ j. first j ∷ rest j)

pub counted : (xs : List ℕ) (n : ℕ) → length xs ≡ n → ((k : ℕ) → k < length xs → get_or xs k 0 ≡ k) → xs ≡ count_from 0 n
counted xs n e each = counted_from xs 0 (λ k l. each k l ∙ omega arith) ∙ ap (count_from 0) e

pub count-at : (xs : List ℕ) (n k : ℕ) → xs ≡ count_from 0 n → k < length xs → get_or xs k 0 ≡ k
count-at xs n k e l =
    let few : k < n = omega (arith, ap length e, length-count_from 0 n) in
    ap (λ l. get_or l k 0) e ∙ get_or-count_from 0 n k 0 few ∙ omega arith

pub count-length : (xs : List ℕ) (n : ℕ) → xs ≡ count_from 0 n → length xs ≡ n
count-length xs n e = ap length e ∙ length-count_from 0 n

-- ---- entries for the labels
pub label-entry : (entries : List SetEntry) (i : ℕ) → get_or (entry_labels entries) i 0 ≡ (get_or entries i (record { set = []; label = 0 })).label
label-entry [] i = refl
label-entry (e ∷ entries) zero = refl
label-entry (e ∷ entries) (suc i) = label-entry entries i

filled-each : (entries : List SetEntry) → ((k : ℕ) → k < length entries → 0 < length (get_or entries k (record { set = []; label = 0 })).set) → AllByRecursion (λ s. 0 < length s) (entry_sets entries)
filled-each [] each = tt
filled-each (e ∷ entries) each = (each 0 (omega arith), filled-each entries (λ k l. each (suc k) (omega arith)))

each-filled : (entries : List SetEntry) (k : ℕ) → AllByRecursion (λ s. 0 < length s) (entry_sets entries) → k < length entries → 0 < length (get_or entries k (record { set = []; label = 0 })).set
each-filled [] k filled l = absurd (omega arith)
each-filled (e ∷ entries) zero filled l = filled.0
each-filled (e ∷ entries) (suc k) filled l = each-filled entries k filled.1 (omega arith)

-- the entry at a place has the label there and a nonempty set
abbrev pub IsNextEntry : List SetEntry → ℕ → Type 0
IsNextEntry entries k = ((get_or entries k (record { set = []; label = 0 })).label ≡ k) × (0 < length (get_or entries k (record { set = []; label = 0 })).set)

pub next-labels : (entries : List SetEntry) (n : ℕ) → length entries ≡ n → ((k : ℕ) → k < length entries → IsNextEntry entries k) → HasNextLabels n entries
next-labels entries n e each = record {
  labels = counted (entry_labels entries) n (length-map entries (λ (e : SetEntry). e.label) ∙ e) (λ k l. label-entry entries k ∙ (each k (subst (λ m. k < m) (length-map entries (λ (e : SetEntry). e.label)) l)).0);
  filled = filled-each entries (λ k l. (each k l).1);
}

pub next-count : (entries : List SetEntry) (n : ℕ) → HasNextLabels n entries → length entries ≡ n
next-count entries n has = sym (length-map entries (λ (e : SetEntry). e.label)) ∙ count-length (entry_labels entries) n has.labels

pub next-entry : (entries : List SetEntry) (n k : ℕ) → HasNextLabels n entries → k < length entries → IsNextEntry entries k
next-entry entries n k has l =
    (sym (label-entry entries k) ∙ count-at (entry_labels entries) n k has.labels (subst (λ m. k < m) (sym (length-map entries (λ (e : SetEntry). e.label))) l), each-filled entries k has.filled l)

-- ---- the rows of their sets
pub same-images : (entries : List SetEntry) (config : List ℕ) → map (set_at (entry_sets entries)) config ≡ map (set_for entries) config
same-images entries [] = refl
same-images entries (x ∷ config) = λ i. set_at-entry entries x i ∷ same-images entries config i

pub good-none : (entries : List SetEntry) (next before : Constraint) → first_not_good (entry_sets entries) next before ≡ None → HasGoodImages entries next before
good-none entries next before e config held =
    subst (IsGood before) (same-images entries config)
    (is_good-IsGood before (map (set_at (entry_sets entries)) config) (all_pass (λ config. is_good before (map (set_at (entry_sets entries)) config)) next.configs e config held))

pub none-good : (entries : List SetEntry) (next before : Constraint) → HasGoodImages entries next before → first_not_good (entry_sets entries) next before ≡ None
none-good entries next before good = pass_all (λ config. is_good before (map (set_at (entry_sets entries)) config)) next.configs
    (λ config held. IsGood-is_good before (map (set_at (entry_sets entries)) config) (subst (IsGood before) (sym (same-images entries config)) (good config held)))

pub allowed-none : (entries : List SetEntry) (next before : Constraint) → first_not_allowed (entry_sets entries) next before ≡ None → HasAllowedImages entries next before
allowed-none entries next before e config held =
    subst (IsAllowed before) (same-images entries config)
    (is_allowed-IsAllowed before (map (set_at (entry_sets entries)) config) (all_pass (λ config. is_allowed before (map (set_at (entry_sets entries)) config)) next.configs e config held))

pub none-allowed : (entries : List SetEntry) (next before : Constraint) → HasAllowedImages entries next before → first_not_allowed (entry_sets entries) next before ≡ None
none-allowed entries next before allow = pass_all (λ config. is_allowed before (map (set_at (entry_sets entries)) config)) next.configs
    (λ config held. IsAllowed-is_allowed before (map (set_at (entry_sets entries)) config) (subst (IsAllowed before) (sym (same-images entries config)) (allow config held)))

pub good-tells : (entries : List SetEntry) (next before : Constraint) (sets : List (List ℕ)) (found : Option (List ℕ)) (r : Bool) → sets ≡ entry_sets entries → found ≡ first_not_good sets next before → is_some found ≡ not r
    → IsTrue r ↔ HasGoodImages entries next before
good-tells entries next before sets found r same e told =
    let is : found ≡ first_not_good (entry_sets entries) next before = e ∙ ap (λ s. first_not_good s next before) same in
    tells-same r (none-tells found r told) (λ none. good-none entries next before (sym is ∙ none)) (λ good. is ∙ none-good entries next before good)

pub allowed-tells : (entries : List SetEntry) (next before : Constraint) (sets : List (List ℕ)) (found : Option (List ℕ)) (r : Bool) → sets ≡ entry_sets entries → found ≡ first_not_allowed sets next before → is_some found ≡ not r
    → IsTrue r ↔ HasAllowedImages entries next before
allowed-tells entries next before sets found r same e told =
    let is : found ≡ first_not_allowed (entry_sets entries) next before = e ∙ ap (λ s. first_not_allowed s next before) same in
    tells-same r (none-tells found r told) (λ none. allowed-none entries next before (sym is ∙ none)) (λ allow. is ∙ none-allowed entries next before allow)

-- ---- an entry that a walk reads
pub next-item : (entries : List SetEntry) (n i : ℕ) (e : SetEntry) (set : List ℕ) (label : ℕ) → i < length entries → e ≡ get_or entries i e → record { set = set; label = label } ≡ e → HasNextLabels n entries
    → (label ≡ i) × (0 < length set)
next-item entries n i e set label l is view has =
    let at : get_or entries i (record { set = []; label = 0 }) ≡ record { set = set; label = label } = item-at entries i e (record { set = []; label = 0 }) l is ∙ sym view in
    let two = next-entry entries n i has l in
    (sym (ap (λ (f : SetEntry). f.label) at) ∙ two.0, subst (λ (f : SetEntry). 0 < length f.set) at two.1)

pub not_empty : (set : List ℕ) (r : Bool) → r ≡ eqb (length set) 0 → r ≡ true → 0 < length set → ⊥
not_empty set r e t filled = let none : length set ≡ 0 = eqb-true (length set) 0 (sym e ∙ t) in omega arith

-- ---- what a call knows of the sets
pub both-sets : (sets : List (List ℕ)) → AllByRecursion (IsLabelSet MAX_LABELS) sets → AllByRecursion (λ s. 0 < length s) sets → AllByRecursion (λ set. IsLabelSet MAX_LABELS set × (0 < length set)) sets
both-sets [] are filled = tt
both-sets (s ∷ sets) are filled = ((are.0, filled.0), both-sets sets are.1 filled.1)
