-- Labels of a set, one after another; runs of equal sets; labels by their places.
use Rattle.re_labels.proofs.Sorting.{take_all}
use Rattle.std.proofs.Common.{◌≡◌, ℕ, zero, suc, ◌<◌, ◌≤◌, ◌+◌, List, [], ◌∷◌, ◌++◌, length, flat_map, map, take, get_or, Some, refl, sym, ap, ◌∙◌, subst, arith, append_assoc}
use Rattle.std.specs.List.{AllByRecursion}
use Rattle.std.proofs.lemmas.List.{take_more}
use Rattle.re_labels.proofs.LeastLabels.{first-is}
use Rattle.re_labels.proofs.Membership.{get_or-count_from, length-count_from, length-map'}
use Rattle.re_labels.proofs.Numbers.{set_of-number, rising_tail}
use Rattle.re_labels.specs.Lists.{IsRising, count_from}
use Rattle.re_labels.specs.Sets.{IsLabelSet, first_of, number, set_of, without_label}
use Rattle.re_labels.specs.declared.TheConstants.{MAX_LABELS}

-- ---- the labels of a set
pub label_then_rest : (f : ℕ → List ℕ) (set rest : List ℕ) (label : ℕ) (old middle new : List ℕ) → IsRising (λ x y. x < y) set → first_of set ≡ Some label → rest ≡ without_label set label
    → middle ≡ old ++ f label → new ≡ middle ++ flat_map f rest → new ≡ old ++ flat_map f set
label_then_rest f set rest label old middle new r e w m n =
    n ∙ ap (λ l. l ++ flat_map f rest) m ∙ append_assoc old (f label) (flat_map f rest) ∙ ap (λ l. old ++ (f label ++ flat_map f l)) w
    ∙ ap (λ l. old ++ flat_map f l) (sym (first-is set label r e))

pub first_holds : (P : ℕ → Type 0) (set : List ℕ) (label : ℕ) → IsRising (λ x y. x < y) set → first_of set ≡ Some label → AllByRecursion P set → P label
first_holds P set label r e h = (subst (AllByRecursion P) (first-is set label r e) h).0

pub rest_holds : (P : ℕ → Type 0) (set rest : List ℕ) (label : ℕ) → IsRising (λ x y. x < y) set → first_of set ≡ Some label → rest ≡ without_label set label → AllByRecursion P set → AllByRecursion P rest
rest_holds P set rest label r e w h = subst (AllByRecursion P) (sym w) (subst (AllByRecursion P) (first-is set label r e) h).1

pub rest_is : (set rest : List ℕ) (label : ℕ) → IsLabelSet MAX_LABELS set → first_of set ≡ Some label → rest ≡ without_label set label → IsLabelSet MAX_LABELS rest
rest_is set rest label is e w =
    (subst (IsRising (λ x y. x < y)) (sym w) (rising_tail label (without_label set label) (subst (IsRising (λ x y. x < y)) (first-is set label is.0 e) is.0)), rest_holds (λ x. x < MAX_LABELS) set rest label is.0 e w is.1)

-- ---- a run of equal sets
pub set_there : (numbers : List ℕ) (sets : List (List ℕ)) (at : ℕ) (set : List ℕ) → numbers ≡ map number sets → at < length numbers → set ≡ get_or sets at set → IsLabelSet MAX_LABELS set → set_of MAX_LABELS (get_or numbers at 0) ≡ set
set_there numbers sets at set e l s is = ap (λ n. set_of MAX_LABELS (get_or n at 0)) e ∙ ap (set_of MAX_LABELS) (go sets at (let n = length-map' number sets in let m = ap length e in omega (arith, l, n, m)) ∙ ap number (sym s)) ∙ (set_of-number MAX_LABELS set is).1
  where
    go : (sets : List (List ℕ)) (at : ℕ) → at < length sets → get_or (map number sets) at 0 ≡ number (get_or sets at set)
    go [] at l = absurd (omega arith)
    go (s ∷ sets) zero l = refl
    go (s ∷ sets) (suc at) l = go sets at (omega arith)

-- ---- labels by their places
pub meanings_step : (f : ℕ → List ℕ) (n i : ℕ) (old new : List ℕ) → i < n → old ≡ flat_map f (take i (count_from 0 n)) → new ≡ old ++ f i → new ≡ flat_map f (take (i + 1) (count_from 0 n))
meanings_step f n i old new l e a =
    let short : i < length (count_from 0 n) = (let m = length-count_from 0 n in omega (arith, m, l)) in
    let longer : take (i + 1) (count_from 0 n) ≡ take i (count_from 0 n) ++ i ∷ []
    = take_more (count_from 0 n) i 0 short ∙ ap (λ p. take i (count_from 0 n) ++ p ∷ []) (get_or-count_from 0 n i 0 l ∙ omega arith) in
    a ∙ ap (λ w. w ++ f i) e ∙ sym (flat_map_push (take i (count_from 0 n))) ∙ ap (flat_map f) (sym longer)
  where
    flat_map_push : (xs : List ℕ) → flat_map f (xs ++ i ∷ []) ≡ flat_map f xs ++ f i
    flat_map_push [] = append-nil (f i)
      where
        append-nil : (xs : List ℕ) → xs ++ [] ≡ xs
        append-nil [] = refl
        append-nil (x ∷ xs) = ap (λ w. x ∷ w) (append-nil xs)
    flat_map_push (x ∷ xs) = ap (λ w. f x ++ w) (flat_map_push xs) ∙ sym (append_assoc (f x) (flat_map f xs) (f i))

pub meanings_done : (f : ℕ → List ℕ) (n i : ℕ) (text : List ℕ) → n ≤ i → text ≡ flat_map f (take i (count_from 0 n)) → text ≡ flat_map f (count_from 0 n)
meanings_done f n i text l e = e ∙ ap (flat_map f) (take_all (count_from 0 n) i (let m = length-count_from 0 n in omega (arith, m, l)))
