-- The sets of entries, in order and searched.
use Rattle.std.proofs.Common.{◌≡◌, ℕ, zero, suc, ◌<◌, ◌≤◌, ◌+◌, Bool, true, false, List, [], ◌∷◌, length, get_or, refl, sym, ap, ◌∙◌, subst, arith, inl, inr, Result, Ok, Err, Ordering, Option, Some, None, not, eqb, ◌-◌}
use Rattle.std.specs.Option.{is_some}
use Rattle.std.specs.Prelude.{Contains, IsTrue, ◌↔◌, MatchOption, MatchResult}
use Rattle.std.specs.List.{list_any}
use Rattle.std.specs.List.Sorted.{IsBinarySearchResult, IsNonDecreasingBy, IsSearchInRange}
use Rattle.std.specs.Ordering.{nat_cmp, is_ge, ordering_index}
use Rattle.std.specs.declared.cmp.Ordering.TheVariants.{Less, Equal, Greater}
use Rattle.std.proofs.lemmas.Bool.{cases_lt, false≢true}
use Rattle.std.proofs.lemmas.Bool.Decides.{nat_tests}
use Rattle.std.proofs.lemmas.Cmp.{ranked}
use Rattle.std.proofs.lemmas.List.{length-map}
use Rattle.std.proofs.lemmas.List.Sorted.{IsNonDecreasingBy-from_default}
use Rattle.re_labels.proofs.Before.{same_list-refl, same_list-same}
use Rattle.re_labels.proofs.Membership.{AllByRecursion-contains, Contains-In, In-Contains, any_found, any_true}
use Rattle.re_labels.proofs.Numbers.{number_apart}
use Rattle.re_labels.proofs.Rising.{same_members}
use Rattle.re_labels.proofs.Tests.{eqb-same, eqb-true}
use Rattle.re_labels.specs.Lists.{IsRising, place_of, same_list}
use Rattle.re_labels.specs.Sets.{IsLabelSet, number}
use Rattle.re_labels.specs.Rows.{IsRow, set_at}
use Rattle.re_problem.specs.Steps.{SetEntry, entry_sets}
use Rattle.re_labels.proofs.MaxSets.{lower_chain, max_sets_law}
use Rattle.re_labels.specs.GoodRows.{max_rows, max_sets}
use Rattle.re_check.proofs.AllowedImages.{set_at-entry}
use Rattle.re_check.proofs.Telling.{at-all, held-read, item-at, read-held, walk-done, walk-fails, walk-more}
use Rattle.re_check.specs.EntryLaws.{RowSetsLaw}
use Rattle.re_check.specs.StepClauses.{HasRowSets, OccursInRows}
use Rattle.re_problem.proofs.Places.{rising_rest}
use Rattle.re_labels.specs.declared.TheConstants.{MAX_LABELS}

-- the first set has the lower number
abbrev pub IsLowerSet : List ℕ → List ℕ → Type 0
IsLowerSet s t = number s < number t

-- ---- sets that ascend
pub steps-rise : (sets : List (List ℕ)) → ((k : ℕ) → suc k < length sets → number (get_or sets k []) < number (get_or sets (suc k) [])) → IsRising IsLowerSet sets
steps-rise [] each = tt
steps-rise (s ∷ []) each = tt
steps-rise (s ∷ t ∷ sets) each = (each 0 (omega arith), steps-rise (t ∷ sets) (λ k l. each (suc k) (omega arith)))

pub rise-steps : (sets : List (List ℕ)) (k : ℕ) → IsRising IsLowerSet sets → suc k < length sets → number (get_or sets k []) < number (get_or sets (suc k) [])
rise-steps [] k rising l = absurd (omega arith)
rise-steps (s ∷ []) k rising l = absurd (omega arith)
rise-steps (s ∷ t ∷ sets) zero rising l = rising.0
rise-steps (s ∷ t ∷ sets) (suc k) rising l = rise-steps (t ∷ sets) k rising.1 (omega arith)

head_lowest : (s : List ℕ) (sets : List (List ℕ)) (j : ℕ) → IsRising IsLowerSet (s ∷ sets) → j < length sets → number s < number (get_or sets j [])
head_lowest s [] j rising l = absurd (omega arith)
head_lowest s (t ∷ sets) zero rising l = rising.0
head_lowest s (t ∷ sets) (suc j) rising l = let more : number t < number (get_or sets j []) = head_lowest t sets j rising.1 (omega arith) in let first : number s < number t = rising.0 in omega arith

pub rise-below : (sets : List (List ℕ)) (i j : ℕ) → IsRising IsLowerSet sets → i < j → j < length sets → number (get_or sets i []) < number (get_or sets j [])
rise-below [] i j rising below l = absurd (omega arith)
rise-below (s ∷ sets) i zero rising below l = absurd (omega arith)
rise-below (s ∷ sets) zero (suc j) rising below l = head_lowest s sets j rising (omega arith)
rise-below (s ∷ sets) (suc i) (suc j) rising below l = rise-below sets i j (rising_rest s sets rising) (omega arith) (omega arith)

rise-up-to : (sets : List (List ℕ)) (i j : ℕ) → IsRising IsLowerSet sets → i ≤ j → j < length sets → number (get_or sets i []) ≤ number (get_or sets j [])
rise-up-to sets i j rising up l = elim (cases_lt i j) [
  | inl below ↦ let lower : number (get_or sets i []) < number (get_or sets j []) = rise-below sets i j rising below l in omega arith
  | inr above ↦ let same : i ≡ j = omega arith in subst (λ m. number (get_or sets i []) ≤ number (get_or sets m [])) same (omega arith)
]

-- what a walk in order knows of two neighbours
not-lower : (m n : ℕ) (r : Bool) → r ≡ is_ge (nat_cmp m n) → r ≡ true → n ≤ m
not-lower m n r e t = go (nat_cmp m n) refl
  where
    go : (o : Ordering) → nat_cmp m n ≡ o → n ≤ m
    go Less c = absurd (false≢true (ap is_ge (sym c) ∙ sym e ∙ t))
    go Equal c = let same : m ≡ n = ranked m n Equal (sym c) in omega arith
    go Greater c = let more : n < m = ranked m n Greater (sym c) in omega arith

lower : (m n : ℕ) (r : Bool) → r ≡ is_ge (nat_cmp m n) → r ≡ false → m < n
lower m n r e t = go (nat_cmp m n) refl
  where
    go : (o : Ordering) → nat_cmp m n ≡ o → m < n
    go Less c = ranked m n Less (sym c)
    go Equal c = absurd (false≢true (sym t ∙ e ∙ ap is_ge c))
    go Greater c = absurd (false≢true (sym t ∙ e ∙ ap is_ge c))

-- the set of the entry that is read at a place
pub read-set : (entries : List SetEntry) (i : ℕ) (e : SetEntry) (set : List ℕ) (label : ℕ) → i < length entries → e ≡ get_or entries i e → record { set = set; label = label } ≡ e → get_or (entry_sets entries) i [] ≡ set
read-set entries i e set label l is view = set_at-entry entries i ∙ ap (λ (f : SetEntry). f.set) (item-at entries i e (record { set = []; label = 0 }) l is ∙ sym view)

pub steps-stop : (sets : List (List ℕ)) (place : ℕ) (s t : List ℕ) (r : Bool) → 1 ≤ place → place < length sets → get_or sets (place - 1) [] ≡ s → get_or sets place [] ≡ t → r ≡ is_ge (nat_cmp (number s) (number t)) → r ≡ true
    → IsRising IsLowerSet sets → ⊥
steps-stop sets place s t r low l e f told ge rising =
    let k : ℕ = place - 1 in
    let same : place ≡ suc (place - 1) = omega arith in
    let step : number (get_or sets (place - 1) []) < number (get_or sets (suc (place - 1)) []) = rise-steps sets (place - 1) rising (omega arith) in
    let lower : number s < number t = subst (λ u. number s < number u) f (subst (λ m. number s < number (get_or sets m [])) (sym same) (subst (λ u. number u < number (get_or sets (suc (place - 1)) [])) e step)) in
    let not : number t ≤ number s = not-lower (number s) (number t) r told ge in
    omega (arith, lower, not)

pub steps-more : (sets : List (List ℕ)) (place : ℕ) (s t : List ℕ) (r : Bool) → 1 ≤ place → place < length sets → get_or sets (place - 1) [] ≡ s → get_or sets place [] ≡ t → r ≡ is_ge (nat_cmp (number s) (number t)) → r ≡ false
    → ((k : ℕ) → suc k < place → number (get_or sets k []) < number (get_or sets (suc k) [])) → (k : ℕ) → suc k < place + 1 → number (get_or sets k []) < number (get_or sets (suc k) [])
steps-more sets place s t r low l e f told ge before k h = elim (cases_lt (suc k) place) [
  | inl below ↦ before k below
  | inr above ↦
      let first : k ≡ place - 1 = omega arith in
      let second : suc k ≡ place = omega arith in
      subst (λ u. number u < number (get_or sets (suc k) [])) (sym (ap (λ m. get_or sets m []) first ∙ e))
      (subst (λ u. number s < number u) (sym (ap (λ m. get_or sets m []) second ∙ f)) (lower (number s) (number t) r told ge))
]

pub steps-done : (entries : List SetEntry) (place : ℕ) → length entries ≤ place → ((k : ℕ) → suc k < place → number (get_or (entry_sets entries) k []) < number (get_or (entry_sets entries) (suc k) [])) → IsRising IsLowerSet (entry_sets entries)
steps-done entries place whole each = steps-rise (entry_sets entries) (λ k l. each k (let m : suc k < length entries = subst (λ m. suc k < m) (length-map entries (λ (e : SetEntry). e.set)) l in omega arith))

pub sets-place : (entries : List SetEntry) (i : ℕ) → i < length entries → i < length (entry_sets entries)
sets-place entries i l = subst (λ m. i < m) (sym (length-map entries (λ (e : SetEntry). e.set))) l

-- ---- a search
-- what a binary search for the set finds: a place of its number, or there is none
abbrev pub IsFound : List SetEntry → List ℕ → Result ℕ ℕ → Type 0
IsFound entries set r = MatchResult r (λ i. (i < length entries) × (number (set_at (entry_sets entries) i) ≡ number set)) (λ i. Contains (entry_sets entries) set → ⊥)

-- where two sets that ascend have one number they stand at one place, so the first place of a set is any place of it
pub place_of-there : (sets : List (List ℕ)) (i : ℕ) (set : List ℕ) → IsRising IsLowerSet sets → i < length sets → get_or sets i [] ≡ set → place_of sets set ≡ i
place_of-there [] i set rising l e = absurd (omega arith)
place_of-there (s ∷ sets) zero set rising l e =
    let same : same_list s set ≡ true = subst (λ u. same_list s u ≡ true) e (same_list-refl s) in rw same refl
place_of-there (s ∷ sets) (suc i) set rising l e =
    let lower : number s < number (get_or sets i []) = head_lowest s sets i rising (omega arith) in
    let apart : same_list s set ≡ false = other (same_list s set) refl (subst (λ u. number s < number u) e lower) in
    rw apart (ap suc (place_of-there sets i set (rising_rest s sets rising) (omega arith) e))
  where
    other : (b : Bool) → same_list s set ≡ b → number s < number set → b ≡ false
    other false told low = refl
    other true told low = let same : s ≡ set = same_list-same s set told in absurd (let m : number s ≡ number set = ap number same in omega arith)

module _ (entries : List SetEntry) (rising : IsRising IsLowerSet (entry_sets entries)) (set : List ℕ) where
  abbrev none : SetEntry
  none = record { set = []; label = 0 }

  comparisons_rise : IsNonDecreasingBy (λ (e : SetEntry). ordering_index (nat_cmp (number e.set) (number set))) entries
  comparisons_rise = IsNonDecreasingBy-from_default (λ (e : SetEntry). ordering_index (nat_cmp (number e.set) (number set))) entries (record { set = []; label = 0 }) (λ i j up l.
      let keys : number (get_or entries i (record { set = []; label = 0 })).set ≤ number (get_or entries j (record { set = []; label = 0 })).set =
      subst (λ s. number s ≤ number (get_or entries j (record { set = []; label = 0 })).set) (set_at-entry entries i)
      (subst (λ s. number (set_at (entry_sets entries) i) ≤ number s) (set_at-entry entries j) (rise-up-to (entry_sets entries) i j rising up (subst (λ m. j < m) (sym (length-map entries (λ (e : SetEntry). e.set))) l))) in
      grind (arith, nat_tests))

  pub searched : (r : Result ℕ ℕ) → IsSearchInRange r (length entries) → IsBinarySearchResult (λ (e : SetEntry). nat_cmp (number e.set) (number set)) entries r → IsFound entries set r
  searched (Ok i) bound equal =
      (bound, ap number (set_at-entry entries i) ∙ ranked _ _ _ (sym (equal (record { set = []; label = 0 }))))
  searched (Err i) bound parted = λ held. absent (held-read (entry_sets entries) set [] held)
    where
      absent : (k : ℕ) × (k < length (entry_sets entries)) × (get_or (entry_sets entries) k [] ≡ set) → ⊥
      absent (k, l, e) =
          let within : k < length entries = subst (λ m. k < m) (length-map entries (λ (e : SetEntry). e.set)) l in
          let same : number (get_or entries k (record { set = []; label = 0 })).set ≡ number set = ap number (sym (set_at-entry entries k) ∙ e) in
          elim (cases_lt k i) [
            | inl low ↦ let less : number (get_or entries k (record { set = []; label = 0 })).set < number set = ranked _ _ _ (sym ((parted comparisons_rise).0 k (record { set = []; label = 0 }) (omega arith) low)) in omega arith
            | inr high ↦ let more : number set < number (get_or entries k (record { set = []; label = 0 })).set = ranked _ _ _ (sym ((parted comparisons_rise).1 k (record { set = []; label = 0 }) high within)) in omega arith
          ]

-- what is found
pub found-place : (entries : List SetEntry) (set there : List ℕ) (i : ℕ) (e : SetEntry) (label : ℕ) → IsRising IsLowerSet (entry_sets entries) → i < length entries → number (set_at (entry_sets entries) i) ≡ number set
    → e ≡ get_or entries i e → record { set = there; label = label } ≡ e → IsLabelSet MAX_LABELS set → IsLabelSet MAX_LABELS there
    → (i < length entries) × Contains (entry_sets entries) set × (place_of (entry_sets entries) set ≡ i)
found-place entries set there i e label rising l same is view a b =
    let read : get_or (entry_sets entries) i [] ≡ there = read-set entries i e there label l is view in
    let equal : there ≡ set = number_apart MAX_LABELS there set b a (ap number (sym read) ∙ same) in
    let at : get_or (entry_sets entries) i [] ≡ set = read ∙ equal in
    (l, subst (Contains (entry_sets entries)) at (read-held (entry_sets entries) i [] (sets-place entries i l)), place_of-there (entry_sets entries) i set rising (sets-place entries i l) at)

-- what is known of a place that was looked for
abbrev pub IsPlaceFor : List SetEntry → List ℕ → Option ℕ → Type 0
IsPlaceFor entries set o = MatchOption o (Contains (entry_sets entries) set → ⊥) (λ place. (place < length entries) × Contains (entry_sets entries) set × (place_of (entry_sets entries) set ≡ place))

pub place-absent : (entries : List SetEntry) (set : List ℕ) (o : Option ℕ) (b : Bool) → IsPlaceFor entries set o → is_some o ≡ not b → b ≡ true → Contains (entry_sets entries) set → ⊥
place-absent entries set None b known e t = known
place-absent entries set (Some x) true known e t = absurd (false≢true (sym e))
place-absent entries set (Some x) false known e t = absurd (false≢true t)

pub place-held : (entries : List SetEntry) (set : List ℕ) (o : Option ℕ) (b : Bool) → IsPlaceFor entries set o → is_some o ≡ not b → b ≡ false → Contains (entry_sets entries) set
place-held entries set None true known e t = absurd (false≢true (sym t))
place-held entries set None false known e t = absurd (false≢true e)
place-held entries set (Some x) b known e t = known.1

-- ---- the sets of a row
-- a row that a test of numbers finds holds the set
pub numbered-held : (row : List (List ℕ)) (set : List ℕ) (r : Bool) → ((s : List ℕ) → Contains row s → IsLabelSet MAX_LABELS s) → IsLabelSet MAX_LABELS set → r ≡ list_any (λ s. eqb (number s) (number set)) row → IsTrue r ↔ Contains row set
numbered-held row set r sets is e = (λ h. found (any_found (λ s. eqb (number s) (number set)) row (sym e ∙ h)), λ held. e ∙ any_true (λ s. eqb (number s) (number set)) row set held (eqb-same (number set)))
  where
    found : (s : List ℕ) × Contains row s × (eqb (number s) (number set) ≡ true) → Contains row set
    found (s, held, same) = subst (Contains row) (number_apart MAX_LABELS s set (sets s held) is (eqb-true (number s) (number set) same)) held

pub row-holds : (row given : List (List ℕ)) (set : List ℕ) (r : Bool) → given ≡ row → IsRow (length row) MAX_LABELS row → IsLabelSet MAX_LABELS set → r ≡ list_any (λ s. eqb (number s) (number set)) given → IsTrue r ↔ Contains row set
row-holds row given set r same is one e =
    numbered-held row set r (λ s held. (AllByRecursion-contains (λ s. IsLabelSet MAX_LABELS s × (0 < length s)) row s is.sets held).0) one (e ∙ ap (list_any (λ s. eqb (number s) (number set))) same)

-- each set of the row is one of the entries'
abbrev pub HasSetsOf : List SetEntry → List (List ℕ) → Type 0
HasSetsOf entries row = (set : List ℕ) → Contains row set → Contains (entry_sets entries) set

pub row-fails : (entries : List SetEntry) (row given : List (List ℕ)) (i : ℕ) (set : List ℕ) → given ≡ row → i < length given → set ≡ get_or given i set → (Contains (entry_sets entries) set → ⊥) → IsTrue false ↔ HasSetsOf entries row
row-fails entries row given i set same l is absent =
    subst (λ r. IsTrue false ↔ HasSetsOf entries r) same (walk-fails (Contains (entry_sets entries)) given i set l is absent (λ all s held. all s held))

pub row-more : (entries : List SetEntry) (row given : List (List ℕ)) (i : ℕ) (set : List ℕ) → given ≡ row → i < length given → set ≡ get_or given i set → ((k : ℕ) → k < i → Contains (entry_sets entries) (get_or row k []))
    → Contains (entry_sets entries) set → (k : ℕ) → k < i + 1 → Contains (entry_sets entries) (get_or row k [])
row-more entries row given i set same l is before held =
    walk-more (Contains (entry_sets entries)) row [] i set (subst (λ r. i < length r) same l) (is ∙ ap (λ r. get_or r i set) same) before held

pub row-done : (entries : List SetEntry) (row given : List (List ℕ)) (i : ℕ) → given ≡ row → length given ≤ i → ((k : ℕ) → k < i → Contains (entry_sets entries) (get_or row k [])) → IsTrue true ↔ HasSetsOf entries row
row-done entries row given i same whole each = walk-done (Contains (entry_sets entries)) row [] i (subst (λ r. length r ≤ i) same whole) each (λ all. all)

pub rows-all : (entries : List SetEntry) (rows : List (List (List ℕ))) → ((row : List (List ℕ)) → Contains rows row → HasSetsOf entries row) → (set : List ℕ) → OccursInRows rows set → Contains (entry_sets entries) set
rows-all entries rows each set (row, held, at) = each row held set at

pub none-occurs : (rows : List (List (List ℕ))) (set : List ℕ) (i : ℕ) → length rows ≤ i → ((k : ℕ) → k < i → Contains (get_or rows k []) set → ⊥) → OccursInRows rows set → ⊥
none-occurs rows set i whole each (row, held, at) = at-all (λ row. Contains row set → ⊥) rows [] i whole each row held at

pub entries-occur : (entries : List SetEntry) (rows : List (List (List ℕ))) (i : ℕ) → length entries ≤ i → ((k : ℕ) → k < i → OccursInRows rows (get_or (entry_sets entries) k [])) → (set : List ℕ) → Contains (entry_sets entries) set → OccursInRows rows set
entries-occur entries rows i whole each = at-all (OccursInRows rows) (entry_sets entries) [] i (subst (λ m. m ≤ i) (sym (length-map entries (λ (e : SetEntry). e.set))) whole) each

pub row-has-sets : (rows : List (List (List ℕ))) (entries : List SetEntry) → HasRowSets rows entries → (row : List (List ℕ)) → Contains rows row → HasSetsOf entries row
row-has-sets rows entries has row held set at = (has.sets set).1 (row, held, at)

-- ---- the law
pub row_sets_law : RowSetsLaw
row_sets_law constraint n entries = (to, back)
  where
    to : HasRowSets (max_rows constraint n) entries → entry_sets entries ≡ max_sets constraint n
    to has = same_members IsLowerSet lower_chain (λ s h. omega (arith, h)) (entry_sets entries) (max_sets constraint n) has.ascends (max_sets_law constraint n).0
        (λ set i. Contains-In set (max_sets constraint n) (((max_sets_law constraint n).1 set).1 ((has.sets set).0 (In-Contains set (entry_sets entries) i))))
        (λ set i. Contains-In set (entry_sets entries) ((has.sets set).1 (((max_sets_law constraint n).1 set).0 (In-Contains set (max_sets constraint n) i))))

    back : entry_sets entries ≡ max_sets constraint n → HasRowSets (max_rows constraint n) entries
    back same = record {
      ascends = subst (IsRising IsLowerSet) (sym same) (max_sets_law constraint n).0;
      sets = λ set. (
        λ held. ((max_sets_law constraint n).1 set).0 (subst (λ l. Contains l set) same held),
        λ occurs. subst (λ l. Contains l set) (sym same) (((max_sets_law constraint n).1 set).1 occurs),
      );
    }
