-- Upper steps that fail a clause: something shows it.
use Rattle.std.proofs.Common.{◌≡◌, ℕ, zero, suc, ◌+◌, ◌<◌, ◌≤◌, Bool, true, false, eqb, not, ◌&&◌, List, [], ◌∷◌, length, map, refl, sym, ap, ◌∙◌, subst, ◌⊎◌, inl, inr, arith, Some, None, Option, true≢false}
use Rattle.std.specs.Prelude.{Contains, find, if◌then◌else◌, nat_lt}
use Rattle.std.specs.List.{AllByRecursion, list_all, list_any}
use Rattle.std.specs.Option.{option_and_then, option_map, option_or}
use Rattle.std.proofs.lemmas.Bool.Decides.{nat_tests}
use Rattle.re_labels.proofs.Membership.{AllByRecursion-contains, Contains-In, In, In-Contains, In-map, In-map_from, all-In, any_found, any_true, length-count_from, length-map'}
use Rattle.re_labels.proofs.Rising.{same_members}
use Rattle.re_labels.proofs.Tests.{eqb-same, eqb-true, not-true}
use Rattle.re_labels.specs.Lists.{IsRising, count_from}
use Rattle.re_labels.specs.Configs.{IsConfig}
use Rattle.re_labels.specs.Rows.{set_at}
use Rattle.re_labels.proofs.Goodness.{IsAllowed-is_allowed, IsGood-is_good, is_allowed-IsAllowed, is_good-IsGood}
use Rattle.re_labels.specs.Constraints.{Constraint, Has, IsConstraint}
use Rattle.re_labels.specs.GoodRows.{IsAllowed, IsGood, is_allowed, is_good}
use Rattle.re_problem.specs.Steps.{SetEntry, entry_sets, set_for}
use Rattle.re_check.proofs.AllowedImages.{set_at-entry}
use Rattle.re_check.specs.StepClauses.{HasAllowedImages, HasGoodImages, HasNextLabels, entry_labels}
use Rattle.re_problem.specs.Verdicts.{first_label, first_not_allowed, first_not_good}
use Rattle.re_laws.proofs.Preorder.{rising-count_from}
use Rattle.re_problem.proofs.VerdictLaws.{label-none}
use Rattle.re_why.proofs.Found.{found_passes, none_all}
use Rattle.re_why.proofs.Giving.{gives-at_last, gives-or, map-none, map-some, unordered-rising, unordered-some}
use Rattle.re_why.proofs.Rows.{bad_shown, first_label-some, none_bad}
use Rattle.re_why.specs.BadChoice.{first_bad}
use Rattle.re_why.specs.Finding.{bad_sets, bad_witness, empty_set, first_unordered, is_empty, label_witness, labels_ascend, names_label, shut_witness}
use Rattle.re_why.specs.Laws.{Gives, LabelWitnessLaw, UpperWitnessLaw}
use Rattle.re_why.specs.Witnesses.{ShowsBad, ShowsLabels, ShowsShut}
use Rattle.re_why.specs.declared.witness.Witness.{Witness}
use Rattle.re_why.specs.declared.witness.Witness.TheVariants.{BadSets, EmptySet, LabelOrder, MissingLabel, ShutSets}

-- ---- U2: the labels
-- the numbers below n are those of a list that rises, is below n and has each of them
count-below : (lo n x : ℕ) → In x (count_from lo n) → x < lo + n
count-below lo zero x i = absurd i
count-below lo (suc n) x (inl e) = omega (arith, e)
count-below lo (suc n) x (inr i) = let l = count-below (suc lo) n x i in omega (arith, l)

below-count : (lo n x : ℕ) → lo ≤ x → x < lo + n → In x (count_from lo n)
below-count lo zero x low l = absurd (omega (arith, low, l))
below-count lo (suc n) x low l = elim (at_or_past lo x low) [ inl e ↦ inl (sym e) | inr past ↦ inr (below-count (suc lo) n x past (omega (arith, l))) ]
  where
    at_or_past : (a b : ℕ) → a ≤ b → (a ≡ b) ⊎ (suc a ≤ b)
    at_or_past a b h = grind arith

pub all_labels : (n : ℕ) (xs : List ℕ) → IsRising (λ x y. x < y) xs → AllByRecursion (λ x. x < n) xs → ((x : ℕ) → x < n → Contains xs x) → xs ≡ count_from 0 n
all_labels n xs rises below each =
    same_members (λ x y. x < y) (λ x y z h k. omega (arith, h, k)) (λ x h. omega (arith, h)) xs (count_from 0 n) rises (rising-count_from 0 n)
    (λ x i. below-count 0 n x (omega arith) (let l = AllByRecursion-contains (λ x. x < n) xs x below (In-Contains x xs i) in omega (arith, l)))
    (λ x i. let l = count-below 0 n x i in Contains-In x xs (each x (omega (arith, l))))

module _ (n : ℕ) (entries : List SetEntry) (below : AllByRecursion (λ (entry : SetEntry). entry.label < n) entries) where
  order_here : (k : ℕ) → first_unordered labels_ascend 0 entries ≡ Some k → ShowsLabels n entries (LabelOrder k)
  order_here k e =
      let (i, is, entry, next, at, behind, fails) = unordered-some labels_ascend 0 entries k e in
      let same : i ≡ k = omega (arith, is) in
      subst (λ m. ShowsLabels n entries (LabelOrder m)) same (entry, next, at, behind, λ l. let passes : nat_lt entry.label next.label ≡ true = grind (arith, nat_tests) in true≢false (sym passes ∙ fails))

  rises : (xs : List SetEntry) → IsRising (λ x y. labels_ascend x y ≡ true) xs → IsRising (λ x y. x < y) (entry_labels xs)
  rises [] h = tt
  rises (x ∷ []) h = tt
  rises (x ∷ y ∷ xs) h = let passes : nat_lt x.label y.label ≡ true = h.0 in let l : x.label < y.label = grind (arith, nat_tests) in (l, rises (y ∷ xs) h.1)

  all_below : (xs : List SetEntry) → AllByRecursion (λ (entry : SetEntry). entry.label < n) xs → AllByRecursion (λ x. x < n) (entry_labels xs)
  all_below [] h = tt
  all_below (x ∷ xs) h = (h.0, all_below xs h.1)

  named-is : (x : ℕ) → names_label entries x ≡ true → Contains (entry_labels entries) x
  named-is x passes =
      let (entry, held, same) = any_found (λ (entry : SetEntry). eqb entry.label x) entries passes in
      subst (Contains (entry_labels entries)) (eqb-true entry.label x same) (In-Contains entry.label (entry_labels entries) (In-map (λ (f : SetEntry). f.label) entry entries (Contains-In entry entries held)))

  is-named : (x : ℕ) → Contains (entry_labels entries) x → names_label entries x ≡ true
  is-named x held =
      let (entry, inside, same) = In-map_from (λ (f : SetEntry). f.label) x entries (Contains-In x (entry_labels entries) held) in
      any_true (λ (entry : SetEntry). eqb entry.label x) entries entry (In-Contains entry entries inside) (subst (λ y. eqb entry.label y ≡ true) (sym same) (eqb-same entry.label))

  missing_here : (x : ℕ) → first_label (λ x. not (names_label entries x)) n ≡ Some x → ShowsLabels n entries (MissingLabel x)
  missing_here x e =
      let (l, fails) = first_label-some (λ x. not (names_label entries x)) n x e in
      (l, λ held. true≢false (sym (is-named x held) ∙ not-true (names_label entries x) fails))

  not-false : (b : Bool) → not b ≡ false → b ≡ true
  not-false true e = refl
  not-false false e = absurd (true≢false e)

  empty_here : (x : ℕ) → empty_set entries ≡ Some x → ShowsLabels n entries (EmptySet x)
  empty_here x e =
      let (entry, found, same) = map-some (λ (entry : SetEntry). entry.label) (find is_empty entries) x e in
      let (none, inside) = found_passes is_empty entries entry (sym found) in
      subst (λ y. Contains entries (record { set = []; label = y })) same (subst (λ s. Contains entries (record { set = s; label = entry.label })) (nothing entry.set none) (In-Contains entry entries inside))
    where
      nothing : (s : List ℕ) → eqb (length s) 0 ≡ true → s ≡ []
      nothing [] e = refl
      nothing (x ∷ s) e = absurd (let z : suc (length s) ≡ 0 = eqb-true (suc (length s)) 0 e in omega (arith, z))

  filled : (xs : List SetEntry) → find is_empty xs ≡ None → AllByRecursion (λ s. 0 < length s) (entry_sets xs)
  filled [] e = tt
  filled (x ∷ xs) e = go (is_empty x) refl (filled xs) e
    where
      go : (b : Bool) → is_empty x ≡ b → (find is_empty xs ≡ None → AllByRecursion (λ s. 0 < length s) (entry_sets xs)) → (if b then Some x else find is_empty xs) ≡ None → (0 < length x.set) × AllByRecursion (λ s. 0 < length s) (entry_sets xs)
      go true b later e = absurd (cc)
      go false b later e = (some x.set b, later e)
        where
          some : (s : List ℕ) → eqb (length s) 0 ≡ false → 0 < length s
          some [] e = absurd (true≢false e)
          some (y ∷ s) e = omega arith

  labels_shown : (HasNextLabels n entries → ⊥) → Gives (label_witness n entries) (ShowsLabels n entries)
  labels_shown isnt =
      let P = ShowsLabels n entries in
      let missing = first_label (λ x. not (names_label entries x)) n in
      gives-or (option_map LabelOrder (first_unordered labels_ascend 0 entries)) _ P (λ w e. let (k, found, same) = map-some LabelOrder (first_unordered labels_ascend 0 entries) w e in subst P same (order_here k found)) (λ order.
      gives-or (option_map MissingLabel missing) _ P (λ w e. let (x, found, same) = map-some MissingLabel missing w e in subst P same (missing_here x found)) (λ whole.
      gives-at_last (option_map EmptySet (empty_set entries)) P (λ w e. let (x, found, same) = map-some EmptySet (empty_set entries) w e in subst P same (empty_here x found)) (λ none.
      isnt (record {
        labels = all_labels n (entry_labels entries) (rises entries (unordered-rising labels_ascend 0 entries (map-none LabelOrder (first_unordered labels_ascend 0 entries) order))) (all_below entries below)
            (λ x l. named-is x (not-false (names_label entries x) (label-none (λ x. not (names_label entries x)) n (map-none MissingLabel missing whole) x l)));
        filled = filled entries (map-none (λ (entry : SetEntry). entry.label) (find is_empty entries) (map-none EmptySet (empty_set entries) none));
      }))))

pub label_witness_law : LabelWitnessLaw
label_witness_law n entries below isnt = labels_shown n entries below isnt

-- ---- U3, U4: the sets
module _ (n : ℕ) (before next : Constraint) (entries : List SetEntry) (is : IsConstraint n next) (degree : next.degree ≡ before.degree) (has : HasNextLabels n entries) where
  sets-for : (config : List ℕ) → map (set_at (entry_sets entries)) config ≡ map (set_for entries) config
  sets-for [] = refl
  sets-for (x ∷ config) = λ i. set_at-entry entries x i ∷ sets-for config i

  count_entries : length entries ≡ n
  count_entries = sym (length-map' (λ (e : SetEntry). e.label) entries) ∙ (ap length has.labels ∙ length-count_from 0 n)

  filled_at : (xs : List SetEntry) → AllByRecursion (λ s. 0 < length s) (entry_sets xs) → (x : ℕ) → x < length xs → 0 < length (set_for xs x)
  filled_at [] h x l = absurd (omega (arith, l))
  filled_at (e ∷ xs) h zero l = h.0
  filled_at (e ∷ xs) h (suc x) l = filled_at xs h.1 x (omega (arith, l))

  all_filled : (config : List ℕ) → AllByRecursion (λ x. x < n) config → AllByRecursion (λ s. 0 < length s) (map (set_for entries) config)
  all_filled [] h = tt
  all_filled (x ∷ config) h = (filled_at entries has.filled x (let l = h.0 in omega (arith, l, count_entries)), all_filled config h.1)

  good-by : (config : List ℕ) → Contains next.configs config → first_bad before (map (set_for entries) config) ≡ None → IsGood before (map (set_for entries) config)
  good-by config held none =
      let c = AllByRecursion-contains (IsConfig next.degree n) next.configs config is.configs held in
      record { count = length-map' (set_for entries) config ∙ (c.count ∙ degree); filled = all_filled config c.below; choice = none_bad before (map (set_for entries) config) none }

  bad_shown_here : (HasGoodImages entries next before → ⊥) → Gives (bad_witness before next entries) (ShowsBad before next entries)
  bad_shown_here isnt = go (first_not_good (entry_sets entries) next before) refl
    where
      test : List ℕ → Bool
      test config = is_good before (map (set_at (entry_sets entries)) config)

      go : (o : Option (List ℕ)) → first_not_good (entry_sets entries) next before ≡ o → Gives (option_and_then (bad_sets before entries) o) (ShowsBad before next entries)
      go None e = isnt (λ config held. subst (IsGood before) (sets-for config) (is_good-IsGood before (map (set_at (entry_sets entries)) config) (all-In test next.configs (none_all test next.configs e) config (Contains-In config next.configs held))))
      go (Some config) e =
          let (fails, inside) = found_passes (λ config. not (test config)) next.configs config (sym e) in
          let held = In-Contains config next.configs inside in
          gives-at_last (bad_sets before entries config) (ShowsBad before next entries)
          (λ w g.
          let (labels, found, same) = map-some (BadSets config (map (set_for entries) config)) (first_bad before (map (set_for entries) config)) w g in
          let (chosen, bad) = bad_shown before (map (set_for entries) config) labels found in
          subst (ShowsBad before next entries) same (held, refl, chosen, bad))
          (λ none.
          let good : IsGood before (map (set_for entries) config) = good-by config held (map-none (BadSets config (map (set_for entries) config)) (first_bad before (map (set_for entries) config)) none) in
          let passes : test config ≡ true = ap (is_good before) (sets-for config) ∙ IsGood-is_good before (map (set_for entries) config) good in
          true≢false (sym passes ∙ not-true (test config) fails))

  shut_shown : (HasAllowedImages entries next before → ⊥) → Gives (shut_witness before next entries) (ShowsShut before next entries)
  shut_shown isnt =
      gives-at_last (shut_witness before next entries) (ShowsShut before next entries)
      (λ w g.
      let (config, found, same) = map-some (λ config. ShutSets config (map (set_for entries) config)) (first_not_allowed (entry_sets entries) next before) w g in
      let (fails, inside) = found_passes (λ config. not (is_allowed before (map (set_at (entry_sets entries)) config))) next.configs config (sym found) in
      subst (ShowsShut before next entries) same
      (In-Contains config next.configs inside, refl, λ allowed. true≢false (sym (ap (is_allowed before) (sets-for config) ∙ IsAllowed-is_allowed before (map (set_for entries) config) allowed) ∙ not-true (is_allowed before (map (set_at (entry_sets entries)) config)) fails)))
      (λ none. isnt (λ config held. subst (IsAllowed before) (sets-for config) (is_allowed-IsAllowed before (map (set_at (entry_sets entries)) config)
      (all-In (λ config. is_allowed before (map (set_at (entry_sets entries)) config)) next.configs (none_all (λ config. is_allowed before (map (set_at (entry_sets entries)) config)) next.configs (map-none (λ config. ShutSets config (map (set_for entries) config)) (first_not_allowed (entry_sets entries) next before) none)) config (Contains-In config next.configs held)))))

pub upper_witness_law : UpperWitnessLaw
upper_witness_law n before next entries is degree has = (bad_shown_here n before next entries is degree has, shut_shown n before next entries is degree has)
