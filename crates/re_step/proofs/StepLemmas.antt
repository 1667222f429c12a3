-- The derived problem, its sets and its limits.
use Rattle.re_problem.proofs.ZeroPlaces.{get-Contains}
use Rattle.re_labels.proofs.Rows.{number_filled}
use Rattle.std.proofs.Common.{◌≡◌, ℕ, zero, suc, ◌<◌, ◌≤◌, false, cond, List, [], ◌∷◌, length, map, flat_map, get_or, Contains, Option, None, Some, is_some, inl, refl, sym, ap, ◌∙◌, subst, arith}
use Rattle.std.specs.List.{AllByRecursion}
use Rattle.std.specs.Prelude.{◌*◌, MatchOption}
use Rattle.std.proofs.lemmas.Bool.{false≢true}
use Rattle.re_labels.proofs.Sorting.{sorted_again}
use Rattle.re_labels.specs.Configs.{IsConfig, sorted}
use Rattle.re_labels.proofs.ListSets.{In-list_set, list_set-In, one_set, rising-list_set}
use Rattle.re_labels.proofs.Membership.{AllByRecursion-contains, AllByRecursion-from_contains, AllByRecursion-weaker, Contains-flat_map, Contains-flat_map_cases, Contains-map, map-alike}
use Rattle.re_labels.proofs.Before.{same_list-refl}
use Rattle.re_labels.specs.Lists.{IsRising, place_of, same_list}
use Rattle.re_labels.specs.ListSets.{list_set}
use Rattle.re_labels.specs.Sets.{IsLabelSet, number}
use Rattle.re_problem.proofs.Building.{build_law}
use Rattle.re_problem.proofs.DerivedProblem.{IsProblem-derived, max_row_ascends, rising-max_configs}
use Rattle.re_problem.specs.Derived.{derived}
use Rattle.re_problem.specs.NamedProblems.{IsNamedProblem, NamedProblem, OccursIn, built}
use Rattle.re_problem.specs.Problems.{IsProblem, Problem}
use Rattle.re_labels.proofs.MaxSets.{max_sets-from, max_sets-row, maximal, rising-max_sets}
use Rattle.re_labels.specs.Constraints.{Constraint, IsConstraint}
use Rattle.re_labels.specs.GoodRows.{max_rows, max_sets}
use Rattle.re_step.proofs.NameLemmas.{IsNames-label_names, length-label_names}
use Rattle.re_step.proofs.SetLemmas.{few_in_rows, least_first, rest_rises, same_sets}
use Rattle.re_step.specs.Derivations.{named_derived}
use Rattle.re_step.specs.LabelNames.{label_names}
use Rattle.re_labels.proofs.Numbers.{not_same}
use Rattle.re_labels.specs.declared.TheConstants.{MAX_LABELS}
use Rattle.re_labels.specs.declared.TheConstants.{MAX_ROWS}

-- ---- the sets of the maximal rows
set_is : (K : Constraint) (n : ℕ) (row : List (List ℕ)) → Contains (max_rows K n) row → (set : List ℕ) → Contains row set → IsLabelSet n set × (0 < length set)
set_is K n row held set there = AllByRecursion-contains (λ s. IsLabelSet n s × (0 < length s)) row set (maximal K n row held).is_row.sets there

pub rows_filled : (K : Constraint) (n : ℕ) (rows : List (List (List ℕ))) → rows ≡ max_rows K n → AllByRecursion (AllByRecursion (λ set. 0 < number set)) rows
rows_filled K n rows e = subst (AllByRecursion (AllByRecursion (λ set. 0 < number set))) (sym e)
    (AllByRecursion-from_contains (AllByRecursion (λ set. 0 < number set)) (max_rows K n) (λ row held. AllByRecursion-from_contains (λ set. 0 < number set) row (λ set there. number_filled set (set_is K n row held set there).1)))

pub rows_sets : (K : Constraint) (n : ℕ) (rows : List (List (List ℕ))) → n ≤ MAX_LABELS → rows ≡ max_rows K n → AllByRecursion (AllByRecursion (IsLabelSet MAX_LABELS)) rows
rows_sets K n rows most e = subst (AllByRecursion (AllByRecursion (IsLabelSet MAX_LABELS))) (sym e)
    (AllByRecursion-from_contains (AllByRecursion (IsLabelSet MAX_LABELS)) (max_rows K n) (λ row held. AllByRecursion-from_contains (IsLabelSet MAX_LABELS) row (λ set there.
    let is = (set_is K n row held set there).0 in (is.0, AllByRecursion-weaker (λ x. x < n) (λ x. x < MAX_LABELS) (λ x l. omega (arith, l, most)) set is.1))))

pub rows_alike : (K : Constraint) (n d : ℕ) (rows : List (List (List ℕ))) → d ≡ K.degree → rows ≡ max_rows K n → AllByRecursion (λ row. length row ≡ d) rows
rows_alike K n d rows f e = subst (AllByRecursion (λ row. length row ≡ d)) (sym e) (AllByRecursion-from_contains (λ row. length row ≡ d) (max_rows K n) (λ row held. (maximal K n row held).is_row.count ∙ sym f))

pub rows_few : (K : Constraint) (n : ℕ) (rows : List (List (List ℕ))) → K.degree ≤ 6 → rows ≡ max_rows K n → length rows ≤ MAX_ROWS → length (flat_map (λ row. row) rows) ≤ 6 * MAX_ROWS
rows_few K n rows six e few =
    let each : AllByRecursion (λ row. length row ≤ 6) rows
    = AllByRecursion-weaker (λ row. length row ≡ K.degree) (λ row. length row ≤ 6) (λ row f. omega (arith, f, six)) rows (rows_alike K n K.degree rows refl e) in
    let most = few_in_rows rows each in omega (arith, most, few)

pub sets_are : (K : Constraint) (n : ℕ) (rows : List (List (List ℕ))) (sets : List (List ℕ)) → rows ≡ max_rows K n → IsRising (λ s t. number s < number t) sets
    → ((z : List ℕ) → Contains sets z → Contains (flat_map (λ row. row) rows) z) → ((z : List ℕ) → Contains (flat_map (λ row. row) rows) z → Contains sets z) → sets ≡ max_sets K n
sets_are K n rows sets e rises f g = same_sets sets (max_sets K n) rises (rising-max_sets K n)
    (λ z i. let r = Contains-flat_map_cases (λ row. row) rows z (f z i) in max_sets-row K n r.0 (subst (λ l. Contains l r.0) e r.1) z r.2)
    (λ z i. let r = max_sets-from K n z i in g z (Contains-flat_map (λ row. row) rows r.0 z (subst (λ l. Contains l r.0) (sym e) r.1) r.2))

pub rows_there : (K : Constraint) (n : ℕ) (rows : List (List (List ℕ))) (sets : List (List ℕ)) → rows ≡ max_rows K n → sets ≡ max_sets K n
    → AllByRecursion (λ row. (set : List ℕ) → Contains row set → Contains sets set) rows
rows_there K n rows sets e f = subst (AllByRecursion (λ row. (set : List ℕ) → Contains row set → Contains sets set)) (sym e)
    (AllByRecursion-from_contains (λ row. (set : List ℕ) → Contains row set → Contains sets set) (max_rows K n) (λ row held set there. subst (λ l. Contains l set) (sym f) (max_sets-row K n row held set there)))

-- ---- its active configurations
pub active_is : (K : Constraint) (n : ℕ) (rows : List (List (List ℕ))) (sets configs : List (List ℕ)) → rows ≡ max_rows K n → sets ≡ max_sets K n
    → configs ≡ list_set (map (λ row. sorted (map (place_of sets) row)) rows) → configs ≡ map (map (place_of (max_sets K n))) (max_rows K n)
active_is K n rows sets configs e f c =
    let there = map (map (place_of (max_sets K n))) (max_rows K n) in
    c ∙ ap (λ r. list_set (map (λ row. sorted (map (place_of sets) row)) r)) e ∙ ap (λ s. list_set (map (λ row. sorted (map (place_of s) row)) (max_rows K n))) f
    ∙ ap list_set (map-alike (λ row. sorted (map (place_of (max_sets K n)) row)) (map (place_of (max_sets K n))) (max_rows K n) (λ row held. sorted_again (map (place_of (max_sets K n)) row) (max_row_ascends K n row held)))
    ∙ one_set (list_set there) there (rising-list_set there) (rising-max_configs K n) (In-list_set there) (list_set-In there)

-- ---- it is a problem with names
pub wider : (n : ℕ) (constraint : Constraint) → n ≤ MAX_LABELS → IsConstraint n constraint → IsConstraint MAX_LABELS constraint
wider n constraint few is = record {
  least = is.least;
  most = is.most;
  configs = AllByRecursion-weaker (IsConfig constraint.degree n) (IsConfig constraint.degree MAX_LABELS) (λ config c. record {
    count = c.count;
    below = AllByRecursion-weaker (λ x. x < n) (λ x. x < MAX_LABELS) (λ x l. omega (arith, l, few)) config c.below;
    ascends = c.ascends;
  }) constraint.configs is.configs;
  ascends = is.ascends;
}

-- in ascending order, the place of the set at a place is that place
place_again : (sets : List (List ℕ)) → IsRising (λ s t. number s < number t) sets → (i : ℕ) → i < length sets → place_of sets (get_or sets i []) ≡ i
place_again [] r i l = absurd (omega arith)
place_again (s ∷ sets) r zero l = ap (λ b. cond b 0 (suc (place_of sets s))) (same_list-refl s)
place_again (s ∷ sets) r (suc i) l =
    let t = get_or sets i [] in
    let low = least_first s sets r t (i, omega arith, there sets i (omega arith)) in
    let apart : same_list s t ≡ false = not_same s t (λ e. let same : number s ≡ number t = ap number e in omega (arith, low, same)) in
    ap (λ b. cond b 0 (suc (place_of sets t))) apart ∙ ap suc (place_again sets (rest_rises s sets r) i (omega arith))
  where
    there : (sets : List (List ℕ)) (i : ℕ) → i < length sets → get_or sets i (get_or sets i []) ≡ get_or sets i []
    there [] i l = absurd (omega arith)
    there (s ∷ sets) zero l = refl
    there (s ∷ sets) (suc i) l = there sets i (omega arith)

-- each set is one of a row, and so its place is a label of an active configuration
each_occurs : (P : Problem) (label : ℕ) → label < length (max_sets P.passive P.labels) → OccursIn (derived P).active label
each_occurs P label l =
    let sets = max_sets P.passive P.labels in
    let set = get_or sets label [] in
    let r = max_sets-from P.passive P.labels set (get-Contains sets label l) in
    let at : place_of sets set ≡ label = place_again sets (rising-max_sets P.passive P.labels) label l in
    (map (place_of sets) r.0, Contains-map (map (place_of sets)) (max_rows P.passive P.labels) r.0 r.1, subst (Contains (map (place_of sets) r.0)) at (Contains-map (place_of sets) r.0 set r.2))

pub IsNamedProblem-derived : (P : Problem) → IsProblem P → length (max_sets P.passive P.labels) ≤ MAX_LABELS → IsNamedProblem (named_derived P)
IsNamedProblem-derived P is few =
    let n = length (max_sets P.passive P.labels) in
    record {
      names = IsNames-label_names n few;
      problem = subst (λ m. IsProblem (record { labels = m; active = (derived P).active; passive = (derived P).passive })) (sym (length-label_names n)) (IsProblem-derived P is);
      occur = λ label l. inl (each_occurs P label (subst (λ m. label < m) (length-label_names n) l));
    }

pub built_is : (P : Problem) (names : List (List ℕ)) (active passive : Constraint) (result : Option NamedProblem) → IsProblem P → length (max_sets P.passive P.labels) ≤ MAX_LABELS
    → names ≡ label_names (length (max_sets P.passive P.labels)) → active ≡ (derived P).active → passive ≡ (derived P).passive → result ≡ built names active passive → result ≡ Some (named_derived P)
built_is P names active passive result is few n a p e =
    let whole : built names active passive ≡ built (label_names (length (max_sets P.passive P.labels))) (derived P).active (derived P).passive = (λ i. built (n i) (a i) (p i)) in
    let d = IsProblem-derived P is in
    e ∙ whole ∙ some (built (label_names (length (max_sets P.passive P.labels))) (derived P).active (derived P).passive) (IsNamedProblem-derived P is few)
    (build_law (label_names (length (max_sets P.passive P.labels))) (derived P).active (derived P).passive (IsNames-label_names (length (max_sets P.passive P.labels)) few)
    (wider (length (max_sets P.passive P.labels)) (derived P).active few d.active) (wider (length (max_sets P.passive P.labels)) (derived P).passive few d.passive))
  where
    some : (o : Option NamedProblem) → IsNamedProblem (named_derived P) → MatchOption o (IsNamedProblem (named_derived P) → ⊥) (λ problem. (problem ≡ named_derived P) × IsNamedProblem (named_derived P)) → o ≡ Some (named_derived P)
    some None named m = absurd (m named)
    some (Some problem) named m = ap Some m.0

pub some_apart : {X : Type 0} (x : X) → None ≡ Some x → ⊥
some_apart x e = false≢true (ap is_some e)
