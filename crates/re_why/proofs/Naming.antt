-- Each label of what is found has a name.
use Rattle.std.proofs.Common.{◌≡◌, ℕ, zero, suc, ◌+◌, ◌-◌, ◌<◌, ◌≤◌, Bool, true, false, not, ◌&&◌, List, [], ◌∷◌, length, get_or, map, refl, sym, ap, ◌∙◌, subst, ◌⊎◌, inl, inr, arith, Some, None, Option, true≢false}
use Rattle.std.specs.Prelude.{Contains, Err, IfOk, IfSome, Ok, Result, find, if◌then◌else◌, nat_lt, slice_index_or}
use Rattle.std.specs.List.{AllByRecursion, AllZip, list_all}
use Rattle.std.specs.Option.{option_and_then, option_map, option_or}
use Rattle.re_labels.proofs.Membership.{AllByRecursion-contains, AllByRecursion-from_contains, AllByRecursion-weaker, Contains-In, Contains-map_cases, In-Contains, all-In, length-count_from, length-map'}
use Rattle.re_labels.proofs.LabelPlaces.{place_of-below}
use Rattle.re_labels.proofs.Tests.{and-true}
use Rattle.re_labels.specs.Lists.{count_from, place_of}
use Rattle.re_labels.specs.Sets.{IsIn}
use Rattle.re_labels.proofs.Sorting.{IsConfig-sorted}
use Rattle.re_labels.specs.Configs.{IsConfig, sorted}
use Rattle.re_labels.specs.Rows.{IsChoice, IsRow}
use Rattle.re_labels.specs.declared.TheConstants.{MAX_LABELS}
use Rattle.re_labels.specs.declared.sides.Side.TheVariants.{Active as ActiveSide, Passive as PassiveSide}
use Rattle.re_labels.specs.Constraints.{Constraint, IsConstraint}
use Rattle.re_problem.specs.NamedProblems.{IsNamedProblem, NamedProblem, unnamed}
use Rattle.re_problem.specs.ProblemTexts.{last_or}
use Rattle.re_problem.specs.Steps.{LowerMap, SetEntry, entry_sets, label_at, label_of, set_for}
use Rattle.re_problem.specs.Steps.LowerMap.{by_row, by_set}
use Rattle.re_problem.specs.Verdicts.{first_label, first_lost, first_twice, first_violation, has_degrees, larger, renaming_verdict, unless}
use Rattle.re_problem.specs.declared.verdict.MapVerdict.{MapVerdict}
use Rattle.re_problem.specs.declared.verdict.MapVerdict.TheVariants as verdict
use Rattle.re_cert.specs.Bounds.{Bound, BoundStep, entries_in, entry_fits, image_fits, is_bound, is_fixed, is_label, last_problem, map_fits, next_problems, problem_at, row_fits, step_fits, steps_fit}
use Rattle.re_cert.specs.declared.certificate.Kind.{Kind}
use Rattle.re_cert.proofs.FittingStates.{last_behind}
use Rattle.re_cert.proofs.KnownEntries.{entries-fit}
use Rattle.re_check.proofs.Telling.{read-held}
use Rattle.re_check.specs.StepClauses.{HasRowSets, OccursInRows}
use Rattle.re_check.specs.Clauses.{step_fault}
use Rattle.re_check.specs.declared.clause.Clause.{Clause}
use Rattle.re_check.specs.declared.clause.Clause.TheVariants.{Back, End, L1, L2, L3, L4, L5, U1, U2, U3, U4}
use Rattle.re_check.specs.Verdicts.{bound_fault, end_fault, ends_well, fault_at, fault_or, meets_back, meets_end, steps_fault}
use Rattle.re_check.specs.declared.verdict.ClauseFault.{ClauseFault}
use Rattle.re_texts.proofs.FittingParts.{bound_fits}
use Rattle.re_why.proofs.Bounds.{at_steps, final, fits_back, steps_clause}
use Rattle.re_why.proofs.Dispatch.{labels-below, map-fits, row-sets, rows-fit, sets-at, step-shown}
use Rattle.re_why.proofs.Ends.{end_witness_law, in_order}
use Rattle.re_why.proofs.Found.{found_passes}
use Rattle.re_why.proofs.Giving.{at-held, map-none, map-some}
use Rattle.re_why.proofs.Holding.{first_below}
use Rattle.re_why.proofs.Rows.{first_label-some}
use Rattle.re_why.specs.Finding.{back_witness, bound_refutation, end_witness, first_unordered, firsts, names_first, pairs_ascend, refutation_at, refutation_for, refuted, renaming_witness, seconds, step_refutation, step_witness, steps_refutation}
use Rattle.re_why.specs.Laws.{Gives}
use Rattle.re_why.specs.Standing.{AreNamed, AreSetsNamed, IsNamed, IsVerdictNamed, Standing, standing}
use Rattle.re_why.specs.Witnesses.{AreOtherDegrees, Becomes, IsSoundStep, ShowsBad, ShowsChoice, ShowsEnd, ShowsImage, ShowsLabels, ShowsRows, ShowsSets, ShowsShut, ShowsStep}
use Rattle.re_why.specs.declared.finding.Refutation.{Refutation}
use Rattle.re_why.specs.declared.witness.Witness.{Witness}
use Rattle.re_why.specs.declared.witness.Witness.TheVariants.{Degrees, BadRow, Extends, RowOrder, ManyRows, MissingRow, SetOrder, MissingSet, ForeignSet, ImageCount, LostRow, LostChoice, LabelOrder, MissingLabel, EmptySet, BadSets, ShutSets, Fit, NoActive, NoFit, PairOrder, MissingPair, Renaming}

-- ---- labels of what holds labels with names
choice-named : (names : List (List ℕ)) (labels : List ℕ) (row : List (List ℕ)) → AreSetsNamed names row → IsChoice labels row → AreNamed names labels
choice-named names [] [] all h = tt
choice-named names (x ∷ labels) [] all h = absurd h
choice-named names [] (set ∷ row) all h = absurd h
choice-named names (x ∷ labels) (set ∷ row) all h = (AllByRecursion-contains (λ x. x < length names) set x all.0 h.0, choice-named names labels row all.1 h.1)

held-named : (names : List (List ℕ)) (constraint : Constraint) (config : List ℕ) → IsConstraint (length names) constraint → Contains constraint.configs config → AreNamed names config
held-named names constraint config is held = (AllByRecursion-contains (IsConfig constraint.degree (length names)) constraint.configs config is.configs held).below

sorted-named : (names : List (List ℕ)) (labels : List ℕ) → AreNamed names labels → AreNamed names (sorted labels)
sorted-named names labels all = (IsConfig-sorted (length labels) (length names) labels refl all).below

drawn-named : (names : List (List ℕ)) (config labels : List ℕ) → AreNamed names config → AllByRecursion (Contains config) labels → AreNamed names labels
drawn-named names config labels all drawn = AllByRecursion-weaker (Contains config) (λ x. x < length names) (λ x held. AllByRecursion-contains (λ x. x < length names) config x all held) labels drawn

-- ---- a step
module _ (before next : NamedProblem) where
  row-named : (rows : List (List (List ℕ))) → list_all (row_fits before) rows ≡ true → (row : List (List ℕ)) → Contains rows row → AreSetsNamed before.names row
  row-named rows fits row held = row-sets before row (all-In (row_fits before) rows fits row (Contains-In row rows held))

  entry-named : (entries : List SetEntry) → list_all (entry_fits before next) entries ≡ true → (entry : SetEntry) → Contains entries entry → AreNamed before.names entry.set × (entry.label < length next.names)
  entry-named entries fits entry held =
      let both = and-true (list_all (is_label before) entry.set) (is_label next entry.label) (all-In (entry_fits before next) entries fits entry (Contains-In entry entries held)) in
      (labels-below (length before.names) (length before.names) entry.set (omega arith) both.0, (labels-below (length next.names) (length next.names) (entry.label ∷ []) (omega arith) (label-alone (is_label next entry.label) both.1)).0)
    where
      label-alone : (b : Bool) → b ≡ true → (b && true) ≡ true
      label-alone true e = refl
      label-alone false e = e

  image-named : (images : List (List ℕ)) → list_all (image_fits before next) images ≡ true → (image : List ℕ) → Contains images image → AreNamed next.names image
  image-named images fits image held =
      labels-below (length next.names) (length next.names) image (omega arith)
      (and-true _ (list_all (is_label next) image) (all-In (image_fits before next) images fits image (Contains-In image images held))).1

  becomes-named : (rows : List (List (List ℕ))) (m : LowerMap) → list_all (row_fits before) rows ≡ true → map_fits before next m ≡ true → (set : List ℕ) (label : ℕ) → Becomes rows m set label
      → AreNamed before.names set × (label < length next.names)
  becomes-named rows (by_set entries) rows_fit fits set label h = entry-named entries fits (record { set = set; label = label }) h
  becomes-named rows (by_row images) rows_fit fits set label h =
      let (row, image, one, two) = h in (
        AllByRecursion-contains (AreNamed before.names) row set (row-named rows rows_fit row (one.0, one.1, one.3)) (two.0, two.1, two.3),
        AllByRecursion-contains (λ x. x < length next.names) image label (image-named images (and-true _ (list_all (image_fits before next) images) fits).1 image (one.0, one.2, one.4)) (two.0, two.2, two.4),
      )

  become-named : (rows : List (List (List ℕ))) (m : LowerMap) → list_all (row_fits before) rows ≡ true → map_fits before next m ≡ true → (sets : List (List ℕ)) (labels : List ℕ) → AllZip (Becomes rows m) sets labels
      → AreSetsNamed before.names sets × AreNamed next.names labels
  become-named rows m rows_fit fits [] [] h = (tt, tt)
  become-named rows m rows_fit fits [] (y ∷ labels) h = absurd h
  become-named rows m rows_fit fits (set ∷ sets) [] h = absurd h
  become-named rows m rows_fit fits (set ∷ sets) (y ∷ labels) h =
      let here = becomes-named rows m rows_fit fits set y h.0 in
      let others = become-named rows m rows_fit fits sets labels h.1 in
      ((here.0, others.0), (here.1, others.1))

  -- the set of an entry, or the empty one
  set_for-named : (entries : List SetEntry) → AllByRecursion (λ (e : SetEntry). AreNamed before.names e.set) entries → (label : ℕ) → AreNamed before.names (set_for entries label)
  set_for-named [] all label = tt
  set_for-named (e ∷ entries) all zero = all.0
  set_for-named (e ∷ entries) all (suc label) = set_for-named entries all.1 label

  sets-named : (entries : List SetEntry) → list_all (entry_fits before next) entries ≡ true → (config : List ℕ) → AreSetsNamed before.names (map (set_for entries) config)
  sets-named entries fits [] = tt
  sets-named entries fits (x ∷ config) =
      (set_for-named entries (AllByRecursion-from_contains (λ (e : SetEntry). AreNamed before.names e.set) entries (λ e held. (entry-named entries fits e held).0)) x, sets-named entries fits config)

  -- the labels of the sets of a row that entries have
  row_labels-named : (entries : List SetEntry) → list_all (entry_fits before next) entries ≡ true → (row : List (List ℕ)) → ((set : List ℕ) → Contains row set → Contains (entry_sets entries) set) → AreNamed next.names (map (label_of entries) row)
  row_labels-named entries fits [] h = tt
  row_labels-named entries fits (set ∷ row) h =
      let l : place_of (entry_sets entries) set < length entries = subst (λ n. place_of (entry_sets entries) set < n) (length-map' (λ (e : SetEntry). e.set) entries) (place_of-below (entry_sets entries) set (h set (0, omega arith, refl))) in (
        (entry-named entries fits _ (read-held entries (place_of (entry_sets entries) set) (record { set = []; label = 0 }) l)).1,
        row_labels-named entries fits row (λ other held. h other (suc held.0, (let k = held.1 in omega (arith, k)), held.2)),
      )

  abbrev Here : Standing → Type 0
  Here at = (at.before ≡ before.names) × (at.next ≡ next.names)

  rows-named : (rows : List (List (List ℕ))) (at : Standing) (w : Witness) → Here at → list_all (row_fits before) rows ≡ true → ShowsRows before.passive (length before.names) rows w → IsNamed at w
  rows-named rows at (BadRow k labels) here fits h = subst (λ names. AreNamed names labels) (sym here.0) (choice-named before.names labels h.0 (row-named rows fits h.0 (at-held rows k h.0 h.1)) h.2)
  rows-named rows at (Extends k i x) here fits h = subst (λ (names : List (List ℕ)). x < length names) (sym here.0) h.3
  rows-named rows at (RowOrder k) here fits h = tt
  rows-named rows at ManyRows here fits h = tt
  rows-named rows at (MissingRow row) here fits h =
      subst (λ names. AreSetsNamed names row) (sym here.0) (AllByRecursion-weaker _ (AreNamed before.names) (λ s set. set.0.1) row h.0.is_row.sets)
  rows-named rows at w here fits h = absurd h

  map_sets-named : (rows : List (List (List ℕ))) (m : LowerMap) (at : Standing) (w : Witness) → Here at → list_all (row_fits before) rows ≡ true → map_fits before next m ≡ true → ShowsSets rows m w → IsNamed at w
  map_sets-named rows (by_set entries) at (SetOrder k) here rows_fit fits h = tt
  map_sets-named rows (by_set entries) at (MissingSet set) here rows_fit fits h =
      subst (λ names. AreNamed names set) (sym here.0) (AllByRecursion-contains (AreNamed before.names) h.0.0 set (row-named rows rows_fit h.0.0 h.0.1) h.0.2)
  map_sets-named rows (by_set entries) at (ForeignSet set) here rows_fit fits h =
      subst (λ names. AreNamed names set) (sym here.0) (let (e, held, same) = Contains-map_cases (λ (e : SetEntry). e.set) entries set h.0 in subst (AreNamed before.names) same (entry-named entries fits e held).0)
  map_sets-named rows (by_row images) at ImageCount here rows_fit fits h = tt
  map_sets-named rows (by_set entries) at w here rows_fit fits h = absurd h
  map_sets-named rows (by_row images) at w here rows_fit fits h = absurd h

  images-named : (rows : List (List (List ℕ))) (m : LowerMap) (at : Standing) (w : Witness) → Here at → map_fits before next m ≡ true → ((entries : List SetEntry) → m ≡ by_set entries → HasRowSets rows entries) → ShowsImage next.active rows m w → IsNamed at w
  images-named rows (by_set entries) at (LostRow k image) here fits has h =
      subst (λ names. AreNamed names image) (sym here.1) (subst (AreNamed next.names) (sym h.2) (sorted-named next.names (map (label_of entries) h.0)
      (row_labels-named entries fits h.0 (λ set held. ((has entries refl).sets set).1 (h.0, at-held rows k h.0 h.1, held)))))
  images-named rows (by_row images) at (LostRow k image) here fits has h =
      subst (λ names. AreNamed names image) (sym here.1) (subst (AreNamed next.names) (sym h.2) (sorted-named next.names h.0
      (image-named images (and-true _ (list_all (image_fits before next) images) fits).1 h.0 (at-held images k h.0 h.1))))
  images-named rows (by_set entries) at w here fits has h = absurd h
  images-named rows (by_row images) at w here fits has h = absurd h

  choices-named : (rows : List (List (List ℕ))) (m : LowerMap) (at : Standing) (w : Witness) → Here at → IsConstraint (length before.names) before.active → list_all (row_fits before) rows ≡ true → map_fits before next m ≡ true
      → ShowsChoice before.active next.passive rows m w → IsNamed at w
  choices-named rows m at (LostChoice config sets labels) here is rows_fit fits h =
      let (one, two) = become-named rows m rows_fit fits sets labels h.2 in
      (subst (λ names. AreNamed names config) (sym here.0) (held-named before.names before.active config is h.0), subst (λ names. AreSetsNamed names sets) (sym here.0) one, subst (λ names. AreNamed names labels) (sym here.1) two)
  choices-named rows m at w here is rows_fit fits h = absurd h

  labels-named : (entries : List SetEntry) (at : Standing) (w : Witness) → Here at → list_all (entry_fits before next) entries ≡ true → ShowsLabels (length next.names) entries w → IsNamed at w
  labels-named entries at (LabelOrder k) here fits h = tt
  labels-named entries at (MissingLabel label) here fits h = subst (λ (names : List (List ℕ)). label < length names) (sym here.1) h.0
  labels-named entries at (EmptySet label) here fits h = subst (λ (names : List (List ℕ)). label < length names) (sym here.1) (entry-named entries fits (record { set = []; label = label }) h).1
  labels-named entries at w here fits h = absurd h

  bad-named : (entries : List SetEntry) (at : Standing) (w : Witness) → Here at → IsConstraint (length next.names) next.active → list_all (entry_fits before next) entries ≡ true → ShowsBad before.passive next.active entries w → IsNamed at w
  bad-named entries at (BadSets config sets labels) here is fits h =
      let named = subst (AreSetsNamed before.names) (sym h.1) (sets-named entries fits config) in
      (subst (λ names. AreNamed names config) (sym here.1) (held-named next.names next.active config is h.0), subst (λ names. AreSetsNamed names sets) (sym here.0) named, subst (λ names. AreNamed names labels) (sym here.0) (choice-named before.names labels sets named h.2))
  bad-named entries at w here is fits h = absurd h

  shut-named : (entries : List SetEntry) (at : Standing) (w : Witness) → Here at → IsConstraint (length next.names) next.passive → list_all (entry_fits before next) entries ≡ true → ShowsShut before.active next.passive entries w → IsNamed at w
  shut-named entries at (ShutSets config sets) here is fits h =
      (subst (λ names. AreNamed names config) (sym here.1) (held-named next.names next.passive config is h.0), subst (λ names. AreSetsNamed names sets) (sym here.0) (subst (AreSetsNamed before.names) (sym h.1) (sets-named entries fits config)))
  shut-named entries at w here is fits h = absurd h

degrees-named : (before next : NamedProblem) (at : Standing) (w : Witness) → AreOtherDegrees before next w → IsNamed at w
degrees-named before next at (Degrees a p) h = tt
degrees-named before next at w h = absurd h

pub step-named : (kind : Kind) (before : NamedProblem) (s : BoundStep) (c : Clause) (w : Witness) (at : Standing) → (at.before ≡ before.names) × (at.next ≡ s.next.names) → IsNamedProblem before → IsNamedProblem s.next
    → step_fits kind before s ≡ true → (c ≡ L4 → (entries : List SetEntry) → s.map ≡ by_set entries → HasRowSets s.rows entries) → ShowsStep before s c w → IsNamed at w
step-named kind before s c w at here named next fits has h = go c has h
  where
    rows_fit : list_all (row_fits before) s.rows ≡ true
    rows_fit = rows-fit kind before s fits

    map_fit : map_fits before s.next s.map ≡ true
    map_fit = map-fits kind before s fits

    entries_fit : list_all (entry_fits before s.next) (entries_in s.map) ≡ true
    entries_fit = entries-fit before s.next s.map map_fit

    go : (c : Clause) → (c ≡ L4 → (entries : List SetEntry) → s.map ≡ by_set entries → HasRowSets s.rows entries) → ShowsStep before s c w → IsNamed at w
    go L1 has h = degrees-named before s.next at w h
    go L2 has h = rows-named before s.next s.rows at w here rows_fit h
    go L3 has h = map_sets-named before s.next s.rows s.map at w here rows_fit map_fit h
    go L4 has h = images-named before s.next s.rows s.map at w here map_fit (has refl) h
    go L5 has h = choices-named before s.next s.rows s.map at w here named.problem.active rows_fit map_fit h
    go U1 has h = degrees-named before s.next at w h
    go U2 has h = labels-named before s.next (entries_in s.map) at w here entries_fit h
    go U3 has h = bad-named before s.next (entries_in s.map) at w here next.problem.active entries_fit h
    go U4 has h = shut-named before s.next (entries_in s.map) at w here next.problem.passive entries_fit h
    go End has h = absurd h
    go Back has h = absurd h

-- ---- the end
end-named : (kind : Kind) (last : NamedProblem) (at : Standing) (w : Witness) → at.before ≡ last.names → IsNamedProblem last → ShowsEnd kind (unnamed last) w → IsNamed at w
end-named kind last at (Fit config) here named h = subst (λ names. AreNamed names config) (sym here) (held-named last.names last.active config named.problem.active h.1)
end-named kind last at NoActive here named h = tt
end-named kind last at (NoFit config labels) here named h =
    let all = held-named last.names last.active config named.problem.active (at-held last.active.configs 0 config h.2) in
    (subst (λ names. AreNamed names config) (sym here) all, subst (λ names. AreNamed names labels) (sym here) (drawn-named last.names config labels all h.4))
end-named kind last at w here named h = absurd h

-- ---- the way back
or-some : {W : Type 0} (a b : Option W) (w : W) → option_or a b ≡ Some w → (a ≡ Some w) ⊎ ((a ≡ None) × (b ≡ Some w))
or-some None b w e = inr (refl, e)
or-some (Some v) b w e = inl e

abbrev IfThere : Option MapVerdict → (MapVerdict → Type 0) → Type 0
IfThere None P = Unit {0}
IfThere (Some v) P = P v

first-of : (P : MapVerdict → Type 0) (found : List (Option MapVerdict)) → P verdict.Yes → AllByRecursion (λ o. IfThere o P) found → P (first_violation found)
first-of P [] fine all = fine
first-of P (None ∷ found) fine all = first-of P found fine all.1
first-of P (Some v ∷ found) fine all = all.0

mapped-there : {X : Type 0} (f : X → MapVerdict) (P : MapVerdict → Type 0) (o : Option X) → ((x : X) → o ≡ Some x → P (f x)) → IfThere (option_map f o) P
mapped-there f P None h = tt
mapped-there f P (Some x) h = h x refl

lost-held : (images : List ℕ) (from to : Constraint) (config : List ℕ) → first_lost images from to ≡ Some config → Contains from.configs config
lost-held images from to config e = In-Contains config from.configs (found_passes _ from.configs config (sym e)).1

verdict-named : (last target : NamedProblem) (images : List ℕ) → IsNamedProblem last → length images ≡ length last.names → IsVerdictNamed last.names (renaming_verdict (unnamed last) (unnamed target) images)
verdict-named last target images named count =
    first-of P found tt (
      unless-there (has_degrees (unnamed target) last.active.degree last.passive.degree),
      (
        mapped-there verdict.Twice P (first_twice images) (λ x e. let l = (first_label-some _ (length images) x e).0 in (let m : x < length last.names = omega (arith, l, count) in m)),
        (
          mapped-there verdict.Active P (first_lost images last.active target.active) (λ config e. held-named last.names last.active config named.problem.active (lost-held images last.active target.active config e)),
          (
            mapped-there verdict.Passive P (first_lost images last.passive target.passive) (λ config e. held-named last.names last.passive config named.problem.passive (lost-held images last.passive target.passive config e)),
            (
              mapped-there verdict.Count P (larger ActiveSide last.active target.active) (λ side e. tt),
              (mapped-there verdict.Count P (larger PassiveSide last.passive target.passive) (λ side e. tt), tt),
            ),
          ),
        ),
      ),
    )
  where
    P : MapVerdict → Type 0
    P = IsVerdictNamed last.names

    found : List (Option MapVerdict)
    found =
        unless (has_degrees (unnamed target) last.active.degree last.passive.degree) verdict.Degrees
        ∷ option_map verdict.Twice (first_twice images)
        ∷ option_map verdict.Active (first_lost images last.active target.active)
        ∷ option_map verdict.Passive (first_lost images last.passive target.passive)
        ∷ option_map verdict.Count (larger ActiveSide last.active target.active)
        ∷ option_map verdict.Count (larger PassiveSide last.passive target.passive)
        ∷ []

    unless-there : (b : Bool) → IfThere (unless b verdict.Degrees) P
    unless-there true = tt
    unless-there false = tt

back-named : (last target : NamedProblem) (pairs : List (ℕ × ℕ)) (at : Standing) (w : Witness) → at.before ≡ last.names → IsNamedProblem last → AllByRecursion (λ (pair : ℕ × ℕ). pair.0 < length last.names) pairs
    → back_witness last target pairs ≡ Some w → IsNamed at w
back-named last target pairs at w here named below e =
    elim (or-some (option_map PairOrder (first_unordered pairs_ascend 0 pairs)) _ w e) [
      | inl order ↦ let (k, found, same) = map-some PairOrder (first_unordered pairs_ascend 0 pairs) w order in subst (IsNamed at) same tt
      | inr rest ↦ elim (or-some (option_map MissingPair missing) _ w rest.1) [
        | inl lacks ↦
            let (x, found, same) = map-some MissingPair missing w lacks in
            subst (IsNamed at) same (subst (λ (names : List (List ℕ)). x < length names) (sym here) (first_label-some (λ x. not (names_first pairs x)) (length last.names) x found).0)
        | inr none ↦
            let are = in_order last target pairs below (map-none PairOrder (first_unordered pairs_ascend 0 pairs) rest.0) (map-none MissingPair missing none.0) in
            let count : length (seconds pairs) ≡ length last.names = length-map' (λ (pair : ℕ × ℕ). pair.1) pairs ∙ sym (length-map' (λ (pair : ℕ × ℕ). pair.0) pairs) ∙ ap length are ∙ length-count_from 0 (length last.names) in
            renamed (renaming_verdict (unnamed last) (unnamed target) (seconds pairs)) (verdict-named last target (seconds pairs) named count) none.1
      ]
    ]
  where
    missing : Option ℕ
    missing = first_label (λ x. not (names_first pairs x)) (length last.names)

    violated : (v : MapVerdict) → IsVerdictNamed last.names v → Some (Renaming v) ≡ Some w → IsNamed at w
    violated v h e = let same : Renaming v ≡ w = cc in subst (IsNamed at) same (subst (λ names. IsVerdictNamed names v) (sym here) h)

    renamed : (v : MapVerdict) → IsVerdictNamed last.names v → renaming_witness v ≡ Some w → IsNamed at w
    renamed verdict.Yes h e = absurd (cc)
    renamed verdict.Degrees h e = violated verdict.Degrees h e
    renamed (verdict.Empty x) h e = violated (verdict.Empty x) h e
    renamed (verdict.Twice x) h e = violated (verdict.Twice x) h e
    renamed (verdict.Active config) h e = violated (verdict.Active config) h e
    renamed (verdict.Passive config) h e = violated (verdict.Passive config) h e
    renamed (verdict.Count side) h e = violated (verdict.Count side) h e

-- ---- the steps
-- the problems that steps join, with the first of them
abbrev stood : NamedProblem → List BoundStep → List NamedProblem
stood before steps = before ∷ next_problems steps

-- what is found at the steps stands between two of their problems
abbrev StandsAt : NamedProblem → NamedProblem → ℕ → List BoundStep → Refutation → Type 0
StandsAt d before number steps r =
    (k : ℕ) × (r.step ≡ number + k) × ((r.clause ≡ End → ⊥) × (r.clause ≡ Back → ⊥))
    × ((at : Standing) → at.before ≡ (slice_index_or (stood before steps) k d).names → at.next ≡ (slice_index_or (stood before steps) (suc k) d).names → IsNamed at r.witness)

step_stands : (d : NamedProblem) (kind : Kind) (before : NamedProblem) (number : ℕ) (s : BoundStep) (steps : List BoundStep) → IsNamedProblem before → IsSoundStep s → step_fits kind before s ≡ true
    → IfSome (step_refutation before number s) (StandsAt d before number (s ∷ steps))
step_stands d kind before number s steps named sound fits = go (step_fault before s) refl
  where
    with_witness : (c : Clause) → step_fault before s ≡ Some c → (o : Option Witness) → Gives o (ShowsStep before s c) → IfSome (option_map (refuted number c) o) (StandsAt d before number (s ∷ steps))
    with_witness c e None h = absurd h
    with_witness c e (Some w) h =
        (0, omega arith, final before s c e, λ at one two. step-named kind before s c w at (one, two) named sound.next fits (λ is. sets-at before s (e ∙ ap Some is)) h)

    go : (o : Option Clause) → step_fault before s ≡ o → IfSome (option_and_then (λ clause. option_map (refuted number clause) (step_witness before s clause)) o) (StandsAt d before number (s ∷ steps))
    go None e = tt
    go (Some c) e = with_witness c e (step_witness before s c) (step-shown kind before s c named sound.next (λ row held. AllByRecursion-contains (λ row. IsRow (length row) MAX_LABELS row) s.rows row sound.rows held) fits e)

steps_stand : (d : NamedProblem) (kind : Kind) (before : NamedProblem) (number : ℕ) (steps : List BoundStep) → IsNamedProblem before → AllByRecursion IsSoundStep steps → steps_fit kind before steps ≡ true
    → IfSome (steps_refutation before number steps) (StandsAt d before number steps)
steps_stand d kind before number [] named sound fits = tt
steps_stand d kind before number (s ∷ steps) named sound fits =
    let both = and-true (step_fits kind before s) (steps_fit kind s.next steps) fits in
    go (step_refutation before number s) (step_stands d kind before number s steps named sound.0 both.0) (steps_refutation s.next (suc number) steps) (steps_stand d kind s.next (suc number) steps sound.0.next sound.1 both.1)
  where
    go : (here : Option Refutation) → IfSome here (StandsAt d before number (s ∷ steps)) → (later : Option Refutation) → IfSome later (StandsAt d s.next (suc number) steps) → IfSome (option_or here later) (StandsAt d before number (s ∷ steps))
    go (Some r) h later k = h
    go None h None k = tt
    go None h (Some r) k = (suc k.0, (let e = k.1 in omega (arith, e)), k.2, λ at one two. k.3 at one two)

-- ---- a certificate
standing-steps : (bound : Bound) (n : ℕ) (c : Clause) → (c ≡ End → ⊥) → (c ≡ Back → ⊥) → (standing bound n c).before ≡ (problem_at bound (n - 1)).names
standing-steps bound n End h k = absurd (h refl)
standing-steps bound n Back h k = absurd (k refl)
standing-steps bound n c h k = refl

standing-next : (bound : Bound) (n : ℕ) (c : Clause) → (c ≡ End → ⊥) → (c ≡ Back → ⊥) → (standing bound n c).next ≡ (problem_at bound n).names
standing-next bound n End h k = absurd (h refl)
standing-next bound n Back h k = absurd (k refl)
standing-next bound n c h k = refl

last-named : (before : NamedProblem) (steps : List BoundStep) → IsNamedProblem before → AllByRecursion IsSoundStep steps → IsNamedProblem (last_or before (next_problems steps))
last-named before [] named sound = named
last-named before (s ∷ steps) named sound = subst IsNamedProblem (sym (last_behind before s.next (next_problems steps))) (last-named s.next steps sound.0.next sound.1)

pub bound_named : (bound : Bound) → is_bound bound ≡ true → IsNamedProblem bound.first → AllByRecursion IsSoundStep bound.steps → IfSome (bound_refutation bound) (λ (r : Refutation). IsNamed (standing bound r.step r.clause) r.witness)
bound_named bound is named sound = go (steps_fault bound.first 1 bound.steps) refl
  where
    Named : Refutation → Type 0
    Named r = IsNamed (standing bound r.step r.clause) r.witness

    last_named : IsNamedProblem (last_problem bound)
    last_named = last-named bound.first bound.steps named sound

    stands : (o : Option Refutation) → IfSome o (StandsAt bound.first bound.first 1 bound.steps) → IfSome o Named
    stands None h = tt
    stands (Some r) h =
        let behind : r.step ≡ suc h.0 = (let e = h.1 in omega (arith, e)) in
        let one : r.step - 1 ≡ h.0 = omega (arith, behind) in
        h.3 (standing bound r.step r.clause)
        (standing-steps bound r.step r.clause h.2.0 h.2.1 ∙ ap (λ k. (problem_at bound k).names) one)
        (standing-next bound r.step r.clause h.2.0 h.2.1 ∙ ap (λ k. (problem_at bound k).names) behind)

    ended : (o : Option Witness) → Gives o (ShowsEnd bound.kind (unnamed (last_problem bound))) → IfSome (option_map (refuted (length bound.steps) End) o) Named
    ended None h = absurd h
    ended (Some w) h = end-named bound.kind (last_problem bound) (standing bound (length bound.steps) End) w refl last_named h

    backed : (o : Option Witness) → back_witness (last_problem bound) (problem_at bound bound.back) bound.renaming ≡ o → IfSome (option_map (refuted (length bound.steps) Back) o) Named
    backed None e = tt
    backed (Some w) e =
        back-named (last_problem bound) (problem_at bound bound.back) bound.renaming (standing bound (length bound.steps) Back) w refl last_named
        (first_below (last_problem bound) (problem_at bound bound.back) bound.renaming (fits_back bound is)) e

    at_back : (b f : Bool) → IfSome (refutation_for bound (if f && not b then Some (fault_at (length bound.steps) Back) else None)) Named
    at_back b false = tt
    at_back true true = tt
    at_back false true = backed (back_witness (last_problem bound) (problem_at bound bound.back) bound.renaming) refl

    at_end : (b : Bool) → meets_end bound ≡ b → IfSome (refutation_for bound (if not b then Some (fault_at (length bound.steps) End) else if is_fixed bound.kind && not (meets_back bound) then Some (fault_at (length bound.steps) Back) else None)) Named
    at_end false e = ended (end_witness bound.kind (last_problem bound)) (end_witness_law bound.kind (last_problem bound) e)
    at_end true e = at_back (meets_back bound) (is_fixed bound.kind)

    go : (o : Option ClauseFault) → steps_fault bound.first 1 bound.steps ≡ o → IfSome (refutation_for bound (fault_or o (end_fault bound))) Named
    go None e = at_end (meets_end bound) refl
    go (Some fault) e =
        let neither = steps_clause bound.first 1 bound.steps fault e in
        subst (λ (o : Option Refutation). IfSome o Named) (sym (at_steps bound fault.step fault.clause neither.0 neither.1))
        (stands (steps_refutation bound.first 1 bound.steps) (steps_stand bound.first bound.kind bound.first 1 bound.steps named sound (bound_fits bound is).steps))

pub named_of_all : {E : Type 0} (bound : Bound) (r : Result (Option Refutation) E) → is_bound bound ≡ true → IsNamedProblem bound.first → AllByRecursion IsSoundStep bound.steps
    → IfOk r (λ (found : Option Refutation). found ≡ bound_refutation bound) → IfOk r (λ (found : Option Refutation). IfSome found (λ (r : Refutation). IsNamed (standing bound r.step r.clause) r.witness))
named_of_all bound (Ok found) is named sound h = subst (λ (o : Option Refutation). IfSome o (λ (r : Refutation). IsNamed (standing bound r.step r.clause) r.witness)) (sym h) (bound_named bound is named sound)
named_of_all bound (Err e) is named sound h = tt
