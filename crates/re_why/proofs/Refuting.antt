-- Whatever shows that a clause fails refutes the certificate.
use Rattle.std.proofs.Common.{◌≡◌, ℕ, zero, suc, ◌+◌, ◌<◌, ◌≤◌, Bool, true, false, not, ◌&&◌, List, [], ◌∷◌, length, get_or, map, refl, sym, ap, ◌∙◌, subst, ◌⊎◌, inl, inr, arith, Some, None, Option, true≢false}
use Rattle.std.specs.Prelude.{Contains, if◌then◌else◌, is_none, is_some, nat_le, option_map, slice_index_or}
use Rattle.std.specs.List.{AllByRecursion, AllZip, list_all}
use Rattle.std.specs.Str.{bytes_eq}
use Rattle.std.proofs.lemmas.Bool.Decides.{nat_tests}
use Rattle.std.proofs.lemmas.Slice.Eq.{bytes_eq-Decides}
use Rattle.re_labels.proofs.Membership.{AllByRecursion-contains, Contains-In, Contains-count_from, Contains-none, In, In-Contains, In-map}
use Rattle.re_labels.proofs.Tests.{and-true}
use Rattle.re_labels.specs.Lists.{IsRising, count_from}
use Rattle.re_labels.specs.Sets.{IsIn, number}
use Rattle.re_labels.proofs.RowCalls.{read_within}
use Rattle.re_labels.proofs.Rows.{RowBefore}
use Rattle.re_labels.specs.Rows.{IsChoice, set_at}
use Rattle.re_labels.specs.declared.TheConstants.{MAX_ROWS}
use Rattle.re_labels.proofs.Goodness.{is_allowed-IsAllowed, is_good-IsGood}
use Rattle.re_labels.proofs.MaxSets.{max_sets-row}
use Rattle.re_labels.proofs.MaxRows.{IsMaximal-max_rows, max_rows-IsMaximal, rising-max_rows}
use Rattle.re_labels.specs.Constraints.{Constraint, Has, IsConstraint}
use Rattle.re_labels.specs.GoodRows.{IsAllowed, IsGood, max_rows, max_sets}
use Rattle.re_boxes.proofs.Grown.{maximal_is_grown}
use Rattle.re_problem.proofs.ZeroPlaces.{law}
use Rattle.re_problem.specs.NamedProblems.{IsNamedProblem, NamedProblem, unnamed}
use Rattle.re_problem.specs.Problems.{Problem}
use Rattle.re_problem.specs.Steps.{IsLowerStep, LowerMap, SetEntry, entry_sets, set_for}
use Rattle.re_problem.specs.Steps.LowerMap.{by_row, by_set}
use Rattle.re_problem.specs.Zero.{Zero, zero_place}
use Rattle.re_cert.specs.Bounds.{Bound, BoundStep, entries_in, is_bound, is_fixed, is_lower, last_problem, next_problems, problem_at, step_fits, steps_fit}
use Rattle.re_cert.specs.declared.certificate.Kind.{Kind}
use Rattle.re_check.proofs.AllowedImages.{keeps_allowed_law, over-entry, set_at-entry}
use Rattle.re_check.proofs.RowChoices.{becomes-entry, keeps_allowed_by_row_law}
use Rattle.re_check.proofs.RowSets.{row_sets_law}
use Rattle.re_check.specs.LabelsOver.{labels_over}
use Rattle.re_check.specs.RowEntries.{image_entries}
use Rattle.re_check.specs.StepClauses.{HasAllowedImages, HasGoodImages, HasNextLabels, HasRowSets, entry_labels}
use Rattle.re_check.proofs.StepMeaning.{all_pass, all_there, exchanged-degrees, lower_clauses}
use Rattle.re_check.specs.Clauses.{are_exchanged, meets, step_clauses, step_fault}
use Rattle.re_check.specs.declared.clause.Clause.{Clause}
use Rattle.re_check.specs.declared.clause.Clause.TheVariants.{Back, End, L1, L2, L3, L4, L5, U1, U2, U3, U4}
use Rattle.re_check.proofs.Meaning.{neither, unmapped}
use Rattle.re_check.specs.Verdicts.{bound_fault, end_fault, ends_well, fault_at, fault_or, goes_back, is_yes, meets_back, meets_end, steps_fault}
use Rattle.re_check.specs.declared.verdict.ClauseFault.{ClauseFault}
use Rattle.re_problem.specs.Verdicts.{renaming_verdict}
use Rattle.re_problem.specs.declared.verdict.MapVerdict.{MapVerdict}
use Rattle.re_problem.specs.declared.verdict.MapVerdict.TheVariants.{Yes}
use Rattle.re_laws.proofs.Preorder.{rising-count_from}
use Rattle.re_texts.proofs.FittingParts.{bound_fits}
use Rattle.re_why.proofs.Dispatch.{next-labels, rows-few}
use Rattle.re_why.proofs.Giving.{at-held}
use Rattle.re_why.specs.Finding.{firsts, map_entries, seconds}
use Rattle.re_why.specs.Laws.{DegreesRefuteLaw, EndRefutesLaw, HasSets, HoldsChoices, HoldsRows, MapRefutesLaw, RefutesLaw, RowsRefuteLaw, UpperRefutesLaw}
use Rattle.re_why.specs.Witnesses.{AreOtherDegrees, Becomes, IsAt, IsShown, ShowsBack, ShowsBad, ShowsChoice, ShowsEnd, ShowsImage, ShowsInSteps, ShowsLabels, ShowsRenaming, ShowsRows, ShowsSets, ShowsShut, ShowsStep}
use Rattle.re_why.specs.declared.witness.Witness.{Witness}
use Rattle.re_why.specs.declared.witness.Witness.TheVariants.{Degrees, BadRow, Extends, RowOrder, ManyRows, MissingRow, SetOrder, MissingSet, ForeignSet, ImageCount, LostRow, LostChoice, LabelOrder, MissingLabel, EmptySet, BadSets, ShutSets, Fit, NoActive, NoFit, PairOrder, MissingPair, Renaming}

-- neighbours in a rising list
rising-at : {X : Type 0} (Before : X → X → Type 0) (xs : List X) (k : ℕ) (x y : X) → IsRising Before xs → IsAt xs k x → IsAt xs (k + 1) y → Before x y
rising-at {X} Before xs k x y h at next = go xs k h at (subst (λ m. IsAt xs m y) (omega arith) next)
  where
    go : (xs : List X) (k : ℕ) → IsRising Before xs → IsAt xs k x → IsAt xs (suc k) y → Before x y
    go [] k h at next = absurd (let l = at.0 in omega (arith, l))
    go (z ∷ []) k h at next = absurd (let l = next.0 in omega (arith, l))
    go (z ∷ u ∷ xs) zero h at next = subst (λ a. Before a y) at.1 (subst (Before z) next.1 h.0)
    go (z ∷ u ∷ xs) (suc k) h at next = go (u ∷ xs) k h.1 ((let l = at.0 in omega (arith, l)), at.1) ((let l = next.0 in omega (arith, l)), next.1)

map-at : {X Y : Type 0} (f : X → Y) (xs : List X) (k : ℕ) (x : X) → IsAt xs k x → IsAt (map f xs) k (f x)
map-at f [] k x at = absurd (let l = at.0 in omega (arith, l))
map-at f (y ∷ xs) zero x at = (omega arith, ap f at.1)
map-at f (y ∷ xs) (suc k) x at = let (l, e) = map-at f xs k x ((let l = at.0 in omega (arith, l)), at.1) in (omega (arith, l), e)

-- ---- the degrees
degrees-refuted : (before next : NamedProblem) (w : Witness) → AreOtherDegrees before next w → (next.active.degree ≡ before.passive.degree) × (next.passive.degree ≡ before.active.degree) → ⊥
degrees-refuted before next (Degrees a p) h same = h.2 (h.0 ∙ same.0, h.1 ∙ same.1)
degrees-refuted before next w h same = absurd h

-- ---- a lower step
rows-refuted : (passive : Constraint) (n : ℕ) (rows : List (List (List ℕ))) (w : Witness) → rows ≡ max_rows passive n → length rows ≤ MAX_ROWS → ShowsRows passive n rows w → ⊥
rows-refuted passive n rows (BadRow k labels) same few h =
    h.3 ((max_rows-IsMaximal passive n h.0 (Contains-In h.0 (max_rows passive n) (subst (λ (rs : List (List (List ℕ))). Contains rs h.0) same (at-held rows k h.0 h.1)))).good.choice labels h.2)
rows-refuted passive n rows (Extends k i x) same few h =
    h.4 (maximal_is_grown passive n h.0 (max_rows-IsMaximal passive n h.0 (Contains-In h.0 (max_rows passive n) (subst (λ (rs : List (List (List ℕ))). Contains rs h.0) same (at-held rows k h.0 h.1)))) i x h.2 h.3 h.5)
rows-refuted passive n rows (RowOrder k) same few h =
    h.4 (rising-at RowBefore rows k h.0 h.1 (subst (IsRising RowBefore) (sym same) (rising-max_rows passive n)) h.2 h.3)
rows-refuted passive n rows ManyRows same few h = let e : length rows ≡ length (max_rows passive n) = ap length same in omega (arith, few, e, h)
rows-refuted passive n rows (MissingRow row) same few h =
    h.1 (subst (λ (rs : List (List (List ℕ))). Contains rs row) (sym same) (In-Contains row (max_rows passive n) (IsMaximal-max_rows passive n row h.0)))
rows-refuted passive n rows w same few h = absurd h

sets-refuted : (rows : List (List (List ℕ))) (entries : List SetEntry) (w : Witness) → HasRowSets rows entries → ShowsSets rows (by_set entries) w → ⊥
sets-refuted rows entries (SetOrder k) has h =
    h.4 (rising-at (λ s t. number s < number t) (entry_sets entries) k h.0.set h.1.set has.ascends (map-at (λ (e : SetEntry). e.set) entries k h.0 h.2) (map-at (λ (e : SetEntry). e.set) entries (k + 1) h.1 h.3))
sets-refuted rows entries (MissingSet set) has h = h.1 ((has.sets set).1 h.0)
sets-refuted rows entries (ForeignSet set) has h = h.1 ((has.sets set).0 h.0)
sets-refuted rows entries w has h = absurd h

count-refuted : (rows : List (List (List ℕ))) (images : List (List ℕ)) (w : Witness) → length images ≡ length rows → ShowsSets rows (by_row images) w → ⊥
count-refuted rows images ImageCount same h = h (sym same)
count-refuted rows images w same h = absurd h

-- a label that a set becomes is over each label of the set
becomes-over : (rows : List (List (List ℕ))) (m : LowerMap) (set : List ℕ) (x y : ℕ) → Becomes rows m set y → IsIn x set → IsIn y (labels_over (map_entries rows m) x)
becomes-over rows m set x y becomes inside =
    let (k, l, e) = held rows m becomes in
    let there : set_at (entry_sets (map_entries rows m)) k ≡ set = set_at-entry (map_entries rows m) k ∙ ap (λ (f : SetEntry). f.set) e in
    subst (λ z. IsIn z (labels_over (map_entries rows m) x)) (ap (λ (f : SetEntry). f.label) e) (over-entry (map_entries rows m) x k l (subst (IsIn x) (sym there) inside))
  where
    held : (rows : List (List (List ℕ))) (m : LowerMap) → Becomes rows m set y → (k : ℕ) × (k < length (map_entries rows m)) × (get_or (map_entries rows m) k (record { set = []; label = 0 }) ≡ record { set = set; label = y })
    held rows (by_set entries) h = (h.0, h.1, read_within entries h.0 _ _ h.1 ∙ h.2)
    held rows (by_row images) h = let among = becomes-entry rows images set y h in (among.0, among.1, read_within (image_entries rows images) among.0 _ _ among.1 ∙ among.2)

chosen-over : (rows : List (List (List ℕ))) (m : LowerMap) (config labels : List ℕ) (sets : List (List ℕ)) → IsChoice config sets → AllZip (Becomes rows m) sets labels → IsChoice labels (map (labels_over (map_entries rows m)) config)
chosen-over rows m [] [] [] h k = tt
chosen-over rows m [] (y ∷ labels) [] h k = absurd k
chosen-over rows m (x ∷ config) labels [] h k = absurd h
chosen-over rows m [] labels (set ∷ sets) h k = absurd h
chosen-over rows m (x ∷ config) [] (set ∷ sets) h k = absurd k
chosen-over rows m (x ∷ config) (y ∷ labels) (set ∷ sets) h k = (becomes-over rows m set x y k.0 h.0, chosen-over rows m config labels sets h.1 k.1)

choices-refuted : (before passive : Constraint) (rows : List (List (List ℕ))) (m : LowerMap) (w : Witness) → HoldsChoices before passive rows m → ShowsChoice before passive rows m w → ⊥
choices-refuted before passive rows m (LostChoice config sets labels) holds h = h.3 (holds config labels h.0 (chosen-over rows m config labels sets h.1 h.2))
choices-refuted before passive rows m w holds h = absurd h

images-refuted : (active : Constraint) (rows : List (List (List ℕ))) (m : LowerMap) (w : Witness) → HoldsRows active rows m → ShowsImage active rows m w → ⊥
images-refuted active rows (by_set entries) (LostRow k image) holds h = h.3 (subst (Contains active.configs) (sym h.2) (holds h.0 (at-held rows k h.0 h.1)))
images-refuted active rows (by_row images) (LostRow k image) holds h = h.3 (subst (Contains active.configs) (sym h.2) (holds h.0 (at-held images k h.0 h.1)))
images-refuted active rows (by_set entries) w holds h = absurd h
images-refuted active rows (by_row images) w holds h = absurd h

module _ (before next : NamedProblem) (rows : List (List (List ℕ))) (few : length rows ≤ MAX_ROWS) (is : IsConstraint (length before.names) before.active) where
  sets_of_map : (m : LowerMap) (w : Witness) → IsLowerStep (unnamed before) (unnamed next) rows m → ShowsSets rows m w → ⊥
  sets_of_map (by_set entries) w step h =
      sets-refuted rows entries w (subst (λ (r : List (List (List ℕ))). HasRowSets r entries) (sym step.maximal) ((row_sets_law before.passive (length before.names) entries).1 step.sets)) h
  sets_of_map (by_row images) w step h = count-refuted rows images w step.count h

  images_of_map : (m : LowerMap) (w : Witness) → IsLowerStep (unnamed before) (unnamed next) rows m → ShowsImage next.active rows m w → ⊥
  images_of_map (by_set entries) w step h = images-refuted next.active rows (by_set entries) w step.active h
  images_of_map (by_row images) w step h = images-refuted next.active rows (by_row images) w step.active h

  choices_of_map : (m : LowerMap) (w : Witness) → IsLowerStep (unnamed before) (unnamed next) rows m → ShowsChoice before.active next.passive rows m w → ⊥
  choices_of_map (by_set entries) w step h = choices-refuted before.active next.passive rows (by_set entries) w ((keeps_allowed_law (length before.names) before.active next.passive entries is).0 step.passive) h
  choices_of_map (by_row images) w step h =
      let n = length before.names in
      choices-refuted before.active next.passive rows (by_row images) w
      ((keeps_allowed_by_row_law n before.active next.passive (max_sets before.passive n) rows images is
      (λ set occurs. max_sets-row before.passive n occurs.0 (subst (λ (r : List (List (List ℕ))). Contains r occurs.0) step.maximal occurs.1) set occurs.2)).0 step.passive) h

  degrees_of_map : (m : LowerMap) → IsLowerStep (unnamed before) (unnamed next) rows m → (next.active.degree ≡ before.passive.degree) × (next.passive.degree ≡ before.active.degree)
  degrees_of_map (by_set entries) step = (step.active_degree, step.passive_degree)
  degrees_of_map (by_row images) step = (step.active_degree, step.passive_degree)

  maximal_of_map : (m : LowerMap) → IsLowerStep (unnamed before) (unnamed next) rows m → rows ≡ max_rows before.passive (length before.names)
  maximal_of_map (by_set entries) step = step.maximal
  maximal_of_map (by_row images) step = step.maximal

lower-refuted : (before : NamedProblem) (s : BoundStep) (c : Clause) (w : Witness) → IsConstraint (length before.names) before.active → length s.rows ≤ MAX_ROWS → IsLowerStep (unnamed before) (unnamed s.next) s.rows s.map
    → In c (L1 ∷ L2 ∷ L3 ∷ L4 ∷ L5 ∷ []) → ShowsStep before s c w → ⊥
lower-refuted before s c w is few step (inl e) h = degrees-refuted before s.next w (subst (λ k. ShowsStep before s k w) e h) (degrees_of_map before s.next s.rows few is s.map step)
lower-refuted before s c w is few step (inr (inl e)) h = rows-refuted before.passive (length before.names) s.rows w (maximal_of_map before s.next s.rows few is s.map step) few (subst (λ k. ShowsStep before s k w) e h)
lower-refuted before s c w is few step (inr (inr (inl e))) h = sets_of_map before s.next s.rows few is s.map w step (subst (λ k. ShowsStep before s k w) e h)
lower-refuted before s c w is few step (inr (inr (inr (inl e)))) h = images_of_map before s.next s.rows few is s.map w step (subst (λ k. ShowsStep before s k w) e h)
lower-refuted before s c w is few step (inr (inr (inr (inr (inl e))))) h = choices_of_map before s.next s.rows few is s.map w step (subst (λ k. ShowsStep before s k w) e h)
lower-refuted before s c w is few step (inr (inr (inr (inr (inr i))))) h = absurd i

-- ---- an upper step
labels-refuted : (n : ℕ) (entries : List SetEntry) (w : Witness) → HasNextLabels n entries → ShowsLabels n entries w → ⊥
labels-refuted n entries (LabelOrder k) has h =
    h.4 (rising-at (λ x y. x < y) (entry_labels entries) k h.0.label h.1.label (subst (IsRising (λ x y. x < y)) (sym has.labels) (rising-count_from 0 n)) (map-at (λ (e : SetEntry). e.label) entries k h.0 h.2) (map-at (λ (e : SetEntry). e.label) entries (k + 1) h.1 h.3))
labels-refuted n entries (MissingLabel label) has h = h.1 (subst (λ (xs : List ℕ). Contains xs label) (sym has.labels) (Contains-count_from 0 n label (omega arith) (let l = h.0 in omega (arith, l))))
labels-refuted n entries (EmptySet label) has h =
    let l = AllByRecursion-contains (λ s. 0 < length s) (entry_sets entries) [] has.filled (In-Contains [] (entry_sets entries) (In-map (λ (e : SetEntry). e.set) (record { set = []; label = label }) entries (Contains-In (record { set = []; label = label }) entries h))) in
    omega (arith, l)
labels-refuted n entries w has h = absurd h

bad-refuted : (passive active : Constraint) (entries : List SetEntry) (w : Witness) → HasGoodImages entries active passive → ShowsBad passive active entries w → ⊥
bad-refuted passive active entries (BadSets config sets labels) has h = h.3 ((has config h.0).choice labels (subst (IsChoice labels) h.1 h.2))
bad-refuted passive active entries w has h = absurd h

shut-refuted : (before passive : Constraint) (entries : List SetEntry) (w : Witness) → HasAllowedImages entries passive before → ShowsShut before passive entries w → ⊥
shut-refuted before passive entries (ShutSets config sets) has h = h.2 (subst (IsAllowed before) (sym h.1) (has config h.0))
shut-refuted before passive entries w has h = absurd h

upper-refuted : (before : NamedProblem) (s : BoundStep) (c : Clause) (w : Witness) → AllByRecursion (λ clause. meets before s clause ≡ true) (U1 ∷ U2 ∷ U3 ∷ U4 ∷ []) → In c (U1 ∷ U2 ∷ U3 ∷ U4 ∷ []) → ShowsStep before s c w → ⊥
upper-refuted before s c w (degrees, (labels, (good, (allowed, u)))) (inl e) h = degrees-refuted before s.next w (subst (λ k. ShowsStep before s k w) e h) (exchanged-degrees before s.next degrees)
upper-refuted before s c w (degrees, (labels, (good, (allowed, u)))) (inr (inl e)) h = labels-refuted (length s.next.names) (entries_in s.map) w (next-labels before s.next (entries_in s.map) labels) (subst (λ k. ShowsStep before s k w) e h)
upper-refuted before s c w (degrees, (labels, (good, (allowed, u)))) (inr (inr (inl e))) h =
    bad-refuted before.passive s.next.active (entries_in s.map) w
    (all_there _ (λ config. IsGood before.passive (map (set_for (entries_in s.map)) config)) s.next.active.configs (λ config. is_good-IsGood before.passive (map (set_for (entries_in s.map)) config)) good) (subst (λ k. ShowsStep before s k w) e h)
upper-refuted before s c w (degrees, (labels, (good, (allowed, u)))) (inr (inr (inr (inl e)))) h =
    shut-refuted before.active s.next.passive (entries_in s.map) w
    (all_there _ (λ config. IsAllowed before.active (map (set_for (entries_in s.map)) config)) s.next.passive.configs (λ config. is_allowed-IsAllowed before.active (map (set_for (entries_in s.map)) config)) allowed) (subst (λ k. ShowsStep before s k w) e h)
upper-refuted before s c w all (inr (inr (inr (inr i)))) h = absurd i

-- ---- the steps
step-refuted : (kind : Kind) (before : NamedProblem) (s : BoundStep) (c : Clause) (w : Witness) → IsConstraint (length before.names) before.active → step_fits kind before s ≡ true → step_fault before s ≡ None
    → Contains (step_clauses s) c → ShowsStep before s c w → ⊥
step-refuted kind before s c w is fits none among h = go s.lower refl (Contains-In c (step_clauses s) among)
  where
    go : (b : Bool) → s.lower ≡ b → In c (step_clauses s) → ⊥
    go true low i =
        lower-refuted before s c w is (rows-few kind before s fits) ((lower_clauses before s low).0 none)
        (subst (λ (l : Bool). In c (if l then L1 ∷ L2 ∷ L3 ∷ L4 ∷ L5 ∷ [] else U1 ∷ U2 ∷ U3 ∷ U4 ∷ [])) low i) h
    go false up i =
        upper-refuted before s c w
        (subst (λ (l : Bool). AllByRecursion (λ clause. meets before s clause ≡ true) (if l then L1 ∷ L2 ∷ L3 ∷ L4 ∷ L5 ∷ [] else U1 ∷ U2 ∷ U3 ∷ U4 ∷ [])) up (all_pass (meets before s) (step_clauses s) none))
        (subst (λ (l : Bool). In c (if l then L1 ∷ L2 ∷ L3 ∷ L4 ∷ L5 ∷ [] else U1 ∷ U2 ∷ U3 ∷ U4 ∷ [])) up i) h

steps-refuted : (kind : Kind) (before : NamedProblem) (from : ℕ) (steps : List BoundStep) (n : ℕ) (c : Clause) (w : Witness) → IsNamedProblem before → AllByRecursion IsNamedProblem (next_problems steps) → steps_fit kind before steps ≡ true
    → steps_fault before from steps ≡ None → ShowsInSteps before from steps n c w → ⊥
steps-refuted kind before from [] n c w named nexts fits none h = absurd h
steps-refuted kind before from (s ∷ steps) n c w named nexts fits none (inl h) =
    let here = (neither (option_map (fault_at from) (step_fault before s)) (steps_fault s.next (suc from) steps) none).0 in
    step-refuted kind before s c w named.problem.active (and-true (step_fits kind before s) (steps_fit kind s.next steps) fits).0 (unmapped from (step_fault before s) here) h.1 h.2
steps-refuted kind before from (s ∷ steps) n c w named nexts fits none (inr h) =
    steps-refuted kind s.next (suc from) steps n c w nexts.0 nexts.1 (and-true (step_fits kind before s) (steps_fit kind s.next steps) fits).1
    (neither (option_map (fault_at from) (step_fault before s)) (steps_fault s.next (suc from) steps) none).1 h

-- ---- the end
end-refuted : (kind : Kind) (last : NamedProblem) (w : Witness) → ends_well kind last ≡ true → ShowsEnd kind (unnamed last) w → ⊥
end-refuted kind last w well h = go w h
  where
    problem : Problem
    problem = unnamed last

    lower_ends : is_lower kind ≡ true → is_none (zero_place problem) ≡ true
    lower_ends low = subst (λ (b : Bool). (if b then is_none (zero_place problem) else is_some (zero_place problem)) ≡ true) low well

    upper_ends : is_lower kind ≡ false → is_some (zero_place problem) ≡ true
    upper_ends up = subst (λ (b : Bool). (if b then is_none (zero_place problem) else is_some (zero_place problem)) ≡ true) up well

    not_both : (o : Option ℕ) → is_none o ≡ true → is_some o ≡ true → ⊥
    not_both None e f = true≢false (sym f)
    not_both (Some k) e f = true≢false (sym e)

    go : (w : Witness) → ShowsEnd kind problem w → ⊥
    go (Fit config) h = not_both (zero_place problem) (lower_ends h.0) ((law problem []).1.1 (config, h.1, h.2))
    go NoActive h = let zero = (law problem []).1.0 (upper_ends h.0) in Contains-none zero.0 (subst (λ (cs : List (List ℕ)). Contains cs zero.0) h.1 zero.1)
    go (NoFit config labels) h = h.1 ((law problem []).1.0 (upper_ends h.0))
    go w h = absurd h

back-refuted : (last target : NamedProblem) (pairs : List (ℕ × ℕ)) (w : Witness) → goes_back last target pairs ≡ true → ShowsBack last target pairs w → ⊥
back-refuted last target pairs w goes h = go w h
  where
    n : ℕ
    n = length last.names

    verdict : MapVerdict
    verdict = renaming_verdict (unnamed last) (unnamed target) (seconds pairs)

    both : (bytes_eq (firsts pairs) (count_from 0 n) ≡ true) × (is_yes verdict ≡ true)
    both = and-true (bytes_eq (firsts pairs) (count_from 0 n)) (is_yes verdict) goes

    are : firsts pairs ≡ count_from 0 n
    are = (bytes_eq-Decides (firsts pairs) (count_from 0 n)).0 both.0

    yes : (v : MapVerdict) → is_yes v ≡ true → v ≡ Yes
    yes Yes e = refl
    yes v e = absurd (true≢false (sym e))

    go : (w : Witness) → ShowsBack last target pairs w → ⊥
    go (PairOrder k) h = h.4 (rising-at (λ x y. x < y) (firsts pairs) k h.0.0 h.1.0 (subst (IsRising (λ x y. x < y)) (sym are) (rising-count_from 0 n)) (map-at (λ (pair : ℕ × ℕ). pair.0) pairs k h.0 h.2) (map-at (λ (pair : ℕ × ℕ). pair.0) pairs (k + 1) h.1 h.3))
    go (MissingPair label) h = h.1 (subst (λ (xs : List ℕ). Contains xs label) (sym are) (Contains-count_from 0 n label (omega arith) (let l = h.0 in omega (arith, l))))
    go (Renaming v) h = subst (ShowsRenaming (unnamed last) (unnamed target) (seconds pairs)) (sym h.0 ∙ yes verdict both.1) h.1
    go w h = absurd h

-- ---- each clause by itself
pub degrees_refute_law : DegreesRefuteLaw
degrees_refute_law before next w shown same = degrees-refuted before next w shown same

pub rows_refute_law : RowsRefuteLaw
rows_refute_law passive n rows w shown same few = rows-refuted passive n rows w same few shown

map-sets-refuted : (rows : List (List (List ℕ))) (m : LowerMap) (w : Witness) → ShowsSets rows m w → HasSets rows m → ⊥
map-sets-refuted rows (by_set entries) w shown has = sets-refuted rows entries w has shown
map-sets-refuted rows (by_row images) w shown has = count-refuted rows images w (sym has) shown

pub map_refutes_law : MapRefutesLaw
map_refutes_law before active passive rows m w =
    (map-sets-refuted rows m w, λ shown holds. images-refuted active rows m w holds shown, λ shown holds. choices-refuted before passive rows m w holds shown)

pub upper_refutes_law : UpperRefutesLaw
upper_refutes_law n before next entries w =
    (λ shown has. labels-refuted n entries w has shown, λ shown has. bad-refuted before next entries w has shown, λ shown has. shut-refuted before next entries w has shown)

pub end_refutes_law : EndRefutesLaw
end_refutes_law kind last target pairs w = (λ shown well. end-refuted kind last w well shown, λ shown goes. back-refuted last target pairs w goes shown)

-- ---- a certificate
not-not : (b : Bool) → (x y : Option ClauseFault) → (x ≡ None → ⊥) → (if not b then x else y) ≡ None → (b ≡ true) × (y ≡ None)
not-not true x y some e = (refl, e)
not-not false x y some e = absurd (some e)

pub refutes_law : RefutesLaw
refutes_law bound number clause w is first nexts shown none = by_clause clause shown
  where
    n : ℕ
    n = length bound.steps

    parts : (steps_fault bound.first 1 bound.steps ≡ None) × (end_fault bound ≡ None)
    parts = neither (steps_fault bound.first 1 bound.steps) (end_fault bound) none

    at_steps : ShowsInSteps bound.first 1 bound.steps number clause w → ⊥
    at_steps h = steps-refuted bound.kind bound.first 1 bound.steps number clause w first nexts (bound_fits bound is).steps parts.0 h

    behind : Option ClauseFault
    behind = if is_fixed bound.kind && not (meets_back bound) then Some (fault_at n Back) else None

    ends : (meets_end bound ≡ true) × (behind ≡ None)
    ends = not-not (meets_end bound) (Some (fault_at n End)) behind (λ e. cc) parts.1

    back : is_fixed bound.kind ≡ true → meets_back bound ≡ true
    back fixed = go (is_fixed bound.kind) (meets_back bound) fixed ends.1
      where
        go : (f b : Bool) → f ≡ true → (if f && not b then Some (fault_at n Back) else None) ≡ None → b ≡ true
        go true true e h = refl
        go true false e h = absurd (cc)
        go false b e h = absurd (true≢false (sym e))

    by_clause : (c : Clause) → IsShown bound number c w → ⊥
    by_clause End h = end-refuted bound.kind (last_problem bound) w ends.0 h.1
    by_clause Back h = back-refuted (last_problem bound) (problem_at bound bound.back) bound.renaming w (back h.1) h.2
    by_clause c h = steps-refuted bound.kind bound.first 1 bound.steps number c w first nexts (bound_fits bound is).steps parts.0 h
