-- Maps of lower steps that fail a clause: something shows it.
use Rattle.std.proofs.Common.{◌≡◌, ℕ, zero, suc, ◌+◌, ◌<◌, Bool, true, false, cond, eqb, not, ◌&&◌, List, [], ◌∷◌, ◌++◌, length, map, refl, sym, ap, ◌∙◌, subst, ◌⊎◌, ◌≤◌, inl, inr, arith, Some, None, Option, true≢false}
use Rattle.std.specs.Prelude.{Contains, find, if◌then◌else◌, slice_index_or}
use Rattle.std.specs.List.{AllZip, list_all, list_any}
use Rattle.std.specs.Option.{option_map, option_or}
use Rattle.std.specs.Ordering.{is_lt, nat_cmp}
use Rattle.re_labels.proofs.Before.{nat_cmp-greater, nat_cmp-less, nat_cmp-same, same_list-refl, same_list-same}
use Rattle.re_check.proofs.Telling.{read-held}
use Rattle.re_labels.proofs.Membership.{Contains-In, In, In-Contains, In-map, In-map_from, all-In, any_true}
use Rattle.re_labels.proofs.Rising.{rising-map}
use Rattle.re_labels.proofs.Sets.{IsIn-has, has-IsIn}
use Rattle.re_labels.proofs.Tests.{and-true, eqb-same, eqb-true, not-true, true-and}
use Rattle.re_labels.specs.Lists.{IsRising, same_list}
use Rattle.re_labels.specs.Sets.{IsIn, has, number}
use Rattle.re_labels.specs.Configs.{sorted}
use Rattle.re_labels.specs.Rows.{IsChoice, set_at}
use Rattle.re_labels.proofs.Goodness.{Has-has_config, has_config-Has}
use Rattle.re_labels.specs.Constraints.{Constraint, Has, has_config}
use Rattle.re_problem.specs.Steps.{LowerMap, SetEntry, entry_sets, label_at, label_of}
use Rattle.re_problem.specs.Steps.LowerMap.{by_row, by_set}
use Rattle.re_check.proofs.AllowedImages.{entry-over, set_at-entry}
use Rattle.re_check.proofs.RowChoices.{entry-becomes}
use Rattle.re_check.specs.LabelsOver.{labels_over}
use Rattle.re_check.specs.RowEntries.{image_entries, row_entries}
use Rattle.re_check.specs.StepClauses.{HasRowSets, KeepsImages, KeepsRows, OccursInRows}
use Rattle.re_choice.proofs.Beginning.{some_found}
use Rattle.re_why.proofs.Found.{found_passes, none_all}
use Rattle.re_why.proofs.Giving.{at-held, from-none, from-some, gives-at_last, gives-or, held-at, map-none, map-some, some-none, some-some, unordered-rising, unordered-some}
use Rattle.re_why.proofs.Occurring.{has-is, is-has, is-occurs, occurs-is}
use Rattle.re_why.proofs.Rows.{bad_shown, none_bad}
use Rattle.re_why.specs.BadChoice.{first_bad}
use Rattle.re_why.specs.Finding.{becoming, entry_becomes, first_from, first_some, first_unordered, foreign_set, has_set, image_witness, is_foreign, is_held, lost, lost_choice, lost_witness, map_entries, missing_set, occurs_in, rows_becoming, set_becoming, set_or_none, set_witness, sets_ascend, sets_becoming}
use Rattle.re_why.specs.Laws.{Gives, HasSets, HoldsChoices, HoldsRows, MapWitnessLaw}
use Rattle.re_why.specs.Witnesses.{Becomes, IsAt, ShowsChoice, ShowsImage, ShowsSets}
use Rattle.re_why.specs.declared.witness.Witness.{Witness}
use Rattle.re_why.specs.declared.witness.Witness.TheVariants.{ForeignSet, ImageCount, LostChoice, LostRow, MissingSet, SetOrder}

-- ---- L3: the sets of the entries
lower-is : (a b : ℕ) → is_lt (nat_cmp a b) ≡ true → a < b
lower-is a b e = go (cases a b)
  where
    cases : (a b : ℕ) → (a < b) ⊎ (b ≤ a)
    cases a b = grind arith

    go : (a < b) ⊎ (b ≤ a) → a < b
    go (inl l) = l
    go (inr l) = absurd (elim (same_or a b l) [
      | inl s ↦ true≢false (sym e ∙ ap is_lt (nat_cmp-same a b s))
      | inr m ↦ true≢false (sym e ∙ ap is_lt (nat_cmp-greater a b m))
    ])
      where
        same_or : (a b : ℕ) → b ≤ a → (a ≡ b) ⊎ (b < a)
        same_or a b l = grind arith

module _ (rows : List (List (List ℕ))) (entries : List SetEntry) where
  set_order : (k : ℕ) → first_unordered sets_ascend 0 entries ≡ Some k → ShowsSets rows (by_set entries) (SetOrder k)
  set_order k e =
      let (i, is, entry, next, at, behind, fails) = unordered-some sets_ascend 0 entries k e in
      let same : i ≡ k = omega (arith, is) in
      subst (λ m. ShowsSets rows (by_set entries) (SetOrder m)) same (entry, next, at, behind, λ l. true≢false (sym (ap is_lt (nat_cmp-less (number entry.set) (number next.set) l)) ∙ fails))

  pub ascends : (xs : List SetEntry) → IsRising (λ x y. sets_ascend x y ≡ true) xs → IsRising (λ s t. number s < number t) (entry_sets xs)
  ascends [] h = tt
  ascends (x ∷ []) h = tt
  ascends (x ∷ y ∷ xs) h = (lower-is (number x.set) (number y.set) h.0, ascends (y ∷ xs) h.1)

  set_missing : (set : List ℕ) → missing_set rows entries ≡ Some set → ShowsSets rows (by_set entries) (MissingSet set)
  set_missing set e =
      let (i, row, at, found) = some-some (find (λ set. not (has_set entries set))) rows set e in
      let (fails, inside) = found_passes (λ set. not (has_set entries set)) row set (sym found) in
      ((row, at-held rows i row at, In-Contains set row inside), λ held. true≢false (sym (is-has entries set held) ∙ not-true (has_set entries set) fails))

  none_missing : missing_set rows entries ≡ None → (set : List ℕ) → OccursInRows rows set → Contains (entry_sets entries) set
  none_missing e set occurs =
      let (i, at) = held-at rows occurs.0 occurs.1 in
      has-is entries set (all-In (has_set entries) occurs.0 (none_all (has_set entries) occurs.0 (some-none (find (λ set. not (has_set entries set))) rows e i occurs.0 at)) set (Contains-In set occurs.0 occurs.2))

  set_foreign : (set : List ℕ) → foreign_set rows entries ≡ Some set → ShowsSets rows (by_set entries) (ForeignSet set)
  set_foreign set e =
      let (entry, found, same) = map-some (λ (entry : SetEntry). entry.set) (find (is_foreign rows) entries) set e in
      let (fails, inside) = found_passes (is_foreign rows) entries entry (sym found) in
      subst (λ s. ShowsSets rows (by_set entries) (ForeignSet s)) same
      (In-Contains entry.set (entry_sets entries) (In-map (λ (f : SetEntry). f.set) entry entries inside), λ occurs. true≢false (sym (is-occurs rows entry.set occurs) ∙ not-true (occurs_in rows entry.set) fails))

  none_foreign : foreign_set rows entries ≡ None → (set : List ℕ) → Contains (entry_sets entries) set → OccursInRows rows set
  none_foreign e set held =
      let (entry, inside, same) = In-map_from (λ (f : SetEntry). f.set) set entries (Contains-In set (entry_sets entries) held) in
      let none = map-none (λ (entry : SetEntry). entry.set) (find (is_foreign rows) entries) e in
      let passes : occurs_in rows entry.set ≡ true = all-In (λ (f : SetEntry). occurs_in rows f.set) entries (none_all (λ (f : SetEntry). occurs_in rows f.set) entries none) entry inside in
      occurs-is rows set (subst (λ s. occurs_in rows s ≡ true) (sym same) passes)

  sets_shown : (HasRowSets rows entries → ⊥) → Gives (set_witness rows (by_set entries)) (ShowsSets rows (by_set entries))
  sets_shown isnt =
      let P = ShowsSets rows (by_set entries) in
      gives-or (option_map SetOrder (first_unordered sets_ascend 0 entries)) _ P (λ w e. let (k, found, same) = map-some SetOrder (first_unordered sets_ascend 0 entries) w e in subst P same (set_order k found)) (λ order.
      gives-or (option_map MissingSet (missing_set rows entries)) _ P (λ w e. let (s, found, same) = map-some MissingSet (missing_set rows entries) w e in subst P same (set_missing s found)) (λ whole.
      gives-at_last (option_map ForeignSet (foreign_set rows entries)) P (λ w e. let (s, found, same) = map-some ForeignSet (foreign_set rows entries) w e in subst P same (set_foreign s found)) (λ none.
      isnt (record {
        ascends = ascends entries (unordered-rising sets_ascend 0 entries (map-none SetOrder (first_unordered sets_ascend 0 entries) order));
        sets = λ set. (none_foreign (map-none ForeignSet (foreign_set rows entries) none) set, none_missing (map-none MissingSet (missing_set rows entries) whole) set);
      }))))

-- ---- L4: the images
lost_here : (active : Constraint) (k : ℕ) (labels : List ℕ) (w : Witness) → lost active k (sorted labels) ≡ Some w → (LostRow k (sorted labels) ≡ w) × (Contains active.configs (sorted labels) → ⊥)
lost_here active k labels w e = go (has_config active labels) refl e
  where
    go : (b : Bool) → has_config active labels ≡ b → (if b then None else Some (LostRow k (sorted labels))) ≡ Some w → (LostRow k (sorted labels) ≡ w) × (Contains active.configs (sorted labels) → ⊥)
    go true h e = absurd (cc)
    go false h e = (cc, λ held. true≢false (sym (Has-has_config active labels held) ∙ h))

lost_not : (active : Constraint) (k : ℕ) (labels : List ℕ) → lost active k (sorted labels) ≡ None → Has active labels
lost_not active k labels e = go (has_config active labels) refl e
  where
    go : (b : Bool) → has_config active labels ≡ b → (if b then None else Some (LostRow k (sorted labels))) ≡ None → Has active labels
    go true h e = has_config-Has active labels h
    go false h e = absurd (cc)

images_shown : (active : Constraint) (rows : List (List (List ℕ))) (m : LowerMap) → (HoldsRows active rows m → ⊥) → Gives (image_witness active rows m) (ShowsImage active rows m)
images_shown active rows (by_set entries) isnt =
    let give = λ (k : ℕ) (row : List (List ℕ)). lost active k (sorted (map (label_of entries) row)) in
    gives-at_last (first_from give 0 rows) (ShowsImage active rows (by_set entries))
    (λ w e.
    let (i, row, at, is) = from-some give 0 rows w e in
    let (same, fails) = lost_here active (0 + i) (map (label_of entries) row) w is in
    let zero_more : 0 + i ≡ i = omega arith in
    subst (ShowsImage active rows (by_set entries)) same (subst (λ k. ShowsImage active rows (by_set entries) (LostRow k (sorted (map (label_of entries) row)))) (sym zero_more) (row, at, refl, fails)))
    (λ none. isnt (λ row held. let (i, at) = held-at rows row held in lost_not active (0 + i) (map (label_of entries) row) (from-none give 0 rows none i row at)))
images_shown active rows (by_row images) isnt =
    gives-at_last (first_from (λ (k : ℕ) (image : List ℕ). lost active k (sorted image)) 0 images) (ShowsImage active rows (by_row images))
    (λ w e.
    let (i, labels, at, is) = from-some (λ (k : ℕ) (image : List ℕ). lost active k (sorted image)) 0 images w e in
    let (same, fails) = lost_here active (0 + i) labels w is in
    let zero_more : 0 + i ≡ i = omega arith in
    subst (ShowsImage active rows (by_row images)) same (subst (λ k. ShowsImage active rows (by_row images) (LostRow k (sorted labels))) (sym zero_more) (labels, at, refl, fails)))
    (λ none. isnt (λ labels held. let (i, at) = held-at images labels held in lost_not active (0 + i) labels (from-none (λ (k : ℕ) (image : List ℕ). lost active k (sorted image)) 0 images none i labels at)))

-- ---- L5: the images of what can be chosen
become : (rows : List (List (List ℕ))) (m : LowerMap) (e : SetEntry) → Contains (map_entries rows m) e → Becomes rows m e.set e.label
become rows (by_set entries) e held = held
become rows (by_row images) e held = entry-becomes rows images e held

-- what the rows give is what their entries give
becoming-append : (xs ys : List SetEntry) (x y : ℕ) → set_becoming (xs ++ ys) x y ≡ option_or (set_becoming xs x y) (set_becoming ys x y)
becoming-append [] ys x y = refl
becoming-append (e ∷ xs) ys x y = go (entry_becomes x y e) (becoming-append xs ys x y)
  where
    go : (b : Bool) → set_becoming (xs ++ ys) x y ≡ option_or (set_becoming xs x y) (set_becoming ys x y)
        → option_map (λ (f : SetEntry). f.set) (cond b (Some e) (find (entry_becomes x y) (xs ++ ys))) ≡ option_or (option_map (λ (f : SetEntry). f.set) (cond b (Some e) (find (entry_becomes x y) xs))) (set_becoming ys x y)
    go true rest = refl
    go false rest = rest

rows-entries : (rows : List (List (List ℕ))) (images : List (List ℕ)) (x y : ℕ) → rows_becoming rows images x y ≡ set_becoming (image_entries rows images) x y
rows-entries [] images x y = refl
rows-entries (row ∷ rows) [] x y = refl
rows-entries (row ∷ rows) (image ∷ images) x y =
    ap (option_or (set_becoming (row_entries row image) x y)) (rows-entries rows images x y) ∙ sym (becoming-append (row_entries row image) (image_entries rows images) x y)

by_entries : (rows : List (List (List ℕ))) (m : LowerMap) (x y : ℕ) → becoming rows m x y ≡ set_becoming (map_entries rows m) x y
by_entries rows (by_set entries) x y = refl
by_entries rows (by_row images) x y = rows-entries rows images x y

-- a label over another one stands with a set that holds that
over_set : (rows : List (List (List ℕ))) (m : LowerMap) (x y : ℕ) → IsIn y (labels_over (map_entries rows m) x)
    → IsIn x (set_or_none (becoming rows m x y)) × Becomes rows m (set_or_none (becoming rows m x y)) y
over_set rows m x y over =
    subst (λ o. IsIn x (set_or_none o) × Becomes rows m (set_or_none o) y) (sym (by_entries rows m x y)) (go (find (entry_becomes x y) entries) refl)
  where
    entries : List SetEntry
    entries = map_entries rows m

    none : SetEntry
    none = record { set = []; label = 0 }

    stands : list_any (entry_becomes x y) entries ≡ true
    stands =
        let (i, l, inside, same) = entry-over entries x y over in
        let e : SetEntry = slice_index_or entries i none in
        let has_it : has e.set x ≡ true = IsIn-has e.set x (subst (IsIn x) (set_at-entry entries i) inside) in
        any_true (entry_becomes x y) entries e (read-held entries i none l) (true-and (has e.set x) (eqb e.label y) has_it (subst (λ z. eqb e.label z ≡ true) same (eqb-same e.label)))

    go : (o : Option SetEntry) → find (entry_becomes x y) entries ≡ o → IsIn x (set_or_none (option_map (λ (e : SetEntry). e.set) o)) × Becomes rows m (set_or_none (option_map (λ (e : SetEntry). e.set) o)) y
    go None e = absurd (some_found (entry_becomes x y) entries stands e)
    go (Some entry) e =
        let (passes, inside) = found_passes (entry_becomes x y) entries entry (sym e) in
        let both = and-true (has entry.set x) (eqb entry.label y) passes in
        (has-IsIn entry.set x both.0, subst (Becomes rows m entry.set) (eqb-true entry.label y both.1) (become rows m entry (In-Contains entry entries inside)))

choice_sets : (rows : List (List (List ℕ))) (m : LowerMap) (config labels : List ℕ) → IsChoice labels (map (labels_over (map_entries rows m)) config)
    → IsChoice config (sets_becoming rows m config labels) × AllZip (Becomes rows m) (sets_becoming rows m config labels) labels
choice_sets rows m [] [] h = (tt, tt)
choice_sets rows m [] (y ∷ labels) h = absurd h
choice_sets rows m (x ∷ config) [] h = absurd h
choice_sets rows m (x ∷ config) (y ∷ labels) h =
    let (inside, becomes) = over_set rows m x y h.0 in
    let (more, others) = choice_sets rows m config labels h.1 in
    ((inside, more), (becomes, others))

choices_shown : (before passive : Constraint) (rows : List (List (List ℕ))) (m : LowerMap) → (HoldsChoices before passive rows m → ⊥) → Gives (lost_witness before passive rows m) (ShowsChoice before passive rows m)
choices_shown before passive rows m isnt =
    let entries = map_entries rows m in
    let P = ShowsChoice before passive rows m in
    gives-at_last (first_some (lost_choice rows m passive) before.configs) P
    (λ w e.
    let (i, config, at, is) = some-some (lost_choice rows m passive) before.configs w e in
    let (labels, found, same) = map-some (λ labels. LostChoice config (sets_becoming rows m config labels) labels) (first_bad passive (map (labels_over entries) config)) w is in
    let (chosen, bad) = bad_shown passive (map (labels_over entries) config) labels found in
    let (from, becomes) = choice_sets rows m config labels chosen in
    subst P same (at-held before.configs i config at, from, becomes, bad))
    (λ none. isnt (λ config labels held chosen.
    let (i, at) = held-at before.configs config held in
    none_bad passive (map (labels_over entries) config)
    (map-none (λ labels. LostChoice config (sets_becoming rows m config labels) labels) (first_bad passive (map (labels_over entries) config)) (some-none (lost_choice rows m passive) before.configs none i config at)) labels chosen))

set_shown : (rows : List (List (List ℕ))) (m : LowerMap) → (HasSets rows m → ⊥) → Gives (set_witness rows m) (ShowsSets rows m)
set_shown rows (by_set entries) isnt = sets_shown rows entries isnt
set_shown rows (by_row images) isnt = isnt

pub map_witness_law : MapWitnessLaw
map_witness_law before active passive rows m = (set_shown rows m, images_shown active rows m, choices_shown before passive rows m)
