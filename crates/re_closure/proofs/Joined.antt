-- The bound of a chain and the steps to the closure of its last problem and back: it fits, and it is accepted.
use Rattle.std.proofs.Common.{◌≡◌, ℕ, suc, ◌+◌, ◌<◌, ◌≤◌, Bool, true, false, not, ltb, leb, List, [], ◌∷◌, ◌++◌, append_assoc, length, length-append, map, Option, None, Some, refl, sym, ap, ◌∙◌, subst, inl, inr, arith}
use Rattle.std.specs.Prelude.{Contains, ◌&&◌, ◌||◌, if◌then◌else◌, is_none, slice_index_or}
use Rattle.std.specs.Bool.{Decides}
use Rattle.std.specs.List.{AllByRecursion, list_all}
use Rattle.std.specs.Str.{bytes_eq}
use Rattle.std.proofs.lemmas.Bool.{false≢true}
use Rattle.std.proofs.lemmas.Bool.Decides.{nat_tests}
use Rattle.std.proofs.lemmas.List.{map-append}
use Rattle.std.proofs.lemmas.Slice.Eq.{bytes_eq-Decides}
use Rattle.re_labels.proofs.Membership.{Contains-map_cases, In-Contains, all-In_from, length-count_from, length-map'}
use Rattle.re_labels.proofs.LabelPlaces.{place_of-below}
use Rattle.re_labels.proofs.Tests.{and-true, or-left, or-right, true-and, true-below}
use Rattle.re_labels.specs.Lists.{count_from, place_of}
use Rattle.re_labels.specs.declared.TheConstants.{MAX_LABELS}
use Rattle.re_labels.proofs.Rearranging.{Contains-Rearranged, Rearranged-sym}
use Rattle.re_labels.specs.declared.TheConstants.{MAX_ROWS}
use Rattle.re_labels.specs.Rows.{placed}
use Rattle.re_labels.proofs.MaxSets.{max_sets-from}
use Rattle.re_labels.specs.Constraints.{Constraint}
use Rattle.re_check.proofs.RowSets.{row_sets_law}
use Rattle.re_check.specs.StepClauses.{HasRowSets}
use Rattle.re_labels.specs.GoodRows.{max_rows, max_sets}
use Rattle.re_problem.proofs.Building.{below_all}
use Rattle.re_problem.proofs.TextLines.{last_push}
use Rattle.re_problem.proofs.ZeroPlaces.{law as zero_place_law}
use Rattle.re_problem.specs.NamedProblems.{IsNamedProblem, NamedProblem, unnamed}
use Rattle.re_problem.specs.ProblemTexts.{last_or}
use Rattle.re_problem.specs.Problems.{IsProblem, Problem}
use Rattle.re_problem.specs.Steps.{IsLowerStep, IsRenamed, SetEntry, entry_sets}
use Rattle.re_problem.specs.Zero.{zero_place}
use Rattle.re_problem.proofs.VerdictLaws.{renames_law}
use Rattle.re_problem.specs.Verdicts.{renaming_verdict}
use Rattle.re_problem.specs.declared.verdict.MapVerdict.TheVariants.{Yes}
use Rattle.re_cert.proofs.FittingStates.{one_more}
use Rattle.re_cert.specs.Bounds.{Bound, BoundStep, entry_fits, has_row_maps, is_bound, is_by_row, is_label, last_problem, next_problems, one_form, pair_fits, problem_at, renaming_fits, row_fits, step_fits, steps_fit}
use Rattle.re_cert.specs.declared.certificate.Kind.TheVariants.{Fixed, Lower}
use Rattle.re_cert.specs.declared.certificate.TheConstants.{MAX_STEPS}
use Rattle.re_check.proofs.StepMeaning.{lower_clauses}
use Rattle.re_check.specs.Clauses.{step_fault}
use Rattle.re_check.proofs.Meaning.{verdict_means, named-last}
use Rattle.re_check.specs.Verdicts.{Means, end_fault, fault_at, fault_or, goes_back, is_yes, meets_back, meets_end, steps_fault, verdict_of, verdict_with}
use Rattle.re_check.specs.declared.verdict.Verdict.{Verdict}
use Rattle.re_check.specs.declared.verdict.Verdict.TheVariants.{Accepted}
use Rattle.re_chains.specs.Chains.{IsOverProblems, IsSoundLower}
use Rattle.re_search.proofs.Entries.{rows-fit, set-is}
use Rattle.re_search.proofs.Paths.{fits-more, valid-more}
use Rattle.re_shaping.proofs.RowForms.{step-fits, step-form, step-sound}
use Rattle.re_step.proofs.NameLemmas.{length-label_names}
use Rattle.re_shaping.specs.Extensions.{GoesOn}
use Rattle.re_closure_laws.proofs.Closing.{closure_bound_law, zero_lines_law}
use Rattle.re_closure_laws.proofs.Entries.{sets_by}
use Rattle.re_closure_laws.proofs.FirstSteps.{of_maximal}
use Rattle.re_closure_laws.proofs.Generated.{closure_families_law}
use Rattle.re_closure_laws.proofs.Steps.{of_max_set}
use Rattle.re_closure_laws.specs.Lines.{AreAround, Family, IsFamily, below, entries_to, labels_within, problem_of, topmost}
use Rattle.re_closure.proofs.NamedFamilies.{named_between, named_closed, opposed, same_count, unnamed_of}
use Rattle.re_closure.proofs.Named.{named_sets, placed_named}
use Rattle.re_closure.proofs.RowLemmas.{few_maximal}
use Rattle.re_closure.specs.Closed.{Computes, IsClosureOf, made_bound}
use Rattle.re_closure.specs.Closures.{AreNamed, IsClosed, IsSolvableBy}
use Rattle.re_closure.specs.Limits.{IsSmallClosure}
use Rattle.re_closure.specs.Sides.{IsMapOf, bound_by, closed_bound, entries_by, first_step, in_form, named_of, step_between, step_to}
use Rattle.re_closure.specs.declared.closure.Closure.{Closure}
use Rattle.re_closure.specs.declared.types.StepMap.{StepMap}

-- ---- a step by sets fits
module _ (before next : NamedProblem) (label : List ℕ → ℕ) (n : ℕ) (count : length before.names ≡ n) (few : length (max_rows before.passive n) ≤ MAX_ROWS)
    (low : (set : List ℕ) → Contains (max_sets before.passive n) set → label set < length next.names) where
  entry-fits : (entry : SetEntry) → Contains (entries_by label (max_sets before.passive n)) entry → entry_fits before next entry ≡ true
  entry-fits entry held =
      let (set, there, e) = Contains-map_cases (λ set. record { set = set; label = label set }) (max_sets before.passive n) entry held in
      let is = set-is before.passive n set (Rattle.re_labels.proofs.Membership.Contains-In set (max_sets before.passive n) there) in
      subst (λ (f : SetEntry). entry_fits before next f ≡ true) e
      (true-and (list_all (is_label before) set) (is_label next (label set))
      (subst (λ m. list_all (λ x. ltb x m) set ≡ true) (sym count) (below_all n set is.0.1)) (true-below (label set) (length next.names) (low set there)))

  pub set_step-fits : step_fits Fixed before (step_to next (max_rows before.passive n) (entries_by label (max_sets before.passive n))) ≡ true
  set_step-fits =
      let small : leb (length (max_rows before.passive n)) MAX_ROWS ≡ true = grind (arith, nat_tests) in
      let rows : list_all (row_fits before) (max_rows before.passive n) ≡ true = subst (λ m. list_all (row_fits before) (max_rows before.passive m) ≡ true) count (rows-fit before) in
      true-and (leb (length (max_rows before.passive n)) MAX_ROWS && list_all (row_fits before) (max_rows before.passive n)) (list_all (entry_fits before next) (entries_by label (max_sets before.passive n)))
      (true-and (leb (length (max_rows before.passive n)) MAX_ROWS) (list_all (row_fits before) (max_rows before.passive n)) small rows)
      (all-In_from (entry_fits before next) (entries_by label (max_sets before.passive n)) (λ entry i. entry-fits entry (In-Contains entry (entries_by label (max_sets before.passive n)) i)))

-- ---- a chain with more steps of its form
-- whether the map of the step has this form
abbrev pub is_formed : Bool → BoundStep → Bool
is_formed by_rows s = if by_rows then is_by_row s.map else not (is_by_row s.map)

pub record IsLonger (first : NamedProblem) (by_rows : Bool) (steps : List BoundStep) (last : NamedProblem) : Type 0 where
  pub fits : steps_fit Fixed first steps ≡ true
  pub valid : steps_fault first 1 steps ≡ None
  pub formed : list_all (is_formed by_rows) steps ≡ true
  pub ends : last_or first (next_problems steps) ≡ last

next-form : (by_rows : Bool) (s : BoundStep) → (in_form by_rows s).next ≡ s.next
next-form true s = refl
next-form false s = refl

-- one with one step more
pub step_longer : (first : NamedProblem) (r : Bool) (steps : List BoundStep) (last : NamedProblem) (s : BoundStep) → step_fits Fixed last s ≡ true → step_fault last s ≡ None → is_formed r s ≡ true
    → IsLonger first r steps last → IsLonger first r (steps ++ s ∷ []) s.next
step_longer first r steps last s fit met form longer = record {
  fits = fits-more Fixed first steps s longer.fits (subst (λ p. step_fits Fixed p s ≡ true) (sym longer.ends) fit);
  valid = valid-more 1 first steps s longer.valid (subst (λ p. step_fault p s ≡ None) (sym longer.ends) met);
  formed = one_more (is_formed r) steps s longer.formed form;
  ends = ap (last_or first) (map-append (λ (s : BoundStep). s.next) steps (s ∷ [])) ∙ last_push first (next_problems steps) s.next;
}

module _ (first : NamedProblem) (steps : List BoundStep) (last : NamedProblem) (s : BoundStep) (by_set : is_by_row s.map ≡ false) (fit : step_fits Fixed last s ≡ true) (met : step_fault last s ≡ None) where
  form_fits : (by_rows : Bool) → step_fits Fixed last (in_form by_rows s) ≡ true
  form_fits true = step-fits Fixed last s fit met
  form_fits false = fit

  form_meets : (by_rows : Bool) → step_fault last (in_form by_rows s) ≡ None
  form_meets true = step-sound last s met
  form_meets false = met

  form_is : (by_rows : Bool) → is_formed by_rows (in_form by_rows s) ≡ true
  form_is true = step-form Fixed last s fit
  form_is false = ap not by_set

  one_longer : (by_rows : Bool) → IsLonger first by_rows steps last → IsLonger first by_rows (steps ++ in_form by_rows s ∷ []) s.next
  one_longer by_rows longer = subst (IsLonger first by_rows (steps ++ in_form by_rows s ∷ [])) (next-form by_rows s)
      (step_longer first by_rows steps last (in_form by_rows s) (form_fits by_rows) (form_meets by_rows) (form_is by_rows) longer)

-- ---- the form of the chain
pub fits_fixed : (before : NamedProblem) (steps : List BoundStep) → steps_fit Lower before steps ≡ true → steps_fit Fixed before steps ≡ true
fits_fixed before [] h = h
fits_fixed before (s ∷ steps) h =
    let two = and-true (step_fits Lower before s) (steps_fit Lower s.next steps) h in
    true-and (step_fits Fixed before s) (steps_fit Fixed s.next steps) two.0 (fits_fixed s.next steps two.1)

all_formed : (steps : List BoundStep) (r : Bool) → has_row_maps steps ≡ r → one_form steps ≡ true → list_all (is_formed r) steps ≡ true
all_formed steps true some form = elim (Rattle.re_labels.proofs.Tests.or-true (list_all (λ (s : BoundStep). is_by_row s.map) steps) (list_all (λ (s : BoundStep). not (is_by_row s.map)) steps) form) [
  | inl all ↦ all
  | inr none ↦
      let (s, i, there) = Rattle.re_labels.proofs.Membership.any-In_from (λ (s : BoundStep). is_by_row s.map) steps some in
      let no : not (is_by_row s.map) ≡ true = Rattle.re_labels.proofs.Membership.all-In (λ (s : BoundStep). not (is_by_row s.map)) steps none s i in
      let impossible : not true ≡ true = ap not (sym there) ∙ no in
      absurd (cc)
]
all_formed steps false none form = all_sets steps none
  where
    all_sets : (steps : List BoundStep) → has_row_maps steps ≡ false → list_all (λ (s : BoundStep). not (is_by_row s.map)) steps ≡ true
    all_sets [] none = refl
    all_sets (s ∷ steps) none = go (is_by_row s.map) refl (all_sets steps)
      where
        go : (b : Bool) → is_by_row s.map ≡ b → (has_row_maps steps ≡ false → list_all (λ (s : BoundStep). not (is_by_row s.map)) steps ≡ true) → list_all (λ (s : BoundStep). not (is_by_row s.map)) (s ∷ steps) ≡ true
        go true e rest = let some : true ≡ false = ap (λ b. b || has_row_maps steps) (sym e) ∙ none in absurd (cc)
        go false e rest = true-and (not (is_by_row s.map)) (list_all (λ (s : BoundStep). not (is_by_row s.map)) steps) (ap not e) (rest (ap (λ b. b || has_row_maps steps) (sym e) ∙ none))

pub one_form-of : (r : Bool) (steps : List BoundStep) → list_all (is_formed r) steps ≡ true → one_form steps ≡ true
one_form-of true steps all = or-left (list_all (λ (s : BoundStep). is_by_row s.map) steps) (list_all (λ (s : BoundStep). not (is_by_row s.map)) steps) all
one_form-of false steps all = or-right (list_all (λ (s : BoundStep). is_by_row s.map) steps) (list_all (λ (s : BoundStep). not (is_by_row s.map)) steps) all

-- ---- the problem behind the first of the steps
next_at : (first : NamedProblem) (xs ys : List NamedProblem) (y : NamedProblem) → slice_index_or (xs ++ y ∷ ys) (length xs) first ≡ y
next_at first [] ys y = refl
next_at first (x ∷ xs) ys y = next_at first xs ys y

identity-images : (labels : List ℕ) → map (λ (pair : ℕ × ℕ). pair.1) (map (λ label. (label, label)) labels) ≡ labels
identity-images [] = refl
identity-images (x ∷ labels) = ap (λ l. x ∷ l) (identity-images labels)

identity-labels : (labels : List ℕ) → map (λ (pair : ℕ × ℕ). pair.0) (map (λ label. (label, label)) labels) ≡ labels
identity-labels [] = refl
identity-labels (x ∷ labels) = ap (λ l. x ∷ l) (identity-labels labels)

-- ---- small facts
assoc3 : (xs : List BoundStep) (a b c : BoundStep) → ((xs ++ a ∷ []) ++ b ∷ []) ++ c ∷ [] ≡ xs ++ a ∷ b ∷ c ∷ []
assoc3 xs a b c = ap (λ l. l ++ c ∷ []) (append_assoc xs (a ∷ []) (b ∷ [])) ∙ append_assoc xs (a ∷ b ∷ []) (c ∷ [])

none-of : (o : Option ℕ) → (Rattle.std.specs.Prelude.IsSome o → ⊥) → o ≡ None
none-of None h = refl
none-of (Some x) h = absurd (h refl)

not-some : (o : Option ℕ) → o ≡ None → Rattle.std.specs.Prelude.IsSome o → ⊥
not-some None e h = false≢true h
not-some (Some x) e h = let d : Some x ≡ None = e in absurd (cc)

all_append : (P : NamedProblem → Type 0) (xs ys : List NamedProblem) → AllByRecursion P xs → AllByRecursion P ys → AllByRecursion P (xs ++ ys)
all_append P [] ys h k = k
all_append P (x ∷ xs) ys h k = (h.0, all_append P xs ys h.1 k)

pairs_fit : (problem : NamedProblem) (n : ℕ) → length problem.names ≡ n → list_all (pair_fits problem problem) (map (λ label. (label, label)) (count_from 0 n)) ≡ true
pairs_fit problem n count = all-In_from (pair_fits problem problem) (map (λ label. (label, label)) (count_from 0 n)) (λ pair i.
    let (x, held, e) = Contains-map_cases (λ label. (label, label)) (count_from 0 n) pair (In-Contains pair (map (λ label. (label, label)) (count_from 0 n)) i) in
    let range = Rattle.re_labels.proofs.Membership.count_from_range 0 n x held in
    let low : x < length problem.names = omega (arith, range.1, count) in
    let one : is_label problem x ≡ true = true-below x (length problem.names) low in
    subst (λ p. pair_fits problem problem p ≡ true) e (true-and (is_label problem x) (is_label problem x) one one))

-- ---- a chain and a step to the problem between, then the steps to the closure and back
module _ (chain : Bound) (over : IsOverProblems chain) (problem : Problem) (is_problem : IsProblem problem) (active passive : Family) (small : IsSmallClosure problem active passive)
    (room : length chain.steps + 3 ≤ MAX_STEPS) (few_active : length (max_rows (below active) (length active.sets)) ≤ MAX_ROWS) (few_passive : length (max_rows (below passive) (length passive.sets)) ≤ MAX_ROWS)
    (not_zero : zero_place (problem_of active passive) ≡ None) (r : Bool) (t1 : BoundStep) (leads : t1.next ≡ named_of passive active)
    (one : IsLonger chain.first r (chain.steps ++ t1 ∷ []) (named_of passive active)) where
  abbrev Q : NamedProblem
  Q = named_of passive active

  abbrev S : NamedProblem
  S = named_of active passive

  fam : IsFamily active × IsFamily passive × AreAround problem active passive
  fam = closure_families_law problem active passive is_problem small.closure

  law : Rattle.re_closure_laws.specs.Laws.IsClosureBound problem active passive
  law = closure_bound_law problem active passive is_problem small.closure

  counts : length active.sets ≡ length passive.sets
  counts = same_count problem active passive is_problem small.closure

  count_Q : length (named_of passive active).names ≡ length active.sets
  count_Q = length-label_names (length active.sets)

  count_S : length (named_of active passive).names ≡ length passive.sets
  count_S = length-label_names (length passive.sets)

  abbrev s2 : BoundStep
  s2 = step_between passive active

  abbrev s3 : BoundStep
  s3 = step_between active passive

  met2 : step_fault (named_of passive active) (step_between passive active) ≡ None
  met2 = (lower_clauses Q s2 refl).1 (subst (λ q. IsLowerStep q (unnamed S) s2.rows s2.map) (sym (unnamed_of passive active)) (subst (λ q. IsLowerStep (problem_of passive active) q s2.rows s2.map) (sym (unnamed_of active passive)) law.out))

  met3 : step_fault (named_of active passive) (step_between active passive) ≡ None
  met3 = (lower_clauses S s3 refl).1 (subst (λ q. IsLowerStep q (unnamed Q) s3.rows s3.map) (sym (unnamed_of active passive)) (subst (λ q. IsLowerStep (problem_of active passive) q s3.rows s3.map) (sym (unnamed_of passive active)) law.back))

  fit2 : step_fits Fixed (named_of passive active) (step_between passive active) ≡ true
  fit2 = set_step-fits Q S (place_of (map (labels_within active.sets) active.sets)) (length active.sets) count_Q few_active
      (λ set held. let low = (of_max_set active fam.0 set held).0 in omega (arith, low, counts, count_S))

  fit3 : step_fits Fixed (named_of active passive) (step_between active passive) ≡ true
  fit3 = set_step-fits S Q (place_of (map (labels_within passive.sets) passive.sets)) (length passive.sets) count_S few_passive
      (λ set held. let low = (of_max_set passive fam.1 set held).0 in omega (arith, low, counts, count_Q))

  abbrev bound : Bound
  bound = bound_by r chain t1 active passive

  longer : IsLonger chain.first r (bound_by r chain t1 active passive).steps (named_of passive active)
  longer =
      let t2 = in_form r s2 in
      let t3 = in_form r s3 in
      let two = one_longer chain.first (chain.steps ++ t1 ∷ []) Q s2 refl fit2 met2 r one in
      let three = one_longer chain.first ((chain.steps ++ t1 ∷ []) ++ t2 ∷ []) S s3 refl fit3 met3 r two in
      subst (λ l. IsLonger chain.first r l Q) (assoc3 chain.steps t1 t2 t3) three

  abbrev more : List BoundStep
  more = t1 ∷ in_form r s2 ∷ in_form r s3 ∷ []

  count : length (bound_by r chain t1 active passive).steps ≡ length chain.steps + 3
  count = length-append chain.steps more

  ends : last_problem (bound_by r chain t1 active passive) ≡ named_of passive active
  ends = longer.ends

  target : problem_at (bound_by r chain t1 active passive) (suc (length chain.steps)) ≡ named_of passive active
  target =
      let steps : next_problems bound.steps ≡ next_problems chain.steps ++ next_problems more = map-append (λ (s : BoundStep). s.next) chain.steps more in
      let same : length chain.steps ≡ length (next_problems chain.steps) = sym (length-map' (λ (s : BoundStep). s.next) chain.steps) in
      (λ i. slice_index_or (steps i) (same i) chain.first)
      ∙ next_at chain.first (next_problems chain.steps) ((in_form r s2).next ∷ (in_form r s3).next ∷ []) t1.next
      ∙ leads

  renaming : renaming_fits (bound_by r chain t1 active passive) ≡ true
  renaming =
      let goes : ltb (suc (length chain.steps)) (length bound.steps) ≡ true = (let l : suc (length chain.steps) < length bound.steps = omega (arith, count) in grind (arith, nat_tests)) in
      true-and (ltb (suc (length chain.steps)) (length bound.steps)) (list_all (pair_fits (last_problem bound) (problem_at bound (suc (length chain.steps)))) bound.renaming) goes
      ((λ i. list_all (pair_fits (ends i) (target i)) bound.renaming) ∙ pairs_fit Q (length active.sets) count_Q)

  pub fits : is_bound (bound_by r chain t1 active passive) ≡ true
  fits =
      let short : leb (length bound.steps) MAX_STEPS ≡ true = (let l : length bound.steps ≤ MAX_STEPS = omega (arith, count, room) in grind (arith, nat_tests)) in
      true-and (leb (length bound.steps) MAX_STEPS && steps_fit Fixed chain.first bound.steps && one_form bound.steps) (renaming_fits bound)
      (true-and (leb (length bound.steps) MAX_STEPS && steps_fit Fixed chain.first bound.steps) (one_form bound.steps)
      (true-and (leb (length bound.steps) MAX_STEPS) (steps_fit Fixed chain.first bound.steps) short longer.fits)
      (one_form-of r bound.steps longer.formed)) renaming

  -- ---- the end
  not_zero_Q : zero_place (unnamed (named_of passive active)) ≡ None
  not_zero_Q = ap zero_place (unnamed_of passive active) ∙ none-of (zero_place (problem_of passive active))
      (λ some. not-some (zero_place (problem_of active passive)) not_zero
      ((zero_place_law (problem_of active passive) []).1.1 ((zero_lines_law active passive fam.0 fam.1 (opposed problem active passive is_problem small.closure)).1
      ((zero_place_law (problem_of passive active) []).1.0 some))))

  is_Q : IsProblem (unnamed (named_of passive active))
  is_Q = (named_between problem active passive is_problem small.closure small.labels).problem

  itself : goes_back (named_of passive active) (named_of passive active) (bound_by r chain t1 active passive).renaming ≡ true
  itself =
      let labels : map (λ (pair : ℕ × ℕ). pair.0) bound.renaming ≡ count_from 0 (length Q.names) = identity-labels (count_from 0 (length active.sets)) ∙ ap (count_from 0) (sym count_Q) in
      let images : map (λ (pair : ℕ × ℕ). pair.1) bound.renaming ≡ count_from 0 (length active.sets) = identity-images (count_from 0 (length active.sets)) in
      let renamed : IsRenamed (unnamed Q) (unnamed Q) (count_from 0 (length active.sets)) =
      subst (λ q. IsRenamed q q (count_from 0 (length active.sets))) (sym (unnamed_of passive active)) law.renamed in
      let yes : renaming_verdict (unnamed Q) (unnamed Q) (count_from 0 (length active.sets)) ≡ Yes =
      (renames_law (unnamed Q) (unnamed Q) (count_from 0 (length active.sets)) is_Q is_Q (length-count_from 0 (length active.sets) ∙ sym count_Q)).1 renamed in
      true-and (bytes_eq (map (λ (pair : ℕ × ℕ). pair.0) bound.renaming) (count_from 0 (length Q.names))) (is_yes (renaming_verdict (unnamed Q) (unnamed Q) (map (λ (pair : ℕ × ℕ). pair.1) bound.renaming)))
      ((bytes_eq-Decides (map (λ (pair : ℕ × ℕ). pair.0) bound.renaming) (count_from 0 (length Q.names))).1 labels)
      (ap (λ l. is_yes (renaming_verdict (unnamed Q) (unnamed Q) l)) images ∙ ap is_yes yes)

  back : meets_back (bound_by r chain t1 active passive) ≡ true
  back = (λ i. goes_back (ends i) (target i) bound.renaming) ∙ itself

  ended : end_fault (bound_by r chain t1 active passive) ≡ None
  ended =
      let end : meets_end bound ≡ true = ap (λ p. is_none (zero_place (unnamed p))) ends ∙ ap is_none not_zero_Q in
      (λ i. if not (end i) then Some (fault_at (length bound.steps) Rattle.re_check.specs.declared.clause.Clause.TheVariants.End)
      else if not (back i) then Some (fault_at (length bound.steps) Rattle.re_check.specs.declared.clause.Clause.TheVariants.Back) else None)

  pub valid : verdict_of (bound_by r chain t1 active passive) ≡ Accepted Fixed (length (bound_by r chain t1 active passive).steps)
  valid = (λ i. verdict_with Fixed (length bound.steps) (fault_or (longer.valid i) (ended i)))

  overs : AllByRecursion IsNamedProblem (next_problems (bound_by r chain t1 active passive).steps)
  overs = subst (AllByRecursion IsNamedProblem) (sym (map-append (λ (s : BoundStep). s.next) chain.steps more))
      (all_append IsNamedProblem (next_problems chain.steps) (next_problems more) over.next (
        subst IsNamedProblem (sym leads) between,
        (subst IsNamedProblem (sym (next-form r s2)) (named_closed problem active passive is_problem small.closure small.labels), (subst IsNamedProblem (sym (next-form r s3)) between, tt)),
      ))
    where
      between : IsNamedProblem (named_of passive active)
      between = named_between problem active passive is_problem small.closure small.labels

  means : Means (Accepted Fixed (length (bound_by r chain t1 active passive).steps)) (unnamed chain.first)
  means = subst (λ (v : Verdict). Means v (unnamed chain.first)) valid (verdict_means bound fits over.first overs)

  small_next : (s : BoundStep) (n : ℕ) → length s.next.names ≡ n → n ≤ MAX_LABELS → length (in_form r s).next.names ≤ MAX_LABELS
  small_next s n e low = subst (λ (p : NamedProblem). length p.names ≤ MAX_LABELS) (sym (next-form r s)) (omega (arith, e, low))

  pub goes_on : GoesOn Fixed 3 MAX_LABELS chain (bound_by r chain t1 active passive)
  goes_on = record {
    fits = fits;
    problems = record { first = over.first; next = overs };
    of_kind = refl;
    first = refl;
    more = more;
    steps = refl;
    few = omega arith;
    small = (
      subst (λ (p : NamedProblem). length p.names ≤ MAX_LABELS) (sym leads) (omega (arith, count_Q, counts, small.labels)),
      (small_next s2 (length passive.sets) count_S small.labels, (small_next s3 (length active.sets) count_Q (omega (arith, counts, small.labels)), tt)),
    );
    valid = valid;
    means = means;
  }

-- ---- the chain and the steps to the closure of its last problem
module _ (chain : Bound) (is : is_bound chain ≡ true) (sound : IsSoundLower chain) (over : IsOverProblems chain) (active passive : Family)
    (small : IsSmallClosure (unnamed (last_problem chain)) active passive) (room : length chain.steps + 3 ≤ MAX_STEPS)
    (few : length (max_rows (last_problem chain).passive (length (last_problem chain).names)) ≤ MAX_ROWS) (few_active : length (max_rows (below active) (length active.sets)) ≤ MAX_ROWS)
    (few_passive : length (max_rows (below passive) (length passive.sets)) ≤ MAX_ROWS) (not_zero : zero_place (problem_of active passive) ≡ None) where
  abbrev P : NamedProblem
  P = last_problem chain

  problem : IsNamedProblem (last_problem chain)
  problem = named-last chain.first (next_problems chain.steps) over.first over.next

  fam_P : IsFamily active × IsFamily passive × AreAround (unnamed (last_problem chain)) active passive
  fam_P = closure_families_law (unnamed P) active passive problem.problem small.closure

  abbrev s1 : BoundStep
  s1 = first_step (unnamed P) active passive

  met1 : step_fault (last_problem chain) (first_step (unnamed (last_problem chain)) active passive) ≡ None
  met1 = (lower_clauses P s1 refl).1 (subst (λ q. IsLowerStep (unnamed P) q s1.rows s1.map) (sym (unnamed_of passive active)) (closure_bound_law (unnamed P) active passive problem.problem small.closure).first)

  low1 : (set : List ℕ) → Contains (max_sets (last_problem chain).passive (length (last_problem chain).names)) set → place_of passive.sets set < length (named_of passive active).names
  low1 set held =
      let (row, at, i) = max_sets-from P.passive (length P.names) set held in
      let (line, there, q) = of_maximal (unnamed P) active passive problem.problem fam_P.0 fam_P.1 fam_P.2 row at in
      let low = place_of-below passive.sets set (fam_P.1.known line set there (Contains-Rearranged set (Rearranged-sym q) i)) in
      omega (arith, low, same_count (unnamed P) active passive problem.problem small.closure, length-label_names (length active.sets))

  fit1 : step_fits Fixed (last_problem chain) (first_step (unnamed (last_problem chain)) active passive) ≡ true
  fit1 = set_step-fits P (named_of passive active) (place_of passive.sets) (length P.names) refl few low1

  parts : (steps_fit Lower chain.first chain.steps ≡ true) × (one_form chain.steps ≡ true)
  parts =
      let (front, back) = and-true (leb (length chain.steps) MAX_STEPS && steps_fit chain.kind chain.first chain.steps && one_form chain.steps) (renaming_fits chain) is in
      let (fitting, form) = and-true (leb (length chain.steps) MAX_STEPS && steps_fit chain.kind chain.first chain.steps) (one_form chain.steps) front in
      (ap (λ k. steps_fit k chain.first chain.steps) (sym sound.lower) ∙ (and-true (leb (length chain.steps) MAX_STEPS) (steps_fit chain.kind chain.first chain.steps) fitting).1, form)

  begun : IsLonger chain.first (has_row_maps chain.steps) chain.steps (last_problem chain)
  begun = record { fits = fits_fixed chain.first chain.steps parts.0; valid = sound.sound; formed = all_formed chain.steps (has_row_maps chain.steps) refl parts.1; ends = refl }

  one : IsLonger chain.first (has_row_maps chain.steps) (chain.steps ++ in_form (has_row_maps chain.steps) (first_step (unnamed (last_problem chain)) active passive) ∷ []) (named_of passive active)
  one = one_longer chain.first chain.steps P s1 refl fit1 met1 (has_row_maps chain.steps) begun

  pub closed_fits : is_bound (closed_bound chain active passive) ≡ true
  closed_fits = fits chain over (unnamed P) problem.problem active passive small room few_active few_passive not_zero (has_row_maps chain.steps) (in_form (has_row_maps chain.steps) s1) (next-form (has_row_maps chain.steps) s1) one

  pub closed : IsClosed chain (closed_bound chain active passive)
  closed = record {
    active = active;
    passive = passive;
    closure = small;
    not_zero = not_zero;
    bound_is = refl;
    goes_on = goes_on chain over (unnamed P) problem.problem active passive small room few_active few_passive not_zero (has_row_maps chain.steps) (in_form (has_row_maps chain.steps) s1) (next-form (has_row_maps chain.steps) s1) one;
  }

-- ---- the renaming, pair by pair
pub pairs_more : (n : ℕ) (pairs after : List (ℕ × ℕ)) → pairs ≡ map (λ label. (label, label)) (count_from 0 n) → after ≡ pairs ++ (n, n) ∷ [] → after ≡ map (λ label. (label, label)) (count_from 0 (n + 1))
pairs_more n pairs after is pushed =
    let e : n + 1 ≡ suc n = omega arith in
    let z : 0 + n ≡ n = omega arith in
    pushed ∙ ap (λ l. l ++ (n, n) ∷ []) is
    ∙ sym (ap (λ m. map (λ label. (label, label)) (count_from 0 m)) e
    ∙ ap (map (λ label. (label, label))) (Rattle.re_labels.proofs.Membership.count_from-last 0 n ∙ ap (λ m. count_from 0 n ++ m ∷ []) z)
    ∙ map-append (λ label. (label, label)) (count_from 0 n) (n ∷ []))

-- ---- what is computed of the closure
-- the entries of a map have the sets of its rows
pub map_sets : (K : Constraint) (n : ℕ) (label : List ℕ → ℕ) (m : StepMap) → IsMapOf K n label m → HasRowSets m.rows.items m.entries.items
map_sets K n label m is =
    subst (λ rows. HasRowSets rows m.entries.items) (sym is.rows) ((row_sets_law K n m.entries.items).1 (ap entry_sets is.entries ∙ sets_by label (max_sets K n)))

pub last_is : (chain : Bound) → IsOverProblems chain → IsNamedProblem (last_problem chain)
last_is chain over = named-last chain.first (next_problems chain.steps) over.first over.next

module _ (chain : Bound) (over : IsOverProblems chain) (closure : Closure) (of : IsClosureOf (unnamed (last_problem chain)) closure) where
  -- the last problem has few maximal rows
  pub few_first : length (max_rows (last_problem chain).passive (length (last_problem chain).names)) ≤ MAX_ROWS
  few_first =
      let few = few_maximal (unnamed (last_problem chain)) of.active of.passive (last_is chain over).problem of.computed.small.closure in
      let lines = of.computed.small.passive_lines in
      omega (arith, few, lines)

  not_zero_closed : zero_place (unnamed closure.closed) ≡ None → zero_place (problem_of of.active of.passive) ≡ None
  not_zero_closed none = ap zero_place (sym (unnamed_of of.active of.passive)) ∙ ap (λ p. zero_place (unnamed p)) (sym of.computed.closed_is) ∙ none

  few_out : length (max_rows (below of.active) (length of.active.sets)) ≤ MAX_ROWS
  few_out = subst (λ l. length l ≤ MAX_ROWS) of.computed.out_is.rows of.computed.out_is.few

  few_back : length (max_rows (below of.passive) (length of.passive.sets)) ≤ MAX_ROWS
  few_back = subst (λ l. length l ≤ MAX_ROWS) of.computed.back_is.rows of.computed.back_is.few

  pub surely_fits : is_bound chain ≡ true → IsSoundLower chain → length chain.steps + 3 ≤ MAX_STEPS → zero_place (unnamed closure.closed) ≡ None → is_bound (closed_bound chain of.active of.passive) ≡ true
  surely_fits is sound room none = closed_fits chain is sound over of.active of.passive of.computed.small room few_first few_out few_back (not_zero_closed none)

  pub surely_closed : is_bound chain ≡ true → IsSoundLower chain → length chain.steps + 3 ≤ MAX_STEPS → zero_place (unnamed closure.closed) ≡ None → IsClosed chain (closed_bound chain of.active of.passive)
  surely_closed is sound room none = closed chain is sound over of.active of.passive of.computed.small room few_first few_out few_back (not_zero_closed none)

-- the closure is solvable without communication
pub solvable_by : (problem : NamedProblem) → IsNamedProblem problem → (closure : Closure) → IsClosureOf (unnamed problem) closure → (place : ℕ) (sets : List (List ℕ)) → zero_place (unnamed closure.closed) ≡ Some place
    → sets ≡ placed closure.sets.items (slice_index_or closure.closed.active.configs place []) → IsSolvableBy problem sets
solvable_by problem is closure of place sets shown are =
    let same : sets ≡ placed of.passive.sets (slice_index_or (topmost of.active).configs place []) =
    are ∙ (λ i. placed (of.computed.sets_are i) (slice_index_or (of.computed.closed_is i).active.configs place [])) in
    record {
      active = of.active;
      passive = of.passive;
      closure = of.computed.small;
      place = place;
      first = ap zero_place (sym (unnamed_of of.active of.passive)) ∙ ap (λ p. zero_place (unnamed p)) (sym of.computed.closed_is) ∙ shown;
      sets_are = same;
      named = subst (AreNamed problem) (sym same) (placed_named problem of.passive.sets (named_sets problem of.active of.passive is.problem of.computed.small.closure) (slice_index_or (topmost of.active).configs place []));
    }

-- the first step that the program makes
pub first_made : (chain : Bound) (active passive : Family) (closure : Closure) → Computes (unnamed (last_problem chain)) active passive closure → (m : StepMap)
    → IsMapOf (last_problem chain).passive (length (last_problem chain).names) (place_of closure.sets.items) m → (r : Bool) → r ≡ has_row_maps chain.steps → (between : NamedProblem) → between ≡ closure.between
    → (first : BoundStep) → first ≡ in_form r (step_to between m.rows.items m.entries.items) → first ≡ in_form (has_row_maps chain.steps) (first_step (unnamed (last_problem chain)) active passive)
first_made chain active passive closure computed m is r form between same first made =
    let entries : m.entries.items ≡ entries_to (unnamed (last_problem chain)) passive =
    is.entries ∙ ap (λ sets. entries_by (place_of sets) (max_sets (last_problem chain).passive (length (last_problem chain).names))) computed.sets_are in
    made ∙ (λ i. in_form (form i) (step_to ((same ∙ computed.between_is) i) (is.rows i) (entries i)))

-- what it makes of a closure is made of its families
pub made_is : (before : Problem) (active passive : Family) (closure : Closure) → Computes before active passive closure → (r : Bool) (chain : Bound) (first : BoundStep)
    → made_bound r chain first closure ≡ bound_by r chain first active passive
made_is before active passive closure computed r chain first =
    let labels : length closure.between.names ≡ length active.sets = ap (λ (p : NamedProblem). length p.names) computed.between_is ∙ length-label_names (length active.sets) in
    (λ i. record {
      kind = Fixed;
      back = suc (length chain.steps);
      first = chain.first;
      steps = chain.steps ++ first ∷ in_form r (step_to (computed.closed_is i) (computed.out_is.rows i) (computed.out_is.entries i))
          ∷ in_form r (step_to (computed.between_is i) (computed.back_is.rows i) (computed.back_is.entries i)) ∷ [];
      renaming = map (λ label. (label, label)) (count_from 0 (labels i));
    })

-- the steps, one behind the other
pub steps_made : (r : Bool) (chain : Bound) (first : BoundStep) (closure : Closure) (old begun two three : List BoundStep) (t2 t3 : BoundStep) → old ≡ chain.steps
    → t2 ≡ in_form r (step_to closure.closed closure.out.rows.items closure.out.entries.items) → t3 ≡ in_form r (step_to closure.between closure.back.rows.items closure.back.entries.items)
    → begun ≡ old ++ first ∷ [] → two ≡ begun ++ t2 ∷ [] → three ≡ two ++ t3 ∷ [] → three ≡ (made_bound r chain first closure).steps
steps_made r chain first closure old begun two three t2 t3 olds e2 e3 p1 p2 p3 =
    p3 ∙ (λ i. (p2 ∙ (λ j. (p1 ∙ (λ k. olds k ++ first ∷ [])) j ++ e2 j ∷ [])) i ++ e3 i ∷ [])
    ∙ assoc3 chain.steps first (in_form r (step_to closure.closed closure.out.rows.items closure.out.entries.items)) (in_form r (step_to closure.between closure.back.rows.items closure.back.entries.items))

-- the bound of the parts that it makes
pub held : (r : Bool) (chain : Bound) (first : BoundStep) (closure : Closure) (number : ℕ) (start : NamedProblem) (steps : List BoundStep) (renaming : List (ℕ × ℕ)) (n : ℕ) → number ≡ suc (length chain.steps) → start ≡ chain.first
    → steps ≡ (made_bound r chain first closure).steps → renaming ≡ map (λ label. (label, label)) (count_from 0 n) → n ≡ length closure.between.names
    → record { kind = Fixed; back = number; first = start; steps = steps; renaming = renaming } ≡ made_bound r chain first closure
held r chain first closure number start steps renaming n e f g h count =
    let pairs : renaming ≡ map (λ label. (label, label)) (count_from 0 (length closure.between.names)) = h ∙ ap (λ m. map (λ label. (label, label)) (count_from 0 m)) count in
    (λ i. record { kind = Fixed; back = e i; first = f i; steps = g i; renaming = pairs i })
