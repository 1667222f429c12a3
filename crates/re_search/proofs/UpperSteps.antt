-- An upper step to what is left of the derived problem where labels are left out meets its clauses.
use Rattle.std.proofs.Common.{◌≡◌, ℕ, zero, suc, ◌+◌, ◌<◌, ◌≤◌, Bool, true, false, cond, not, eqb, ltb, leb, List, [], ◌∷◌, length, map, get_or, Option, None, Some, refl, sym, ap, ◌∙◌, subst, arith, inl, inr}
use Rattle.std.proofs.lemmas.Slice.Eq.{bytes_eq-Decides}
use Rattle.std.specs.Prelude.{Contains, ◌&&◌}
use Rattle.std.specs.List.{AllByRecursion, list_all}
use Rattle.std.specs.Str.{bytes_eq}
use Rattle.re_labels.specs.Configs.{IsConfig}
use Rattle.re_labels.specs.Rows.{set_at}
use Rattle.re_labels.proofs.Membership.{AllByRecursion-In, Contains-In, In, In-Contains, In-map_from, all-In_from}
use Rattle.re_labels.proofs.Tests.{eqb-apart, eqb-same, true-and, true-below}
use Rattle.re_labels.specs.Lists.{count_from}
use Rattle.re_labels.specs.Sets.{IsLabelSet}
use Rattle.re_problem.proofs.Building.{below_all}
use Rattle.re_problem.proofs.DerivedProblem.{IsUpper-derived}
use Rattle.re_problem.proofs.StepLaws.{map-map}
use Rattle.re_problem.specs.Derived.{derived}
use Rattle.re_problem.specs.NamedProblems.{NamedProblem, unnamed}
use Rattle.re_problem.specs.Problems.{IsProblem, Problem}
use Rattle.re_problem.specs.Steps.{SetEntry, entry_sets, set_for}
use Rattle.re_labels.proofs.Goodness.{IsAllowed-is_allowed, IsGood-is_good}
use Rattle.re_labels.specs.GoodRows.{IsAllowed, IsGood, is_allowed, is_good, max_rows, max_sets}
use Rattle.re_changes.proofs.LeftLabels.{AreImages, IsLeft, labels_left, left_as}
use Rattle.re_changes.proofs.OneChange.{below-counted}
use Rattle.re_changes.specs.Changes.{Changed}
use Rattle.re_step.specs.Derivations.{named_derived}
use Rattle.re_cert.specs.Bounds.{BoundStep, entry_fits, is_label, is_lower, step_fits}
use Rattle.re_cert.specs.declared.certificate.Kind.{Kind}
use Rattle.re_check.proofs.StepMeaning.{none_fails}
use Rattle.re_check.specs.Clauses.{are_allowed, are_exchanged, are_good, have_labels, is_filled, meets, step_fault}
use Rattle.re_check.specs.declared.clause.Clause.{Clause}
use Rattle.re_check.specs.declared.clause.Clause.TheVariants.{U1, U2, U3, U4}
use Rattle.re_search.proofs.Entries.{entries-In, labels-in_order, set-is, set-left}
use Rattle.re_search.proofs.LowerSteps.{names-sets}
use Rattle.re_search.specs.Nodes.{entries_of, step_to}

module _ (problem : NamedProblem) (made : Changed) (left : IsLeft (named_derived (unnamed problem)) made) where
  count : length made.images ≡ length (max_sets problem.passive (length problem.names))
  count = left.count ∙ names-sets problem

  labels-are : map (λ (entry : SetEntry). entry.label) (entries_of (max_sets problem.passive (length problem.names)) made.images) ≡ count_from 0 (length made.problem.names)
  labels-are = labels-in_order (max_sets problem.passive (length problem.names)) made.images count ∙ left.order

  -- the sets of a configuration that is left are those of one of the derived problem
  sets-from : (from config : List ℕ) → map (left_as made.images) from ≡ map (λ (x : ℕ). Some x) config
      → map (set_at (max_sets problem.passive (length problem.names))) from ≡ map (set_for (entries_of (max_sets problem.passive (length problem.names)) made.images)) config
  sets-from [] [] e = refl
  sets-from [] (y ∷ config) e = cc
  sets-from (x ∷ from) [] e = cc
  sets-from (x ∷ from) (y ∷ config) e =
      let first : left_as made.images x ≡ Some y = cc in
      let rest : map (left_as made.images) from ≡ map (λ (x : ℕ). Some x) config = cc in
      let same = set-left (max_sets problem.passive (length problem.names)) made.images (length made.problem.names) x y count left.order first in
      (λ i. sym same i ∷ sets-from from config rest i)

  upper : (config : List ℕ) → Contains made.problem.active.configs config → is_good problem.passive (map (set_for (entries_of (max_sets problem.passive (length problem.names)) made.images)) config) ≡ true
  upper config held =
      let (from, i, e) = left.active config (Contains-In config made.problem.active.configs held) in
      IsGood-is_good problem.passive (map (set_for (entries_of (max_sets problem.passive (length problem.names)) made.images)) config)
      (subst (IsGood problem.passive) (sets-from from config e) ((IsUpper-derived (unnamed problem)).good from (In-Contains from (derived (unnamed problem)).active.configs i)))

  chosen : (config : List ℕ) → Contains made.problem.passive.configs config → is_allowed problem.active (map (set_for (entries_of (max_sets problem.passive (length problem.names)) made.images)) config) ≡ true
  chosen config held =
      let (from, i, e) = left.passive config (Contains-In config made.problem.passive.configs held) in
      IsAllowed-is_allowed problem.active (map (set_for (entries_of (max_sets problem.passive (length problem.names)) made.images)) config)
      (subst (IsAllowed problem.active) (sets-from from config e) ((IsUpper-derived (unnamed problem)).choice from (In-Contains from (derived (unnamed problem)).passive.configs i)))

  entry-sets : (set : List ℕ) → In set (entry_sets (entries_of (max_sets problem.passive (length problem.names)) made.images)) → IsLabelSet (length problem.names) set × (0 < length set)
  entry-sets set i =
      let (entry, j, e) = In-map_from (λ (entry : SetEntry). entry.set) set (entries_of (max_sets problem.passive (length problem.names)) made.images) i in
      subst (λ s. IsLabelSet (length problem.names) s × (0 < length s)) (sym e)
      (set-is problem.passive (length problem.names) entry.set (entries-In (max_sets problem.passive (length problem.names)) made.images entry j).0)

  degrees : are_exchanged problem made.problem ≡ true
  degrees = true-and (eqb made.problem.active.degree problem.passive.degree) (eqb made.problem.passive.degree problem.active.degree)
      (ap (λ d. eqb d problem.passive.degree) left.active_degree ∙ eqb-same problem.passive.degree) (ap (λ d. eqb d problem.active.degree) left.passive_degree ∙ eqb-same problem.active.degree)

  labelled : have_labels problem made.problem (entries_of (max_sets problem.passive (length problem.names)) made.images) ≡ true
  labelled = true-and
      (bytes_eq (map (λ (entry : SetEntry). entry.label) (entries_of (max_sets problem.passive (length problem.names)) made.images)) (count_from 0 (length made.problem.names)))
      (list_all (is_filled problem) (entry_sets (entries_of (max_sets problem.passive (length problem.names)) made.images)))
      ((bytes_eq-Decides (map (λ (entry : SetEntry). entry.label) (entries_of (max_sets problem.passive (length problem.names)) made.images)) (count_from 0 (length made.problem.names))).1 labels-are)
      (all-In_from (is_filled problem) (entry_sets (entries_of (max_sets problem.passive (length problem.names)) made.images)) (λ set i.
      let two = entry-sets set i in
      let long = two.1 in
      true-and (not (eqb (length set) 0)) (list_all (is_label problem) set) (ap not (eqb-apart (length set) 0 (λ e. omega arith))) (below_all (length problem.names) set two.0.1)))

  pub upper-meets : step_fault problem (step_to false problem made) ≡ None
  upper-meets = none_fails (meets problem (step_to false problem made)) (U1 ∷ U2 ∷ U3 ∷ U4 ∷ []) (
    degrees,
    (
      labelled,
      (
        all-In_from (λ config. is_good problem.passive (map (set_for (entries_of (max_sets problem.passive (length problem.names)) made.images)) config)) made.problem.active.configs (λ config i. upper config (In-Contains config made.problem.active.configs i)),
        (all-In_from (λ config. is_allowed problem.active (map (set_for (entries_of (max_sets problem.passive (length problem.names)) made.images)) config)) made.problem.passive.configs (λ config i. chosen config (In-Contains config made.problem.passive.configs i)), tt),
      ),
    ),
  )

  -- the labels of the entries are labels of what is left
  label-below : (entry : SetEntry) → In entry (entries_of (max_sets problem.passive (length problem.names)) made.images) → entry.label < length made.problem.names
  label-below entry i = below-counted (length made.problem.names) entry.label
      (subst (In entry.label) labels-are (In-map' (entries_of (max_sets problem.passive (length problem.names)) made.images) i))
    where
      In-map' : (entries : List SetEntry) → In entry entries → In entry.label (map (λ (entry : SetEntry). entry.label) entries)
      In-map' [] i = absurd i
      In-map' (first ∷ entries) (inl e) = inl (ap (λ (entry : SetEntry). entry.label) e)
      In-map' (first ∷ entries) (inr i) = inr (In-map' entries i)

  pub upper-fits : (kind : Kind) → is_lower kind ≡ false → step_fits kind problem (step_to false problem made) ≡ true
  upper-fits kind lower =
      true-and (not (is_lower kind) && true && true && true) (list_all (entry_fits problem made.problem) (entries_of (max_sets problem.passive (length problem.names)) made.images))
      (true-and (not (is_lower kind) && true && true) true (true-and (not (is_lower kind) && true) true (true-and (not (is_lower kind)) true (ap not lower) refl) refl) refl)
      (all-In_from (entry_fits problem made.problem) (entries_of (max_sets problem.passive (length problem.names)) made.images) (λ entry i.
      true-and (list_all (is_label problem) entry.set) (is_label made.problem entry.label)
      (below_all (length problem.names) entry.set (set-is problem.passive (length problem.names) entry.set (entries-In (max_sets problem.passive (length problem.names)) made.images entry i).0).0.1)
      (true-below entry.label (length made.problem.names) (label-below entry i))))
