-- An upper step with sets fits the problems on both sides, and meets its clauses.
use Rattle.std.proofs.Common.{◌≡◌, ℕ, ◌<◌, ◌≤◌, ◌+◌, true, false, List, [], ◌∷◌, ◌++◌, length, map, get_or, None, refl, sym, ap, ◌∙◌, subst, arith}
use Rattle.std.specs.Prelude.{Contains}
use Rattle.std.specs.List.{AllByRecursion, list_all}
use Rattle.std.proofs.lemmas.List.{get_or_default}
use Rattle.re_labels.proofs.Membership.{AllByRecursion-contains, Contains-map, In-Contains, all-In_from, count_from_range, length-count_from, length-map'}
use Rattle.re_labels.proofs.Tests.{true-and, true-below}
use Rattle.re_labels.specs.Lists.{IsRising, count_from}
use Rattle.re_labels.specs.Sets.{IsLabelSet}
use Rattle.re_labels.specs.declared.TheConstants.{MAX_LABELS}
use Rattle.re_labels.specs.Rows.{set_at}
use Rattle.re_problem.proofs.Building.{below_all}
use Rattle.re_problem.specs.NamedProblems.{IsNamedProblem, NamedProblem, unnamed}
use Rattle.re_problem.specs.Steps.LowerMap.{by_set}
use Rattle.re_problem.specs.Steps.{IsUpperStep, SetEntry, entry_sets}
use Rattle.re_cert.specs.Bounds.{Bound, BoundStep, entry_fits, is_label, step_fits}
use Rattle.re_cert.specs.declared.certificate.Kind.TheVariants.{Upper}
use Rattle.re_chains.specs.Chains.{chain_with}
use Rattle.re_check.specs.Clauses.{step_fault}
use Rattle.re_check.specs.ClauseLaws.{UpperStepLaw}
use Rattle.re_changes.proofs.Counted.{pushed}
use Rattle.re_settings.specs.Fits.{entries_of}
use Rattle.re_bridge_words.specs.UpperBridged.{upper_bridged, upper_step}

rising-sets : (n : ℕ) (sets : List (List ℕ)) → AllByRecursion (λ s. IsLabelSet n s × (0 < length s)) sets → AllByRecursion (IsRising (λ x y. x < y)) sets
rising-sets n [] all = tt
rising-sets n (set ∷ sets) all = (all.0.0.0, rising-sets n sets all.1)

module _ (before next : NamedProblem) (sets : List (List ℕ)) (step : IsUpperStep (unnamed before) (unnamed next) (entries_of sets)) where
  pub upper-meets : UpperStepLaw → step_fault before (upper_step next sets) ≡ None
  upper-meets law = (law before (upper_step next sets) (rising-sets (length before.names) (entry_sets (entries_of sets)) step.sets) refl).1 step

  entry-fits : (entry : SetEntry) → Contains (entries_of sets) entry → entry_fits before next entry ≡ true
  entry-fits entry held =
      let n : ℕ = length next.names in
      let is_set = AllByRecursion-contains (λ s. IsLabelSet (length before.names) s × (0 < length s)) (entry_sets (entries_of sets)) entry.set step.sets (Contains-map (λ (e : SetEntry). e.set) (entries_of sets) entry held) in
      let label : Contains (count_from 0 n) entry.label = subst (λ labels. Contains labels entry.label) step.labels (Contains-map (λ (e : SetEntry). e.label) (entries_of sets) entry held) in
      let range = count_from_range 0 n entry.label label in
      true-and (list_all (is_label before) entry.set) (is_label next entry.label) (below_all (length before.names) entry.set is_set.0.1) (true-below entry.label n (omega (arith, range.1)))

  pub upper-fits : step_fits Upper before (upper_step next sets) ≡ true
  upper-fits = all-In_from (entry_fits before next) (entries_of sets) (λ entry i. entry-fits entry (In-Contains entry (entries_of sets) i))

-- ---- what the program holds
pub one-entry : (sets : List (List ℕ)) (k : ℕ) (set : List ℕ) {before after : List SetEntry} → k < length sets → set ≡ get_or sets k set → after ≡ before ++ record { set = set; label = k } ∷ []
    → before ≡ map (λ label. record { set = set_at sets label; label = label }) (count_from 0 k) → after ≡ map (λ label. record { set = set_at sets label; label = label }) (count_from 0 (k + 1))
one-entry sets k set l is push so_far =
    pushed (λ label. record { set = set_at sets label; label = label }) k (record { set = set; label = k }) push so_far (λ i. record { set = (is ∙ get_or_default sets k set [] l) i; label = k })

abbrev held_step : NamedProblem → List SetEntry → BoundStep
held_step next entries = record { lower = false; next = next; rows = []; map = by_set entries }

pub held-fits : (before held next : NamedProblem) (entries : List SetEntry) (sets : List (List ℕ)) → held ≡ next → entries ≡ entries_of sets → IsUpperStep (unnamed before) (unnamed next) (entries_of sets) → step_fits Upper before (held_step held entries) ≡ true
held-fits before held next entries sets e f step = (λ i. step_fits Upper before (held_step (e i) (f i))) ∙ upper-fits before next sets step

pub held-meets : (before held next : NamedProblem) (entries : List SetEntry) (sets : List (List ℕ)) → UpperStepLaw → held ≡ next → entries ≡ entries_of sets → IsUpperStep (unnamed before) (unnamed next) (entries_of sets)
    → step_fault before (held_step held entries) ≡ None
held-meets before held next entries sets law e f step = (λ i. step_fault before (held_step (e i) (f i))) ∙ upper-meets before next sets step law

pub held-chain : (bound : Bound) (held next : NamedProblem) (entries : List SetEntry) (sets : List (List ℕ)) → held ≡ next → entries ≡ entries_of sets → chain_with Upper bound.first (bound.steps ++ held_step held entries ∷ []) ≡ upper_bridged bound next sets
held-chain bound held next entries sets e f = (λ i. chain_with Upper bound.first (bound.steps ++ held_step (e i) (f i) ∷ []))

-- ---- the walk
-- ---- the sets that are found
pub leads : (before last next : NamedProblem) (given sets : List (List ℕ)) → last ≡ before → given ≡ sets → IsUpperStep (unnamed last) (unnamed next) (entries_of sets) → IsUpperStep (unnamed before) (unnamed next) (entries_of given)
leads before last next given sets e f step = subst (λ (p : NamedProblem). IsUpperStep (unnamed p) (unnamed next) (entries_of given)) e (subst (λ (s : List (List ℕ)). IsUpperStep (unnamed last) (unnamed next) (entries_of s)) (sym f) step)

pub few-sets : (last next : NamedProblem) (sets : List (List ℕ)) → IsNamedProblem next → IsUpperStep (unnamed last) (unnamed next) (entries_of sets) → length sets ≤ MAX_LABELS
few-sets last next sets is step =
    let size : length sets ≡ length next.names =
    sym (length-map' (λ (e : SetEntry). e.label) (entries_of sets) ∙ length-map' (λ label. record { set = set_at sets label; label = label }) (count_from 0 (length sets)) ∙ length-count_from 0 (length sets))
    ∙ ap length step.labels ∙ length-count_from 0 (length next.names) in
    omega (arith, size, is.names.few)
