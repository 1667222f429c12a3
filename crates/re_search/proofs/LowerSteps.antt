-- A lower step to what merges have made of the derived problem meets its clauses.
use Rattle.std.proofs.Common.{◌≡◌, ℕ, zero, suc, ◌+◌, ◌<◌, ◌≤◌, Bool, true, false, cond, not, ltb, leb, List, [], ◌∷◌, length, map, get_or, Option, None, Some, refl, sym, ap, ◌∙◌, subst, arith, inl, inr}
use Rattle.std.specs.Prelude.{Contains, ◌&&◌, if◌then◌else◌, is_some, is_none}
use Rattle.std.specs.List.{AllByRecursion, list_all}
use Rattle.std.proofs.lemmas.Bool.Decides.{nat_tests}
use Rattle.re_labels.specs.Configs.{IsConfig}
use Rattle.re_labels.proofs.Membership.{AllByRecursion-contains, AllByRecursion-In, Contains-In, Contains-map, In, In-Contains, all-In_from}
use Rattle.re_labels.proofs.Tests.{true-and, true-below}
use Rattle.re_labels.specs.Lists.{place_of}
use Rattle.re_labels.specs.Sets.{IsLabelSet}
use Rattle.re_problem.proofs.Building.{below_all}
use Rattle.re_problem.proofs.DerivedProblem.{IsProblem-derived}
use Rattle.re_problem.proofs.StepLaws.{map-map}
use Rattle.re_problem.specs.Derived.{derived}
use Rattle.re_problem.specs.NamedProblems.{NamedProblem, unnamed}
use Rattle.re_problem.specs.Problems.{IsProblem, Problem}
use Rattle.re_problem.specs.Steps.LowerMap.{by_set}
use Rattle.re_problem.specs.Steps.{IsLowerStep, SetEntry, entry_sets, label_at, label_of}
use Rattle.re_labels.specs.Constraints.{Constraint, Has}
use Rattle.re_labels.specs.GoodRows.{allowed, max_rows, max_sets}
use Rattle.re_changes.proofs.Merges.{IsMerged}
use Rattle.re_changes.specs.Changes.{Changed}
use Rattle.re_step.proofs.NameLemmas.{length-label_names}
use Rattle.re_step.specs.Derivations.{named_derived, step_limit}
use Rattle.re_step.specs.LabelNames.{label_names}
use Rattle.re_step.specs.declared.derivation.StepLimit.TheVariants.{Rows}
use Rattle.re_cert.specs.Bounds.{BoundStep, entry_fits, is_label, row_fits, step_fits}
use Rattle.re_cert.specs.declared.certificate.Kind.{Kind}
use Rattle.re_cert.specs.Bounds.{is_lower}
use Rattle.re_check.proofs.StepMeaning.{lower_clauses}
use Rattle.re_check.specs.Clauses.{step_fault}
use Rattle.re_search.proofs.Entries.{Becomes, Becomes-at, entries-In, label-all, rows-fit, set-is, sets-all}
use Rattle.re_search.specs.Nodes.{entries_of, step_to}
use Rattle.re_labels.specs.declared.TheConstants.{MAX_ROWS}

-- the derived problem with its names is a problem
pub IsProblem-named_derived : (problem : NamedProblem) → IsProblem (unnamed problem) → IsProblem (unnamed (named_derived (unnamed problem)))
IsProblem-named_derived problem is =
    let P : ℕ → Type 0 = λ n. IsProblem (record { labels = n; active = (derived (unnamed problem)).active; passive = (derived (unnamed problem)).passive }) in
    subst P (sym (length-label_names (derived (unnamed problem)).labels)) (IsProblem-derived (unnamed problem) is)

pub names-sets : (problem : NamedProblem) → length (named_derived (unnamed problem)).names ≡ length (max_sets problem.passive (length problem.names))
names-sets problem = length-label_names (length (max_sets problem.passive (length problem.names)))

module _ (problem : NamedProblem) (is : IsProblem (unnamed problem)) (made : Changed) (merged : IsMerged (named_derived (unnamed problem)) made) where
  sets : List (List ℕ)
  sets = max_sets problem.passive (length problem.names)

  entries : List SetEntry
  entries = entries_of (max_sets problem.passive (length problem.names)) made.images

  count : length made.images ≡ length (max_sets problem.passive (length problem.names))
  count = merged.count ∙ names-sets problem

  becomes : Becomes made.images
  becomes = Becomes-at made.images merged.image (λ k l. merged.images k (let c = merged.count in omega arith))

  pub sets-are : entry_sets (entries_of (max_sets problem.passive (length problem.names)) made.images) ≡ max_sets problem.passive (length problem.names)
  sets-are = sets-all (max_sets problem.passive (length problem.names)) made.images count becomes

  label-is : (k : ℕ) → k < length (max_sets problem.passive (length problem.names)) → label_at (entries_of (max_sets problem.passive (length problem.names)) made.images) k ≡ merged.image k
  label-is k l = label-all (max_sets problem.passive (length problem.names)) made.images count becomes k (merged.image k) l
      (merged.images k (let n = names-sets problem in omega arith))

  -- the labels of the entries are those that the merges leave
  images-are : (labels : List ℕ) → AllByRecursion (λ x. x < length (max_sets problem.passive (length problem.names))) labels
      → map merged.image labels ≡ map (label_at (entries_of (max_sets problem.passive (length problem.names)) made.images)) labels
  images-are [] below = refl
  images-are (x ∷ labels) below = (λ i. sym (label-is x below.0) i ∷ images-are labels below.1 i)

  of_row : (row : List (List ℕ)) → map (label_of (entries_of (max_sets problem.passive (length problem.names)) made.images)) row
      ≡ map (label_at (entries_of (max_sets problem.passive (length problem.names)) made.images)) (map (place_of (max_sets problem.passive (length problem.names))) row)
  of_row row = ap (λ s. map (λ set. label_at (entries_of (max_sets problem.passive (length problem.names)) made.images) (place_of s set)) row) sets-are
      ∙ sym (map-map (label_at (entries_of (max_sets problem.passive (length problem.names)) made.images)) (place_of (max_sets problem.passive (length problem.names))) row)

  derived-is : IsProblem (derived (unnamed problem))
  derived-is = IsProblem-derived (unnamed problem) is

  pub lower-step : IsLowerStep (unnamed problem) (unnamed made.problem) (max_rows problem.passive (length problem.names)) (by_set (entries_of (max_sets problem.passive (length problem.names)) made.images))
  lower-step = record {
    active_degree = merged.relaxed.active_degree;
    passive_degree = merged.relaxed.passive_degree;
    maximal = refl;
    sets = sets-are;
    active = λ row held.
        let config : List ℕ = map (place_of (max_sets problem.passive (length problem.names))) row in
        let there : Contains (derived (unnamed problem)).active.configs config = Contains-map (map (place_of (max_sets problem.passive (length problem.names)))) (max_rows problem.passive (length problem.names)) row held in
        let below = (AllByRecursion-contains (IsConfig problem.passive.degree (length (max_sets problem.passive (length problem.names)))) (derived (unnamed problem)).active.configs config derived-is.active.configs there).below in
        subst (Has made.problem.active) (images-are config below ∙ sym (of_row row)) (merged.relaxed.active config there);
    passive = λ places held.
        let there : Contains (derived (unnamed problem)).passive.configs places = subst (λ s. Contains (allowed problem.active s problem.active.degree) places) sets-are held in
        let below = (AllByRecursion-contains (IsConfig problem.active.degree (length (max_sets problem.passive (length problem.names)))) (derived (unnamed problem)).passive.configs places derived-is.passive.configs there).below in
        subst (Has made.problem.passive) (images-are places below) (merged.relaxed.passive places there);
  }

  pub lower-meets : step_fault problem (step_to true problem made) ≡ None
  lower-meets = (lower_clauses problem (step_to true problem made) refl).1 lower-step

  -- each entry is from a set of labels of the problem to a label that is left
  pub lower-entries_fit : list_all (entry_fits problem made.problem) (entries_of (max_sets problem.passive (length problem.names)) made.images) ≡ true
  lower-entries_fit = all-In_from (entry_fits problem made.problem) (entries_of (max_sets problem.passive (length problem.names)) made.images) (λ entry i.
      let two = entries-In (max_sets problem.passive (length problem.names)) made.images entry i in
      true-and (list_all (is_label problem) entry.set) (is_label made.problem entry.label)
      (below_all (length problem.names) entry.set (set-is problem.passive (length problem.names) entry.set two.0).0.1)
      (true-below entry.label (length made.problem.names) (label-below entry.label two.1)))
    where
      somewhere : (images : List (Option ℕ)) (label : ℕ) → In (Some label) images → (k : ℕ) × (k < length images) × (get_or images k None ≡ Some label)
      somewhere [] label i = absurd i
      somewhere (image ∷ images) label (inl e) = (0, omega arith, sym e)
      somewhere (image ∷ images) label (inr i) = let (k, l, e) = somewhere images label i in (suc k, omega arith, e)

      label-below : (label : ℕ) → In (Some label) made.images → label < length made.problem.names
      label-below label i =
          let (k, l, e) = somewhere made.images label i in
          let low : k < length (named_derived (unnamed problem)).names = (let c = merged.count in omega arith) in
          let there = merged.images k low in
          let same : merged.image k ≡ label = cc in
          subst (λ x. x < length made.problem.names) same (merged.below k low)

-- ---- steps fit
no_limit : {X : Type 0} (b : Bool) (x : X) (rest : Option X) → (if b then Some x else rest) ≡ None → b ≡ false
no_limit true x rest e = let there : Some x ≡ None = e in absurd (cc)
no_limit false x rest e = refl

-- a derived problem within the limits has few rows
pub few-rows : (problem : Problem) → step_limit problem ≡ None → length (max_rows problem.passive problem.labels) ≤ MAX_ROWS
few-rows problem none =
    let e : ltb MAX_ROWS (length (max_rows problem.passive problem.labels)) ≡ false = no_limit (ltb MAX_ROWS (length (max_rows problem.passive problem.labels))) Rows _ none in
    grind (arith, nat_tests)

pub lower-fits : (kind : Kind) (problem : NamedProblem) → IsProblem (unnamed problem) → (made : Changed) → IsMerged (named_derived (unnamed problem)) made → is_lower kind ≡ true → step_limit (unnamed problem) ≡ None
    → step_fits kind problem (step_to true problem made) ≡ true
lower-fits kind problem is made merged lower none =
    let few : leb (length (max_rows problem.passive (length problem.names))) MAX_ROWS ≡ true = (let l = few-rows (unnamed problem) none in grind (arith, nat_tests)) in
    true-and (is_lower kind && leb (length (max_rows problem.passive (length problem.names))) MAX_ROWS && list_all (row_fits problem) (max_rows problem.passive (length problem.names)))
    (list_all (entry_fits problem made.problem) (entries_of (max_sets problem.passive (length problem.names)) made.images))
    (true-and (is_lower kind && leb (length (max_rows problem.passive (length problem.names))) MAX_ROWS) (list_all (row_fits problem) (max_rows problem.passive (length problem.names)))
    (true-and (is_lower kind) (leb (length (max_rows problem.passive (length problem.names))) MAX_ROWS) lower few) (rows-fit problem))
    (lower-entries_fit problem is made merged)
