-- One label of the last problem becomes another: the problem, and the step to it.
use Rattle.std.proofs.Common.{◌≡◌, ℕ, ◌<◌, ◌≤◌, Bool, true, false, cond, not, eqb, List, [], length, map, get_or, Some, refl, sym, ap, ◌∙◌, subst, arith}
use Rattle.std.specs.Prelude.{filter}
use Rattle.std.specs.List.{AllByRecursion}
use Rattle.re_labels.specs.Configs.{image_at}
use Rattle.re_labels.proofs.Membership.{AllByRecursion-from_In, In, In-filter, In-filter_from, In-map_from, length-map'}
use Rattle.re_labels.proofs.Tests.{eqb-apart}
use Rattle.re_labels.specs.Lists.{count_from}
use Rattle.re_labels.specs.Sets.{IsLabelSet}
use Rattle.re_labels.specs.declared.TheConstants.{MAX_LABELS}
use Rattle.re_labels.proofs.LeastLabels.{length-set}
use Rattle.re_problem.specs.NamedProblems.{IsNamedProblem, NamedProblem, built, unnamed}
use Rattle.re_changes.proofs.Merges.{merge-relaxed}
use Rattle.re_changes.proofs.Numbering.{at_number, renumbered-built}
use Rattle.re_changes.proofs.OneChange.{IsLabelSet-staying, below-counted, counted-below, new_number}
use Rattle.re_changes.proofs.RenumberedProblems.{IsProblem-renumbered, built-along}
use Rattle.re_changes.specs.declared.change.Change.TheVariants.{Merge}
use Rattle.re_changes.specs.Renumbering.{number_among, renumbered}
use Rattle.re_labels.proofs.ConstraintImages.{config-below}
use Rattle.re_labels.specs.Constraints.{Constraint, IsConstraint}
use Rattle.re_changes.proofs.Counted.{length-map_counted}
use Rattle.re_cert.specs.Bounds.{BoundStep, is_lower}
use Rattle.re_cert.specs.declared.certificate.Kind.{Kind}
use Rattle.re_check.proofs.StepMeaning.{lower_clauses}
use Rattle.re_check.proofs.Meaning.{kind-lower}
use Rattle.re_shaping.proofs.LastSteps.{Keeps}
use Rattle.re_shaping.proofs.NamedProblems.{IsNamed-built, IsNames-kept}
use Rattle.re_shaping.proofs.RelaxedSteps.{relaxed-step}
use Rattle.re_shaping.proofs.StepsAlong.{along-fits, along-form}
use Rattle.re_shaping.specs.Merging.{merge_numbers, merged_label, merged_problem, merged_step, others}

module _ (x y : ℕ) (named : NamedProblem) (m : y < length named.names) (apart : x ≡ y → ⊥) where
  -- what a label becomes is a label that stays
  stays : (label : ℕ) → label < length named.names → In (merged_label x y label) (others x named)
  stays label below = go (eqb label x) refl
    where
      go : (b : Bool) → eqb label x ≡ b → In (cond b y label) (filter (λ label. not (eqb label x)) (count_from 0 (length named.names)))
      go true e = In-filter (λ label. not (eqb label x)) y (count_from 0 (length named.names)) (counted-below (length named.names) y m) (ap not (eqb-apart y x (λ s. apart (sym s))))
      go false e = In-filter (λ label. not (eqb label x)) label (count_from 0 (length named.names)) (counted-below (length named.names) label below) (ap not e)

  -- the new number of a label is a label
  pub number-below : (label : ℕ) → label < length named.names → image_at (merge_numbers x y named) label < length (others x named)
  number-below label below =
      subst (λ k. k < length (others x named)) (sym (new_number (Merge y x) named label below))
      (at_number (others x named) (merged_label x y label) (IsLabelSet-staying (Merge y x) named).0 (stays label below)).0

  -- a label that stays becomes itself
  pub stays-itself : (label : ℕ) → In label (others x named) → (label < length named.names) × (merged_label x y label ≡ label)
  stays-itself label i =
      let two = In-filter_from (λ label. not (eqb label x)) label (count_from 0 (length named.names)) i in
      (below-counted (length named.names) label two.0, go (eqb label x) refl two.1)
    where
      go : (b : Bool) → eqb label x ≡ b → not (eqb label x) ≡ true → cond (eqb label x) y label ≡ label
      go true e h = let wrong : false ≡ true = sym (ap not e) ∙ h in cc
      go false e h = ap (λ b. cond b y label) e

  module _ (is : IsNamedProblem named) where
    pub merged-built : built (merged_problem x y named).names (merged_problem x y named).active (merged_problem x y named).passive ≡ Some (merged_problem x y named)
    merged-built = renumbered-built (others x named) (merge_numbers x y named) named (IsLabelSet-staying (Merge y x) named).0
        (λ config label i j. number-below label (config-below (length named.names) named.active is.problem.active config label i j))
        (λ config label i j. number-below label (config-below (length named.names) named.passive is.problem.passive config label i j))
        (λ label i. let two = stays-itself label i in new_number (Merge y x) named label two.0 ∙ ap (number_among (others x named)) two.1)
        (λ label i. is.occur label (stays-itself label i).0)

    pub merged-named : IsNamedProblem (merged_problem x y named)
    merged-named = IsNamed-built (merged_problem x y named) (IsNames-kept named.names (others x named) is.names (IsLabelSet-staying (Merge y x) named))
        (IsProblem-renumbered (others x named) (merge_numbers x y named) named is.problem
        (λ config label i j. number-below label (config-below (length named.names) named.active is.problem.active config label i j))
        (λ config label i j. number-below label (config-below (length named.names) named.passive is.problem.passive config label i j)))
        merged-built

-- ---- the step
pub count-names : (x : ℕ) (named : NamedProblem) → length (map (λ label. get_or named.names label []) (others x named)) ≡ length (others x named)
count-names x named = length-map' (λ label. get_or named.names label []) (others x named)

pub merge-keeps : (kind : Kind) (x y : ℕ) (before : NamedProblem) (s : BoundStep) → is_lower kind ≡ true → y < length s.next.names → (x ≡ y → ⊥) → IsNamedProblem s.next → Keeps kind before s (merged_step x y s)
merge-keeps kind x y before s lower m apart is = record {
  fits = λ fits. along-fits kind before s (image_at (merge_numbers x y s.next)) (merged_problem x y s.next)
      (λ label below. let l = number-below x y s.next m apart label below in let c = count-names x s.next in omega arith) fits;
  sound = λ fits none.
      let low : s.lower ≡ true = kind-lower kind before s lower fits in
      (lower_clauses before (merged_step x y s) low).1
      (relaxed-step (unnamed before) (unnamed s.next) (unnamed (merged_problem x y s.next)) s.rows s.map (image_at (merge_numbers x y s.next))
      ((lower_clauses before s low).0 none) (merge-relaxed y x s.next));
  problem = merged-named x y s.next m apart is;
  form = λ fits. along-form (image_at (merge_numbers x y s.next)) s.map;
}

-- ---- the same in the code's own variables
module _ (x y : ℕ) (named : NamedProblem) (m : y < length named.names) (apart : x ≡ y → ⊥) (is : IsNamedProblem named) (stay images : List ℕ) (names : List (List ℕ)) (active passive : Constraint)
    (s : stay ≡ others x named) (t : images ≡ merge_numbers x y named) (n : names ≡ named.names) (a : active ≡ named.active) (p : passive ≡ named.passive) where
  pub stay-set : IsLabelSet (length names) stay
  stay-set = subst (λ (k : List (List ℕ)). IsLabelSet (length k) stay) (sym n) (subst (IsLabelSet (length named.names)) (sym s) (IsLabelSet-staying (Merge y x) named))

  count : length images ≡ length named.names
  count = ap length t ∙ length-map_counted (λ label. number_among (others x named) (merged_label x y label)) (length named.names)

  known : (constraint : Constraint) → IsConstraint (length named.names) constraint → AllByRecursion (AllByRecursion (λ label. label < length images)) constraint.configs
  known constraint fine = AllByRecursion-from_In (AllByRecursion (λ label. label < length images)) constraint.configs (λ config i.
      AllByRecursion-from_In (λ label. label < length images) config (λ label j. let l = config-below (length named.names) constraint fine config label i j in let c = count in omega arith))

  pub active-known : AllByRecursion (AllByRecursion (λ label. label < length images)) active.configs
  active-known = subst (λ (k : Constraint). AllByRecursion (AllByRecursion (λ label. label < length images)) k.configs) (sym a) (known named.active is.problem.active)

  pub passive-known : AllByRecursion (AllByRecursion (λ label. label < length images)) passive.configs
  passive-known = subst (λ (k : Constraint). AllByRecursion (AllByRecursion (λ label. label < length images)) k.configs) (sym p) (known named.passive is.problem.passive)

  pub stay-few : length (others x named) ≤ MAX_LABELS
  stay-few = let most = length-set (length named.names) (others x named) (IsLabelSet-staying (Merge y x) named) in let few = is.names.few in omega arith

  pub images-below : AllByRecursion (λ image. image < MAX_LABELS) images
  images-below = subst (AllByRecursion (λ image. image < MAX_LABELS)) (sym t) (AllByRecursion-from_In (λ image. image < MAX_LABELS) (merge_numbers x y named) (λ image i.
      let (label, j, e) = In-map_from (λ label. number_among (others x named) (merged_label x y label)) image (count_from 0 (length named.names)) i in
      let l = (at_number (others x named) (merged_label x y label) (IsLabelSet-staying (Merge y x) named).0 (stays x y named m apart label (below-counted (length named.names) label j))).0 in
      let few = stay-few in omega arith))

  whole : record { names = names; active = active; passive = passive } ≡ named
  whole = (λ i. record { names = n i; active = a i; passive = p i })

  pub is-built : built (renumbered stay images (record { names = names; active = active; passive = passive })).names (renumbered stay images (record { names = names; active = active; passive = passive })).active (renumbered stay images (record { names = names; active = active; passive = passive })).passive
      ≡ Some (renumbered stay images (record { names = names; active = active; passive = passive }))
  is-built = built-along (others x named) stay (merge_numbers x y named) images named (record { names = names; active = active; passive = passive }) s t whole (merged-built x y named m apart is)

  pub made : renumbered stay images (record { names = names; active = active; passive = passive }) ≡ merged_problem x y named
  made = (λ i. renumbered (s i) (t i) (whole i))

-- there is a number for each label
pub count-numbers : (x y : ℕ) (named : NamedProblem) → length (merge_numbers x y named) ≡ length named.names
count-numbers x y named = length-map_counted (λ label. number_among (others x named) (merged_label x y label)) (length named.names)
