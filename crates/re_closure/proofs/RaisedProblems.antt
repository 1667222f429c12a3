-- The raised problem is a problem, and a relaxation.
use Rattle.std.proofs.Common.{◌≡◌, ℕ, suc, ◌<◌, Bool, true, false, cond, eqb, List, [], ◌∷◌, length, map, Some, refl, sym, ap, ◌∙◌, subst, inl, inr}
use Rattle.std.proofs.lemmas.List.{map-id}
use Rattle.std.specs.List.{AllByRecursion}
use Rattle.std.specs.Prelude.{Contains}
use Rattle.re_labels.proofs.Rearranging.{Rearranged-map}
use Rattle.re_labels.proofs.Sorting.{IsConfig-sorted, Rearranged-sorted, sorted_again}
use Rattle.re_labels.specs.Configs.{IsConfig, replaced, sorted}
use Rattle.re_labels.specs.Rows.{IsChoice, placed, set_at}
use Rattle.re_labels.proofs.Membership.{AllByRecursion-contains, AllByRecursion-from_contains}
use Rattle.re_labels.proofs.Tests.{eqb-true}
use Rattle.re_labels.specs.Sets.{IsIn}
use Rattle.re_problem.proofs.StepLaws.{IsRelaxed-itself}
use Rattle.re_problem.specs.NamedProblems.{IsNamedProblem, NamedProblem, built, unnamed}
use Rattle.re_problem.specs.Steps.{IsRelaxed}
use Rattle.re_labels.proofs.Goodness.{IsAllowed-Rearranged}
use Rattle.re_labels.proofs.MaxSets.{allowed_law}
use Rattle.re_labels.specs.Constraints.{Constraint, Has, IsConstraint}
use Rattle.re_labels.specs.GoodRows.{IsAllowed}
use Rattle.re_labels.specs.Strength.{IsAtLeastAsStrong}
use Rattle.re_closure.proofs.DiagramOrders.{all_below-at, all_below-count, below_itself, below_on, in_below, of_below, order_law}
use Rattle.re_closure.proofs.NamedFamilies.{surely_built}
use Rattle.re_closure.specs.Diagrams.{RaisedLaw, all_below, is_below, raised, raised_constraint}

module _ (edges : List (ℕ × ℕ)) (n : ℕ) (constraint : Constraint) (is : IsConstraint n constraint) where
  listed : (config : List ℕ) → Contains (raised_constraint edges n constraint).configs config → IsConfig constraint.degree (length (all_below edges n)) config
  listed config held = (((allowed_law constraint (all_below edges n) constraint.degree).1 config).0 held).0

  pub raised-constraint : IsConstraint n (raised_constraint edges n constraint)
  raised-constraint = record {
    least = is.least;
    most = is.most;
    configs = AllByRecursion-from_contains (IsConfig constraint.degree n) (raised_constraint edges n constraint).configs
        (λ config held. subst (λ m. IsConfig constraint.degree m config) (all_below-count edges n) (listed config held));
    ascends = (allowed_law constraint (all_below edges n) constraint.degree).0;
  }

  -- each label is below itself
  chosen : (config : List ℕ) → AllByRecursion (λ x. x < n) config → IsChoice config (placed (all_below edges n) config)
  chosen [] low = tt
  chosen (x ∷ config) low = (subst (IsIn x) (sym (all_below-at edges n x low.0)) (in_below edges n x x low.0 (below_itself edges x)), chosen config low.1)

  -- so each configuration stays
  pub stays : (config : List ℕ) → Contains constraint.configs config → Contains (raised_constraint edges n constraint).configs config
  stays config held =
      let of : IsConfig constraint.degree n config = AllByRecursion-contains (IsConfig constraint.degree n) constraint.configs config is.configs held in
      let some : IsAllowed constraint (placed (all_below edges n) config) = (config, chosen config of.below, subst (Contains constraint.configs) (sym (sorted_again config of.ascends)) held) in
      ((allowed_law constraint (all_below edges n) constraint.degree).1 config).1 (subst (λ m. IsConfig constraint.degree m config) (sym (all_below-count edges n)) of, some)

  pub stays-has : (config : List ℕ) → Contains constraint.configs config → Has (raised_constraint edges n constraint) (map (λ x. x) config)
  stays-has config held =
      let of : IsConfig constraint.degree n config = AllByRecursion-contains (IsConfig constraint.degree n) constraint.configs config is.configs held in
      subst (Contains (raised_constraint edges n constraint).configs) (sym (ap sorted (map-id config) ∙ sorted_again config of.ascends)) (stays config held)

module _ (edges : List (ℕ × ℕ)) (problem : NamedProblem) (is : IsNamedProblem problem) where
  abbrev n : ℕ
  n = length problem.names

  pub raised-named : IsNamedProblem (raised edges problem)
  raised-named = record {
    names = is.names;
    problem = record { active = is.problem.active; passive = raised-constraint edges n problem.passive is.problem.passive };
    occur = λ x low. elim (is.occur x low) [
      | inl there ↦ inl there
      | inr (config, held, there) ↦ inr (config, stays edges n problem.passive is.problem.passive config held, there)
    ];
  }

  pub raised-relaxed : IsRelaxed (unnamed problem) (unnamed (raised edges problem)) (λ x. x)
  raised-relaxed = record {
    active_degree = refl;
    passive_degree = refl;
    active = (IsRelaxed-itself (unnamed problem) is.problem).active;
    passive = stays-has edges n problem.passive is.problem.passive;
  }

-- ---- the order
module _ (edges : List (ℕ × ℕ)) (n : ℕ) (low high : ℕ) (below : is_below edges low high ≡ true) (fits : high < n) where
  -- a choice from the sets below labels is one where the lower label is replaced by the higher one
  choice_replaced : (labels config : List ℕ) → AllByRecursion (λ x. x < n) config → IsChoice labels (placed (all_below edges n) config) → IsChoice labels (placed (all_below edges n) (replaced low high config))
  choice_replaced [] [] l h = tt
  choice_replaced (y ∷ labels) [] l h = absurd h
  choice_replaced [] (x ∷ config) l h = absurd h
  choice_replaced (y ∷ labels) (x ∷ config) l h = go (eqb x low) refl (choice_replaced labels config l.1 h.1)
    where
      go : (b : Bool) → eqb x low ≡ b → IsChoice labels (placed (all_below edges n) (replaced low high config)) → IsChoice (y ∷ labels) (placed (all_below edges n) (cond b (high ∷ config) (x ∷ replaced low high config)))
      go true e rest =
          let two = of_below edges n x y (subst (IsIn y) (all_below-at edges n x l.0) h.0) in
          let under : is_below edges y low ≡ true = subst (λ z. is_below edges y z ≡ true) (eqb-true x low e) two.1 in
          (subst (IsIn y) (sym (all_below-at edges n high fits)) (in_below edges n high y two.0 (below_on edges y low high under below)), h.1)
      go false e rest = (h.0, rest)

  all_replaced : (config : List ℕ) → AllByRecursion (λ x. x < n) config → AllByRecursion (λ x. x < n) (replaced low high config)
  all_replaced [] l = tt
  all_replaced (x ∷ config) l = elim (eqb x low) as (λ b. AllByRecursion (λ x. x < n) (cond b (high ∷ config) (x ∷ replaced low high config))) [
    | true ↦ (fits, l.1)
    | false ↦ (l.0, all_replaced config l.1)
  ]

  length_replaced : (config : List ℕ) → length (replaced low high config) ≡ length config
  length_replaced [] = refl
  length_replaced (x ∷ config) = elim (eqb x low) as (λ b. length (cond b (high ∷ config) (x ∷ replaced low high config)) ≡ suc (length config)) [
    | true ↦ refl
    | false ↦ ap suc (length_replaced config)
  ]

  pub respects : (constraint : Constraint) → IsAtLeastAsStrong (raised_constraint edges n constraint) high low
  respects constraint config held there =
      let sets : List (List ℕ) = all_below edges n in
      let (of, (labels, chosen, has)) = ((allowed_law constraint sets constraint.degree).1 config).0 held in
      let fit : IsConfig constraint.degree n config = subst (λ m. IsConfig constraint.degree m config) (all_below-count edges n) of in
      let new : List ℕ = replaced low high config in
      let whole : IsConfig constraint.degree n (sorted new) = IsConfig-sorted constraint.degree n new (length_replaced config ∙ fit.count) (all_replaced config fit.below) in
      let some : IsAllowed constraint (placed sets new) = (labels, choice_replaced labels config fit.below chosen, has) in
      ((allowed_law constraint sets constraint.degree).1 (sorted new)).1
      (subst (λ m. IsConfig constraint.degree m (sorted new)) (sym (all_below-count edges n)) whole, IsAllowed-Rearranged constraint (Rearranged-map (set_at sets) (Rearranged-sorted new)) some)

pub raised_law : RaisedLaw
raised_law edges problem is = (
  raised-named edges problem is,
  raised-relaxed edges problem is,
  λ low high way fits. respects edges (length problem.names) low high ((order_law edges low high).1 way) fits problem.passive,
)

-- what the program builds of its parts
pub raised_built : (edges : List (ℕ × ℕ)) (problem : NamedProblem) → IsNamedProblem problem → (names : List (List ℕ)) (active passive : Constraint) → names ≡ problem.names → active ≡ problem.active
    → passive ≡ raised_constraint edges (length problem.names) problem.passive → built names active passive ≡ Some (raised edges problem)
raised_built edges problem is names active passive e f g =
    (λ i. built (e i) (f i) (g i)) ∙ surely_built problem.names problem.active (raised_constraint edges (length problem.names) problem.passive) (raised-named edges problem is)
