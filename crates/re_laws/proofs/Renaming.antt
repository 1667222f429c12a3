-- A problem under other labels is solvable in as many rounds.
use Rattle.std.proofs.Common.{◌≡◌, ℕ, ◌<◌, List, map, ◌↔◌, sym, ◌∙◌, subst, arith}
use Rattle.std.specs.Prelude.{Contains, ◌==◌, find, unwrap_or}
use Rattle.std.proofs.lemmas.Bool.Decides.{nat_tests}
use Rattle.std.proofs.lemmas.List.{map-id}
use Rattle.re_labels.specs.Configs.{image_at}
use Rattle.re_labels.proofs.Membership.{Contains-In, Contains-count_from, count_from_range, first_found}
use Rattle.re_labels.specs.Lists.{count_from}
use Rattle.re_laws.proofs.Relaxing.{Solvable-relaxed}
use Rattle.re_laws.specs.Algorithms.{Solvable}
use Rattle.re_problem.proofs.NewNumbers.{map-same}
use Rattle.re_problem.proofs.StepLaws.{IsRelaxed-renamed}
use Rattle.re_problem.specs.Problems.{IsProblem, Problem}
use Rattle.re_problem.specs.Steps.{IsRelaxed, IsRenamed}
use Rattle.re_labels.proofs.ConstraintImages.{back-held, config-below, itself-held}
use Rattle.re_labels.specs.Constraints.{Constraint, Has, IsConstraint, images_of}

module _ (problem next : Problem) (images : List ℕ) (is : IsProblem problem) (renamed : IsRenamed problem next images) where
  -- the label with this image
  abbrev back : ℕ → ℕ
  back y = unwrap_or (find (λ x. image_at images x == y) (count_from 0 problem.labels)) 0

  back-image : (x : ℕ) → x < problem.labels → back (image_at images x) ≡ x
  back-image x l =
      let found = first_found (λ a. image_at images a == image_at images x) (count_from 0 problem.labels) 0 x (Contains-count_from 0 problem.labels x (omega arith) (omega arith)) (grind (arith, nat_tests)) in
      let y : ℕ = unwrap_or (find (λ a. image_at images a == image_at images x) (count_from 0 problem.labels)) 0 in
      let range = count_from_range 0 problem.labels y found.0 in
      let same : image_at images y ≡ image_at images x = grind (arith, nat_tests, found.1) in
      renamed.apart y x (omega (arith, range.1)) l same

  held-back : (constraint other : Constraint) → IsConstraint problem.labels constraint → images_of images constraint ≡ other.configs
      → (config : List ℕ) → Contains other.configs config → Has constraint (map back config)
  held-back constraint other is_constraint same config held =
      back-held images constraint back
      (λ c h.
      let alike : map (λ x. back (image_at images x)) c ≡ c
      = map-same (λ x. back (image_at images x)) (λ x. x) c (λ x i. back-image x (config-below problem.labels constraint is_constraint c x (Contains-In c constraint.configs h) i)) ∙ map-id c in
      subst (Has constraint) (sym alike) (itself-held problem.labels constraint is_constraint c h))
      config (subst (λ configs. Contains configs config) (sym same) held)

  pub IsRelaxed-back : IsRelaxed next problem back
  IsRelaxed-back = record {
    active_degree = sym renamed.active_degree;
    passive_degree = sym renamed.passive_degree;
    active = held-back problem.active next.active is.active renamed.active;
    passive = held-back problem.passive next.passive is.passive renamed.passive;
  }

pub Solvable-renamed : (problem next : Problem) (images : List ℕ) (T : ℕ) → IsProblem problem → IsProblem next → IsRenamed problem next images → Solvable problem T ↔ Solvable next T
Solvable-renamed problem next images T is is_next renamed = (
  Solvable-relaxed problem next (image_at images) T is (IsRelaxed-renamed problem next images renamed),
  Solvable-relaxed next problem (back problem next images is renamed) T is_next (IsRelaxed-back problem next images is renamed),
)
