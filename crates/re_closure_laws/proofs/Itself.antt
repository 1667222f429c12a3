-- Each problem is itself under the same labels.
use Rattle.std.proofs.Common.{◌≡◌, ℕ, ◌<◌, List, [], ◌∷◌, map, refl, sym, ap, ◌∙◌, arith}
use Rattle.std.specs.List.{AllByRecursion}
use Rattle.re_labels.proofs.Sorting.{sorted_again}
use Rattle.re_labels.specs.Configs.{IsConfig, image_at, image_of, sorted}
use Rattle.re_labels.proofs.Membership.{get_or-count_from, length-count_from}
use Rattle.re_labels.specs.Lists.{count_from}
use Rattle.re_labels.specs.ListSets.{list_set}
use Rattle.re_labels.specs.Constraints.{Constraint, IsConstraint, images_of}
use Rattle.re_problem.proofs.Walks.{alone}
use Rattle.re_problem.specs.Problems.{IsProblem, Problem}
use Rattle.re_problem.specs.Steps.{IsRenamed}

pub own_image : (n x : ℕ) → x < n → image_at (count_from 0 n) x ≡ x
own_image n x low = let e = get_or-count_from 0 n x 0 low in omega (arith, e)

own_images : (n : ℕ) (config : List ℕ) → AllByRecursion (λ x. x < n) config → map (image_at (count_from 0 n)) config ≡ config
own_images n [] h = refl
own_images n (x ∷ config) h = (λ i. own_image n x h.0 i ∷ own_images n config h.1 i)

own_configs : (d n : ℕ) (configs : List (List ℕ)) → AllByRecursion (IsConfig d n) configs → map (image_of (count_from 0 n)) configs ≡ configs
own_configs d n [] h = refl
own_configs d n (c ∷ configs) h = (λ i. (ap sorted (own_images n c h.0.below) ∙ sorted_again c h.0.ascends) i ∷ own_configs d n configs h.1 i)

own_constraint : (n : ℕ) (K : Constraint) → IsConstraint n K → images_of (count_from 0 n) K ≡ K.configs
own_constraint n K is = ap list_set (own_configs K.degree n K.configs is.configs) ∙ alone K.configs is.ascends

pub renamed_itself : (problem : Problem) → IsProblem problem → IsRenamed problem problem (count_from 0 problem.labels)
renamed_itself problem is = record {
  active_degree = refl;
  passive_degree = refl;
  count = length-count_from 0 problem.labels;
  apart = λ x y x_low y_low e. sym (own_image problem.labels x x_low) ∙ e ∙ own_image problem.labels y y_low;
  active = own_constraint problem.labels problem.active is.active;
  passive = own_constraint problem.labels problem.passive is.passive;
}
