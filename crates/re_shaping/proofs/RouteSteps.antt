-- The steps of a route that begins with a merge.
use Rattle.std.proofs.Common.{◌≡◌, ◌++◌, ◌<◌, ℕ, Bool, true, List, [], ◌∷◌, Option, None, Some, cond, length, sym, ap, ◌∙◌, arith}
use Rattle.std.specs.Prelude.{is_none, remove, slice_index_or}
use Rattle.re_problem.specs.NamedProblems.{NamedProblem}
use Rattle.re_problem.specs.ProblemTexts.{last_or}
use Rattle.re_cert.specs.Bounds.{BoundStep, next_problems}
use Rattle.re_shaping.specs.Chains.{step_along}
use Rattle.re_shaping.specs.Merging.{first_merged, merged_problem}
use Rattle.re_shaping.specs.Relaxing.{relaxed_limit}
use Rattle.re_shaping.specs.Along.{image_left, steps_along}
use Rattle.re_shaping.specs.Routes.{first_step, merge_step, merge_steps, steps_behind}
use Rattle.re_shaping.specs.declared.along.Stop.{Stop}

-- ---- the first step
module _ (merge : ℕ × ℕ) (before : NamedProblem) (stop : Stop) where
  abbrev step_if : Bool → Option BoundStep
  step_if b = cond b (Some (step_along (image_left stop.images.items) stop.problem (first_merged merge.0 merge.1 before))) None

  pub step_made : (images : List (Option ℕ)) (s sent : BoundStep) → images ≡ stop.images.items → s ≡ first_merged merge.0 merge.1 before
      → relaxed_limit before (merged_problem merge.0 merge.1 before) ≡ None → sent ≡ step_along (image_left images) stop.problem s → Some sent ≡ merge_step merge before stop
  step_made images s sent same is none told =
      ap Some (told ∙ (λ i. step_along (image_left (same i)) stop.problem (is i))) ∙ ap (λ o. step_if (is_none o)) (sym none)

-- ---- the steps
-- the first stop, and the others
pub opened : (merge : ℕ × ℕ) (before : NamedProblem) (stops : List Stop) (stop : Stop) → 0 < length stops → stop ≡ slice_index_or stops 0 stop
    → steps_behind (first_step merge before stop) (remove stops 0) ≡ merge_steps merge before stops
opened merge before [] stop some is = absurd (omega (arith, some))
opened merge before (first ∷ stops) stop some is = ap (λ (s : Stop). steps_behind (first_step merge before s) stops) is

-- behind the first step
pub behind_first : (before : NamedProblem) (s : BoundStep) (stops : List Stop) (steps all : List BoundStep) → steps ≡ [] ++ s ∷ []
    → all ≡ steps ++ steps_along true (last_or before (next_problems steps)) stops → all ≡ steps_behind (Some s) stops
behind_first before s stops steps all pushed made = made ∙ ap (λ l. l ++ steps_along true (last_or before (next_problems l)) stops) pushed
