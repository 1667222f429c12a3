-- The step from a problem to the derived problem of a relaxation of it.
use Rattle.std.specs.Prelude.{ℕ, true, nat_lt, List, length, map, if◌then◌else◌, Option, Some}
use Rattle.re_algo.specs.Constructions.{top_places}
use Rattle.re_cert.specs.Bounds.{BoundStep}
use Rattle.re_labels.specs.Configs.{support_of}
use Rattle.re_labels.specs.declared.TheConstants.{MAX_ROWS}
use Rattle.re_problem.specs.NamedProblems.{NamedProblem, unnamed}
use Rattle.re_problem.specs.Problems.{Problem}
use Rattle.re_problem.specs.Steps.LowerMap.{by_row}
use Rattle.re_step.specs.Derivations.{named_derived, step_limit}
use Rattle.re_step.specs.declared.derivation.StepLimit.{StepLimit}
use Rattle.re_step.specs.declared.derivation.StepLimit.TheVariants.{Rows}
use Rattle.re_labels.specs.GoodRows.{max_rows, max_sets}

-- the set of the labels that the labels of a set become
abbrev pub set_image : (ℕ → ℕ) → List ℕ → List ℕ
set_image image set = support_of (map image set)

-- each set of the row becomes its image
abbrev pub row_image : (ℕ → ℕ) → List (List ℕ) → List (List ℕ)
row_image image row = map (set_image image) row

-- where a row goes: place by place to the sets of the first maximal row of the relaxation that dominates its image, each by its label in the derived problem
abbrev pub top_image : (ℕ → ℕ) → Problem → List (List ℕ) → List ℕ
top_image image relaxed row = top_places (max_rows relaxed.passive relaxed.labels) (max_sets relaxed.passive relaxed.labels) (row_image image row)

abbrev pub top_images : (ℕ → ℕ) → Problem → List (List (List ℕ)) → List (List ℕ)
top_images image relaxed rows = map (top_image image relaxed) rows

-- the step from a problem to the derived problem of a relaxation, by the images of its labels
abbrev pub relaxed_step : (ℕ → ℕ) → NamedProblem → NamedProblem → BoundStep
relaxed_step image problem relaxed = record {
  lower = true;
  next = named_derived (unnamed relaxed);
  rows = max_rows problem.passive (length problem.names);
  map = by_row (top_images image (unnamed relaxed) (max_rows problem.passive (length problem.names)));
}

-- the limit that this step passes first, if any: of its rows, or one of the derived problem
abbrev pub relaxed_limit : NamedProblem → NamedProblem → Option StepLimit
relaxed_limit problem relaxed = if nat_lt MAX_ROWS (length (max_rows problem.passive (length problem.names))) then Some Rows else step_limit (unnamed relaxed)
