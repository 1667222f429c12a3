-- What bridges tell.
use Rattle.std.specs.Prelude.{◌≡◌, ℕ, List, flat_map, Option, None, Some}
use Rattle.re_labels.specs.Lists.{IsBefore}
use Rattle.re_problem.specs.NamedProblems.{IsNamedProblem, NamedProblem}
use Rattle.re_problem.specs.Steps.{LowerMap, SetEntry}
use Rattle.re_problem.specs.Steps.LowerMap.{by_row, by_set}
use Rattle.re_cert.specs.Bounds.{step_with}
use Rattle.re_cert.specs.declared.certificate.StepParts.{StepParts}
use Rattle.re_check.specs.StepClauses.{entry_labels}
use Rattle.re_check.specs.Clauses.{step_fault}
use Rattle.re_bridge.specs.Bridges.{Bridge, bridge_of, cut_off, missing, over, step_by}

-- the lower step to the next problem with this map meets its clauses
abbrev pub Meets : NamedProblem → NamedProblem → LowerMap → Type 0
Meets before next map = step_fault before (step_by before next map) ≡ None

-- the labels of the images, one behind the other
abbrev pub image_labels : List (List ℕ) → List ℕ
image_labels images = flat_map (λ image. image) images

-- it meets them by sets, and by no map with labels before these in lexicographic order
pub record IsFirstBySet (before next : NamedProblem) (entries : List SetEntry) : Type 0 where
  pub meets : Meets before next (by_set entries)
  pub first : (others : List SetEntry) → IsBefore (entry_labels others) (entry_labels entries) → Meets before next (by_set others) → ⊥

-- it meets them by rows, by no map with labels before these, and by no map by sets
pub record IsFirstByRow (before next : NamedProblem) (images : List (List ℕ)) : Type 0 where
  pub meets : Meets before next (by_row images)
  pub first : (others : List (List ℕ)) → IsBefore (image_labels others) (image_labels images) → Meets before next (by_row others) → ⊥
  pub no_sets : (entries : List SetEntry) → Meets before next (by_set entries) → ⊥

-- the map of a bridge is the first one with which the step meets its clauses; where it is missing there is none
abbrev pub IsBridge : NamedProblem → NamedProblem → Bridge → Type 0
IsBridge before next (over (by_set entries)) = IsFirstBySet before next entries
IsBridge before next (over (by_row images)) = IsFirstByRow before next images
IsBridge before next missing = (map : LowerMap) → Meets before next map → ⊥
IsBridge before next cut_off = Unit {0}

-- this holds of the bridge between any two problems
abbrev pub BridgeLaw : Type 0
BridgeLaw = (before next : NamedProblem) (tries : ℕ) → IsNamedProblem before → IsNamedProblem next → IsBridge before next (bridge_of before next tries)

-- the step with the parts that are found meets its clauses; where none are found no lower step to the next problem does
abbrev pub IsAnswer : NamedProblem → NamedProblem → Option StepParts → Type 0
IsAnswer before next None = (map : LowerMap) → Meets before next map → ⊥
IsAnswer before next (Some parts) = step_fault before (step_with next parts) ≡ None
