-- Sets that hold, with each label, those at least as strong: among them a search finds a map wherever there is one.
use Rattle.std.specs.Prelude.{◌≡◌, ℕ, ◌<◌, List, length}
use Rattle.std.specs.List.{AllByRecursion}
use Rattle.re_given.specs.Inputs.{exchanged}
use Rattle.re_labels.specs.Rows.{set_at}
use Rattle.re_labels.specs.Sets.{IsIn, IsLabelSet}
use Rattle.re_problem.specs.Problems.{Problem}
use Rattle.re_problem.specs.Steps.{IsUpper}
use Rattle.re_labels.specs.Constraints.{Constraint}
use Rattle.re_labels.specs.Strength.{IsAtLeastAsStrong}

-- a set of labels below n that holds, with each label, those at least as strong
pub record IsUpSet (constraint : Constraint) (n : ℕ) (set : List ℕ) : Type 0 where
  pub is_set : IsLabelSet n set
  pub up : (x y : ℕ) → IsIn x set → y < n → IsAtLeastAsStrong constraint y x → IsIn y set

-- a set of labels of the problem for each input label, with each label those that are at least as strong around passive nodes, by which an
-- upper step leads to the exchanged input problem
pub record IsFit (problem input : Problem) (sets : List (List ℕ)) : Type 0 where
  pub count : length sets ≡ input.labels
  pub up_sets : AllByRecursion (IsUpSet problem.passive problem.labels) sets
  pub upper : IsUpper problem (exchanged input) (set_at sets)
