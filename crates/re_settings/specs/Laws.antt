-- What a walk for sets tells.
use Rattle.std.specs.Prelude.{◌≡◌, ℕ, ◌<◌, List, length, Option, None, Some}
use Rattle.std.specs.List.{AllByRecursion}
use Rattle.re_labels.specs.Rows.{set_at}
use Rattle.re_problem.specs.Problems.{IsProblem, Problem}
use Rattle.re_problem.specs.Steps.{IsUpper, IsUpperStep, SetEntry}
use Rattle.re_given.specs.Given.{ZeroGiven}
use Rattle.re_given.specs.Inputs.{IsInput, exchanged}
use Rattle.re_walks.specs.Walking.{Walk, cut, found, nowhere}
use Rattle.re_settings.specs.Fits.{entries_of, fit_walk, sets_for}

-- a set of labels of the problem for each input label, by which an upper step leads to the exchanged input problem
pub record IsFitting (problem input : Problem) (sets : List (List ℕ)) : Type 0 where
  pub count : length sets ≡ input.labels
  pub below : AllByRecursion (AllByRecursion (λ label. label < problem.labels)) sets
  pub upper : IsUpper problem (exchanged input) (set_at sets)

-- such sets, or nothing where there are none: where the problem isn't zero given the input problem
abbrev pub IsAnswer : Problem → Problem → Option (List (List ℕ)) → Type 0
IsAnswer problem input None = ZeroGiven problem input → ⊥
IsAnswer problem input (Some sets) = IsFitting problem input sets

-- what a walk tells of all sets
abbrev pub TellsGiven : Problem → Problem → Walk → Type 0
TellsGiven problem input (found labels) = IsAnswer problem input (Some (sets_for input labels))
TellsGiven problem input nowhere = IsAnswer problem input None
TellsGiven problem input cut = Unit {0}

abbrev pub FitWalkLaw : Type 0
FitWalkLaw = (problem input : Problem) (tries : ℕ) → IsProblem problem → IsInput problem input → TellsGiven problem input (fit_walk problem input tries)

-- ---- upper steps to any problem of exchanged degrees
-- sets by which an upper step leads to the next problem, or nothing where none leads there
abbrev pub IsLeading : Problem → Problem → Option (List (List ℕ)) → Type 0
IsLeading before next None = (entries : List SetEntry) → IsUpperStep before next entries → ⊥
IsLeading before next (Some sets) = IsUpperStep before next (entries_of sets)

abbrev pub TellsUpper : Problem → Problem → Walk → Type 0
TellsUpper before next (found labels) = IsLeading before next (Some (sets_for (exchanged next) labels))
TellsUpper before next nowhere = IsLeading before next None
TellsUpper before next cut = Unit {0}

abbrev pub UpperWalkLaw : Type 0
UpperWalkLaw = (before next : Problem) (tries : ℕ) → IsProblem before → IsProblem next → next.active.degree ≡ before.passive.degree → next.passive.degree ≡ before.active.degree
    → TellsUpper before next (fit_walk before (exchanged next) tries)
