-- What it means that a step meets its clauses.
use Rattle.std.specs.Prelude.{◌≡◌, ◌<◌, ◌↔◌, true, false, List, None}
use Rattle.std.specs.List.{AllByRecursion}
use Rattle.re_labels.specs.Lists.{IsRising}
use Rattle.re_problem.specs.NamedProblems.{NamedProblem, unnamed}
use Rattle.re_problem.specs.Steps.{IsLowerStep, IsUpper, IsUpperStep, SetEntry, entry_sets, set_for}
use Rattle.re_cert.specs.Bounds.{BoundStep, entries_in}
use Rattle.re_check.specs.Clauses.{step_fault}

-- a lower step meets its clauses exactly where it leads, with its rows and its map, by a lower step to the next problem
abbrev pub LowerClausesLaw : Type 0
LowerClausesLaw = (before : NamedProblem) (s : BoundStep) → s.lower ≡ true →
    (step_fault before s ≡ None) ↔ IsLowerStep (unnamed before) (unnamed s.next) s.rows s.map

-- an upper step that meets its clauses leads by an upper step to the next problem, whose labels stand for the sets of their entries
abbrev pub UpperClausesLaw : Type 0
UpperClausesLaw = (before : NamedProblem) (s : BoundStep) → s.lower ≡ false →
    step_fault before s ≡ None → IsUpper (unnamed before) (unnamed s.next) (set_for (entries_in s.map))

-- each entry has a set: an ascending list
abbrev pub HaveSets : List SetEntry → Type 0
HaveSets entries = AllByRecursion (IsRising (λ x y. x < y)) (entry_sets entries)

-- an upper step meets its clauses exactly where it leads, with its map, by an upper step to the next problem
abbrev pub IsUpperWhereMet : NamedProblem → BoundStep → Type 0
IsUpperWhereMet before s = s.lower ≡ false → (step_fault before s ≡ None) ↔ IsUpperStep (unnamed before) (unnamed s.next) (entries_in s.map)

-- this holds of each step whose entries have sets
abbrev pub UpperStepLaw : Type 0
UpperStepLaw = (before : NamedProblem) (s : BoundStep) → HaveSets (entries_in s.map) → IsUpperWhereMet before s
