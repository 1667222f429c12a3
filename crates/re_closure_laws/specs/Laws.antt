-- What closed lists of lines give: lower steps from problem to problem, and back.
use Rattle.std.specs.Prelude.{◌≡◌, ℕ, ◌↔◌, List, length, map, Contains}
use Rattle.re_labels.specs.Lists.{count_from}
use Rattle.re_labels.specs.GoodRows.{IsDominated, max_rows}
use Rattle.re_problem.specs.Problems.{IsProblem, Problem}
use Rattle.re_problem.specs.Steps.{IsLowerStep, IsRenamed, by_set}
use Rattle.re_problem.specs.Zero.{Zero}
use Rattle.re_laws.specs.Algorithms.{Solvable}
use Rattle.re_closure_laws.specs.Closures.{AreClosure, AreTopmost, IsGenerated, IsMarked, unmarked}
use Rattle.re_closure_laws.specs.Lines.{AreApart, AreAround, AreClosed, AreOpposed, Family, IsFamily, below, entries_to, entries_within, problem_of, row_within}

-- the maximal rows over the labels are those of the lines
abbrev pub MaximalLinesLaw : Type 0
MaximalLinesLaw = (family : Family) (row : List (List ℕ)) → IsFamily family → AreApart family.lines →
    Contains (max_rows (below family) (length family.sets)) row ↔ ((line : List (List ℕ)) × Contains family.lines line × (row ≡ row_within family.sets line))

-- a lower step leads from the problem of two families to that of the two the other way round
abbrev pub StepLaw : Type 0
StepLaw = (active passive : Family) → IsFamily active → IsFamily passive → AreOpposed active passive →
    IsProblem (problem_of active passive)
    × IsLowerStep (problem_of active passive) (problem_of passive active) (max_rows (below passive) (length passive.sets)) (by_set (entries_within passive))

-- a lower step leads from a problem to that of two families that go with it
abbrev pub FirstStepLaw : Type 0
FirstStepLaw = (problem : Problem) (active passive : Family) → IsProblem problem → IsFamily active → IsFamily passive → AreAround problem active passive →
    AreOpposed active passive
    × IsLowerStep problem (problem_of passive active) (max_rows problem.passive problem.labels) (by_set (entries_to problem passive))

-- then no number of rounds solves the problem, where that of the families isn't solvable without communication
abbrev pub FixedLaw : Type 0
FixedLaw = (problem : Problem) (active passive : Family) (T : ℕ) → IsProblem problem → IsFamily active → IsFamily passive → AreAround problem active passive →
    (Zero (problem_of passive active) → ⊥) → Solvable problem T → ⊥

-- either way round, the problem of two opposed families is solvable without communication where the other one is
abbrev pub ZeroLinesLaw : Type 0
ZeroLinesLaw = (active passive : Family) → IsFamily active → IsFamily passive → AreOpposed active passive →
    Zero (problem_of active passive) ↔ Zero (problem_of passive active)

-- what comes from some lines is dominated by a closed list that dominates them: so lines that others dominate may be left out on the way
abbrev pub GeneratedLaw : Type 0
GeneratedLaw = (d : ℕ) (starts lines : List (List (List ℕ))) → ((line : List (List ℕ)) → Contains lines line → length line ≡ d) → AreClosed d lines
    → ((line : List (List ℕ)) → Contains starts line → IsDominated lines line) → (line : List (List ℕ)) → IsGenerated d starts line → IsDominated lines line

-- a mark in each set may be left out: the topmost lines are then those without it
abbrev pub MarkedLaw : Type 0
MarkedLaw = (n mark d : ℕ) (starts lines : List (List (List ℕ))) → ((line : List (List ℕ)) → Contains starts line → (length line ≡ d) × IsMarked n mark line)
    → ((line : List (List ℕ)) → Contains lines line → IsMarked n mark line) → AreTopmost d starts lines → AreTopmost d (map (unmarked mark) starts) (map (unmarked mark) lines)

-- each problem has a closure
abbrev pub ClosureExistsLaw : Type 0
ClosureExistsLaw = (problem : Problem) → IsProblem problem → (active : Family) × (passive : Family) × AreClosure problem active passive

-- whatever lines the closures of a problem keep of those that dominate one another, they have one problem, either way round
abbrev pub ClosureUniqueLaw : Type 0
ClosureUniqueLaw = (problem : Problem) (active passive active' passive' : Family) → IsProblem problem → AreClosure problem active passive → AreClosure problem active' passive' →
    (problem_of active passive ≡ problem_of active' passive') × (problem_of passive active ≡ problem_of passive' active')

-- the closure of a problem is of two families that go with it
abbrev pub ClosureFamiliesLaw : Type 0
ClosureFamiliesLaw = (problem : Problem) (active passive : Family) → IsProblem problem → AreClosure problem active passive →
    IsFamily active × IsFamily passive × AreAround problem active passive

-- the chain of a problem P and its closure P*: lower steps from P to Q, from Q to P*, and back to Q, under the same labels; and where P* isn't solvable without
-- communication, no number of rounds solves P
pub record IsClosureBound (problem : Problem) (active passive : Family) : Type 0 where
  pub first : IsLowerStep problem (problem_of passive active) (max_rows problem.passive problem.labels) (by_set (entries_to problem passive))
  pub out : IsLowerStep (problem_of passive active) (problem_of active passive) (max_rows (below active) (length active.sets)) (by_set (entries_within active))
  pub back : IsLowerStep (problem_of active passive) (problem_of passive active) (max_rows (below passive) (length passive.sets)) (by_set (entries_within passive))
  pub renamed : IsRenamed (problem_of passive active) (problem_of passive active) (count_from 0 (length active.sets))
  pub means : (T : ℕ) → (Zero (problem_of active passive) → ⊥) → Solvable problem T → ⊥

abbrev pub ClosureBoundLaw : Type 0
ClosureBoundLaw = (problem : Problem) (active passive : Family) → IsProblem problem → AreClosure problem active passive → IsClosureBound problem active passive
