-- One, two and three rounds, over the labels of the problem itself.
use Rattle.std.specs.Prelude.{◌↔◌}
use Rattle.re_problem.specs.Problems.{IsProblem, Problem}
use Rattle.re_laws.specs.Algorithms.{Solvable}
use Rattle.re_given_words.specs.Ahead.{SolvableByRow, SolvableByRows}
use Rattle.re_given_words.specs.Three.{ShownByMeetings}

-- solvable in one round exactly where some row shows it
abbrev pub OneRoundLaw : Type 0
OneRoundLaw = (problem : Problem) → IsProblem problem → Solvable problem 1 ↔ SolvableByRow problem

-- solvable in two rounds exactly where some sets at the ports show it
abbrev pub TwoRoundsLaw : Type 0
TwoRoundsLaw = (problem : Problem) → IsProblem problem → Solvable problem 2 ↔ SolvableByRows problem

-- solvable in three rounds only where some rows at the meetings show it
abbrev pub ThreeRoundsLaw : Type 0
ThreeRoundsLaw = (problem : Problem) → IsProblem problem → Solvable problem 3 → ShownByMeetings problem
