-- One, two and three rounds are told by rows.
use Rattle.std.proofs.Common.{ℕ, List, map, ◌↔◌}
use Rattle.re_labels.specs.Rows.{set_at}
use Rattle.re_labels.specs.GoodRows.{max_sets}
use Rattle.re_problem.proofs.DerivedProblem.{IsProblem-derived, IsUpper-derived}
use Rattle.re_problem.specs.Derived.{derived}
use Rattle.re_problem.specs.Problems.{IsProblem, Problem}
use Rattle.re_problem.specs.Zero.{Zero}
use Rattle.re_laws.proofs.ChainRounds.{Solvable-before}
use Rattle.re_laws.proofs.FastRounds.{Solvable-derived}
use Rattle.re_laws.proofs.ZeroRounds.{Solvable-zero}
use Rattle.re_laws.specs.Algorithms.{Solvable}
use Rattle.re_given_words.proofs.OneRound.{HasDegrees, degrees_of, is_problem, is_upper, is_zero, one-from_zero, places_problem}
use Rattle.re_given_words.proofs.ThreeRounds.{made, shows_three}
use Rattle.re_given_words.proofs.TwoRounds.{next_upper, served-two, sets_problem, sets_rows, shows_next, swapped_degrees}
use Rattle.re_given_words.specs.declared.standing.Standing.{Standing}
use Rattle.re_given_words.specs.Ahead.{ShowsOne, ShowsTwo, SolvableByRow, SolvableByRows}
use Rattle.re_given_words.specs.Three.{ShownByMeetings}

-- ---- one round
pub Solvable-row : (problem : Problem) → HasDegrees problem → (row : List (List ℕ)) → ShowsOne problem row → Solvable problem 1
Solvable-row problem degrees row shows =
    Solvable-before problem (places_problem problem.passive.degree problem.active.degree) (set_at row) 0 (is_upper problem degrees row shows)
    ((Solvable-zero (places_problem problem.passive.degree problem.active.degree) (is_problem problem degrees)).1 (is_zero problem degrees))

pub row-from_solvable : (problem : Problem) → IsProblem problem → Solvable problem 1 → SolvableByRow problem
row-from_solvable problem is solvable =
    let zero_there : Zero (derived problem) = (Solvable-zero (derived problem) (IsProblem-derived problem is)).0 (Solvable-derived problem 0 is solvable) in
    (map (set_at (max_sets problem.passive problem.labels)) zero_there.0, one-from_zero problem (derived problem) (set_at (max_sets problem.passive problem.labels)) (IsUpper-derived problem) zero_there)

pub one_round : (problem : Problem) → IsProblem problem → Solvable problem 1 ↔ SolvableByRow problem
one_round problem is = (row-from_solvable problem is, λ shown. Solvable-row problem (degrees_of problem is) shown.0 shown.1)

-- ---- two rounds
pub row-from_two : (problem : Problem) → IsProblem problem → Solvable problem 2 → SolvableByRow (derived problem)
row-from_two problem is solvable = row-from_solvable (derived problem) (IsProblem-derived problem is) (Solvable-derived problem 1 is solvable)

pub rows-from_solvable : (problem : Problem) → IsProblem problem → Solvable problem 2 → SolvableByRows problem
rows-from_solvable problem is solvable =
    let (row, shows) = row-from_two problem is solvable in
    served-two problem (derived problem) (set_at (max_sets problem.passive problem.labels)) (IsUpper-derived problem) row shows

pub Solvable-rows : (problem : Problem) → HasDegrees problem → (standing : List Standing) → ShowsTwo problem standing → Solvable problem 2
Solvable-rows problem degrees standing shows =
    Solvable-before problem (sets_problem problem standing) (set_at (sets_rows standing)) 1 (next_upper problem standing)
    (Solvable-row (sets_problem problem standing) (swapped_degrees problem standing degrees) _ (shows_next problem degrees standing shows))

pub two_rounds : (problem : Problem) → IsProblem problem → Solvable problem 2 ↔ SolvableByRows problem
two_rounds problem is = (rows-from_solvable problem is, λ shown. Solvable-rows problem (degrees_of problem is) shown.0 shown.1)

-- ---- three rounds
pub three_rounds : (problem : Problem) → IsProblem problem → Solvable problem 3 → ShownByMeetings problem
three_rounds problem is solvable =
    let (standing, shows) = rows-from_solvable (derived problem) (IsProblem-derived problem is) (Solvable-derived problem 2 is solvable) in
    (made problem standing shows, shows_three problem standing shows)
