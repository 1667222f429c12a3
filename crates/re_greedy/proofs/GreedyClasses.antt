-- The classes of problems that are greedy from one side or the other.
use Rattle.std.proofs.Common.{◌≡◌, ℕ, suc, ◌+◌, ◌-◌, ◌*◌, ◌≤◌, List, refl, subst, arith}
use Rattle.re_classes.proofs.Decided.{below_log_star, order_log_star}
use Rattle.re_classes.specs.Classes.{IsBelowLogStar, IsOrderLogStar}
use Rattle.re_classes.specs.Laws.{IsSolvableColoured, IsUnsolvable}
use Rattle.re_local.proofs.FewerColours.{degree_within}
use Rattle.re_given.proofs.Colourings.{IsInput-colouring}
use Rattle.re_given.proofs.FastGiven.{IsInput-exchanged}
use Rattle.re_given.proofs.Itself.{SolvableGiven-exchanged}
use Rattle.re_given.proofs.RelativeGiven.{SolvableGiven-relative}
use Rattle.re_given.specs.Given.{SolvableGiven}
use Rattle.re_given.specs.InputExamples.{edge_colouring}
use Rattle.re_given.specs.Inputs.{exchanged}
use Rattle.re_given.specs.Unavoidable.{colouring}
use Rattle.re_greedy.proofs.GreedySolved.{SolvableGiven-greedy}
use Rattle.re_greedy.proofs.PassiveColours.{IsInput-passive, SolvableGiven-passive_colours, passive_colours}
use Rattle.re_greedy.specs.Greedy.{IsGreedy}
use Rattle.re_problem.specs.Problems.{IsProblem, Problem}

-- ---- active nodes one after another
-- with one colour more than a node has neighbours
pub few_colours : (problem : Problem) (partial : List (List ℕ)) → IsProblem problem → IsGreedy problem partial → IsSolvableColoured problem
few_colours problem partial is greedy =
    let within = degree_within problem.active.degree problem.passive.degree is.active.least is.passive.least in
    let colours : ℕ = problem.active.degree * (problem.passive.degree - 1) + 1 in
    (2 * colours, SolvableGiven-greedy problem partial colours is greedy (omega (arith, within)))

pub greedy_class : (problem : Problem) (partial : List (List ℕ)) → IsProblem problem → IsGreedy problem partial → IsBelowLogStar problem
greedy_class problem partial is greedy = below_log_star problem is (few_colours problem partial is greedy)

pub greedy_order : (problem : Problem) (partial : List (List ℕ)) → IsProblem problem → IsGreedy problem partial → IsUnsolvable problem → IsOrderLogStar problem
greedy_order problem partial is greedy never = order_log_star problem is never (few_colours problem partial is greedy)

-- ---- passive nodes one after another
pub is_other : (problem : Problem) → IsProblem problem → IsProblem (exchanged problem)
is_other problem is = record { active = is.passive; passive = is.active }

pub SolvableGiven-passive_greedy : (problem : Problem) (partial : List (List ℕ)) (c : ℕ) → IsProblem problem → IsGreedy (exchanged problem) partial → problem.active.degree ≤ c
    → SolvableGiven problem (edge_colouring problem.active.degree problem.passive.degree c) (2 * c + 1)
SolvableGiven-passive_greedy problem partial c is greedy enough =
    let other : IsProblem (exchanged problem) = is_other problem is in
    let more : suc (2 * c) ≡ 2 * c + 1 = omega arith in
    subst (SolvableGiven problem (edge_colouring problem.active.degree problem.passive.degree c)) more
    (SolvableGiven-exchanged (exchanged problem) (colouring problem.passive.degree problem.active.degree c) (2 * c) other (IsInput-colouring (exchanged problem) c other enough)
    (SolvableGiven-greedy (exchanged problem) partial c other greedy enough))

pub few_colours_passive : (problem : Problem) (partial : List (List ℕ)) → IsProblem problem → IsGreedy (exchanged problem) partial → IsSolvableColoured problem
few_colours_passive problem partial is greedy =
    let a : ℕ = problem.active.degree in
    let p : ℕ = problem.passive.degree in
    let within = degree_within a p is.active.least is.passive.least in
    let colours : ℕ = a * (p - 1) + 1 in
    let enough : p ≤ colours = omega (arith, within) in
    let sides : ℕ = passive_colours a p colours is.active.least is.active.most is.passive.least is.passive.most enough in (
      2 + (2 * sides + 1) + 1,
      SolvableGiven-relative problem (edge_colouring a p sides) (colouring a p colours) 2 (2 * sides + 1) is
          (IsInput-exchanged (exchanged problem) problem (colouring p a sides) (IsInput-colouring (exchanged problem) sides (is_other problem is) (omega arith)) refl refl)
          (IsInput-passive a p colours is.active.least is.active.most is.passive.least is.passive.most enough)
          (SolvableGiven-passive_colours a p colours is.active.least is.active.most is.passive.least is.passive.most enough)
          (SolvableGiven-passive_greedy problem partial sides is greedy (omega arith)),
    )

pub passive_greedy_class : (problem : Problem) (partial : List (List ℕ)) → IsProblem problem → IsGreedy (exchanged problem) partial → IsBelowLogStar problem
passive_greedy_class problem partial is greedy = below_log_star problem is (few_colours_passive problem partial is greedy)
