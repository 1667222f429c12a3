-- Maximal independent sets on two nodes with loops.
use Rattle.std.proofs.Common.{◌≡◌, refl, true, arith}
use Rattle.re_cover.specs.Graphs.{IsGraphOf}
use Rattle.re_graph.proofs.Answering.{none-answer, none-means}
use Rattle.re_graph.proofs.Building.{is_graph-graph}
use Rattle.re_graph.specs.Building.{is_graph}
use Rattle.re_graph.specs.Examples.{IndependentSetLaw, independent_set, two_loops}
use Rattle.re_graph.specs.Solving.{IsAnswer, solution_walk}
use Rattle.re_problem.specs.Problems.{IsProblem}
use Rattle.re_walks.specs.Walking.{nowhere, walk_from}

IsProblem-independent_set : IsProblem independent_set
IsProblem-independent_set = record {
  active = record {
    least = omega arith;
    most = omega arith;
    configs = (
      record { count = refl; below = (omega arith, (omega arith, (omega arith, tt))); ascends = (omega arith, (omega arith, tt)) },
      (record { count = refl; below = (omega arith, (omega arith, (omega arith, tt))); ascends = (omega arith, (omega arith, tt)) }, tt),
    );
    ascends = (refl, tt);
  };
  passive = record {
    least = omega arith;
    most = omega arith;
    configs = (
      record { count = refl; below = (omega arith, (omega arith, tt)); ascends = (omega arith, tt) },
      (
        record { count = refl; below = (omega arith, (omega arith, tt)); ascends = (omega arith, tt) },
        (record { count = refl; below = (omega arith, (omega arith, tt)); ascends = (omega arith, tt) }, tt),
      ),
    );
    ascends = (refl, (refl, tt));
  };
}

is_graph-two_loops : is_graph two_loops ≡ true
is_graph-two_loops = refl

graph-two_loops : IsGraphOf independent_set two_loops
graph-two_loops = record { is_graph = is_graph-graph two_loops is_graph-two_loops; active_degree = refl; passive_degree = refl }

walked : solution_walk independent_set two_loops 1000 ≡ nowhere
unfolding walk_from
walked = refl

pub independent_set_law : IndependentSetLaw
independent_set_law =
    let none = none-answer independent_set two_loops 1000 IsProblem-independent_set graph-two_loops walked in
    ((graph-two_loops, none), none-means independent_set two_loops graph-two_loops none)
