use Rattle.std.proofs.Common.{◌≡◌, ◌-◌, Some, length}
use Rattle.re_problem.specs.NamedProblems.{unnamed}
use Rattle.re_walks.proofs.WalkLemmas.{Partial}
use Rattle.re_walks.specs.Walking.{walk, walk_from}
use Rattle.re_graph.specs.Solving.{passes_on}
use Rattle.re_graph.proofs.solving.first_labels.Given as goal

abbrev pub invariant-loop-try : goal.invariant-loop-try
invariant-loop-try l = record {
  so_far : walk (passes_on (unnamed l.problem) l.graph) (length l.problem.names) l.places l.tries ≡ walk_from (passes_on (unnamed l.problem) l.graph) (length l.problem.names) l.places (l.tries - l._try) (Some l.labels.items);
  partial : Partial (length l.problem.names) l.places l.labels.items;
}
