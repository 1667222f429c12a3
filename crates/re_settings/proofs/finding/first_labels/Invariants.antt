use Rattle.std.proofs.Common.{◌≡◌, ◌-◌, Some, length}
use Rattle.re_problem.specs.NamedProblems.{unnamed}
use Rattle.re_walks.proofs.WalkLemmas.{Partial}
use Rattle.re_walks.specs.Walking.{walk, walk_from}
use Rattle.re_settings.specs.Fits.{passes_with}
use Rattle.re_settings.proofs.finding.first_labels.Given as goal

abbrev pub invariant-loop-try : goal.invariant-loop-try
invariant-loop-try l = record {
  so_far : walk (passes_with (unnamed l.problem) l.passive l.configs l.places) (length l.problem.names) (length l.places) l.tries ≡ walk_from (passes_with (unnamed l.problem) l.passive l.configs l.places) (length l.problem.names) (length l.places) (l.tries - l._try) (Some l.labels.items);
  partial : Partial (length l.problem.names) (length l.places) l.labels.items;
}
