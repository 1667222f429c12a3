use Rattle.std.proofs.Common.{◌≡◌, ◌-◌, Some, length}
use Rattle.re_walks.proofs.WalkLemmas.{Partial}
use Rattle.re_walks.specs.Walking.{walk_from}
use Rattle.re_bridge.proofs.MapWalks.{FrontPasses}
use Rattle.re_bridge.specs.Reductions.{passes_into, walk_into}
use Rattle.re_bridge.proofs.reducing.walk_into.Given as goal

abbrev pub invariant-loop-try : goal.invariant-loop-try
invariant-loop-try l = record {
  so_far : walk_into l.most l.problem l.tries ≡ walk_from (passes_into l.most l.problem) (length l.problem.names) (length l.problem.names) (l.tries - l._try) (Some l.images.items);
  partial : Partial (length l.problem.names) (length l.problem.names) l.images.items;
  front : FrontPasses l.most l.problem l.images.items;
}
