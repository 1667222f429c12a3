use Rattle.std.proofs.Common.{◌≡◌, ◌-◌, Some, length}
use Rattle.re_walks.proofs.WalkLemmas.{Partial}
use Rattle.re_bridge.specs.Bridges.{passes_by_row}
use Rattle.re_walks.specs.Walking.{walk, walk_from}
use Rattle.re_bridge.proofs.walking.walk_by_row.Given as goal

abbrev pub invariant-loop-try : goal.invariant-loop-try
invariant-loop-try l = record {
  so_far : walk (passes_by_row l.before l.next) (length l.next.names) l.places l.tries ≡ walk_from (passes_by_row l.before l.next) (length l.next.names) l.places (l.tries - l._try) (Some l.labels.items);
  partial : Partial (length l.next.names) l.places l.labels.items;
}
