use Rattle.std.proofs.Common.{◌+◌, ◌-◌, ◌*◌, ◌≤◌, length}
use Rattle.re_labels.specs.Orders.{factorial}
use Rattle.re_closure.proofs.Combinations.{AreMeetingsBefore}
use Rattle.re_closure.proofs.combining.+push_meets.Given as goal

abbrev pub invariant-loop-place : goal.invariant-loop-place
invariant-loop-place l = record {
  all : AreMeetingsBefore l.chosen l.first l.others l.left l.place l.initial.found.items l.found.items;
  few : length l.found.items ≤ length l.initial.found.items + l.place * factorial (length l.left - 1);
}

abbrev pub decreases-push_meets : goal.decreases-push_meets
decreases-push_meets l = length l.rest.now
