use Rattle.std.proofs.Common.{◌+◌, ◌-◌, ◌*◌, ◌≤◌, length}
use Rattle.re_labels.specs.Orders.{factorial}
use Rattle.re_closure.specs.Combining.{AreAllBefore}
use Rattle.re_closure.proofs.combining.push_against.Given as goal

abbrev pub invariant-loop-against : goal.invariant-loop-against
invariant-loop-against l = record {
  all : AreAllBefore l.sets l.others l.place l.against l.initial.found.items l.found.items;
  few : length l.found.items ≤ length l.initial.found.items + l.against * factorial (length l.sets - 1);
}
