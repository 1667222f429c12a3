use Rattle.std.proofs.Common.{◌*◌, ◌≤◌, length}
use Rattle.re_labels.specs.Orders.{factorial}
use Rattle.re_closure.proofs.Combinations.{AreAllPlaces}
use Rattle.re_closure.proofs.combining.combinations.Given as goal

abbrev pub invariant-loop-place : goal.invariant-loop-place
invariant-loop-place l = record {
  all : AreAllPlaces l.sets l.others l.place l.found.items;
  few : length l.found.items ≤ l.place * factorial (length l.sets);
}
