use Rattle.std.proofs.Common.{length, ◌-◌, ◌≡◌, ◌≤◌, [], drop, Some}
use Rattle.std.specs.Prelude.{slice_range}
use Rattle.re_problem.specs.Items.{labels_from}
use Rattle.re_problem.proofs.labels.name_end.Given as goal

abbrev pub invariant-name : goal.invariant-name
invariant-name l = record {
  from : l.from ≤ l.to;
  within : l.to ≤ length l.text;
  name : labels_from (Some []) (drop l.from l.text) ≡ labels_from (Some (slice_range l.text l.from l.to)) (drop l.to l.text);
}

abbrev pub decreases-name : goal.decreases-name
decreases-name l = length l.text - l.to
