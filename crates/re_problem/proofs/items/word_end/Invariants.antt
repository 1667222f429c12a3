use Rattle.std.proofs.Common.{length, ◌-◌, ◌≡◌, ◌≤◌, ◌++◌, drop, false}
use Rattle.std.specs.Prelude.{slice_range}
use Rattle.re_problem.specs.Items.{pieces}
use Rattle.re_problem.specs.ItemSteps.{first_of}
use Rattle.re_problem.proofs.items.word_end.Given as goal

abbrev pub invariant-bytes : goal.invariant-bytes
invariant-bytes l = record {
  from : l.from ≤ l.to;
  within : l.to ≤ length l.line;
  word : first_of (pieces false (drop l.from l.line)) ≡ slice_range l.line l.from l.to ++ first_of (pieces l.inside (drop l.to l.line));
}

abbrev pub decreases-bytes : goal.decreases-bytes
decreases-bytes l = length l.line - l.to
