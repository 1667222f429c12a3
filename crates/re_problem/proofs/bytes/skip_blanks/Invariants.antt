use Rattle.std.proofs.Common.{length, ◌-◌, ◌≡◌, ◌≤◌}
use Rattle.re_problem.specs.Bytes.{behind_blanks}
use Rattle.re_problem.proofs.bytes.skip_blanks.Given as goal

abbrev pub invariant-blanks : goal.invariant-blanks
invariant-blanks l = record {
  from : l.at ≤ l.place;
  within : l.place ≤ length l.text;
  passed : behind_blanks l.text l.at ≡ behind_blanks l.text l.place;
}

abbrev pub decreases-blanks : goal.decreases-blanks
decreases-blanks l = length l.text - l.place
