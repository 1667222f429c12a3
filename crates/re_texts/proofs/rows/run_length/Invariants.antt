use Rattle.std.proofs.Common.{◌≡◌, ◌<◌, ◌≤◌, ◌-◌, length, drop, get_or}
use Rattle.re_problem.specs.CanonicalTexts.{runs}
use Rattle.re_problem.proofs.Runs.{stacked}
use Rattle.re_texts.proofs.rows.run_length.Given as goal

abbrev pub invariant-run : goal.invariant-run
invariant-run l = record {
  begun : l.at < l.end;
  within : l.end ≤ length l.numbers;
  runs : runs (drop l.at l.numbers) ≡ stacked (l.end - l.at) (get_or l.numbers l.at 0) (runs (drop l.end l.numbers));
}

abbrev pub decreases-run : goal.decreases-run
decreases-run l = length l.numbers - l.end
