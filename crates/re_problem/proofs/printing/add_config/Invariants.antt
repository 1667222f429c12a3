use Rattle.std.proofs.Common.{◌≡◌, ◌≤◌, ◌+◌, ◌*◌, ◌-◌, ◌++◌, drop, length}
use Rattle.re_problem.specs.CanonicalTexts.{runs}
use Rattle.re_problem.proofs.GatheredLines.{begun_text}
use Rattle.re_problem.proofs.printing.add_config.Given as goal

abbrev pub invariant-runs : goal.invariant-runs
invariant-runs l = record {
  within : l.at ≤ length l.labels;
  room : length l.lines ≤ length l.fn.lines + 21 * l.at;
  lines : l.lines ++ begun_text l.words (runs (drop l.at l.labels)) ≡ l.fn.lines ++ begun_text l.words (runs l.labels);
}

abbrev pub decreases-runs : goal.decreases-runs
decreases-runs l = length l.labels - l.at
