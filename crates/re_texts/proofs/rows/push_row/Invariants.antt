use Rattle.std.proofs.Common.{◌≡◌, ◌≤◌, ◌-◌, ◌++◌, codes, length, drop, map}
use Rattle.std.specs.Io.{StartsWith}
use Rattle.std.specs.List.{flat_map}
use Rattle.re_texts.specs.SetTexts.{row_text, set_run_text}
use Rattle.re_problem.specs.CanonicalTexts.{runs}
use Rattle.re_texts.proofs.rows.push_row.Given as goal

abbrev pub invariant-runs : goal.invariant-runs
invariant-runs l = record {
  within : l.at ≤ length l.numbers.items;
  grown : StartsWith l.text.items l.fn.text.items;
  printed : l.fn.text.items ++ row_text l.names l.row ≡ l.text.items ++ flat_map (λ next. codes " " ++ next) (map (set_run_text l.names) (runs (drop l.at l.numbers.items)));
}

abbrev pub decreases-runs : goal.decreases-runs
decreases-runs l = length l.numbers.items - l.at
