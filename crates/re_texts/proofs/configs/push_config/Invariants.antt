use Rattle.std.proofs.Common.{◌≡◌, ◌≤◌, ◌-◌, ◌++◌, codes, length, drop, map}
use Rattle.std.specs.Io.{StartsWith}
use Rattle.std.specs.List.{flat_map}
use Rattle.re_problem.specs.CanonicalTexts.{config_text, run_text, runs}
use Rattle.re_texts.proofs.configs.push_config.Given as goal

abbrev pub invariant-runs : goal.invariant-runs
invariant-runs l = record {
  within : l.at ≤ length l.numbers.items;
  grown : StartsWith l.text.items l.fn.text.items;
  printed : l.fn.text.items ++ config_text l.names l.labels ≡ l.text.items ++ flat_map (λ next. codes " " ++ next) (map (run_text l.names) (runs (drop l.at l.numbers.items)));
}

abbrev pub decreases-runs : goal.decreases-runs
decreases-runs l = length l.numbers.items - l.at
