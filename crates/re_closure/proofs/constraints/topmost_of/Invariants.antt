use Rattle.std.proofs.Common.{◌≡◌, ◌≤◌, length, map, take}
use Rattle.re_labels.specs.Configs.{sorted}
use Rattle.re_labels.specs.Lists.{place_of}
use Rattle.re_labels.specs.ListSets.{list_set}
use Rattle.re_closure.proofs.constraints.topmost_of.Given as goal

abbrev pub invariant-loop-line : goal.invariant-loop-line
invariant-loop-line l = record {
  degree : l.configs.degree ≡ l.degree;
  configs : l.configs.configs ≡ list_set (take l.line-index (map (λ line. sorted (map (place_of l.sets) line)) l.lines));
  few : length l.configs.configs ≤ l.line-index;
}
