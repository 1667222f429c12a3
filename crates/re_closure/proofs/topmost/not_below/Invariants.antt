use Rattle.std.proofs.Common.{ℕ, ◌≤◌, List, length, take}
use Rattle.std.specs.Prelude.{Contains, ◌↔◌}
use Rattle.re_labels.specs.Rows.{Dominates}
use Rattle.re_closure.specs.Kept.{IsAntichain}
use Rattle.re_closure.proofs.topmost.not_below.Given as goal

abbrev pub invariant-loop-line : goal.invariant-loop-line
invariant-loop-line l = record {
  left : (line : List (List ℕ)) → Contains l.left.items line ↔ (Contains (take l.line-index l.lines) line × (Dominates l.top line → ⊥));
  unrelated : IsAntichain l.lines → IsAntichain l.left.items;
  few : length l.left.items ≤ l.line-index;
}
