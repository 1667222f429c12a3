use Rattle.std.proofs.Common.{ℕ, ◌≤◌, length}
use Rattle.re_labels.specs.declared.TheConstants.{MAX_ROWS}
use Rattle.re_closure.specs.Kept.{AreOfLength, IsAntichain, IsCounted, IsKept}
use Rattle.re_closure.proofs.topmost.topmost_lines.Given as goal

abbrev pub invariant-loop-settled : goal.invariant-loop-settled
invariant-loop-settled l = record {
  kept : (d : ℕ) → AreOfLength d l.fn.starts.items → IsKept d l.fn.starts.items l.kept.items l.waiting.items;
  few : length l.kept.items ≤ MAX_ROWS;
  unrelated : IsAntichain l.kept.items;
  counted : (d : ℕ) → AreOfLength d l.fn.starts.items → IsCounted d l.fn.starts.items l.kept.items l.waiting.items l._settled;
}
