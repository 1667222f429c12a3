use Rattle.std.proofs.Common.{length, List, ◌-◌, ◌≤◌}
use Rattle.re_problem.specs.Items.{ItemText}
use Rattle.re_problem.proofs.WrittenLines.{KnownItems}
use Rattle.re_problem.proofs.written.known_sets.Given as goal

abbrev pub invariant-items : goal.invariant-items
invariant-items l = (l.at ≤ length l.line) × (front : List ItemText) × KnownItems l.names l.line l.at front l.sets.items

abbrev pub decreases-items : goal.decreases-items
decreases-items l = length l.line - l.at
