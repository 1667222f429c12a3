use Rattle.std.proofs.Common.{◌≡◌, ◌+◌, ◌≤◌, ◌-◌, ℕ, List, true}
use Rattle.re_io.proofs.LineSteps.{Gathered}
use Rattle.re_io.specs.declared.read.TheConstants.{MAX_BYTES}
use Rattle.re_io.proofs.lines.Lines.next_line.Given as goal

abbrev pub invariant-pieces : goal.invariant-pieces
invariant-pieces g l = record {
  gathered : (bytes : List ℕ) × Gathered l.fn.self l.self (g.S.Source.left l.fn.source) (g.S.Source.left l.source) bytes l.text.items;
  later : g.S.Source.faults l.fn.source ≤ g.S.Source.faults l.source;
  few : l.self.taken ≤ MAX_BYTES;
  stopped : l.self.stopped ≡ true;
}

abbrev pub decreases-pieces : goal.decreases-pieces
decreases-pieces g l = MAX_BYTES + 1 - l.self.taken
