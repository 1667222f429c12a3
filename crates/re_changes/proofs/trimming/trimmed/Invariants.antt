use Rattle.std.proofs.Common.{◌≡◌, ◌-◌}
use Rattle.re_changes.specs.Trimming.{IsKnown, trimmed}
use Rattle.re_changes.proofs.trimming.trimmed.Given as goal

abbrev pub invariant-loop-done : goal.invariant-loop-done
invariant-loop-done l = record {
  trims : trimmed (l.steps - l._done) l.rest ≡ trimmed l.steps l.problem;
  known : IsKnown l.known.passed l.known.covers.items l.rest;
}
