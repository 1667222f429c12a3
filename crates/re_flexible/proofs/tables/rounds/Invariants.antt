use Rattle.std.proofs.Common.{◌≡◌, length}
use Rattle.re_labels.specs.declared.TheConstants.{MAX_LABELS}
use Rattle.re_flexible.proofs.Ahead.{IsAhead, missing}
use Rattle.re_flexible.proofs.tables.rounds.Given as goal

abbrev pub invariant-steps : goal.invariant-steps
invariant-steps l = record {
  count : length l.ahead.items ≡ MAX_LABELS;
  ahead : IsAhead l.table l.label l.ahead.items;
}

abbrev pub decreases-steps : goal.decreases-steps
decreases-steps l = missing MAX_LABELS l.ahead.items MAX_LABELS
