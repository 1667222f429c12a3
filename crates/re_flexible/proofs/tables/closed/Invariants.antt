use Rattle.std.proofs.Common.{◌≡◌, length}
use Rattle.re_labels.specs.declared.TheConstants.{MAX_LABELS}
use Rattle.re_flexible.proofs.Closing.{IsClosing}
use Rattle.re_flexible.proofs.tables.closed.Given as goal

abbrev pub invariant-loop-through : goal.invariant-loop-through
invariant-loop-through l = record {
  count : length l.all.items ≡ MAX_LABELS;
  closing : IsClosing l.table l.all.items l.through;
}
