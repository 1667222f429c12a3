use Rattle.std.proofs.Common.{◌≡◌, ◌-◌, ◌*◌, length}
use Rattle.re_labels.specs.declared.TheConstants.{MAX_LABELS}
use Rattle.re_problem.specs.NamedProblems.{unnamed}
use Rattle.re_flexible.proofs.Ahead.{missing}
use Rattle.re_flexible.proofs.Trims.{AreLeft}
use Rattle.re_flexible.proofs.trimming.trimmed_parts.Given as goal

abbrev pub invariant-rounds : goal.invariant-rounds
invariant-rounds l = record {
  count : length l.left.items ≡ MAX_LABELS;
  left : AreLeft (unnamed l.problem) l.fn.sets.items l.left.items;
}

abbrev pub decreases-rounds : goal.decreases-rounds
decreases-rounds l = MAX_LABELS * MAX_LABELS - missing MAX_LABELS l.left.items MAX_LABELS
