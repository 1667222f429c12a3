use Rattle.std.proofs.Common.{◌≡◌}
use Rattle.re_changes.specs.Trimming.{all_but}
use Rattle.re_changes.proofs.trimming.all_but.Given as goal

abbrev pub invariant-loop-other : goal.invariant-loop-other
invariant-loop-other l = l.others.items ≡ all_but l.label l.other
