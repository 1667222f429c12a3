use Rattle.re_why.proofs.Loops.{Ascend}
use Rattle.re_why.specs.Finding.{labels_ascend}
use Rattle.re_why.proofs.upper_witness.unordered_label.Given as goal

abbrev pub invariant-loop-place : goal.invariant-loop-place
invariant-loop-place l = Ascend labels_ascend l.entries l.place
