use Rattle.re_why.proofs.Loops.{Ascend}
use Rattle.re_why.specs.Finding.{sets_ascend}
use Rattle.re_why.proofs.map_witness.unordered_set.Given as goal

abbrev pub invariant-loop-place : goal.invariant-loop-place
invariant-loop-place l = Ascend sets_ascend l.entries l.place
