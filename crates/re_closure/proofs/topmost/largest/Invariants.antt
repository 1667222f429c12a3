use Rattle.std.proofs.Common.{◌<◌, length}
use Rattle.re_closure.proofs.topmost.largest.Given as goal

abbrev pub invariant-loop-place : goal.invariant-loop-place
invariant-loop-place l = l.best < length l.lines
