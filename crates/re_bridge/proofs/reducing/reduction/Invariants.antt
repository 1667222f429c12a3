use Rattle.std.proofs.Common.{◌≡◌, ◌-◌, length}
use Rattle.re_bridge.specs.Reductions.{reduction, walk_from_most}
use Rattle.re_bridge.proofs.reducing.reduction.Given as goal

abbrev pub invariant-loop-most : goal.invariant-loop-most
invariant-loop-most l = reduction l.problem l.tries ≡ walk_from_most l.most (length l.problem.names - l.most) l.problem l.tries
