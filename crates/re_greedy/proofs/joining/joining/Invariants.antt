use Rattle.std.proofs.Common.{take}
use Rattle.re_greedy.proofs.joining.joining.Given as goal
use Rattle.re_greedy.specs.Partials.{AreJoining}

abbrev pub invariant-loop-member : goal.invariant-loop-member
invariant-loop-member l = AreJoining (take l.member-index l.members) l.seen l.set
