use Rattle.std.proofs.Common.{take}
use Rattle.re_greedy.proofs.joining.hardest_of.Given as goal
use Rattle.re_greedy.specs.Partials.{AreHardest}

abbrev pub invariant-loop-member : goal.invariant-loop-member
invariant-loop-member l = AreHardest l.degree l.members (take l.member-index l.members) l.chosen.items l.sets.items
