use Rattle.std.proofs.Common.{◌≡◌, take}
use Rattle.re_greedy.proofs.finding.copied.Given as goal

abbrev pub invariant-loop-member : goal.invariant-loop-member
invariant-loop-member l = l.all.items ≡ take l.member-index l.members
