use Rattle.std.proofs.Common.{◌≡◌, take}
use Rattle.re_graph.proofs.graph.PassiveEnds.new.Given as goal

abbrev pub invariant-loop-end : goal.invariant-loop-end
invariant-loop-end l = l.held.items ≡ take l.end-index l.ends
