use Rattle.std.proofs.Common.{◌≡◌, map, take}
use Rattle.re_cover.specs.Graphs.{label_at}
use Rattle.re_graph.proofs.judging.labels_at.Given as goal

abbrev pub invariant-loop-here : goal.invariant-loop-here
invariant-loop-here l = l.held.items ≡ map (label_at l.nodes) (take l.here-index l.ends)
