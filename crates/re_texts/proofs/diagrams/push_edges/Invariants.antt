use Rattle.std.proofs.Common.{◌≡◌, ◌++◌, take}
use Rattle.std.specs.List.{flat_map}
use Rattle.re_texts.specs.SetTexts.{edge_text}
use Rattle.re_texts.proofs.diagrams.push_edges.Given as goal

abbrev pub invariant-loop-edge : goal.invariant-loop-edge
invariant-loop-edge l = l.text.items ≡ l.fn.text.items ++ flat_map (edge_text l.names l.classes) (take l.edge-index l.edges)
