use Rattle.std.proofs.Common.{◌≡◌, flat_map, length}
use Rattle.re_labels.specs.Lists.{count_from}
use Rattle.re_changes.specs.Classes.{strong_by}
use Rattle.re_changes.specs.Diagrams.{edges_from}
use Rattle.re_changes.proofs.drawing.edges_of.Given as goal

abbrev pub invariant-loop-from : goal.invariant-loop-from
invariant-loop-from l = l.edges.items ≡ flat_map (edges_from (strong_by l.ups) (length l.ups) l.least) (count_from 0 l.from)
