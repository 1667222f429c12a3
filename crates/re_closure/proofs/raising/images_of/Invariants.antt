use Rattle.std.proofs.Common.{◌≡◌, map, take}
use Rattle.re_algo.specs.Constructions.{top_places}
use Rattle.re_closure.proofs.raising.images_of.Given as goal

abbrev pub invariant-loop-row : goal.invariant-loop-row
invariant-loop-row l = l.images.items ≡ map (top_places l.tops l.sets) (take l.row-index l.rows)
