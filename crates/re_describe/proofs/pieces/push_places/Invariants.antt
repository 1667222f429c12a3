use Rattle.std.proofs.Common.{◌≡◌, ◌++◌, drop}
use Rattle.re_describe.specs.Pieces.{places_text}
use Rattle.re_describe.proofs.pieces.push_places.Given as goal

abbrev pub invariant-loop-set : goal.invariant-loop-set
invariant-loop-set l = l.text.items ++ places_text l.names l.index (drop l.set-index l.sets) ≡ l.fn.text.items ++ places_text l.names l.index l.sets
