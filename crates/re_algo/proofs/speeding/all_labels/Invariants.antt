use Rattle.std.proofs.Common.{◌≡◌, map, take}
use Rattle.re_algo.specs.Constructions.{top_places}
use Rattle.re_algo.proofs.speeding.all_labels.Given as goal

abbrev pub invariant-loop-row : goal.invariant-loop-row
invariant-loop-row l = l.answers.items ≡ map (top_places l.derived.rows l.derived.sets) (take l.row-index l.rows)
