use Rattle.std.proofs.Common.{◌≡◌, map, take}
use Rattle.re_greedy.proofs.answering.around_of.Given as goal
use Rattle.re_labels.specs.Rows.{set_at}

abbrev pub invariant-loop-place : goal.invariant-loop-place
invariant-loop-place l = l.around.items ≡ map (set_at l.chosen) (take l.place-index l.places)
