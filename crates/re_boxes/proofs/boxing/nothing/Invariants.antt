use Rattle.std.proofs.Common.{◌≡◌, map, take, []}
use Rattle.re_boxes.proofs.boxing.nothing.Given as goal

abbrev pub invariant-loop-place : goal.invariant-loop-place
invariant-loop-place l = l.empty.items ≡ map (λ set. []) (take l._place l.sets)
