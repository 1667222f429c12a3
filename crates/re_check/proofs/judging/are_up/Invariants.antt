use Rattle.std.proofs.Common.{ℕ, ◌<◌, get_or, []}
use Rattle.re_boxes.specs.Boxes.{IsUp}
use Rattle.re_boxes.specs.HeldStrength.{ups_in}
use Rattle.re_check.proofs.judging.are_up.Given as goal

abbrev pub invariant-loop-set : goal.invariant-loop-set
invariant-loop-set l = (k : ℕ) → k < l.set-index → IsUp (ups_in l.strength.ups.items) (get_or l.sets k [])
