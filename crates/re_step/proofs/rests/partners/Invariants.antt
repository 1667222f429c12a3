use Rattle.std.proofs.Common.{take, map, ◌∷◌, []}
use Rattle.re_step.specs.Rests.{AreRests}
use Rattle.re_step.proofs.rests.partners.Given as goal

abbrev pub invariant-loop-pair : goal.invariant-loop-pair
invariant-loop-pair l = AreRests (take l.pair-index l.pairs) l.set (map (λ y. y ∷ []) l.partners)
