use Rattle.std.proofs.Common.{rules, refl}
use Rattle.re_step.proofs.RestLemmas.{rests_all, rests_held, rests_left}
use Rattle.re_step.proofs.rests.push_rests.Goals as goal
use Rattle.re_step.proofs.rests.push_rests.Goals.{then-has+in_ok-push, else-has}

pub loop-place-preserved : goal.loop-place-preserved
loop-place-preserved c = elim c.if-has.branch [
  | then-has+in_ok-push w ↦ rests_held c.args.set c.args.config.now c.args.rests.now.items c.loop-place.rests.items _ c.loop-place.place _ (search rules) refl c.loop-place.invariant (search rules) (search rules)
  | else-has w ↦ rests_left c.args.set c.args.config.now c.args.rests.now.items c.loop-place.rests.items _ c.loop-place.place _ (search rules) refl c.loop-place.invariant (search rules) (search rules)
]

pub returns-clause-rests : goal.returns-clause-rests
returns-clause-rests c = rests_all c.args.set c.args.config.now c.args.rests.now.items c.loop-place.rests.items c.loop-place.place (search rules) c.loop-place.invariant
