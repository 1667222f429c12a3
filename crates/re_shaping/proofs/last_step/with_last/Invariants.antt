use Rattle.std.proofs.Common.{◌≡◌, take}
use Rattle.re_shaping.proofs.last_step.with_last.Given as goal

abbrev pub invariant-loop-step : goal.invariant-loop-step
invariant-loop-step l = l.steps.items ≡ take l.step-index l.step-items
