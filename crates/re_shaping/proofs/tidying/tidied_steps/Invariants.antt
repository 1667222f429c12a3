use Rattle.std.proofs.Common.{◌≡◌, map, take}
use Rattle.re_shaping.specs.Tidied.{step_in_order}
use Rattle.re_shaping.proofs.tidying.tidied_steps.Given as goal

abbrev pub invariant-loop-step : goal.invariant-loop-step
invariant-loop-step l = l.tidied.items ≡ map step_in_order (take l.step-index l.steps)
