use Rattle.std.proofs.Common.{◌≡◌, map, take}
use Rattle.re_shaping.specs.RowForms.{step_by_rows}
use Rattle.re_shaping.proofs.row_form.steps_by_rows.Given as goal

abbrev pub invariant-loop-step : goal.invariant-loop-step
invariant-loop-step l = l.written.items ≡ map step_by_rows (take l.step-index l.steps)
