use Rattle.std.proofs.Common.{◌≡◌, ℕ, ◌<◌, false}
use Rattle.re_settings.specs.InputProblems.{is_one_sided}
use Rattle.re_settings.proofs.inputs.one_sided.Given as goal

abbrev pub invariant-loop-label : goal.invariant-loop-label
invariant-loop-label l = (k : ℕ) → k < l.label → is_one_sided l.input k ≡ false
