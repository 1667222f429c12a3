use Rattle.std.proofs.Common.{◌≡◌}
use Rattle.re_settings.specs.Fits.{by_last}
use Rattle.re_settings.proofs.ordering.by_last.Given as goal

abbrev pub invariant-loop-label : goal.invariant-loop-label
invariant-loop-label l = l.configs.items ≡ by_last l.constraint l.label
