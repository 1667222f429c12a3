use Rattle.std.proofs.Common.{◌≡◌, ◌++◌}
use Rattle.re_labels.specs.Rows.{singles}
use Rattle.re_settings.specs.Fits.{loose}
use Rattle.re_settings.proofs.ordering.push_loose.Given as goal

abbrev pub invariant-loop-label : goal.invariant-loop-label
invariant-loop-label l = l.places.items ≡ l.initial.places.items ++ singles (loose l.constraint l.label)
