use Rattle.std.proofs.Common.{◌≡◌, ◌++◌, take}
use Rattle.re_labels.specs.Rows.{singles}
use Rattle.re_settings.proofs.ordering.push_labels.Given as goal

abbrev pub invariant-loop-label : goal.invariant-loop-label
invariant-loop-label l = l.places.items ≡ l.initial.places.items ++ singles (take l.label-index l.config)
