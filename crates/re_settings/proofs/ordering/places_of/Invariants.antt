use Rattle.std.proofs.Common.{◌≡◌, take}
use Rattle.re_labels.specs.Rows.{singles}
use Rattle.re_settings.specs.Fits.{joined}
use Rattle.re_settings.proofs.ordering.places_of.Given as goal

abbrev pub invariant-loop-config : goal.invariant-loop-config
invariant-loop-config l = l.places.items ≡ singles (joined (take l.config-index l.configs))
