use Rattle.std.proofs.Common.{◌≡◌, ◌++◌, filter, take}
use Rattle.re_settings.specs.Fits.{ends_in}
use Rattle.re_settings.proofs.ordering.push_ending.Given as goal

abbrev pub invariant-loop-place : goal.invariant-loop-place
invariant-loop-place l = l.configs.items ≡ l.initial.configs.items ++ filter (ends_in l.constraint.degree l.label) (take l.place l.constraint.configs)
