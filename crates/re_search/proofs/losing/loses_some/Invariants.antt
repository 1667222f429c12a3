use Rattle.std.proofs.Common.{◌≡◌, take, false}
use Rattle.std.specs.List.{list_any}
use Rattle.re_search.specs.Losses.{is_lost}
use Rattle.re_search.proofs.losing.loses_some.Given as goal

abbrev pub invariant-loop-place : goal.invariant-loop-place
invariant-loop-place l = list_any (is_lost l.images l.to) (take l.place l.from.configs) ≡ false
