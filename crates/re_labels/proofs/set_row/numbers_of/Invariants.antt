use Rattle.std.proofs.Common.{◌≡◌, take, true, map, ◌<◌, ◌^◌}
use Rattle.std.specs.List.{AllByRecursion}
use Rattle.re_labels.proofs.set_row.numbers_of.Given as goal
use Rattle.re_labels.specs.Rows.{is_full}
use Rattle.re_labels.specs.Sets.{number}
use Rattle.re_labels.specs.declared.TheConstants.{MAX_LABELS}

abbrev pub invariant-loop-set : goal.invariant-loop-set
invariant-loop-set l = record { numbers : l.numbers.items ≡ map number (take l.set-index l.sets); below : AllByRecursion (λ x. x < 2 ^ MAX_LABELS) l.numbers.items; full : is_full (take l.set-index l.sets) ≡ true }
