use Rattle.std.proofs.Common.{◌≡◌, false, take}
use Rattle.re_labels.specs.GoodRows.{is_dominated}
use Rattle.re_describe.proofs.condensing.top_of.Given as goal

abbrev pub invariant-loop-top : goal.invariant-loop-top
invariant-loop-top l = is_dominated (take l.top-index l.rows) l.row ≡ false
