use Rattle.std.proofs.Common.{[]}
use Rattle.re_boxes.proofs.Walks.{all_walked}
use Rattle.re_boxes.specs.UpRows.{IsUpRow}
use Rattle.re_boxes.specs.HeldStrength.{ups_in}
use Rattle.re_check.proofs.judging.are_up_rows.Goals as goal

pub returns : goal.returns
returns c = all_walked [] (IsUpRow c.args.constraint.now (ups_in c.args.strength.now.ups.items) c.args.strength.now.labels) c.args.rows.now c.loop-row.row-index c.loop-row-test.false c.loop-row.invariant
