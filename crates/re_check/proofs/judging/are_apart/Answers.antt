use Rattle.std.proofs.Common.{◌≡◌, ℕ, List, []}
use Rattle.std.specs.Prelude.{Contains}
use Rattle.re_labels.specs.Rows.{Dominates}
use Rattle.re_boxes.proofs.Walks.{all_walked, always, one_more}
use Rattle.re_check.proofs.judging.are_apart.Goals as goal

pub loop-row-preserved : goal.loop-row-preserved
loop-row-preserved c =
    one_more [] (λ row. (other : List (List ℕ)) → Contains c.args.rows.now other → Dominates row other → row ≡ other) c.args.rows.now c.loop-row.row-index c.row-item.result
    c.loop-row-test.true c.row-item.is c.loop-row.invariant (c.is_apart.ensures.0 c.if-not-is_apart.false)

pub returns : goal.returns
returns c = always (λ row other h k dom.
    all_walked [] (λ row. (other : List (List ℕ)) → Contains c.args.rows.now other → Dominates row other → row ≡ other) c.args.rows.now c.loop-row.row-index
    c.loop-row-test.false c.loop-row.invariant row h other k dom)
