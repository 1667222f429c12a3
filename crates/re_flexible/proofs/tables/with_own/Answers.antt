use Rattle.std.proofs.Common.{◌≡◌, ◌<◌, ◌⊎◌, [], arith, get_or, length}
use Rattle.re_labels.specs.declared.TheConstants.{MAX_LABELS}
use Rattle.re_labels.proofs.Placing.{read_at}
use Rattle.re_flexible.proofs.Building.{built_all, built_more, own_row}
use Rattle.re_flexible.proofs.tables.with_own.Goals as goal
use Rattle.re_flexible.specs.Relations.{Relates}

pub loop-label-preserved : goal.loop-label-preserved
loop-label-preserved c =
    let low : c.loop-label.label < length c.args.table.now = (let below = c.loop-label-test.true in let same = c.requires in omega (arith, below, same)) in
    let row : c.index-table-label.result ≡ get_or c.args.table.now c.loop-label.label [] = read_at c.args.table.now c.loop-label.label c.index-table-label.result low c.index-table-label.is in
    built_more (λ x y. (x < MAX_LABELS) × ((x ≡ y) ⊎ Relates c.args.table.now x y)) c.loop-label.own.items _ c.loop-label.label c.insert.result c.loop-label.invariant c.push.ensures.items
    (own_row MAX_LABELS c.args.table.now c.loop-label.label c.index-table-label.result c.insert.result c.loop-label-test.true row c.insert.ensures)

pub returns-clause-own : goal.returns-clause-own
returns-clause-own c = built_all (λ x y. (x < MAX_LABELS) × ((x ≡ y) ⊎ Relates c.args.table.now x y)) c.loop-label.own.items c.loop-label.label c.loop-label.invariant
    (λ x y both. let low : x < MAX_LABELS = both.0 in let past = c.loop-label-test.false in omega (arith, low, past))
