use Rattle.std.proofs.Common.{◌≡◌, ◌<◌, ◌⊎◌, [], arith, get_or, inl, inr, length}
use Rattle.re_labels.proofs.Placing.{read_at}
use Rattle.re_flexible.proofs.Building.{built_all, built_more, related_low, row_is, union_row}
use Rattle.re_flexible.proofs.tables.united.Goals as goal
use Rattle.re_flexible.specs.Relations.{Relates}

pub loop-label-preserved : goal.loop-label-preserved
loop-label-preserved c =
    let low : c.loop-label.label < length c.args.first.now = (let below = c.loop-label-test.true in let same = c.requires.first in omega (arith, below, same)) in
    let under : c.loop-label.label < length c.args.second.now = (let below = c.loop-label-test.true in let same = c.requires.second in omega (arith, below, same)) in
    let one : c.index-first-label.result ≡ get_or c.args.first.now c.loop-label.label [] = read_at c.args.first.now c.loop-label.label c.index-first-label.result low c.index-first-label.is in
    let other : c.index-second-label.result ≡ get_or c.args.second.now c.loop-label.label [] = read_at c.args.second.now c.loop-label.label c.index-second-label.result under c.index-second-label.is in
    built_more (λ x y. Relates c.args.first.now x y ⊎ Relates c.args.second.now x y) c.loop-label.table.items _ c.loop-label.label c.union.result c.loop-label.invariant c.push.ensures.items
    (union_row (λ y. Relates c.args.first.now c.loop-label.label y) (λ y. Relates c.args.second.now c.loop-label.label y) c.index-first-label.result c.index-second-label.result c.union.result c.union.ensures
    (row_is c.args.first.now c.loop-label.label c.index-first-label.result one) (row_is c.args.second.now c.loop-label.label c.index-second-label.result other))

pub returns-clause-either : goal.returns-clause-either
returns-clause-either c = built_all (λ x y. Relates c.args.first.now x y ⊎ Relates c.args.second.now x y) c.loop-label.table.items c.loop-label.label c.loop-label.invariant
    (λ x y either. let past = c.loop-label-test.false in let same = c.requires.first in let also = c.requires.second in elim either [
      | inl held ↦ (let low : x < length c.args.first.now = related_low c.args.first.now x y held in omega (arith, low, past, same))
      | inr held ↦ (let low : x < length c.args.second.now = related_low c.args.second.now x y held in omega (arith, low, past, also))
    ])
