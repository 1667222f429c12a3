use Rattle.std.proofs.Common.{◌≡◌, ◌<◌, ◌⊎◌, [], arith, get_or, inl, inr, length, subst}
use Rattle.std.specs.Prelude.{◌↔◌}
use Rattle.re_labels.specs.Sets.{IsIn}
use Rattle.re_labels.proofs.Placing.{read_at}
use Rattle.re_flexible.proofs.Building.{built_all, built_more, related_low}
use Rattle.re_flexible.proofs.tables.led_through.Goals as goal
use Rattle.re_flexible.specs.Relations.{Relates}

pub loop-label-preserved : goal.loop-label-preserved
loop-label-preserved c =
    let low : c.loop-label.label < length c.args.table.now = (let below = c.loop-label-test.true in let same = c.requires.count in omega (arith, below, same)) in
    let mid : c.args.through < length c.args.table.now = (let below = c.requires.through in let same = c.requires.count in omega (arith, below, same)) in
    let own : c.index-table-label.result ≡ get_or c.args.table.now c.loop-label.label [] = read_at c.args.table.now c.loop-label.label c.index-table-label.result low c.index-table-label.is in
    let row : c.index-table-through.result ≡ get_or c.args.table.now c.args.through [] = read_at c.args.table.now c.args.through c.index-table-through.result mid c.index-table-through.is in
    built_more (λ x y. Relates c.args.table.now x y ⊎ (Relates c.args.table.now x c.args.through × Relates c.args.table.now c.args.through y))
    c.loop-label.led.items _ c.loop-label.label c.joined.result c.loop-label.invariant c.push.ensures.items
    (λ y. subst (λ s. IsIn y c.joined.result ↔ (IsIn y s ⊎ (IsIn c.args.through s × Relates c.args.table.now c.args.through y))) own
    (subst (λ s. IsIn y c.joined.result ↔ (IsIn y c.index-table-label.result ⊎ (IsIn c.args.through c.index-table-label.result × IsIn y s))) row (c.joined.ensures y)))

pub returns-clause-led : goal.returns-clause-led
returns-clause-led c =
    built_all (λ x y. Relates c.args.table.now x y ⊎ (Relates c.args.table.now x c.args.through × Relates c.args.table.now c.args.through y))
    c.loop-label.led.items c.loop-label.label c.loop-label.invariant
    (λ x y either. let low : x < length c.args.table.now = (elim either [ inl held ↦ related_low c.args.table.now x y held | inr held ↦ related_low c.args.table.now x c.args.through held.0 ]) in
    let past = c.loop-label-test.false in let same = c.requires.count in omega (arith, low, past, same))
