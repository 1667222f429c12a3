use Rattle.std.proofs.Common.{◌≡◌, ◌<◌, ℕ, [], arith, get_or, length, subst}
use Rattle.std.specs.Prelude.{◌↔◌}
use Rattle.re_labels.specs.Sets.{IsIn}
use Rattle.re_labels.proofs.Placing.{read_at}
use Rattle.re_flexible.proofs.Building.{built_all, built_more, related_low}
use Rattle.re_flexible.proofs.tables.composed.Goals as goal
use Rattle.re_flexible.specs.Relations.{Composes, Relates}

pub loop-label-preserved : goal.loop-label-preserved
loop-label-preserved c =
    let low : c.loop-label.label < length c.args.first.now = (let below = c.loop-label-test.true in let same = c.requires.first in omega (arith, below, same)) in
    let row : c.index-first-label.result ≡ get_or c.args.first.now c.loop-label.label [] = read_at c.args.first.now c.loop-label.label c.index-first-label.result low c.index-first-label.is in
    built_more (Composes c.args.first.now c.args.second.now) c.loop-label.table.items _ c.loop-label.label c.image.result c.loop-label.invariant c.push.ensures.items
    (λ y. subst (λ s. IsIn y c.image.result ↔ ((z : ℕ) × IsIn z s × Relates c.args.second.now z y)) row (c.image.ensures y))

pub returns-clause-steps : goal.returns-clause-steps
returns-clause-steps c = built_all (Composes c.args.first.now c.args.second.now) c.loop-label.table.items c.loop-label.label c.loop-label.invariant
    (λ x y led. let low : x < length c.args.first.now = related_low c.args.first.now x led.0 led.1 in
    let past = c.loop-label-test.false in let same = c.requires.first in omega (arith, low, past, same))
