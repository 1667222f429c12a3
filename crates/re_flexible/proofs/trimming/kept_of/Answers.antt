use Rattle.std.proofs.Common.{◌≡◌, ◌<◌, [], arith, get_or, length, subst}
use Rattle.std.specs.Prelude.{◌↔◌}
use Rattle.re_labels.specs.Sets.{IsIn}
use Rattle.re_labels.proofs.Placing.{read_at}
use Rattle.re_flexible.proofs.Building.{built_all, built_more, related_low}
use Rattle.re_flexible.proofs.trimming.kept_of.Goals as goal
use Rattle.re_flexible.specs.Relations.{Relates}

pub loop-label-preserved : goal.loop-label-preserved
loop-label-preserved c =
    let low : c.loop-label.label < length c.args.sets.now = (let below = c.loop-label-test.true in let same = c.requires in omega (arith, below, same)) in
    let row : c.index-sets-label.result ≡ get_or c.args.sets.now c.loop-label.label [] = read_at c.args.sets.now c.loop-label.label c.index-sets-label.result low c.index-sets-label.is in
    built_more (λ x y. Relates c.args.sets.now x y × IsIn x c.args.kept × IsIn y c.args.kept) c.loop-label.left.items _ c.loop-label.label c.kept_with.result c.loop-label.invariant c.push.ensures.items
    (λ y. subst (λ s. IsIn y c.kept_with.result ↔ (IsIn y s × IsIn c.loop-label.label c.args.kept × IsIn y c.args.kept)) row (c.kept_with.ensures y))

pub returns-clause-kept : goal.returns-clause-kept
returns-clause-kept c = built_all (λ x y. Relates c.args.sets.now x y × IsIn x c.args.kept × IsIn y c.args.kept) c.loop-label.left.items c.loop-label.label c.loop-label.invariant
    (λ x y three. let low : x < length c.args.sets.now = related_low c.args.sets.now x y three.0 in let past = c.loop-label-test.false in let same = c.requires in omega (arith, low, past, same))
