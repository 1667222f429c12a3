use Rattle.std.proofs.Common.{◌<◌, arith}
use Rattle.re_labels.specs.Sets.{IsIn}
use Rattle.re_labels.specs.declared.TheConstants.{MAX_LABELS}
use Rattle.re_flexible.proofs.Building.{built_all, built_more, in_low}
use Rattle.re_flexible.proofs.trimming.one_set.Goals as goal

pub loop-label-preserved : goal.loop-label-preserved
loop-label-preserved c = built_more (λ x y. IsIn x c.args.set × IsIn y c.args.set) c.loop-label.sets.items _ c.loop-label.label c.kept_with.result c.loop-label.invariant c.push.ensures.items
    (λ y. (λ held. let three = (c.kept_with.ensures y).0 held in (three.1, three.2), λ two. (c.kept_with.ensures y).1 (two.1, two.0, two.1)))

pub returns-clause-one : goal.returns-clause-one
returns-clause-one c = built_all (λ x y. IsIn x c.args.set × IsIn y c.args.set) c.loop-label.sets.items c.loop-label.label c.loop-label.invariant
    (λ x y two. let low : x < MAX_LABELS = in_low MAX_LABELS c.args.set x c.count-count.ensures.set two.0 in let past = c.loop-label-test.false in omega (arith, low, past))
