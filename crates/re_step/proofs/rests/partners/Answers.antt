use Rattle.re_step.proofs.RestLemmas.{pairs_step}
use Rattle.re_labels.proofs.Membership.{AllByRecursion-contains}
use Rattle.std.proofs.Common.{◌≡◌, length, sym}
use Rattle.re_step.proofs.rests.partners.Goals as goal

pub loop-pair-preserved : goal.loop-pair-preserved
loop-pair-preserved c = pairs_step c.args.pairs.now c.loop-pair.pair-index c.pair-item.result c.args.set c.loop-pair.partners c.with_partners-partners.result c.loop-pair-test.true c.pair-item.is
    (AllByRecursion-contains (λ pair. length pair ≡ 2) c.args.pairs.now c.pair-item.result c.requires (c.loop-pair.pair-index, c.loop-pair-test.true, sym c.pair-item.is))
    c.with_partners-partners.ensures c.loop-pair.invariant
