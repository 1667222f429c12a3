use Rattle.re_step.proofs.RestLemmas.{pair_partners}
use Rattle.std.proofs.Common.{ap, get_or}
use Rattle.re_step.proofs.rests.with_partners.Goals as goal

pub returns : goal.returns
returns c = pair_partners c.args.partners c.with_partner.result c.with_partner-2.result c.args.set c.args.pair.now _ _ c.requires c.labels-labels.ensures.config.ascends
    (ap (λ l. get_or l 0 0) c.labels-labels.ensures.labels) (ap (λ l. get_or l 1 0) c.labels-labels.ensures.labels) c.with_partner.ensures c.with_partner-2.ensures
