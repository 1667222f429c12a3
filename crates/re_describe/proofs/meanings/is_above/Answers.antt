use Rattle.std.proofs.Common.{◌<◌, arith, below_more}
use Rattle.std.proofs.lemmas.Bool.{false≢true}
use Rattle.re_labels.proofs.Membership.{AllByRecursion-contains}
use Rattle.re_labels.proofs.Tests.{not_told}
use Rattle.re_describe.proofs.meanings.is_above.Goals as goal

pub loop-other-preserved : goal.loop-other-preserved
loop-other-preserved c = below_more _ _ c.loop-other.invariant (λ held up. not_told c.goes_up.result c.goes_up.ensures c.if-goes_up.false (held, up))

pub returns : goal.returns
returns c = (
  (λ t. absurd (false≢true t)),
  (λ above. let low : above.0 < c.args.strength.now.labels = AllByRecursion-contains (λ z. z < c.args.strength.now.labels) c.args.set above.0 c.requires.set.1 above.1 in
      absurd (c.loop-other.invariant above.0 (omega (arith, low)) above.1 above.2)),
)
