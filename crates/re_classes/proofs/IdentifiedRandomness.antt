-- With identifiers, randomness that fails rarely enough is of no use.
use Rattle.std.proofs.Common.{arith}
use Rattle.re_classes.proofs.Derandomised.{derandomised_identified}
use Rattle.re_classes.proofs.IdentifiedViews.{certain_identified}
use Rattle.re_classes.specs.RandomLaws.{IdentifiedRandomnessLaw}
use Rattle.re_classes.specs.IdentifiedRandom.{with_images}
use Rattle.std.proofs.Common.{◌/◌}

pub identified_randomness : IdentifiedRandomnessLaw
identified_randomness problem d N T q is low low' few = (
  (λ found. derandomised_identified problem d N found.0 T q found.1 is low low' few found.2),
  (λ local. (1, (λ seen. local.0 (with_images (λ label. label / 1) seen)), certain_identified problem N 1 T q local.0 (omega arith) local.1)),
)
