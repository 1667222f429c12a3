use Rattle.re_classes.proofs.IdentifiedRandomness.{identified_randomness}
use Rattle.re_classes.proofs.random.identified_randomness_law.Goals as goal

pub returns : goal.returns
returns c = identified_randomness
