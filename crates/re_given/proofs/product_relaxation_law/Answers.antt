use Rattle.re_given.proofs.GivenProducts.{SolvableGiven-product_relaxed}
use Rattle.re_given.proofs.product_relaxation_law.Goals as goal

pub returns : goal.returns
returns c = SolvableGiven-product_relaxed
