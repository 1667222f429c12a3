use Rattle.re_given.proofs.GivenProducts.{SolvableGiven-product_mapped}
use Rattle.re_given.proofs.product_mapping_law.Goals as goal

pub returns : goal.returns
returns c = SolvableGiven-product_mapped
