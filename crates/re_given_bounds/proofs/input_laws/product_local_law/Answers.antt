use Rattle.re_given_bounds.proofs.Products.{SolvableLocal-product}
use Rattle.re_given_bounds.proofs.input_laws.product_local_law.Goals as goal

pub returns : goal.returns
returns c = SolvableLocal-product
