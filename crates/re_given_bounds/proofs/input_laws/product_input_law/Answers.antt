use Rattle.re_given_bounds.proofs.Products.{IsInput-products}
use Rattle.re_given_bounds.proofs.input_laws.product_input_law.Goals as goal

pub returns : goal.returns
returns c = IsInput-products
