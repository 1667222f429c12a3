use Rattle.re_given.proofs.GivenProducts.{SolvableGiven-from_product, SolvableGiven-product}
use Rattle.re_given.proofs.product_given_law.Goals as goal

pub returns : goal.returns
returns c = λ problem input T is is_input. (SolvableGiven-product problem input T is is_input, SolvableGiven-from_product problem input T is is_input)
