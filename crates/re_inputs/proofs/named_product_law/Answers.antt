use Rattle.re_inputs.proofs.ProductProofs.{as_solvable_named}
use Rattle.re_inputs.proofs.named_product_law.Goals as goal

pub returns : goal.returns
returns c = as_solvable_named
