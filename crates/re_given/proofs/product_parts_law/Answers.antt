use Rattle.re_given.proofs.Pairs.{product_parts}
use Rattle.re_given.proofs.product_parts_law.Goals as goal

pub returns : goal.returns
returns c = product_parts
