use Rattle.re_given.proofs.Pairs.{IsProblem-product}
use Rattle.re_given.proofs.product_problem_law.Goals as goal

pub returns : goal.returns
returns c = IsProblem-product
