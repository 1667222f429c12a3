use Rattle.re_local.proofs.Sparse.{sparse_hyper}
use Rattle.re_local.proofs.separating.sparse_law.Goals as goal

pub returns : goal.returns
returns c = sparse_hyper
