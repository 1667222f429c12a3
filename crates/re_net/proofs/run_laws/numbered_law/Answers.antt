use Rattle.re_net.proofs.Tested.{numbers_told}
use Rattle.re_net.proofs.run_laws.numbered_law.Goals as goal

pub returns : goal.returns
returns c = λ tree is_tree. numbers_told tree is_tree
