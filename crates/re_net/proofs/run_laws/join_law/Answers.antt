use Rattle.re_net.proofs.Tested.{join_told}
use Rattle.re_net.proofs.run_laws.join_law.Goals as goal

pub returns : goal.returns
returns c = λ tree join. join_told tree join
