use Rattle.re_given_bounds.proofs.IdleHop.{idle_hop}
use Rattle.re_given_bounds.proofs.input_laws.idle_hop_law.Goals as goal

pub returns : goal.returns
returns c = idle_hop
