use Rattle.std.proofs.Common.{[]}
use Rattle.re_net.proofs.RunSteps.{legal_told}
use Rattle.re_net.proofs.run_laws.legal_law.Goals as goal

pub returns : goal.returns
returns c = λ tree bound deliveries are. legal_told tree bound [] deliveries are
