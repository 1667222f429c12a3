use Rattle.re_net.proofs.Tested.{message_told}
use Rattle.re_net.proofs.run_laws.message_law.Goals as goal

pub returns : goal.returns
returns c = λ tree bound message. message_told tree bound message
