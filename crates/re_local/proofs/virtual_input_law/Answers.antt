use Rattle.re_local.proofs.VirtualGiven.{IsInput-virtual}
use Rattle.re_local.proofs.virtual_input_law.Goals as goal

pub returns : goal.returns
returns c = IsInput-virtual
